-- The text of a sheet as rows.
use Rattle.std.proofs.Common.{◌≡◌, ℕ, zero, suc, ◌+◌, ◌<◌, Bool, true, false, cond, List, [], ◌∷◌, ◌++◌, decimal, sym, refl, ap, ◌∙◌, append_assoc, append-nil, arith}
use Rattle.std.specs.List.{flat_map, AllByRecursion as All}
use Rattle.semantics.specs.Sheets.{Sheet, Line, mark, negation, disjunction, next, globally, until, commitment, fulfilment}
use Rattle.semantics.specs.SheetText.{holders_text, states_text, local_text, locals_text, moves_text, formula_text, sheet_text}
use Rattle.semantics.specs.Written.{fields_text, line_text, lettered_text, texts_below, numbered_text}
use Rattle.semantics.proofs.Rows.{Row, row_text, plain, lettered, plain_text, row_lettered}

-- the items of the numbers below n, one after another
unfoldable pub items_below : {X : Type 0} → ℕ → (ℕ → List X) → List X
items_below zero f = []
items_below (suc n) f = items_below n f ++ f n

pub all_append : {X : Type 0} (P : X → Type 0) (xs ys : List X) → All P xs → All P ys → All P (xs ++ ys)
all_append P [] ys a b = b
all_append P (x ∷ xs) ys a b = (a.0, all_append P xs ys a.1 b)

pub all_below : {X : Type 0} (P : X → Type 0) (n : ℕ) (f : ℕ → List X) → ((k : ℕ) → k < n → All P (f k)) → All P (items_below n f)
unfolding items_below
all_below P zero f each = tt
all_below P (suc n) f each = all_append P (items_below n f) (f n) (all_below P n f (λ k l. each k (omega arith))) (each n (omega arith))

pub all_cond : {X : Type 0} (P : X → Type 0) (b : Bool) (x : X) → (b ≡ true → P x) → All P (cond b (x ∷ []) [])
all_cond P true x f = (f refl, tt)
all_cond P false x f = tt

-- the letter and the numbers of a formula line
abbrev pub letter_of : Line → ℕ
letter_of (mark m) = 77
letter_of (negation a) = 78
letter_of (disjunction a b) = 79
letter_of (next a) = 88
letter_of (globally a) = 71
letter_of (until a b) = 85
letter_of (commitment i j a) = 67
letter_of (fulfilment i j a) = 75

abbrev pub numbers_of : Line → List ℕ
numbers_of (mark m) = m ∷ []
numbers_of (negation a) = a ∷ []
numbers_of (disjunction a b) = a ∷ b ∷ []
numbers_of (next a) = a ∷ []
numbers_of (globally a) = a ∷ []
numbers_of (until a b) = a ∷ b ∷ []
numbers_of (commitment i j a) = i ∷ j ∷ a ∷ []
numbers_of (fulfilment i j a) = i ∷ j ∷ a ∷ []

abbrev pub formula_rows : ℕ → List Line → List Row
formula_rows k [] = []
formula_rows k (l ∷ ls) = lettered 70 k (letter_of l) (numbers_of l) ∷ formula_rows (k + 1) ls

abbrev pub header_numbers : Sheet → List ℕ
header_numbers h = h.number ∷ h.parties ∷ h.channels ∷ h.states ∷ h.marks ∷ []

abbrev pub pair_rows : ℕ → ℕ → ℕ → (ℕ → ℕ → Bool) → List Row
pair_rows l n m r = items_below n (λ a. items_below m (λ b. cond (r a b) (plain l (a ∷ b ∷ []) ∷ []) []))

abbrev pub state_numbers : Sheet → ℕ → List ℕ
state_numbers h s = s ∷ cond (h.start s) 1 0 ∷ h.mark_sum s ∷ []

abbrev pub copies_of : Sheet → ℕ → ℕ → List ℕ
copies_of h s p = items_below h.channels (λ c. cond (h.holds c p) (h.copy s p c ∷ []) [])

abbrev pub local_numbers : Sheet → ℕ → ℕ → List ℕ
local_numbers h s p = s ∷ p ∷ h.position s p ∷ copies_of h s p

abbrev pub state_rows : Sheet → List Row
state_rows h = items_below h.states (λ s. plain 83 (state_numbers h s) ∷ [])

abbrev pub local_rows : Sheet → List Row
local_rows h = items_below h.states (λ s. items_below h.parties (λ p. plain 76 (local_numbers h s p) ∷ []))

abbrev pub holder_rows : Sheet → List Row
holder_rows h = pair_rows 67 h.channels h.parties h.holds

abbrev pub move_rows : Sheet → List Row
move_rows h = pair_rows 84 h.states h.states h.moves

abbrev pub rows_of : Sheet → List Row
rows_of h = plain 72 (header_numbers h) ∷ (holder_rows h ++ (state_rows h ++ (local_rows h ++ (move_rows h ++ formula_rows 0 h.lines))))

joined_append : (xs ys : List Row) → flat_map row_text (xs ++ ys) ≡ flat_map row_text xs ++ flat_map row_text ys
joined_append [] ys = refl
joined_append (x ∷ xs) ys = ap (λ v. row_text x ++ v) (joined_append xs ys) ∙ sym (append_assoc (row_text x) (flat_map row_text xs) (flat_map row_text ys))

texts_below_law : (n : ℕ) (f : ℕ → List ℕ) (r : ℕ → List Row) → ((k : ℕ) → f k ≡ flat_map row_text (r k)) → texts_below n f ≡ flat_map row_text (items_below n r)
unfolding texts_below items_below
texts_below_law zero f r each = refl
texts_below_law (suc n) f r each =
    ap (λ v. v ++ f n) (texts_below_law n f r each) ∙ ap (λ v. flat_map row_text (items_below n r) ++ v) (each n) ∙ sym (joined_append (items_below n r) (r n))

one_text : (l : ℕ) (ns : List ℕ) → line_text l ns ≡ flat_map row_text (plain l ns ∷ [])
one_text l ns = plain_text l ns ∙ sym (append-nil (row_text (plain l ns)))

maybe_text : (b : Bool) (l : ℕ) (ns : List ℕ) → cond b (line_text l ns) [] ≡ flat_map row_text (cond b (plain l ns ∷ []) [])
maybe_text true l ns = one_text l ns
maybe_text false l ns = refl

pairs_text_law : (l n m : ℕ) (r : ℕ → ℕ → Bool) →
    texts_below n (λ a. texts_below m (λ b. cond (r a b) (line_text l (a ∷ b ∷ [])) [])) ≡ flat_map row_text (pair_rows l n m r)
pairs_text_law l n m r = texts_below_law n _ _ (λ a. texts_below_law m _ _ (λ b. maybe_text (r a b) l (a ∷ b ∷ [])))

pub fields_append : (xs ys : List ℕ) → fields_text (xs ++ ys) ≡ fields_text xs ++ fields_text ys
fields_append [] ys = refl
fields_append (x ∷ xs) ys = ap (λ v. (44 ∷ decimal x) ++ v) (fields_append xs ys) ∙ sym (append_assoc (44 ∷ decimal x) (fields_text xs) (fields_text ys))

copies_below : (n : ℕ) (f : ℕ → Bool) (x : ℕ → ℕ) → texts_below n (λ c. cond (f c) (44 ∷ decimal (x c)) []) ≡ fields_text (items_below n (λ c. cond (f c) (x c ∷ []) []))
unfolding texts_below items_below
copies_below zero f x = refl
copies_below (suc n) f x =
    ap (λ v. v ++ cond (f n) (44 ∷ decimal (x n)) []) (copies_below n f x)
    ∙ ap (λ v. fields_text (items_below n (λ c. cond (f c) (x c ∷ []) [])) ++ v) (one (f n))
    ∙ sym (fields_append (items_below n (λ c. cond (f c) (x c ∷ []) [])) (cond (f n) (x n ∷ []) []))
  where
    one : (b : Bool) → cond b (44 ∷ decimal (x n)) [] ≡ fields_text (cond b (x n ∷ []) [])
    one true = sym (append-nil (44 ∷ decimal (x n)))
    one false = refl

local_text_law : (h : Sheet) (s p : ℕ) → local_text h s p ≡ flat_map row_text (plain 76 (local_numbers h s p) ∷ [])
local_text_law h s p =
    ap (λ v. 76 ∷ (fields_text (s ∷ p ∷ h.position s p ∷ []) ++ (v ++ 10 ∷ []))) (copies_below h.channels (λ c. h.holds c p) (h.copy s p))
    ∙ ap (λ v. 76 ∷ v) (sym (append_assoc (fields_text (s ∷ p ∷ h.position s p ∷ [])) (fields_text (copies_of h s p)) (10 ∷ [])))
    ∙ ap (λ v. 76 ∷ (v ++ 10 ∷ [])) (sym (fields_append (s ∷ p ∷ h.position s p ∷ []) (copies_of h s p)))
    ∙ one_text 76 (local_numbers h s p)

pub formula_lettered : (k : ℕ) (l : Line) → formula_text k l ≡ lettered_text 70 k (letter_of l) (numbers_of l)
formula_lettered k (mark m) = refl
formula_lettered k (negation a) = refl
formula_lettered k (disjunction a b) = refl
formula_lettered k (next a) = refl
formula_lettered k (globally a) = refl
formula_lettered k (until a b) = refl
formula_lettered k (commitment i j a) = refl
formula_lettered k (fulfilment i j a) = refl

formula_text_law : (k : ℕ) (l : Line) → formula_text k l ≡ row_text (lettered 70 k (letter_of l) (numbers_of l))
formula_text_law k l = formula_lettered k l ∙ row_lettered 70 k (letter_of l) (numbers_of l)

formulas_text : (ls : List Line) (k : ℕ) → numbered_text formula_text k ls ≡ flat_map row_text (formula_rows k ls)
formulas_text [] k = refl
formulas_text (l ∷ ls) k =
    ap (λ v. v ++ numbered_text formula_text (k + 1) ls) (formula_text_law k l) ∙ ap (λ v. row_text (lettered 70 k (letter_of l) (numbers_of l)) ++ v) (formulas_text ls (k + 1))

two : (s t : List ℕ) (xs ys : List Row) → s ≡ flat_map row_text xs → t ≡ flat_map row_text ys → s ++ t ≡ flat_map row_text (xs ++ ys)
two s t xs ys p q = ap (λ v. v ++ t) p ∙ ap (λ v. flat_map row_text xs ++ v) q ∙ sym (joined_append xs ys)

pub sheet_text_law : (h : Sheet) → sheet_text h ≡ flat_map row_text (rows_of h)
unfolding sheet_text
sheet_text_law h =
    ap (λ v. v ++ (holders_text h ++ (states_text h ++ (locals_text h ++ (moves_text h ++ numbered_text formula_text 0 h.lines))))) (plain_text 72 (header_numbers h))
    ∙ ap (λ v. row_text (plain 72 (header_numbers h)) ++ v)
    (two (holders_text h) _ (holder_rows h) _ (pairs_text_law 67 h.channels h.parties h.holds)
    (two (states_text h) _ (state_rows h) _ (texts_below_law h.states _ _ (λ s. one_text 83 (state_numbers h s)))
    (two (locals_text h) _ (local_rows h) _ (texts_below_law h.states _ _ (λ s. texts_below_law h.parties _ _ (local_text_law h s)))
    (two (moves_text h) _ (move_rows h) _ (pairs_text_law 84 h.states h.states h.moves) (formulas_text h.lines 0)))))
