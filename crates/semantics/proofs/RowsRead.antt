-- Sections of rows are read line by line.
use Rattle.std.proofs.Common.{◌≡◌, ℕ, zero, suc, ◌+◌, ◌<◌, true, false, cond, List, [], ◌∷◌, ◌++◌, map, get_or, Ok, Result, refl, ap, ◌∙◌, append_assoc, arith}
use Rattle.std.specs.List.{flat_map, AllByRecursion as All}
use Rattle.std.proofs.lemmas.Bool.{cond-true, cond-false}
use Rattle.semantics.specs.Cuts.{lines_of}
use Rattle.semantics.specs.Faults.{Fault, refused_at, and_then}
use Rattle.semantics.specs.LineReading.{is_byte}
use Rattle.semantics.specs.SheetReading.{Reading, due_in, each_due, while_in}
use Rattle.semantics.proofs.Rows.{Row, row_body, row_text, Clean, row_line, row_fields}
use Rattle.semantics.proofs.SheetRows.{items_below}

-- rows as lines
abbrev pub lined : List Row → List (List ℕ)
lined rs = map row_body rs

pub lines_rows : (rs : List Row) → All Clean rs → lines_of (flat_map row_text rs) ≡ lined rs
lines_rows [] c = refl
lines_rows (r ∷ rs) c = row_line r c.0 (flat_map row_text rs) ∙ ap (λ v. row_body r ∷ v) (lines_rows rs c.1)

-- a row that begins with the letter b
pub record Led (b : ℕ) (r : Row) : Type 0 where
  pub clean : Clean r
  pub letter : is_byte b (get_or r 0 []) ≡ true

-- a row that does not
pub record Apart (b : ℕ) (r : Row) : Type 0 where
  pub clean : Clean r
  pub letter : is_byte b (get_or r 0 []) ≡ false

abbrev pub reading : {X : Type 0} → X → List Row → ℕ → Reading X
reading x rs n = record { known = x; left = lined rs; line = n }

pub due_read : {X : Type 0} (b : ℕ) (f : ℕ → List (List ℕ) → Result X Fault) (n : ℕ) (r : Row) (rs : List Row) (x : X) → Led b r → f n r ≡ Ok x →
    due_in b f n (lined (r ∷ rs)) ≡ Ok (reading x rs (n + 1))
due_read b f n r rs x led e =
    ap (λ fs. cond (is_byte b (get_or fs 0 [])) (and_then (f n fs) (λ x. Ok (reading x rs (n + 1)))) (refused_at 4 n 1)) (row_fields r led.clean)
    ∙ cond-true (is_byte b (get_or r 0 [])) _ _ led.letter
    ∙ ap (λ v. and_then v (λ x. Ok (reading x rs (n + 1)))) e

-- what is known of the numbers below n
abbrev pub list_below : {Y : Type 0} → ℕ → (ℕ → Y) → List Y
list_below n y = items_below n (λ k. y k ∷ [])

-- f reads the rows, whatever stands behind them, as y
abbrev pub Takes : {X Y : Type 0} → (Reading X → Result (Reading Y) Fault) → List Row → Y → Type 0
Takes f rows y = (a : _) (rest : List Row) → a.left ≡ lined (rows ++ rest) → (j : ℕ) × (f a ≡ Ok (reading y rest j))

pub each_read : {X Y : Type 0} (n : ℕ) (f : ℕ → Reading (List Y) → Result (Reading Y) Fault) (rows : ℕ → List Row) (y : ℕ → Y) →
    ((k : ℕ) → k < n → Takes (f k) (rows k) (y k)) → Takes {X = X} (each_due n f) (items_below n rows) (list_below n y)
unfolding each_due items_below
each_read zero f rows y step a rest e = (a.line, ap (λ ls. Ok (record { known = []; left = ls; line = a.line })) e)
each_read (suc n) f rows y step a rest e =
    let i = each_read n f rows y (λ k l. step k (omega arith)) a (rows n ++ rest) (e ∙ ap lined (append_assoc (items_below n rows) (rows n) rest)) in
    let s = step n (omega arith) (reading (list_below n y) (rows n ++ rest) i.0) rest refl in (
      s.0,
      ap (λ r. and_then r (λ a. and_then (f n a) (λ b. Ok (record { known = a.known ++ b.known ∷ []; left = b.left; line = b.line })))) i.1
          ∙ ap (λ r. and_then r (λ b. Ok (record { known = list_below n y ++ b.known ∷ []; left = b.left; line = b.line }))) s.1,
    )

-- lines of letter b that are read one after another
module _ {X : Type 0} (b : ℕ) (f : X → ℕ → List (List ℕ) → Result X Fault) where
  -- reading the rows turns x into y, whatever stands behind them
  abbrev pub Turns : X → List Row → X → Type 0
  Turns x rows y = (n : ℕ) (rest : List Row) → (j : ℕ) × (while_in b f x n (lined (rows ++ rest)) ≡ while_in b f y j (lined rest))

  pub turns_none : (x : X) → Turns x [] x
  turns_none x n rest = (n, refl)

  pub turns_one : (x y : X) (r : Row) → Led b r → ((n : ℕ) → f x n r ≡ Ok y) → Turns x (r ∷ []) y
  unfolding while_in
  turns_one x y r led e n rest = (
    n + 1,
    ap (λ fs. cond (is_byte b (get_or fs 0 [])) (and_then (f x n fs) (λ y. while_in b f y (n + 1) (lined rest))) (Ok (reading x (r ∷ rest) n))) (row_fields r led.clean)
        ∙ cond-true (is_byte b (get_or r 0 [])) _ _ led.letter
        ∙ ap (λ v. and_then v (λ y. while_in b f y (n + 1) (lined rest))) (e n),
  )

  pub turns_then : (x y z : X) (rows more : List Row) → Turns x rows y → Turns y more z → Turns x (rows ++ more) z
  turns_then x y z rows more p q n rest =
      let a = p n (more ++ rest) in
      let c = q a.0 rest in
      (c.0, ap (λ rs. while_in b f x n (lined rs)) (append_assoc rows more rest) ∙ a.1 ∙ c.1)

  pub turns_below : (n : ℕ) (rows : ℕ → List Row) (x : ℕ → X) → ((k : ℕ) → k < n → Turns (x k) (rows k) (x (suc k))) → Turns (x 0) (items_below n rows) (x n)
  unfolding items_below
  turns_below zero rows x step = turns_none (x 0)
  turns_below (suc n) rows x step =
      turns_then (x 0) (x n) (x (suc n)) (items_below n rows) (rows n) (turns_below n rows x (λ k l. step k (omega arith))) (step n (omega arith))

  -- and then other lines stand there, or none
  pub turns_end : (x y : X) (rows rest : List Row) → Turns x rows y → All (Apart b) rest → (n : ℕ) → (j : ℕ) × (while_in b f x n (lined (rows ++ rest)) ≡ Ok (reading y rest j))
  unfolding while_in
  turns_end x y rows rest t a n = let r = t n rest in (r.0, r.1 ∙ stop rest a r.0)
    where
      stop : (rest : List Row) → All (Apart b) rest → (j : ℕ) → while_in b f y j (lined rest) ≡ Ok (reading y rest j)
      stop [] a j = refl
      stop (r ∷ rest) a j =
          ap (λ fs. cond (is_byte b (get_or fs 0 [])) (and_then (f y j fs) (λ z. while_in b f z (j + 1) (lined rest))) (Ok (reading y (r ∷ rest) j))) (row_fields r a.0.clean)
          ∙ cond-false (is_byte b (get_or r 0 [])) _ _ a.0.letter
