-- Rows of fields, written as lines, are read back as rows.
use Rattle.std.proofs.Common.{◌≡◌, ℕ, ◌<◌, eqb, List, [], ◌∷◌, ◌++◌, map, decimal, sym, refl, ap, ◌∙◌, append_assoc, append-nil, arith}
use Rattle.std.specs.List.{AllByRecursion as All}
use Rattle.std.proofs.lemmas.Bool.{cond-false, ne_eqb}
use Rattle.semantics.specs.Cuts.{prefixed, lines_of, fields_of}
use Rattle.semantics.specs.Written.{fields_text, line_text, lettered_text}
use Rattle.semantics.proofs.Decimals.{Lacks, lacks_append, decimal_lacks}

lines_cons : (body rest : List ℕ) → Lacks 10 body → lines_of (body ++ 10 ∷ rest) ≡ body ∷ lines_of rest
lines_cons [] rest p = refl
lines_cons (b ∷ body) rest p = cond-false (eqb b 10) _ _ (ne_eqb b 10 p.0) ∙ ap (prefixed b) (lines_cons body rest p.1)

fields_cons : (piece rest : List ℕ) → Lacks 44 piece → fields_of (piece ++ 44 ∷ rest) ≡ piece ∷ fields_of rest
fields_cons [] rest p = refl
fields_cons (b ∷ piece) rest p = cond-false (eqb b 44) _ _ (ne_eqb b 44 p.0) ∙ ap (prefixed b) (fields_cons piece rest p.1)

fields_last : (piece : List ℕ) → Lacks 44 piece → fields_of piece ≡ piece ∷ []
fields_last [] p = refl
fields_last (b ∷ piece) p = cond-false (eqb b 44) _ _ (ne_eqb b 44 p.0) ∙ ap (prefixed b) (fields_last piece p.1)

-- the fields of a line
abbrev pub Row : Type 0
Row = List (List ℕ)

abbrev pub tail_text : Row → List ℕ
tail_text [] = []
tail_text (f ∷ fs) = (44 ∷ f) ++ tail_text fs

abbrev pub row_body : Row → List ℕ
row_body [] = []
row_body (f ∷ fs) = f ++ tail_text fs

abbrev pub row_text : Row → List ℕ
row_text r = row_body r ++ 10 ∷ []

-- a field without commas and line ends
abbrev CleanField : List ℕ → Type 0
CleanField f = Lacks 44 f × Lacks 10 f

abbrev pub Clean : Row → Type 0
Clean [] = ⊥
Clean (f ∷ fs) = CleanField f × All CleanField fs

fields_row : (fs : Row) (f : List ℕ) → CleanField f → All CleanField fs → fields_of (f ++ tail_text fs) ≡ f ∷ fs
fields_row [] f c cs = ap fields_of (append-nil f) ∙ fields_last f c.0
fields_row (g ∷ fs) f c cs = fields_cons f (g ++ tail_text fs) c.0 ∙ ap (λ v. f ∷ v) (fields_row fs g cs.0 cs.1)

tail_lacks : (fs : Row) → All CleanField fs → Lacks 10 (tail_text fs)
tail_lacks [] c = tt
tail_lacks (f ∷ fs) c = lacks_append 10 (44 ∷ f) (tail_text fs) (λ e. omega arith, c.0.1) (tail_lacks fs c.1)

pub row_line : (r : Row) → Clean r → (rest : List ℕ) → lines_of (row_text r ++ rest) ≡ row_body r ∷ lines_of rest
row_line [] c rest = absurd c
row_line (f ∷ fs) c rest =
    ap lines_of (append_assoc (f ++ tail_text fs) (10 ∷ []) rest)
    ∙ lines_cons (f ++ tail_text fs) rest (lacks_append 10 f (tail_text fs) c.0.1 (tail_lacks fs c.1))

pub row_fields : (r : Row) → Clean r → fields_of (row_body r) ≡ r
row_fields [] c = absurd c
row_fields (f ∷ fs) c = fields_row fs f c.0 c.1

-- a letter and numbers
abbrev pub plain : ℕ → List ℕ → Row
plain l ns = (l ∷ []) ∷ map decimal ns

-- a kind of line, the line's own number, its operator letter and numbers
abbrev pub lettered : ℕ → ℕ → ℕ → List ℕ → Row
lettered kind k l ns = (kind ∷ []) ∷ decimal k ∷ (l ∷ []) ∷ map decimal ns

tail_is : (ns : List ℕ) → fields_text ns ≡ tail_text (map decimal ns)
tail_is [] = refl
tail_is (n ∷ ns) = ap (λ v. (44 ∷ decimal n) ++ v) (tail_is ns)

pub plain_text : (l : ℕ) (ns : List ℕ) → line_text l ns ≡ row_text (plain l ns)
plain_text l ns = ap (λ v. l ∷ (v ++ 10 ∷ [])) (tail_is ns)

pub row_lettered : (kind k l : ℕ) (ns : List ℕ) → lettered_text kind k l ns ≡ row_text (lettered kind k l ns)
row_lettered kind k l ns =
    ap (λ v. kind ∷ (v ++ (44 ∷ l ∷ (fields_text ns ++ 10 ∷ [])))) (append-nil (44 ∷ decimal k))
    ∙ ap (λ v. kind ∷ ((44 ∷ decimal k) ++ (44 ∷ l ∷ (v ++ 10 ∷ [])))) (tail_is ns)
    ∙ ap (λ v. kind ∷ v) (sym (append_assoc (44 ∷ decimal k) (44 ∷ l ∷ tail_text (map decimal ns)) (10 ∷ [])))

-- numbers that a field can hold
abbrev pub Fit : List ℕ → Type 0
Fit ns = All (λ n. n < 100000) ns

decimals_clean : (ns : List ℕ) → Fit ns → All CleanField (map decimal ns)
decimals_clean [] f = tt
decimals_clean (n ∷ ns) f = ((decimal_lacks 44 (omega arith) n f.0, decimal_lacks 10 (omega arith) n f.0), decimals_clean ns f.1)

letter_clean : (l : ℕ) → 57 < l → CleanField (l ∷ [])
letter_clean l c = ((λ e. omega arith, tt), (λ e. omega arith, tt))

pub plain_clean : (l : ℕ) (ns : List ℕ) → 57 < l → Fit ns → Clean (plain l ns)
plain_clean l ns c f = (letter_clean l c, decimals_clean ns f)

pub lettered_clean : (kind k l : ℕ) (ns : List ℕ) → 57 < kind → 57 < l → k < 100000 → Fit ns → Clean (lettered kind k l ns)
lettered_clean kind k l ns a c few f = (letter_clean kind a, ((decimals_clean (k ∷ []) (few, tt)).0, (letter_clean l c, decimals_clean ns f)))
