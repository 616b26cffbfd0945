-- Lines of text, as bytes.
use Rattle.std.specs.Prelude.{ℕ, zero, suc, ◌+◌, List, [], ◌∷◌, ◌++◌, decimal}

-- numbers as fields, each behind a comma
abbrev pub fields_text : List ℕ → List ℕ
fields_text [] = []
fields_text (n ∷ ns) = (44 ∷ decimal n) ++ fields_text ns

-- a letter and numbers as a line
abbrev pub line_text : ℕ → List ℕ → List ℕ
line_text letter ns = (letter ∷ []) ++ (fields_text ns ++ 10 ∷ [])

-- a kind of line, the line's own number, its operator letter and numbers
abbrev pub lettered_text : ℕ → ℕ → ℕ → List ℕ → List ℕ
lettered_text kind k letter ns = (kind ∷ []) ++ (fields_text (k ∷ []) ++ ((44 ∷ letter ∷ []) ++ (fields_text ns ++ 10 ∷ [])))

-- the texts of the numbers below n, one after another
unfoldable pub texts_below : ℕ → (ℕ → List ℕ) → List ℕ
texts_below zero f = []
texts_below (suc n) f = texts_below n f ++ f n

-- the texts of items, which are numbered from k on
abbrev pub numbered_text : {X : Type 0} → (ℕ → X → List ℕ) → ℕ → List X → List ℕ
numbered_text f k [] = []
numbered_text f k (x ∷ xs) = f k x ++ numbered_text f (k + 1) xs
