-- A text as lines, and a line as fields.
use Rattle.std.specs.Prelude.{ℕ, ◌+◌, cond, List, [], ◌∷◌, ◌==◌}

-- a byte put before the first piece
abbrev pub prefixed : ℕ → List (List ℕ) → List (List ℕ)
prefixed b [] = (b ∷ []) ∷ []
prefixed b (x ∷ xs) = (b ∷ x) ∷ xs

-- the lines of a text, each ended by byte 10
abbrev pub lines_of : List ℕ → List (List ℕ)
lines_of [] = []
lines_of (b ∷ bs) = cond (b == 10) ([] ∷ lines_of bs) (prefixed b (lines_of bs))

-- the fields of a line, parted by commas
abbrev pub fields_of : List ℕ → List (List ℕ)
fields_of [] = [] ∷ []
fields_of (b ∷ bs) = cond (b == 44) ([] ∷ fields_of bs) (prefixed b (fields_of bs))

-- how many of the bytes are b
abbrev pub count_of : ℕ → List ℕ → ℕ
count_of b [] = 0
count_of b (c ∷ cs) = cond (c == b) (count_of b cs + 1) (count_of b cs)
