-- The text of a sheet.
use Rattle.std.specs.Prelude.{ℕ, cond, List, [], ◌∷◌, ◌++◌, decimal}
use Rattle.semantics.specs.Sheets.{Sheet, Line, mark, negation, disjunction, next, globally, until, commitment, fulfilment}
use Rattle.semantics.specs.Written.{fields_text, line_text, lettered_text, texts_below, numbered_text}

-- H: number, parties, channels, states, marks
abbrev pub header_text : Sheet → List ℕ
header_text h = line_text 72 (h.number ∷ h.parties ∷ h.channels ∷ h.states ∷ h.marks ∷ [])

-- C: a line for each holder of each channel
abbrev pub holders_text : Sheet → List ℕ
holders_text h = texts_below h.channels (λ c. texts_below h.parties (λ p. cond (h.holds c p) (line_text 67 (c ∷ p ∷ [])) []))

-- S: state, 1 for a start, sum of marks
abbrev pub states_text : Sheet → List ℕ
states_text h = texts_below h.states (λ s. line_text 83 (s ∷ cond (h.start s) 1 0 ∷ h.mark_sum s ∷ []))

-- the copies of the channels that a party holds
abbrev pub copies_text : Sheet → ℕ → ℕ → List ℕ
copies_text h s p = texts_below h.channels (λ c. cond (h.holds c p) (44 ∷ decimal (h.copy s p c)) [])

-- L: state, party, position, copies
abbrev pub local_text : Sheet → ℕ → ℕ → List ℕ
local_text h s p = (76 ∷ []) ++ (fields_text (s ∷ p ∷ h.position s p ∷ []) ++ (copies_text h s p ++ 10 ∷ []))

-- an L line for each state and party
abbrev pub locals_text : Sheet → List ℕ
locals_text h = texts_below h.states (λ s. texts_below h.parties (local_text h s))

-- T: a line for each move
abbrev pub moves_text : Sheet → List ℕ
moves_text h = texts_below h.states (λ s. texts_below h.states (λ t. cond (h.moves s t) (line_text 84 (s ∷ t ∷ [])) []))

-- F: number, letter, and the numbers of the letter
abbrev pub formula_text : ℕ → Line → List ℕ
formula_text k (mark m) = lettered_text 70 k 77 (m ∷ [])
formula_text k (negation a) = lettered_text 70 k 78 (a ∷ [])
formula_text k (disjunction a b) = lettered_text 70 k 79 (a ∷ b ∷ [])
formula_text k (next a) = lettered_text 70 k 88 (a ∷ [])
formula_text k (globally a) = lettered_text 70 k 71 (a ∷ [])
formula_text k (until a b) = lettered_text 70 k 85 (a ∷ b ∷ [])
formula_text k (commitment i j a) = lettered_text 70 k 67 (i ∷ j ∷ a ∷ [])
formula_text k (fulfilment i j a) = lettered_text 70 k 75 (i ∷ j ∷ a ∷ [])

-- the whole text
unfoldable pub sheet_text : Sheet → List ℕ
sheet_text h =
    header_text h ++ (holders_text h ++ (states_text h ++ (locals_text h ++ (moves_text h ++ numbered_text formula_text 0 h.lines))))
