-- The query that stands for lines 0 to f of a sheet.
use Rattle.std.specs.Prelude.{ℕ, ◌+◌, ◌-◌, List, [], ◌∷◌, ◌++◌, length, take, slice_index}
use Rattle.std.specs.List.{flat_map}
use Rattle.semantics.specs.Actions.{ActionLine, only, R, D, V}
use Rattle.semantics.specs.Queries.{Query, QueryLine, atom, neg, or, EX, AX, EG, EU}
use Rattle.semantics.specs.Sheets.{Line, mark, negation, disjunction, next, globally, until, commitment, fulfilment}

-- the A lines of one formula line
abbrev pub action_lines : Line → List ActionLine
action_lines (mark m) = []
action_lines (negation a) = []
action_lines (disjunction a b) = []
action_lines (next a) = []
action_lines (globally a) = []
action_lines (until a b) = []
action_lines (commitment i j a) = only (D i j) ∷ []
action_lines (fulfilment i j a) = only (D i j) ∷ only (V i j) ∷ []

-- the B lines of one formula line: its A lines are numbered from d on, its B lines from m on, and B line b(a) stands for line a
abbrev pub query_lines : ℕ → ℕ → (ℕ → ℕ) → Line → List QueryLine
query_lines d m b (mark x) = atom x ∷ []
query_lines d m b (negation a) = neg (b a) ∷ []
query_lines d m b (disjunction a c) = or (b a) (b c) ∷ []
query_lines d m b (next a) = EX 0 (b a) ∷ []
query_lines d m b (globally a) = EG 0 (b a) ∷ []
query_lines d m b (until a c) = EU 0 (b a) (b c) ∷ []
query_lines d m b (commitment i j a) = AX d (b a) ∷ []
query_lines d m b (fulfilment i j a) = AX d (b a) ∷ EX (d + 1) m ∷ []

-- the number of the next A line, the B lines so far, and the B line that stands for each formula line
pub record Reduced : Type 0 where
  pub due : ℕ
  pub written : List QueryLine
  pub stands : List ℕ

-- the last B line so far stands for the last formula line
abbrev pub extended : Reduced → ℕ → List QueryLine → Reduced
extended r d w = record { due = d; written = w; stands = r.stands ++ (length w - 1) ∷ [] }

-- one formula line more
abbrev pub reduce_line : Reduced → Line → Reduced
reduce_line r l =
    extended r (r.due + length (action_lines l)) (r.written ++ query_lines r.due (length r.written) (λ a. slice_index r.stands a) l)

-- formula lines one by one
abbrev pub reduced : Reduced → List Line → Reduced
reduced r [] = r
reduced r (l ∷ ls) = reduced (reduce_line r l) ls

-- A line 0 is the action R
abbrev pub nothing_reduced : Reduced
nothing_reduced = record { due = 1; written = []; stands = [] }

-- the query of lines
abbrev pub query_of : List Line → Query
query_of ls = record { actions = only R ∷ flat_map action_lines ls; lines = (reduced nothing_reduced ls).written }

-- the query that stands for line f
unfoldable pub reduction : List Line → ℕ → Query
reduction ls f = query_of (take (f + 1) ls)

-- the number of the last B line
abbrev pub last_line : Query → ℕ
last_line q = length q.lines - 1
