-- The query that a text reads as, or the first refusal in the order of checks.
use Rattle.std.specs.Prelude.{ℕ, ◌+◌, Bool, cond, ◌&&◌, List, [], ◌∷◌, ◌++◌, length, Ok, Result, ◌==◌, nat_lt, slice_index_or}
use Rattle.semantics.specs.Actions.{ActionLine, only, except, either, R, D, V}
use Rattle.semantics.specs.Cuts.{lines_of, fields_of, count_of}
use Rattle.semantics.specs.Faults.{Fault, refused_at, and_then}
use Rattle.semantics.specs.LineReading.{Letter, letter, a_party, a_mark, an_action, an_operand, at, is_byte, lettered_line, finished}
use Rattle.semantics.specs.Queries.{Query, QueryLine, atom, neg, or, EX, AX, EG, EU}
use Rattle.semantics.specs.Sheets.{Sheet}

-- the letters of A lines
abbrev pub action_letters : List (Letter ActionLine)
action_letters =
    letter 82 [] (λ xs. only R)
    ∷ letter 68 (a_party ∷ a_party ∷ []) (λ xs. only (D (at xs 0) (at xs 1)))
    ∷ letter 86 (a_party ∷ a_party ∷ []) (λ xs. only (V (at xs 0) (at xs 1)))
    ∷ letter 78 (an_operand ∷ []) (λ xs. except (at xs 0))
    ∷ letter 79 (an_operand ∷ an_operand ∷ []) (λ xs. either (at xs 0) (at xs 1))
    ∷ []

-- the letters of B lines
abbrev pub query_letters : List (Letter QueryLine)
query_letters =
    letter 77 (a_mark ∷ []) (λ xs. atom (at xs 0))
    ∷ letter 78 (an_operand ∷ []) (λ xs. neg (at xs 0))
    ∷ letter 79 (an_operand ∷ an_operand ∷ []) (λ xs. or (at xs 0) (at xs 1))
    ∷ letter 88 (an_action ∷ an_operand ∷ []) (λ xs. EX (at xs 0) (at xs 1))
    ∷ letter 89 (an_action ∷ an_operand ∷ []) (λ xs. AX (at xs 0) (at xs 1))
    ∷ letter 71 (an_action ∷ an_operand ∷ []) (λ xs. EG (at xs 0) (at xs 1))
    ∷ letter 85 (an_action ∷ an_operand ∷ an_operand ∷ []) (λ xs. EU (at xs 0) (at xs 1) (at xs 2))
    ∷ []

-- A lines are due until the first B line
abbrev pub actions_due : Query → Bool
actions_due q = length q.lines == 0

-- one A line more
abbrev pub with_action : Query → ActionLine → Query
with_action q l = record { actions = q.actions ++ l ∷ []; lines = q.lines }

-- one B line more
abbrev pub with_line : Query → QueryLine → Query
with_line q l = record { actions = q.actions; lines = q.lines ++ l ∷ [] }

-- line n, behind the query q: 4, then the checks of its kind
abbrev pub line_read : Sheet → ℕ → Query → List (List ℕ) → Result Query Fault
line_read h n q fs =
    cond (is_byte 65 (slice_index_or fs 0 []) && actions_due q)
    (and_then (lettered_line action_letters 160 h (length q.actions) (length q.actions) n fs) (λ l. Ok (with_action q l)))
    (cond (is_byte 66 (slice_index_or fs 0 []))
    (and_then (lettered_line query_letters 512 h (length q.actions) (length q.lines) n fs) (λ l. Ok (with_line q l)))
    (refused_at 4 n 1))

-- the lines from number n on, behind the query q
unfoldable pub lines_read : Sheet → ℕ → Query → List (List ℕ) → Result Query Fault
lines_read h n q [] = Ok q
lines_read h n q (l ∷ ls) = and_then (line_read h n q (fields_of l)) (λ p. lines_read h (n + 1) p ls)

-- no lines
abbrev pub empty_query : Query
empty_query = record { actions = []; lines = [] }

-- the whole text: 1, 2, then line by line
unfoldable pub query_read : Sheet → List ℕ → Result Query Fault
query_read h t =
    cond (nat_lt 16384 (length t)) (refused_at 1 0 0)
    (cond (finished t) (lines_read h 1 empty_query (lines_of t)) (refused_at 2 (count_of 10 t + 1) 0))
