-- The text of a query.
use Rattle.std.specs.Prelude.{ℕ, List, [], ◌∷◌, ◌++◌}
use Rattle.semantics.specs.Actions.{ActionLine, only, except, either, R, D, V}
use Rattle.semantics.specs.Queries.{Query, QueryLine, atom, neg, or, EX, AX, EG, EU}
use Rattle.semantics.specs.Written.{lettered_text, numbered_text}

-- A line number k
abbrev pub action_text : ℕ → ActionLine → List ℕ
action_text k (only R) = lettered_text 65 k 82 []
action_text k (only (D i j)) = lettered_text 65 k 68 (i ∷ j ∷ [])
action_text k (only (V i j)) = lettered_text 65 k 86 (i ∷ j ∷ [])
action_text k (except a) = lettered_text 65 k 78 (a ∷ [])
action_text k (either a b) = lettered_text 65 k 79 (a ∷ b ∷ [])

-- B line number k
abbrev pub query_line_text : ℕ → QueryLine → List ℕ
query_line_text k (atom m) = lettered_text 66 k 77 (m ∷ [])
query_line_text k (neg b) = lettered_text 66 k 78 (b ∷ [])
query_line_text k (or b c) = lettered_text 66 k 79 (b ∷ c ∷ [])
query_line_text k (EX a b) = lettered_text 66 k 88 (a ∷ b ∷ [])
query_line_text k (AX a b) = lettered_text 66 k 89 (a ∷ b ∷ [])
query_line_text k (EG a b) = lettered_text 66 k 71 (a ∷ b ∷ [])
query_line_text k (EU a b c) = lettered_text 66 k 85 (a ∷ b ∷ c ∷ [])

-- A lines, then B lines
unfoldable pub query_text : Query → List ℕ
query_text q = numbered_text action_text 0 q.actions ++ numbered_text query_line_text 0 q.lines
