-- Queries read back from their texts, reductions among them.
use Rattle.std.specs.Prelude.{◌≡◌, ℕ, ◌+◌, ◌<◌, ◌≤◌, Bool, true, ◌&&◌, List, [], ◌∷◌, length, Ok, nat_lt}
use Rattle.semantics.specs.Actions.{ActionLine, only, except, either, is_action}
use Rattle.semantics.specs.Queries.{Query, QueryLine, atom, neg, or, EX, AX, EG, EU}
use Rattle.semantics.specs.QueryReading.{query_read}
use Rattle.semantics.specs.QueryText.{query_text}
use Rattle.semantics.specs.Reduction.{reduction}
use Rattle.semantics.specs.Sheets.{Sheet}
use Rattle.semantics.specs.Validity.{Valid}

-- A line number k names actions of the sheet and lower A lines
abbrev pub action_fits : Sheet → ℕ → ActionLine → Bool
action_fits h k (only x) = is_action h x
action_fits h k (except a) = nat_lt a k
action_fits h k (either a b) = nat_lt a k && nat_lt b k

-- B line number k names marks of the sheet, A lines and lower B lines
abbrev pub query_line_fits : Sheet → ℕ → ℕ → QueryLine → Bool
query_line_fits h acts k (atom m) = nat_lt m h.marks
query_line_fits h acts k (neg b) = nat_lt b k
query_line_fits h acts k (or b c) = nat_lt b k && nat_lt c k
query_line_fits h acts k (EX a b) = nat_lt a acts && nat_lt b k
query_line_fits h acts k (AX a b) = nat_lt a acts && nat_lt b k
query_line_fits h acts k (EG a b) = nat_lt a acts && nat_lt b k
query_line_fits h acts k (EU a b c) = nat_lt a acts && (nat_lt b k && nat_lt c k)

-- each item passes with its number, counted from k on
abbrev pub each_fits : {X : Type 0} → (ℕ → X → Bool) → ℕ → List X → Bool
each_fits p k [] = true
each_fits p k (x ∷ xs) = p k x && each_fits p (k + 1) xs

-- a query that can be read: some line, no more lines than the limits, and all lines fit the sheet
pub record QueryFits (h : Sheet) (q : Query) : Type 0 where
  pub some_line : 0 < length q.actions + length q.lines
  pub few_actions : length q.actions ≤ 160
  pub few_lines : length q.lines ≤ 512
  pub actions_fit : each_fits (action_fits h) 0 q.actions ≡ true
  pub lines_fit : each_fits (query_line_fits h (length q.actions)) 0 q.lines ≡ true

-- a query that fits a sheet reads back from its text
abbrev pub QueriesReadBack : Type 0
QueriesReadBack = (h : Sheet) → Valid h → (q : Query) → QueryFits h q → query_read h (query_text q) ≡ Ok q

-- and nothing else is read as a query
abbrev pub OnlyQueriesRead : Type 0
OnlyQueriesRead = (h : Sheet) (t : List ℕ) (q : Query) → query_read h t ≡ Ok q → (QueryFits h q) × (t ≡ query_text q)

-- the text of a reduction reads back as the reduction
abbrev pub ReductionsReadBack : Type 0
ReductionsReadBack = (h : Sheet) → Valid h → (f : ℕ) → f < length h.lines → query_read h (query_text (reduction h.lines f)) ≡ Ok (reduction h.lines f)
