-- The sheet that the tables of the program hold, as the semantics has it.
use Rattle.std.specs.Prelude.{ℕ, cond, List, map, length, get_or, nat_lt, slice_index, slice_index_or}
use Rattle.semantics.specs.Sheets.{Line, mark, negation, disjunction, next, globally, until, commitment, fulfilment}
use Rattle.semantics.specs.Sheets as semantics
use Rattle.sheets.specs.declared.holders.Holders.{Holders}
use Rattle.sheets.specs.declared.operator.Operator.{Operator}
use Rattle.sheets.specs.declared.operator.Operator.TheVariants.{Mark, Not, Or, Next, Globally, Until, Commitment, Fulfilment}
use Rattle.sheets.specs.declared.parts.Header.{Header}
use Rattle.sheets.specs.declared.parts.Local.{Local}
use Rattle.sheets.specs.declared.parts.Row.{Row}
use Rattle.sheets.specs.declared.parts.State.{State}
use Rattle.sheets.specs.declared.sheet.Sheet.{Sheet}
use Rattle.sheets.specs.Holding.{held}
use Rattle.sheets.specs.Moves.{no_state, no_local, move_within}
use Rattle.sheets.specs.Sheets.{states_of, rows_of}

-- what party p knows at state s
abbrev pub local_at : List State → ℕ → ℕ → Local
local_at ss s p = slice_index_or (get_or ss s no_state).locals p no_local

-- the line of an operator and its operands
abbrev pub line_with : Operator → List ℕ → Line
line_with Mark xs = mark (slice_index xs 0)
line_with Not xs = negation (slice_index xs 0)
line_with Or xs = disjunction (slice_index xs 0) (slice_index xs 1)
line_with Next xs = next (slice_index xs 0)
line_with Globally xs = globally (slice_index xs 0)
line_with Until xs = until (slice_index xs 0) (slice_index xs 1)
line_with Commitment xs = commitment (slice_index xs 0) (slice_index xs 1) (slice_index xs 2)
line_with Fulfilment xs = fulfilment (slice_index xs 0) (slice_index xs 1) (slice_index xs 2)

-- the line of a row
abbrev pub line_of : Row → Line
line_of r = line_with r.operator r.operands

-- the sheet of a header, holders, states and rows; a position or a copy is 0 where the sheet has no place for it
abbrev pub model_from : Header → Holders → List State → List Row → semantics.Sheet
model_from head who ss rs = record {
  number = head.number;
  parties = head.parties;
  channels = head.channels;
  states = length ss;
  marks = head.marks;
  holds = held who;
  start = λ k. (get_or ss k no_state).start;
  mark_sum = λ k. (get_or ss k no_state).marks;
  position = λ k p. cond (nat_lt p head.parties) (local_at ss k p).position 0;
  copy = λ k p c. cond (held who c p) (slice_index (local_at ss k p).copies c) 0;
  moves = move_within ss;
  lines = map line_of rs;
}

unfoldable pub model_of : Sheet → semantics.Sheet
model_of s = model_from s.header s.holders (states_of s) (rows_of s)
