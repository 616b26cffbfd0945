-- The calls of a run, their answers, and the reference state after them.
use Rattle.std.specs.Prelude.{ℕ, Bool, true, false, not, List, [], ◌∷◌, length, Some, None, Ok, Err, Option, Result, nat_le, nat_lt}
use Rattle.semantics.specs.Books.{Book, begin_refusal, close_refusal, edit_refusal, begun, amended, kept, withdrawn, unless}
use Rattle.semantics.specs.Edits.{Edit, first_of}
use Rattle.semantics.specs.Walks.{Shown}
use Rattle.semantics.specs.Faults.{Fault}
use Rattle.semantics.specs.Queries.{Query}
use Rattle.semantics.specs.QueryReading.{query_read}
use Rattle.semantics.specs.QueryText.{query_text}
use Rattle.semantics.specs.Reduction.{reduction}
use Rattle.semantics.specs.Sheets.{Sheet, Line, mark, negation, disjunction, next, globally, until, commitment, fulfilment, line_at}

-- join, cut, set and mark are edits; a ticket is the number that it bears
pub data Call : Type 0 where
  begin : Call
  edit : ℕ → Edit → Call
  keep withdraw : ℕ → Call
  judge translate : ℕ → Call
  resolve : List ℕ → ℕ → Call
  show : ℕ → ℕ → Call

-- the bytes of the buffers that a call is lent, and the capacity of its set
pub record Limits : Type 0 where
  pub work : ℕ
  pub text : ℕ
  pub path : ℕ
  pub capacity : ℕ

-- the number of a refusal, the number of a ticket, nothing further, the count of edits, verdict and rounds, a text, evidence
pub data Answer : Type 0 where
  refused : ℕ → Answer
  ticket : ℕ → Answer
  done : Answer
  edits : ℕ → Answer
  judged : ℕ → ℕ → Answer
  written : List ℕ → Answer
  shown : Shown → Answer

-- a line that show has evidence for
abbrev pub showable : Line → Bool
showable (mark m) = false
showable (negation a) = false
showable (disjunction a b) = false
showable (next a) = true
showable (globally a) = true
showable (until a b) = true
showable (commitment i j a) = true
showable (fulfilment i j a) = true

-- the room that a search needs
abbrev pub room_checks : Sheet → Limits → List (Bool × ℕ)
room_checks h m = (nat_lt m.work 16384, 32) ∷ (nat_lt m.capacity h.states, 33) ∷ []

-- the text of a query is checked before the B line and the room
abbrev pub resolve_refusal : Sheet → Limits → ℕ → Result Query Fault → Option ℕ
resolve_refusal h m k (Ok q) = first_of ((nat_le (length q.lines) k, 30) ∷ room_checks h m)
resolve_refusal h m k (Err f) = Some f.why

-- the refusal of a call, by the table in its order
abbrev pub refusal : Limits → Book → Call → Option ℕ
refusal m b begin = begin_refusal b.amending
refusal m b (edit t e) = edit_refusal b.sheet b.amending t e
refusal m b (keep t) = close_refusal b.sheet b.amending t
refusal m b (withdraw t) = close_refusal b.sheet b.amending t
refusal m b (judge f) = first_of ((nat_le (length b.sheet.lines) f, 30) ∷ room_checks b.sheet m)
refusal m b (translate f) =
    first_of ((nat_le (length b.sheet.lines) f, 30) ∷ (nat_lt m.text (length (query_text (reduction b.sheet.lines f))), 32) ∷ [])
refusal m b (resolve t k) = resolve_refusal b.sheet m k (query_read b.sheet t)
refusal m b (show f s) =
    first_of (
    (nat_le (length b.sheet.lines) f, 30)
    ∷ (nat_le b.sheet.states s, 31)
    ∷ (nat_lt m.work 16384, 32)
    ∷ (nat_lt m.path b.sheet.states, 32)
    ∷ (nat_lt m.capacity b.sheet.states, 33)
    ∷ (not (showable (line_at b.sheet f)), 34)
    ∷ [])

-- the refusal of a call on a bench without a sheet
abbrev pub blank_refusal : Call → ℕ
blank_refusal begin = 29
blank_refusal (edit t e) = 21
blank_refusal (keep t) = 21
blank_refusal (withdraw t) = 21
blank_refusal (judge f) = 29
blank_refusal (translate f) = 29
blank_refusal (resolve t k) = 29
blank_refusal (show f s) = 29

-- the book after a call
abbrev pub book_after : Book → Call → Book
book_after b begin = unless (begin_refusal b.amending) b (begun b)
book_after b (edit t e) = unless (edit_refusal b.sheet b.amending t e) b (amended b e)
book_after b (keep t) = unless (close_refusal b.sheet b.amending t) b (kept b)
book_after b (withdraw t) = unless (close_refusal b.sheet b.amending t) b (withdrawn b)
book_after b (judge f) = b
book_after b (translate f) = b
book_after b (resolve t k) = b
book_after b (show f s) = b

-- the reference state after a call; a bench without a sheet stays so
abbrev pub after : Option Book → Call → Option Book
after None c = None
after (Some b) c = Some (book_after b c)
