-- What one call may answer, and the law of a run.
use Rattle.std.specs.Prelude.{◌≡◌, ℕ, Bool, List, [], ◌∷◌, Some, None, Ok, Err, Option, Result}
use Rattle.semantics.specs.Books.{Book, edit_count}
use Rattle.semantics.specs.Calls.{Call, begin, edit, keep, withdraw, judge, translate, resolve, show, Limits, Answer, refused, ticket, done, edits, judged, written, shown, refusal, blank_refusal, after}
use Rattle.semantics.specs.Evidence.{Evidence, Due}
use Rattle.semantics.specs.Faults.{Fault}
use Rattle.semantics.specs.Formulas.{tree_at}
use Rattle.semantics.specs.Judging.{line_set, line_rounds, verdict}
use Rattle.semantics.specs.Queries.{Query}
use Rattle.semantics.specs.QueryReading.{query_read}
use Rattle.semantics.specs.QueryText.{query_text}
use Rattle.semantics.specs.Reduction.{reduction}
use Rattle.semantics.specs.Resolving.{query_set, query_rounds}
use Rattle.semantics.specs.Sheets.{Sheet, Line, mark, negation, disjunction, next, globally, until, commitment, fulfilment, line_at}

-- a call with what it is lent
pub record Entry : Type 0 where
  pub call : Call
  pub limits : Limits

-- the answer of a call, and what the lent set holds after it
pub record Outcome : Type 0 where
  pub answer : Answer
  pub set : ℕ → Bool

-- the answer is a, and the lent set holds z
abbrev pub Answers : Outcome → Answer → (ℕ → Bool) → Type 0
Answers o a z = (o.answer ≡ a) × (o.set ≡ z)

-- the refusal of show where the line has no evidence: 36 for a commitment, 35 for the others
abbrev pub without_evidence : Line → ℕ
without_evidence (mark m) = 35
without_evidence (negation a) = 35
without_evidence (disjunction a b) = 35
without_evidence (next a) = 35
without_evidence (globally a) = 35
without_evidence (until a b) = 35
without_evidence (commitment i j a) = 36
without_evidence (fulfilment i j a) = 35

-- evidence on line f at s, or a refusal where none is due
abbrev pub Showing : Sheet → ℕ → ℕ → Answer → Type 0
Showing h f s (refused r) = (r ≡ without_evidence (line_at h f)) × (Due h (tree_at h f) s → ⊥)
Showing h f s (ticket n) = ⊥
Showing h f s done = ⊥
Showing h f s (edits n) = ⊥
Showing h f s (judged v r) = ⊥
Showing h f s (written t) = ⊥
Showing h f s (shown e) = Evidence h (tree_at h f) s e

-- B line k of a query that was read
abbrev pub Resolved : Sheet → ℕ → Result Query Fault → Outcome → Type 0
Resolved h k (Ok q) o = Answers o (judged (verdict h (query_set h q k)) (query_rounds h q k)) (query_set h q k)
Resolved h k (Err f) o = ⊥

-- what a call that is not refused answers, where the lent set held z
abbrev pub Accepted : Book → (ℕ → Bool) → Call → Outcome → Type 0
Accepted b z begin o = Answers o (ticket b.sheet.number) z
Accepted b z (edit t e) o = Answers o done z
Accepted b z (keep t) o = Answers o (edits (edit_count b.amending)) z
Accepted b z (withdraw t) o = Answers o (edits (edit_count b.amending)) z
Accepted b z (judge f) o = Answers o (judged (verdict b.sheet (line_set b.sheet f)) (line_rounds b.sheet f)) (line_set b.sheet f)
Accepted b z (translate f) o = Answers o (written (query_text (reduction b.sheet.lines f))) z
Accepted b z (resolve t k) o = Resolved b.sheet k (query_read b.sheet t) o
Accepted b z (show f s) o = Showing b.sheet f s o.answer × (o.set ≡ line_set b.sheet f)

-- refused with the number of the table, or accepted
abbrev pub Responds : Option ℕ → Book → (ℕ → Bool) → Call → Outcome → Type 0
Responds (Some r) b z c o = Answers o (refused r) z
Responds None b z c o = Accepted b z c o

-- what a call may answer in a reference state, where the lent set held z
abbrev pub Gives : Option Book → (ℕ → Bool) → Entry → Outcome → Type 0
Gives None z e o = Answers o (refused (blank_refusal e.call)) z
Gives (Some b) z e o = Responds (refusal e.limits b e.call) b z e.call o

-- one outcome for each entry, and P of each, as the reference state and the set then stand
abbrev pub Throughout : (Option Book → (ℕ → Bool) → Entry → Outcome → Type 0) → Option Book → (ℕ → Bool) → List Entry → List Outcome → Type 0
Throughout P r z [] [] = Unit {0}
Throughout P r z [] (o ∷ os) = ⊥
Throughout P r z (e ∷ es) [] = ⊥
Throughout P r z (e ∷ es) (o ∷ os) = P r z e o × Throughout P (after r e.call) o.set es os

-- the law of a run
abbrev pub Lawful : Option Book → (ℕ → Bool) → List Entry → List Outcome → Type 0
Lawful = Throughout Gives
