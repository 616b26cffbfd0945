-- What holds of every lawful run.
use Rattle.std.specs.Prelude.{◌≡◌, ℕ, ◌<◌, ◌≤◌, Bool, true, false, cond, ◌↔◌, List, [], ◌∷◌, ◌++◌, length, take, Some, None, Option}
use Rattle.semantics.specs.Books.{Amending, Book}
use Rattle.semantics.specs.Calls.{Call, begin, edit, keep, withdraw, judge, translate, resolve, show, Limits, Answer, refused, ticket, done, edits, judged, written, shown, book_after}
use Rattle.semantics.specs.Edits.{Edit, made}
use Rattle.semantics.specs.Evidence.{Evidence}
use Rattle.semantics.specs.Walks.{Shown}
use Rattle.semantics.specs.Formulas.{Holds, tree_at}
use Rattle.semantics.specs.Judging.{line_set, line_rounds, verdict}
use Rattle.semantics.specs.Law.{Entry, Outcome, Throughout, Lawful}
use Rattle.semantics.specs.QueryText.{query_text}
use Rattle.semantics.specs.Reduction.{reduction, last_line}
use Rattle.semantics.specs.Sheets.{Sheet}
use Rattle.semantics.specs.Validity.{Valid}

-- the stored sheet is valid
abbrev pub SoundAmending : Option Amending → Type 0
SoundAmending None = Unit {0}
SoundAmending (Some a) = Valid a.stored

-- the sheet is valid, and so is the stored one
abbrev pub Sound : Option Book → Type 0
Sound None = Unit {0}
Sound (Some b) = Valid b.sheet × SoundAmending b.amending

-- not a refusal
abbrev pub accepted : Answer → Bool
accepted (refused r) = false
accepted (ticket n) = true
accepted done = true
accepted (edits n) = true
accepted (judged v r) = true
accepted (written t) = true
accepted (shown e) = true

-- the verdict, the rounds and the set of line f, which has exactly the states at which the line holds along endless paths
pub record JudgedAs (h : Sheet) (f : ℕ) (o : Outcome) : Type 0 where
  pub answers : o.answer ≡ judged (verdict h (line_set h f)) (line_rounds h f)
  pub holds_set : o.set ≡ line_set h f
  pub truth : (s : ℕ) → o.set s ≡ true ↔ ((s < h.states) × (Holds h (tree_at h f) s))

-- judging line f, and resolving its query at the last B line, give one answer; translating gives the text of that query
abbrev pub OneAnswerTo : Sheet → Call → Outcome → Type 0
OneAnswerTo h begin o = Unit {0}
OneAnswerTo h (edit t e) o = Unit {0}
OneAnswerTo h (keep t) o = Unit {0}
OneAnswerTo h (withdraw t) o = Unit {0}
OneAnswerTo h (judge f) o = accepted o.answer ≡ true → JudgedAs h f o
OneAnswerTo h (translate f) o = accepted o.answer ≡ true → o.answer ≡ written (query_text (reduction h.lines f))
OneAnswerTo h (resolve t k) o =
    (f : ℕ) → f < length h.lines → t ≡ query_text (reduction h.lines f) → k ≡ last_line (reduction h.lines f) →
    accepted o.answer ≡ true → JudgedAs h f o
OneAnswerTo h (show f s) o = Unit {0}

-- the same in any reference state; without a sheet nothing is answered
abbrev pub OneAnswer : Option Book → (ℕ → Bool) → Entry → Outcome → Type 0
OneAnswer None z e o = accepted o.answer ≡ false
OneAnswer (Some b) z e o = OneAnswerTo b.sheet e.call o

-- in a lawful run both roads give one answer, and it is the truth
abbrev pub RunsAgree : Type 0
RunsAgree = (r : Option Book) (z : ℕ → Bool) (es : List Entry) (os : List Outcome) → Sound r → Lawful r z es os → Throughout OneAnswer r z es os

-- where line, state and room fit, show answers evidence exactly when some exists
abbrev pub ShowsTo : Sheet → Limits → Call → Outcome → Type 0
ShowsTo h m begin o = Unit {0}
ShowsTo h m (edit t e) o = Unit {0}
ShowsTo h m (keep t) o = Unit {0}
ShowsTo h m (withdraw t) o = Unit {0}
ShowsTo h m (judge f) o = Unit {0}
ShowsTo h m (translate f) o = Unit {0}
ShowsTo h m (resolve t k) o = Unit {0}
ShowsTo h m (show f s) o =
    f < length h.lines → s < h.states → 16384 ≤ m.work → h.states ≤ m.path → h.states ≤ m.capacity →
    ((e : Shown) × (o.answer ≡ shown e) × (Evidence h (tree_at h f) s e)) ↔ ((e : Shown) × (Evidence h (tree_at h f) s e))

-- the same in any reference state
abbrev pub Shows : Option Book → (ℕ → Bool) → Entry → Outcome → Type 0
Shows None z e o = Unit {0}
Shows (Some b) z e o = ShowsTo b.sheet e.limits e.call o

-- in a lawful run show answers evidence exactly when some exists
abbrev pub RunsShow : Type 0
RunsShow = (r : Option Book) (z : ℕ → Bool) (es : List Entry) (os : List Outcome) → Sound r → Lawful r z es os → Throughout Shows r z es os

-- the accepted edits of kept amendments, and those of the open one
pub record Account : Type 0 where
  pub lasting : List Edit
  pub pending : List Edit

-- what an accepted edit, keep or withdraw does to the account
abbrev pub entered : Account → Call → Account
entered a begin = a
entered a (edit t e) = record { lasting = a.lasting; pending = a.pending ++ e ∷ [] }
entered a (keep t) = record { lasting = a.lasting ++ a.pending; pending = [] }
entered a (withdraw t) = record { lasting = a.lasting; pending = [] }
entered a (judge f) = a
entered a (translate f) = a
entered a (resolve t k) = a
entered a (show f s) = a

-- the account after a run
abbrev pub account_over : Account → List Entry → List Outcome → Account
account_over a [] os = a
account_over a (e ∷ es) [] = a
account_over a (e ∷ es) (o ∷ os) = account_over (cond (accepted o.answer) (entered a e.call) a) es os

-- the book after a run
abbrev pub book_over : Book → List Entry → Book
book_over b [] = b
book_over b (e ∷ es) = book_over (book_after b e.call) es

-- what is stored, and the count, are accounted for
abbrev pub AccountedAmending : Sheet → Account → Option Amending → Type 0
AccountedAmending first a None = a.pending ≡ []
AccountedAmending first a (Some m) = (m.stored ≡ made first a.lasting) × (m.count ≡ length a.pending)

-- the sheet is the first one with the edits of the account made; what is stored has the lasting ones alone
abbrev pub Accounted : Sheet → Account → Book → Type 0
Accounted first a b = (b.sheet ≡ made first (a.lasting ++ a.pending)) × AccountedAmending first a b.amending

-- after each n calls of a lawful run the sheet is the first one with the accepted edits made, less those withdrawn, and it is valid
abbrev pub RunsAccount : Type 0
RunsAccount = (first : Sheet) (a : Account) (b : Book) (z : ℕ → Bool) (es : List Entry) (os : List Outcome) →
    Sound (Some b) → Accounted first a b → Lawful (Some b) z es os →
    (n : ℕ) → (Accounted first (account_over a (take n es) (take n os)) (book_over b (take n es))) × (Valid (book_over b (take n es)).sheet)
