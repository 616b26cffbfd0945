-- A run as it is asked for: a call names its ticket by its place among the tickets at hand.
use Rattle.std.specs.Prelude.{ℕ, zero, suc, Bool, List, [], ◌∷◌, ◌++◌, Some, None, Option}
use Rattle.semantics.specs.Books.{Book, begin_refusal, close_refusal, unless}
use Rattle.semantics.specs.Calls.{Call, begin, edit, keep, withdraw, judge, translate, resolve, show, after}
use Rattle.semantics.specs.Law.{Entry, Outcome, Gives, Lawful}

-- the number that the ticket at a place bears
abbrev pub ticket_at : List ℕ → ℕ → Option ℕ
ticket_at [] p = None
ticket_at (t ∷ ts) zero = Some t
ticket_at (t ∷ ts) (suc p) = ticket_at ts p

-- the tickets without the one at a place
abbrev pub without : List ℕ → ℕ → List ℕ
without [] p = []
without (t ∷ ts) zero = ts
without (t ∷ ts) (suc p) = t ∷ without ts p

-- the call with the number t in place of its ticket's place
abbrev pub bearing : Call → ℕ → Call
bearing begin t = begin
bearing (edit p e) t = edit t e
bearing (keep p) t = keep t
bearing (withdraw p) t = withdraw t
bearing (judge f) t = judge f
bearing (translate f) t = translate f
bearing (resolve q k) t = resolve q k
bearing (show f s) t = show f s

-- the call is made with its ticket, if that is at hand
abbrev pub with_ticket : Call → Option ℕ → Option Call
with_ticket c None = None
with_ticket c (Some t) = Some (bearing c t)

-- the call that a request makes, where ts are the tickets at hand; none where its ticket is missing
abbrev pub called : List ℕ → Call → Option Call
called ts begin = Some begin
called ts (edit p e) = with_ticket (edit p e) (ticket_at ts p)
called ts (keep p) = with_ticket (keep p) (ticket_at ts p)
called ts (withdraw p) = with_ticket (withdraw p) (ticket_at ts p)
called ts (judge f) = Some (judge f)
called ts (translate f) = Some (translate f)
called ts (resolve q k) = Some (resolve q k)
called ts (show f s) = Some (show f s)

-- the reference state after a request
abbrev pub after_call : Option Book → Option Call → Option Book
after_call r None = r
after_call r (Some c) = after r c

-- a ticket at a place is used up where the amendment is closed with it
abbrev pub spent : Book → List ℕ → ℕ → Option ℕ → List ℕ
spent b ts p None = ts
spent b ts p (Some t) = unless (close_refusal b.sheet b.amending t) ts (without ts p)

-- the tickets at hand after a request: begin adds one at the end, keep and withdraw take away the one that they name
abbrev pub tickets_after : Option Book → List ℕ → Call → List ℕ
tickets_after None ts c = ts
tickets_after (Some b) ts begin = unless (begin_refusal b.amending) ts (ts ++ b.sheet.number ∷ [])
tickets_after (Some b) ts (edit p e) = ts
tickets_after (Some b) ts (keep p) = spent b ts p (ticket_at ts p)
tickets_after (Some b) ts (withdraw p) = spent b ts p (ticket_at ts p)
tickets_after (Some b) ts (judge f) = ts
tickets_after (Some b) ts (translate f) = ts
tickets_after (Some b) ts (resolve q k) = ts
tickets_after (Some b) ts (show f s) = ts

-- what the lent set holds after a request
abbrev pub set_after : (ℕ → Bool) → Option Outcome → ℕ → Bool
set_after z None = z
set_after z (Some o) = o.set

-- a request whose ticket is missing makes no call; any other is answered by the law
abbrev pub Logged : Option Book → (ℕ → Bool) → Entry → Option Call → Option Outcome → Type 0
Logged r z e None None = Unit {0}
Logged r z e None (Some o) = ⊥
Logged r z e (Some c) None = ⊥
Logged r z e (Some c) (Some o) = Gives r z (record { call = c; limits = e.limits }) o

-- the log of a run has one item for each request, as the reference state, the tickets at hand and the set then stand
abbrev pub LawfulLog : Option Book → List ℕ → (ℕ → Bool) → List Entry → List (Option Outcome) → Type 0
LawfulLog r ts z [] [] = Unit {0}
LawfulLog r ts z [] (o ∷ os) = ⊥
LawfulLog r ts z (e ∷ es) [] = ⊥
LawfulLog r ts z (e ∷ es) (o ∷ os) =
    Logged r z e (called ts e.call) o × LawfulLog (after_call r (called ts e.call)) (tickets_after r ts e.call) (set_after z o) es os

-- an item before a list, if there is one
abbrev pub before : {X : Type 0} → Option X → List X → List X
before None xs = xs
before (Some x) xs = x ∷ xs

-- a call with the limits of its request
abbrev pub entered : Entry → Option Call → Option Entry
entered e None = None
entered e (Some c) = Some (record { call = c; limits = e.limits })

-- the calls that the requests make
abbrev pub calls_made : Option Book → List ℕ → List Entry → List Entry
calls_made r ts [] = []
calls_made r ts (e ∷ es) = before (entered e (called ts e.call)) (calls_made (after_call r (called ts e.call)) (tickets_after r ts e.call) es)

-- the outcomes of the calls that were made
abbrev pub outcomes : List (Option Outcome) → List Outcome
outcomes [] = []
outcomes (o ∷ os) = before o (outcomes os)

-- the reference state and the tickets at hand after a run
abbrev pub state_over : Option Book → List ℕ → List Entry → Option Book
state_over r ts [] = r
state_over r ts (e ∷ es) = state_over (after_call r (called ts e.call)) (tickets_after r ts e.call) es

abbrev pub tickets_over : Option Book → List ℕ → List Entry → List ℕ
tickets_over r ts [] = ts
tickets_over r ts (e ∷ es) = tickets_over (after_call r (called ts e.call)) (tickets_after r ts e.call) es

-- a lawful log is a lawful run of the calls that were made
abbrev pub LogsAreRuns : Type 0
LogsAreRuns = (r : Option Book) (ts : List ℕ) (z : ℕ → Bool) (es : List Entry) (os : List (Option Outcome)) →
    LawfulLog r ts z es os → Lawful r z (calls_made r ts es) (outcomes os)
