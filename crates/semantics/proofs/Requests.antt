-- The log of a run, and the run of the calls that were made.
use Rattle.std.proofs.Common.{ℕ, Bool, List, [], ◌∷◌, Some, None, Option}
use Rattle.semantics.specs.Books.{Book}
use Rattle.semantics.specs.Calls.{Call}
use Rattle.semantics.specs.Law.{Entry, Outcome, Lawful}
use Rattle.semantics.specs.Requests.{called, after_call, tickets_after, set_after, Logged, before, entered, calls_made, outcomes, LogsAreRuns}

one_more : (r : Option Book) (z : ℕ → Bool) (e : Entry) (c : Option Call) (o : Option Outcome) (es : List Entry) (os : List Outcome) →
    Logged r z e c o → Lawful (after_call r c) (set_after z o) es os → Lawful r z (before (entered e c) es) (before o os)
one_more r z e None None es os here rest = rest
one_more r z e None (Some o) es os here rest = absurd here
one_more r z e (Some c) None es os here rest = absurd here
one_more r z e (Some c) (Some o) es os here rest = (here, rest)

pub logs_are_runs : LogsAreRuns
logs_are_runs r ts z [] [] law = law
logs_are_runs r ts z [] (o ∷ os) law = absurd law
logs_are_runs r ts z (e ∷ es) [] law = absurd law
logs_are_runs r ts z (e ∷ es) (o ∷ os) law =
    one_more r z e (called ts e.call) o
    (calls_made (after_call r (called ts e.call)) (tickets_after r ts e.call) es) (outcomes os) law.0
    (logs_are_runs (after_call r (called ts e.call)) (tickets_after r ts e.call) (set_after z o) es os law.1)
