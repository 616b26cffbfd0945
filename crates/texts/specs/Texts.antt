-- A text as its lines.
use Rattle.std.specs.Prelude.{◌≡◌, ℕ, ◌+◌, ◌<◌, cond, List, length, Some, None, Ok, Err, Option, Result, ◌==◌, nat_lt}
use Rattle.texts.specs.declared.line.Line.{Line}
use Rattle.texts.specs.declared.lines.Lines.{Lines}
use Rattle.texts.specs.declared.refusal.Fault.{Fault}
use Rattle.texts.specs.declared.refusal.Refusal.TheVariants.{TextTooLong, Unfinished, NotDue, EndsEarly}
use Rattle.semantics.specs.LineReading.{finished}
use Rattle.texts.specs.Cuts.{before, after, count}
use Rattle.texts.specs.Fields.{fault_at}
use Rattle.texts.specs.Lines.{at, Opened}

-- the checks of the text as a whole
abbrev pub whole_of : ℕ → List ℕ → Result Unit Fault
whole_of limit t =
    cond (nat_lt limit (length t)) (Err (fault_at TextTooLong (at 0 0)))
    (cond (finished t) (Ok tt) (Err (fault_at Unfinished (at (count 10 t + 1) 0))))

-- the next line is taken where it has the letter b; otherwise nothing changes
abbrev pub Took : ℕ → Lines → Option Line → Lines → Type 0
Took b s (Some l) s' =
    Opened b (s.taken + 1) (before 10 s.rest.now) (Some l)
    × (s'.rest.now ≡ after 10 s.rest.now) × (s'.taken ≡ s.taken + 1) × (length s'.rest.now < length s.rest.now)
Took b s None s' = Opened b (s.taken + 1) (before 10 s.rest.now) None × (s'.rest.now ≡ s.rest.now) × (s'.taken ≡ s.taken)

-- another line is due, and there is none or one of another kind
abbrev pub missing_at : Lines → Fault
missing_at s = cond (length s.rest.now == 0) (fault_at EndsEarly (at 0 0)) (fault_at NotDue (at (s.taken + 1) 1))

-- the next line is due with the letter b
abbrev pub Due : ℕ → Lines → Result Line Fault → Lines → Type 0
Due b s (Ok l) s' = Took b s (Some l) s'
Due b s (Err f) s' = Took b s None s' × (f ≡ missing_at s)

-- no line is due any more
abbrev pub left_at : Lines → Result Unit Fault
left_at s = cond (length s.rest.now == 0) (Ok tt) (Err (fault_at NotDue (at (s.taken + 1) 1)))
