-- What judging a line answers, and when it is refused.
use Rattle.std.specs.Prelude.{◌≡◌, ℕ, ◌<◌, Bool, cond, not, ◌||◌, List, length, Ok, Err, Result, ◌==◌, nat_le, nat_lt, slice_index_or}
use Rattle.texts.specs.declared.refusal.Refusal.{Refusal}
use Rattle.texts.specs.declared.refusal.Refusal.TheVariants.{Blank, NoSuchLine, ShortBuffer, SetTooSmall}
use Rattle.sets.specs.Bits.{in_bits}
use Rattle.workspace.specs.Rows.{row_in}
use Rattle.semantics.specs.Judging.{line_set, line_rounds, verdict}
use Rattle.semantics.specs.Sets.{Same, all}
use Rattle.semantics.specs.Sheets.{Sheet}
use Rattle.sheets.specs.declared.parts.State.{State}
use Rattle.sheets.specs.Moves.{no_state}
use Rattle.judging.specs.declared.judge.Judgement.{Judgement}

-- s is in the set, if it is a start
abbrev pub start_in : List State → (ℕ → Bool) → ℕ → Bool
start_in ss m s = not (slice_index_or ss s no_state).start || m s

-- every start below n is in the set
abbrev pub starts_in : ℕ → List State → (ℕ → Bool) → Bool
starts_in n ss m = all n (start_in ss m)

-- a call that judges: blank sheet, no such line, short work buffer, set too small, in this order
abbrev pub judge_refusal : ℕ → ℕ → ℕ → ℕ → ℕ → Result Unit Refusal
judge_refusal states rows line work room =
    cond (states == 0) (Err Blank)
    (cond (nat_le rows line) (Err NoSuchLine)
    (cond (nat_lt work 16384) (Err ShortBuffer)
    (cond (nat_lt room states) (Err SetTooSmall) (Ok tt))))

-- the refusals by themselves: of a blank sheet and a line that it lacks, of a work buffer, and of a set
abbrev pub row_refusal : ℕ → ℕ → ℕ → Result Unit Refusal
row_refusal states rows line = cond (states == 0) (Err Blank) (cond (nat_le rows line) (Err NoSuchLine) (Ok tt))

abbrev pub work_refusal : ℕ → Result Unit Refusal
work_refusal work = cond (nat_lt work 16384) (Err ShortBuffer) (Ok tt)

abbrev pub set_refusal : ℕ → ℕ → Result Unit Refusal
set_refusal states room = cond (nat_lt room states) (Err SetTooSmall) (Ok tt)

-- the same, of a sheet
abbrev pub line_refusal : Sheet → ℕ → ℕ → ℕ → Result Unit Refusal
line_refusal h line work room = judge_refusal h.states (length h.lines) line work room

-- the refusal of an answer, if it is one
abbrev pub settled : {A : Type 0} → Result A Refusal → Result Unit Refusal
settled (Ok a) = Ok tt
settled (Err r) = Err r

-- s is in the set, if it is a start
abbrev pub start_has : Sheet → (ℕ → Bool) → ℕ → Bool
start_has h z s = not (h.start s) || z s

-- the first k rows of the buffer are the sets of the first k lines
abbrev pub Kept : Sheet → ℕ → List ℕ → Type 0
Kept h k work = (j : ℕ) → j < k → in_bits (row_in work j) ≡ line_set h j

-- z is the set of line f, and j its verdict, as 1 or 0, and its rounds
pub record Judged (h : Sheet) (f : ℕ) (z : ℕ → Bool) (j : Judgement) : Type 0 where
  pub set_is : Same z (line_set h f)
  pub verdict_is : cond j.verdict 1 0 ≡ verdict h (line_set h f)
  pub rounds_are : j.rounds ≡ line_rounds h f
