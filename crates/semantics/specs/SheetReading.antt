-- The sheet that a text reads as, or the first refusal in the order of checks.
use Rattle.std.specs.Prelude.{ℕ, zero, suc, ◌+◌, ◌^◌, Bool, true, false, cond, not, ◌&&◌, ◌||◌, List, [], ◌∷◌, ◌++◌, length, drop, replicate, Ok, Result, ◌==◌, nat_eq, nat_le, nat_lt, slice_index_or}
use Rattle.semantics.specs.Cuts.{lines_of, fields_of, count_of}
use Rattle.semantics.specs.Edits.{with_moves}
use Rattle.semantics.specs.Faults.{Fault, refused_at, and_then}
use Rattle.semantics.specs.LineReading.{Letter, letter, a_party, a_mark, an_operand, at, is_byte, numbers_in, lettered_line, finished}
use Rattle.semantics.specs.Sets.{any, count, least, has_step}
use Rattle.semantics.specs.Sheets.{Sheet, Line, mark, negation, disjunction, next, globally, until, commitment, fulfilment, shares}
use Rattle.semantics.specs.Validity.{between}

-- what was read, the lines that are left, and the number of the first of them
pub record Reading (X : Type 0) : Type 0 where
  pub known : X
  pub left : List (List ℕ)
  pub line : ℕ

-- how a line is read: of its number and its fields
abbrev pub LineReader : Type 0 → Type 0
LineReader X = ℕ → List (List ℕ) → Result X Fault

-- the first field of a line is the letter b
abbrev pub leads : ℕ → List ℕ → Bool
leads b l = is_byte b (slice_index_or (fields_of l) 0 [])

-- the next line is one of letter b, read by f: 12 where the text ends, 4 where another line stands
abbrev pub due_in : {X : Type 0} → ℕ → LineReader X → ℕ → List (List ℕ) → Result (Reading X) Fault
due_in b f n [] = refused_at 12 0 0
due_in b f n (l ∷ ls) =
    cond (leads b l) (and_then (f n (fields_of l)) (λ x. Ok (record { known = x; left = ls; line = n + 1 }))) (refused_at 4 n 1)

-- the same, behind what was read before
abbrev pub due_line : {X Y : Type 0} → ℕ → LineReader Y → Reading X → Result (Reading Y) Fault
due_line b f r = due_in b f r.line r.left

-- what f reads for each number below n in turn
unfoldable pub each_due : {X Y : Type 0} → ℕ → (ℕ → Reading (List Y) → Result (Reading Y) Fault) → Reading X → Result (Reading (List Y)) Fault
each_due zero f r = Ok (record { known = []; left = r.left; line = r.line })
each_due (suc n) f r =
    and_then (each_due n f r) (λ a.
    and_then (f n a) (λ b.
    Ok (record { known = a.known ++ b.known ∷ []; left = b.left; line = b.line })))

-- lines of letter b, as many as come, each of which adds to what is known
unfoldable pub while_in : {X : Type 0} → ℕ → (X → LineReader X) → X → ℕ → List (List ℕ) → Result (Reading X) Fault
while_in b f x n [] = Ok (record { known = x; left = []; line = n })
while_in b f x n (l ∷ ls) =
    cond (leads b l) (and_then (f x n (fields_of l)) (λ y. while_in b f y (n + 1) ls)) (Ok (record { known = x; left = l ∷ ls; line = n }))

-- a line of numbers, each with a test of its range, and a test of them all: 5, then 3 and 10 at each field, then 11
abbrev pub plain_line : List (ℕ → Bool) → (List ℕ → Bool) → LineReader (List ℕ)
plain_line ranges inPlace n fs =
    cond (length fs == 1 + length ranges)
    (and_then (numbers_in n 2 ranges (drop 1 fs)) (λ xs. cond (inPlace xs) (Ok xs) (refused_at 11 n 2)))
    (refused_at 5 n 0)

-- a number is below m
abbrev pub under : ℕ → ℕ → Bool
under m x = nat_lt x m

-- a position or a copy
abbrev pub value : ℕ → Bool
value = under 1000

-- H: number, parties, channels, states, marks
abbrev pub header_line : LineReader (List ℕ)
header_line = plain_line (between 1 9999 ∷ between 2 6 ∷ between 0 8 ∷ between 1 128 ∷ between 0 16 ∷ []) (λ _. true)

-- a pair comes after the last one, if there is one
abbrev pub rises : List (List ℕ) → List ℕ → Bool
rises [] xs = true
rises (ys ∷ yss) xs = nat_lt (at ys 0) (at xs 0) || (at ys 0 == at xs 0 && nat_lt (at ys 1) (at xs 1))

-- one of the pairs
abbrev pub listed : List (List ℕ) → ℕ → ℕ → Bool
listed [] a b = false
listed (ys ∷ yss) a b = (a == at ys 0 && b == at ys 1) || listed yss a b

-- two numbers below m and k that rise; the newest pair stands first
abbrev pub pair_line : ℕ → ℕ → List (List ℕ) → LineReader (List (List ℕ))
pair_line m k ps n fs = and_then (plain_line (under m ∷ under k ∷ []) (rises ps) n fs) (λ xs. Ok (xs ∷ ps))

-- C: channel, party
abbrev pub holder_line : Sheet → List (List ℕ) → LineReader (List (List ℕ))
holder_line h = pair_line h.channels h.parties

-- S: state, which is s, start, sum of marks
abbrev pub state_line : Sheet → ℕ → LineReader (List ℕ)
state_line h s = plain_line (under h.states ∷ under 2 ∷ under (2 ^ h.marks) ∷ []) (λ xs. nat_eq (at xs 0) s)

-- how many channels below c the party p holds
abbrev pub held_below : Sheet → ℕ → ℕ → ℕ
held_below h c p = count c (λ d. h.holds d p)

-- L: state, which is s, party, which is p, position, and the copies of the channels that p holds
abbrev pub local_line : Sheet → ℕ → ℕ → LineReader (List ℕ)
local_line h s p =
    plain_line (under h.states ∷ under h.parties ∷ value ∷ replicate (held_below h h.channels p) value)
    (λ xs. (at xs 0 == s) && at xs 1 == p)

-- T: from, to, of which there may be 1024: 16
abbrev pub move_line : Sheet → List (List ℕ) → LineReader (List (List ℕ))
move_line h ps n fs = cond (nat_le 1024 (length ps)) (refused_at 16 n 0) (pair_line h.states h.states ps n fs)

-- the letters of F lines
abbrev pub formula_letters : List (Letter Line)
formula_letters =
    letter 77 (a_mark ∷ []) (λ xs. mark (at xs 0))
    ∷ letter 78 (an_operand ∷ []) (λ xs. negation (at xs 0))
    ∷ letter 79 (an_operand ∷ an_operand ∷ []) (λ xs. disjunction (at xs 0) (at xs 1))
    ∷ letter 88 (an_operand ∷ []) (λ xs. next (at xs 0))
    ∷ letter 71 (an_operand ∷ []) (λ xs. globally (at xs 0))
    ∷ letter 85 (an_operand ∷ an_operand ∷ []) (λ xs. until (at xs 0) (at xs 1))
    ∷ letter 67 (a_party ∷ a_party ∷ an_operand ∷ []) (λ xs. commitment (at xs 0) (at xs 1) (at xs 2))
    ∷ letter 75 (a_party ∷ a_party ∷ an_operand ∷ []) (λ xs. fulfilment (at xs 0) (at xs 1) (at xs 2))
    ∷ []

-- the pair of a line shares a channel, if the line has a pair
abbrev pub pair_shares : Sheet → Line → Bool
pair_shares h (mark m) = true
pair_shares h (negation a) = true
pair_shares h (disjunction a b) = true
pair_shares h (next a) = true
pair_shares h (globally a) = true
pair_shares h (until a b) = true
pair_shares h (commitment i j a) = shares h i j
pair_shares h (fulfilment i j a) = shares h i j

-- F: a line of a letter, of which there may be 64, and then 18
abbrev pub formula_line : Sheet → List Line → LineReader (List Line)
formula_line h ls n fs = and_then (lettered_line formula_letters 64 h 0 (length ls) n fs) (λ l. cond (pair_shares h l) (Ok (ls ++ l ∷ [])) (refused_at 18 n 5))

-- a sheet of which only the header is known
abbrev pub headed : List ℕ → Sheet
headed xs = record {
  number = at xs 0;
  parties = at xs 1;
  channels = at xs 2;
  states = at xs 3;
  marks = at xs 4;
  holds = λ c p. false;
  start = λ s. false;
  mark_sum = λ s. 0;
  position = λ s p. 0;
  copy = λ s p c. 0;
  moves = λ s t. false;
  lines = [];
}

-- the sheet with these holders
abbrev pub with_holders : Sheet → (ℕ → ℕ → Bool) → Sheet
with_holders h r = record {
  number = h.number;
  parties = h.parties;
  channels = h.channels;
  states = h.states;
  marks = h.marks;
  holds = r;
  start = h.start;
  mark_sum = h.mark_sum;
  position = h.position;
  copy = h.copy;
  moves = h.moves;
  lines = h.lines;
}

-- the sheet with the starts and marks of the numbers of its S lines
abbrev pub with_states : Sheet → List (List ℕ) → Sheet
with_states h rows = record {
  number = h.number;
  parties = h.parties;
  channels = h.channels;
  states = h.states;
  marks = h.marks;
  holds = h.holds;
  start = λ s. (at (slice_index_or rows s []) 1 == 1);
  mark_sum = λ s. at (slice_index_or rows s []) 2;
  position = h.position;
  copy = h.copy;
  moves = h.moves;
  lines = h.lines;
}

-- the sheet with the positions and copies of the numbers of its L lines; a copy stands behind those of the lower channels that the party holds
abbrev pub with_locals : Sheet → List (List (List ℕ)) → Sheet
with_locals h rows = record {
  number = h.number;
  parties = h.parties;
  channels = h.channels;
  states = h.states;
  marks = h.marks;
  holds = h.holds;
  start = h.start;
  mark_sum = h.mark_sum;
  position = λ s p. at (slice_index_or (slice_index_or rows s []) p []) 2;
  copy = λ s p c. cond (h.holds c p) (at (drop 3 (slice_index_or (slice_index_or rows s []) p [])) (held_below h c p)) 0;
  moves = h.moves;
  lines = h.lines;
}

-- the sheet with these formula lines
abbrev pub with_lines : Sheet → List Line → Sheet
with_lines h ls = record {
  number = h.number;
  parties = h.parties;
  channels = h.channels;
  states = h.states;
  marks = h.marks;
  holds = h.holds;
  start = h.start;
  mark_sum = h.mark_sum;
  position = h.position;
  copy = h.copy;
  moves = h.moves;
  lines = ls;
}

-- what a section said, as a sheet
abbrev pub as_sheet : {X : Type 0} → (X → Sheet) → Result (Reading X) Fault → Result (Reading Sheet) Fault
as_sheet f r = and_then r (λ a. Ok (record { known = f a.known; left = a.left; line = a.line }))

abbrev pub header_read : List (List ℕ) → Result (Reading Sheet) Fault
header_read ls = as_sheet headed (due_in 72 header_line 1 ls)

abbrev pub holders_read : Reading Sheet → Result (Reading Sheet) Fault
holders_read r = as_sheet (λ ps. with_holders r.known (listed ps)) (while_in 67 (holder_line r.known) [] r.line r.left)

abbrev pub states_read : Reading Sheet → Result (Reading Sheet) Fault
states_read r = as_sheet (with_states r.known) (each_due r.known.states (λ s. due_line 83 (state_line r.known s)) r)

abbrev pub locals_read : Reading Sheet → Result (Reading Sheet) Fault
locals_read r =
    as_sheet (with_locals r.known)
    (each_due r.known.states (λ s. each_due r.known.parties (λ p. due_line 76 (local_line r.known s p))) r)

abbrev pub moves_read : Reading Sheet → Result (Reading Sheet) Fault
moves_read r = as_sheet (λ ps. with_moves r.known (listed ps)) (while_in 84 (move_line r.known) [] r.line r.left)

abbrev pub formulas_read : Reading Sheet → Result (Reading Sheet) Fault
formulas_read r = as_sheet (with_lines r.known) (while_in 70 (formula_line r.known) [] r.line r.left)

-- the lowest state without a move, or the number of states
abbrev pub stuck_state : Sheet → ℕ
stuck_state h = least h.states (λ s. not (has_step h.states h.moves s))

-- no line is left: 4; then 14 and 15
abbrev pub last_checks : Reading Sheet → Result Sheet Fault
last_checks r =
    let h = r.known in
    cond (nat_lt 0 (length r.left)) (refused_at 4 r.line 1)
    (cond (any h.states h.start) (cond (nat_lt (stuck_state h) h.states) (refused_at 15 0 (stuck_state h)) (Ok h)) (refused_at 14 0 0))

-- the lines of a text, section by section
unfoldable pub sections_read : List (List ℕ) → Result Sheet Fault
sections_read ls =
    and_then (header_read ls) (λ a.
    and_then (holders_read a) (λ b.
    and_then (states_read b) (λ c.
    and_then (locals_read c) (λ d.
    and_then (moves_read d) (λ e.
    and_then (formulas_read e) last_checks)))))

-- the whole text: 1, 2, then line by line
unfoldable pub sheet_read : List ℕ → Result Sheet Fault
sheet_read t =
    cond (nat_lt 65536 (length t)) (refused_at 1 0 0)
    (cond (finished t) (sections_read (lines_of t)) (refused_at 2 (count_of 10 t + 1) 0))
