-- When a sheet is valid.
use Rattle.std.specs.Prelude.{◌≡◌, ℕ, zero, suc, ◌+◌, ◌^◌, ◌<◌, ◌≤◌, Bool, true, ◌&&◌, List, [], ◌∷◌, length, nat_le, nat_lt}
use Rattle.semantics.specs.Sets.{any, all, count, has_step}
use Rattle.semantics.specs.Sheets.{Sheet, Line, mark, negation, disjunction, next, globally, until, commitment, fulfilment, shares}

-- x is at least low and at most high
abbrev pub between : ℕ → ℕ → ℕ → Bool
between low high x = nat_le low x && nat_le x high

-- how many moves there are from the first k states
abbrev pub moves_from : Sheet → ℕ → ℕ
moves_from h zero = 0
moves_from h (suc k) = count h.states (h.moves k) + moves_from h k

-- how many moves there are
abbrev pub move_count : Sheet → ℕ
move_count h = moves_from h h.states

-- the sizes are within the limits
abbrev pub sizes_fit : Sheet → Bool
sizes_fit h =
    between 1 9999 h.number && (between 2 6 h.parties && (nat_le h.channels 8 && (between 1 128 h.states
    && (nat_le h.marks 16 && nat_le (length h.lines) 64))))

-- i and j are parties that share a channel
abbrev pub paired : Sheet → ℕ → ℕ → Bool
paired h i j = nat_lt i h.parties && (nat_lt j h.parties && shares h i j)

-- the numbers of line k exist, its operands are lower lines, its pair shares a channel
abbrev pub line_fits : Sheet → ℕ → Line → Bool
line_fits h k (mark m) = nat_lt m h.marks
line_fits h k (negation a) = nat_lt a k
line_fits h k (disjunction a b) = nat_lt a k && nat_lt b k
line_fits h k (next a) = nat_lt a k
line_fits h k (globally a) = nat_lt a k
line_fits h k (until a b) = nat_lt a k && nat_lt b k
line_fits h k (commitment i j a) = paired h i j && nat_lt a k
line_fits h k (fulfilment i j a) = paired h i j && nat_lt a k

-- the lines fit, from number k on
abbrev pub lines_fit : Sheet → ℕ → List Line → Bool
lines_fit h k [] = true
lines_fit h k (l ∷ ls) = line_fits h k l && lines_fit h (k + 1) ls

-- a valid sheet; a value stands only where the sheet has a place for it
pub record Valid (h : Sheet) : Type 0 where
  pub sizes_fit : sizes_fit h ≡ true
  pub holders_exist : (c p : ℕ) → h.holds c p ≡ true → (c < h.channels) × (p < h.parties)
  pub starts_exist : (s : ℕ) → h.start s ≡ true → s < h.states
  pub marks_fit : (s : ℕ) → h.mark_sum s < 2 ^ h.marks
  pub marks_placed : (s : ℕ) → 0 < h.mark_sum s → s < h.states
  pub positions_fit : (s p : ℕ) → h.position s p ≤ 999
  pub positions_placed : (s p : ℕ) → 0 < h.position s p → (s < h.states) × (p < h.parties)
  pub copies_fit : (s p c : ℕ) → h.copy s p c ≤ 999
  pub copies_placed : (s p c : ℕ) → 0 < h.copy s p c → (s < h.states) × (h.holds c p ≡ true)
  pub moves_exist : (s t : ℕ) → h.moves s t ≡ true → (s < h.states) × (t < h.states)
  pub moves_few : move_count h ≤ 1024
  pub some_start : any h.states h.start ≡ true
  pub moves_leave : all h.states (has_step h.states h.moves) ≡ true
  pub lines_fit : lines_fit h 0 h.lines ≡ true
