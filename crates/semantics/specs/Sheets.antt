-- The sheet as data.
use Rattle.std.specs.Prelude.{ℕ, Bool, ◌&&◌, List, slice_index_or}
use Rattle.semantics.specs.Sets.{any, bit_of}

-- a formula line: an operator with its mark, its parties (debtor, creditor), and its operands, which are numbers of lower lines
pub data Line : Type 0 where
  mark negation : ℕ → Line
  disjunction : ℕ → ℕ → Line
  next globally : ℕ → Line
  until : ℕ → ℕ → Line
  commitment fulfilment : ℕ → ℕ → ℕ → Line

-- a sheet: its number and four counts, who holds which channel, starts, marks, local states, moves and formula lines
pub record Sheet : Type 0 where
  pub number : ℕ
  pub parties : ℕ
  pub channels : ℕ
  pub states : ℕ
  pub marks : ℕ
  -- of a channel and a party
  pub holds : ℕ → ℕ → Bool
  pub start : ℕ → Bool
  -- the sum of 2 to the power m over the marks m of a state
  pub mark_sum : ℕ → ℕ
  -- of a state and a party
  pub position : ℕ → ℕ → ℕ
  -- of a state, a party and a channel
  pub copy : ℕ → ℕ → ℕ → ℕ
  pub moves : ℕ → ℕ → Bool
  pub lines : List Line

-- state s has mark m
abbrev pub marked : Sheet → ℕ → ℕ → Bool
marked h m s = bit_of (h.mark_sum s) m

-- parties i and j share a channel
abbrev pub shares : Sheet → ℕ → ℕ → Bool
shares h i j = any h.channels (λ c. h.holds c i && h.holds c j)

-- line number f
abbrev pub line_at : Sheet → ℕ → Line
line_at h f = slice_index_or h.lines f (mark 0)
