-- Steps by rows of bits.
use Rattle.std.specs.Prelude.{ℕ, Bool, List, slice_index}
use Rattle.sets.specs.Bits.{in_bits}

-- bit `to` of row `from`
abbrev pub in_rows : List ℕ → ℕ → ℕ → Bool
in_rows rows from to = in_bits (slice_index rows from) to
