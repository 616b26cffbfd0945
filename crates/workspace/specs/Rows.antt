-- Rows of sixteen bytes, the lowest first.
use Rattle.std.specs.Prelude.{ℕ, ◌*◌, ◌/◌, Bool, cond, List, length, take, drop, nat_lt}
use Rattle.std.specs.Int.{from_le_bytes, w128}

unfoldable pub number : List ℕ → ℕ
number bs = from_le_bytes w128 bs

unfoldable pub row_of : List ℕ → ℕ → ℕ
row_of work k = number (take 16 (drop (16 * k) work))

-- a buffer has row k
abbrev pub within : List ℕ → ℕ → Bool
within work k = nat_lt k (length work / 16)

-- row k, or 0 where the buffer has none
abbrev pub row_in : List ℕ → ℕ → ℕ
row_in work k = cond (within work k) (row_of work k) 0
