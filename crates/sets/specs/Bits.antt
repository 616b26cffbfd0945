-- The bits of a number as a set of states.
use Rattle.std.specs.Prelude.{ℕ, Bool, ◌&&◌, nat_lt}
use Rattle.semantics.specs.Sets.{bit_of}

-- the states below 128 whose bit is set
abbrev pub in_bits : ℕ → ℕ → Bool
in_bits x k = bit_of x k && nat_lt k 128
