-- What `|`, `&`, `!` and `1 << s` do to the set of a number's bits.
use Rattle.std.proofs.Common.{◌≡◌, ℕ, ◌-◌, ◌*◌, ◌/◌, ◌%◌, ◌^◌, ◌<◌, not, ◌&&◌, ◌||◌, eqb, bit_and, bit_or, inl, inr, arith}
use Rattle.std.specs.Int.{w128}
use Rattle.std.proofs.lemmas.Nat.Bits.{bit_at_or, bit_at-lt, shr_and_one, bit_at_set_same, bit_at_set_other, bit_at_clear_same, bit_at_clear_other}
use Rattle.std.proofs.lemmas.Bool.Decides.{nat_tests}
use Rattle.std.proofs.lemmas.Bool.{cases_eq, cases_lt}
use Rattle.sets.specs.Bits.{in_bits}

pub bits_join : (a b k : ℕ) → in_bits (bit_or a b) k ≡ (in_bits a k || in_bits b k)
bits_join a b k = grind (arith, nat_tests, bit_at_or a b k, bit_at-lt a k, bit_at-lt b k)

pub bits_put : (a s : ℕ) → s < 128 → (k : ℕ) → in_bits (bit_or a (1 * 2 ^ s % 2 ^ 128)) k ≡ (eqb k s || in_bits a k)
bits_put a s h k = elim (cases_eq k s) [
  | inl e ↦ rw e (grind (arith, nat_tests, h, bit_at_set_same w128 a s h))
  | inr ne ↦ grind (arith, nat_tests, ne, bit_at_set_other w128 a s h k ne)
]

pub bits_take : (a s : ℕ) → s < 128 → (k : ℕ) → in_bits (bit_and a ((2 ^ 128 - 1) - (1 * 2 ^ s % 2 ^ 128))) k ≡ (not (eqb k s) && in_bits a k)
bits_take a s h k = elim (cases_eq k s) [
  | inl e ↦ rw e (grind (arith, nat_tests, bit_at_clear_same w128 a s h))
  | inr ne ↦ elim (cases_lt k 128) [
    | inl lt ↦ grind (arith, nat_tests, ne, bit_at_clear_other w128 a s h k lt ne)
    | inr ge ↦ grind (arith, nat_tests, ge)
  ]
]

pub bits_has : (a s : ℕ) → s < 128 → eqb (bit_and (a / 2 ^ s) 1) 1 ≡ in_bits a s
bits_has a s h = grind (arith, nat_tests, h, shr_and_one a s)
