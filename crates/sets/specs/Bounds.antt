-- No member of a set is at or above the capacity of its kind.
use Rattle.std.specs.Prelude.{◌≡◌, ℕ, zero, suc, ◌<◌, true, List, ◌==◌, slice_index}
use Rattle.std.proofs.Common.{sym, inl, inr, arith}
use Rattle.std.proofs.lemmas.Bool.{or_cases, eqb-true, false≢true, and_parts, ltb-true}
use Rattle.semantics.specs.Sets.{bit_of}
use Rattle.sets.specs.Bits.{in_bits}
use Rattle.sets.specs.Sorted.{Small, among}

pub among_found : (xs : List ℕ) (n k : ℕ) → among xs n k ≡ true → (i : ℕ) × (i < n) × (slice_index xs i ≡ k)
among_found xs zero k h = absurd (false≢true h)
among_found xs (suc n) k h = elim (or_cases (k == slice_index xs n) (among xs n k) h) [
  | inl e ↦ (n, omega arith, sym (eqb-true k (slice_index xs n) e))
  | inr e ↦ (let r = among_found xs n k e in (r.0, omega (arith, r.1), r.2))
]

pub among_small : (xs : List ℕ) (n k : ℕ) → Small xs n → among xs n k ≡ true → k < 64
among_small xs n k s h = let r = among_found xs n k h in omega (arith, s r.0 r.1, r.2)

pub bits_small : (x k : ℕ) → in_bits x k ≡ true → k < 128
bits_small x k h = ltb-true k 128 (and_parts (bit_of x k) _ h).1
