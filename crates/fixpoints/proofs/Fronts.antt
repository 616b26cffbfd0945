-- What a stack over a buffer leaves in it.
use Rattle.std.proofs.Common.{◌≡◌, ℕ, List, length, drop, ap, ◌∙◌, subst, arith, length-take}
use Rattle.search.specs.Stack.{contents, Behind}
use Rattle.search.specs.declared.stack.Stack.{Stack}
use Rattle.fixpoints.specs.Witnesses.{Front}

pub front_of : (old : List ℕ) (v w : Stack ℕ) (k : ℕ) → v.slots.now ≡ old → Behind v w → k ≡ length (contents w) → Front k old w.slots.now
front_of old v w k first b len = (
  omega (arith, len, length-take w.len w.slots.now, b.size, ap length first),
  ap (λ i. drop i w.slots.now) len ∙ b.rest ∙ ap (drop (length (contents w))) first ∙ ap (λ i. drop i old) (omega (arith, len)),
)

-- what holds of a list holds of an equal one
pub moved : (P : List ℕ → Type 0) (a : List ℕ) {b : List ℕ} → P a → a ≡ b → P b
moved P a p e = subst P e p
