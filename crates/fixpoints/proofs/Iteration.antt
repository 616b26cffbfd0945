-- A search that runs through a chain until it stays the same, while a measure of the set falls.
use Rattle.std.proofs.Common.{◌≡◌, ℕ, suc, ◌+◌, ◌<◌, ◌≤◌, Bool, sym, ap, ◌∙◌, add-one, arith, below_more}
use mathlib.Core.Path.{fun_ext}
use Rattle.semantics.specs.Sets.{Same}
use Rattle.semantics.specs.Chains.{iterate}
use Rattle.semantics.specs.Settling.{Settles}

-- after r rounds the set is Z(r), and each round before changed it
pub record Running (n : ℕ) (step : (ℕ → Bool) → ℕ → Bool) (start : ℕ → Bool) (size : (ℕ → Bool) → ℕ) (r : ℕ) (z : ℕ → Bool) : Type 0 where
  pub bound : r + size z ≤ n
  pub is : z ≡ iterate step start r
  pub before : (j : ℕ) → j < r → Same (iterate step start (suc j)) (iterate step start j) → ⊥

module _ (n : ℕ) (step : (ℕ → Bool) → ℕ → Bool) (start : ℕ → Bool) (size : (ℕ → Bool) → ℕ) where
  abbrev Z : ℕ → ℕ → Bool
  Z = iterate step start

  abbrev Stays : (ℕ → Bool) → Type 0
  Stays z = Same (step z) z

  pub running_first : (z : ℕ → Bool) → Same z start → size z ≤ n → Running n step start size 0 z
  running_first z e le = record { bound = omega arith; is = fun_ext e; before = λ j l. absurd (omega arith) }

  module _ (r : ℕ) (z w : ℕ → Bool) (m : Running n step start size r z) (e : Same w (step z)) where
    pub running_more : size w < size z → (Stays z → ⊥) → Running n step start size (r + 1) w
    running_more lt changes = record {
      bound = omega (arith, m.bound);
      is = fun_ext e ∙ ap step m.is ∙ ap Z (sym (add-one r));
      before = below_more (λ j. Stays (Z j) → ⊥) r m.before (λ same. changes (rw m.is same));
    }

    pub running_last : Stays z → Settles n Z w r
    running_last same = record {
      reached = λ k. e k ∙ same k ∙ ap (λ v. v k) m.is;
      settled = rw m.is at same;
      least = m.before;
      bound = omega (arith, m.bound);
    }
