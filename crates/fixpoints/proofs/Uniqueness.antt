-- A chain settles at one set, after one number of rounds.
use Rattle.std.proofs.Common.{◌≡◌, ℕ, Bool, sym, ap, ◌∙◌, inl, inr}
use Rattle.std.proofs.lemmas.Bool.{cases_order}
use Rattle.semantics.specs.Chains.{rounds, settled}
use Rattle.semantics.specs.Settling.{Settles}
use Rattle.fixpoints.specs.Searches.{Found}

module _ (n : ℕ) (chain : ℕ → ℕ → Bool) (m : ℕ → Bool) (r : ℕ) (here : Settles n chain m r) (there : Settles n chain (settled n chain) (rounds n chain)) where
  one_number : r ≡ rounds n chain
  one_number = elim (cases_order r (rounds n chain)) [
    | inl e ↦ e
    | inr o ↦ elim o [
      | inl lt ↦ absurd (there.least r lt here.settled)
      | inr gt ↦ absurd (here.least (rounds n chain) gt there.settled)
    ]
  ]

  pub found : Found n chain m r
  found = record {
    set_is = λ k. here.reached k ∙ ap (λ i. chain i k) one_number ∙ sym (there.reached k);
    rounds_are = one_number;
    bound = here.bound;
  }
