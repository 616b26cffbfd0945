-- Where the search for a step of each state goes on, and the step that is kept for it.
use Rattle.std.proofs.Common.{◌≡◌, ℕ, ◌<◌, ◌≤◌, Bool, true, false, ◌&&◌, List, length, get_or, set, replicate, ap, ◌∙◌, inl, inr, arith}
use Rattle.std.proofs.lemmas.List.{get_or-replicate, get_or-set_other, get_or-set_same}
use Rattle.std.proofs.lemmas.Bool.{and_from, and_parts, cases_eq}
use Rattle.semantics.specs.Sets.{into}
use Rattle.fixpoints.specs.Rounds.{Passed, KeepsStep}
use Rattle.semantics.proofs.Quantifiers.{any_at, any_none_fewer}

pub passed_first : (n : ℕ) (steps : ℕ → ℕ → Bool) (z : ℕ → Bool) (xs : List ℕ) (m : ℕ) → n ≤ m → xs ≡ replicate m 0 → Passed n steps z xs
passed_first n steps z xs m le e k lt =
    let zero : get_or xs k 0 ≡ 0 = ap (λ ys. get_or ys k 0) e ∙ get_or-replicate m k 0 0 (omega arith) in
    (omega arith, ap (λ v. into v steps z k) zero)

-- it still holds where the set has fewer states
pub passed_fewer : (n : ℕ) (steps : ℕ → ℕ → Bool) (z w : ℕ → Bool) (xs : List ℕ) → ((k : ℕ) → w k ≡ true → z k ≡ true) → Passed n steps z xs → Passed n steps w xs
passed_fewer n steps z w xs sub h k lt = (
  (h k lt).0,
  any_none_fewer (get_or xs k 0) (λ t. z t && steps k t) (λ t. w t && steps k t)
      (λ t e. let ps = and_parts (w t) (steps k t) e in and_from (z t) (steps k t) (sub t ps.0) ps.1) (h k lt).1,
)

-- the number of one state rises to t
pub passed_set : (n : ℕ) (steps : ℕ → ℕ → Bool) (z : ℕ → Bool) (xs : List ℕ) (s t : ℕ) → s < length xs → Passed n steps z xs → t < n → into t steps z s ≡ false →
    Passed n steps z (set xs s t)
passed_set n steps z xs s t long h lt none k low = elim (cases_eq k s) [
  | inl e ↦ (let is : get_or (set xs s t) k 0 ≡ t = ap (λ i. get_or (set xs s t) i 0) e ∙ get_or-set_same xs s t 0 long in
      (omega (arith, is), ap (λ v. into v steps z k) is ∙ ap (into t steps z) e ∙ none))
  | inr ne ↦ (let is : get_or (set xs s t) k 0 ≡ get_or xs k 0 = get_or-set_other xs s k t 0 ne in
      (omega (arith, is, (h k low).0), ap (λ v. into v steps z k) is ∙ (h k low).1))
]

-- a state whose kept step leads into the set has a step into it
pub kept_into : (n : ℕ) (steps : ℕ → ℕ → Bool) (z : ℕ → Bool) (xs : List ℕ) (k : ℕ) → KeepsStep n steps z xs k → z k ≡ true → z (get_or xs k 0) ≡ true → into n steps z k ≡ true
kept_into n steps z xs k keeps on here =
    let to = get_or xs k 0 in
    let step = keeps on in
    any_at n (λ t. z t && steps k t) to step.0 (and_from (z to) (steps k to) here step.1)
