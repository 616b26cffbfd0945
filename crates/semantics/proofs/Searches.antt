-- What the sets of next states and the settled chains say of steps and paths.
use Rattle.std.proofs.Common.{◌≡◌, ℕ, zero, suc, ◌<◌, Bool, true, false, not, ◌&&◌, ◌||◌, ltb, Decides, sym, refl, ◌∙◌, ⊎_elim, arith}
use Rattle.std.proofs.lemmas.Bool.{and_parts, and_from, or_cases, or_left, or_right, ltb-true, lt-ltb}
use Rattle.std.proofs.lemmas.Bool.Decides.{Decides-like}
use Rattle.semantics.specs.Sets.{below, into, within, some_next, every_next}
use Rattle.semantics.specs.Chains.{until_chain, globally_chain, rounds, settled}
use Rattle.semantics.specs.Paths.{Finite, UpTo, SomeStep, EveryStep, Globally, FiniteUntil}
use Rattle.semantics.proofs.Quantifiers.{any_says, all_says}
use Rattle.semantics.proofs.Settling.{until_settles, globally_settles}
use Rattle.semantics.proofs.Paths.{endless, cons_until}

-- the set a has exactly the states below n with P
abbrev pub Means : ℕ → (ℕ → Bool) → (ℕ → Type 0) → Type 0
Means n a P = (s : ℕ) → Decides (a s) ((s < n) × (P s))

pub below_means : (n : ℕ) (p : ℕ → Bool) (P : ℕ → Type 0) → ((s : ℕ) → s < n → Decides (p s) (P s)) → Means n (below n p) P
below_means n p P each s = (
  λ e. let x = and_parts (ltb s n) (p s) e in let l = ltb-true s n x.0 in (l, (each s l).0 x.1),
  λ x. and_from (ltb s n) (p s) (lt-ltb s n x.0) ((each s x.0).1 x.1),
)

pub means_at : (n : ℕ) (a : ℕ → Bool) (P : ℕ → Type 0) → Means n a P → (s : ℕ) → s < n → Decides (a s) (P s)
means_at n a P each s l = (λ e. ((each s).0 e).1, λ p. (each s).1 (l, p))

-- the same set has what is the same property
pub means_like : (n : ℕ) (a : ℕ → Bool) (P Q : ℕ → Type 0) → ((s : ℕ) → s < n → (P s → Q s) × (Q s → P s)) → Means n a P → Means n a Q
means_like n a P Q same each s =
    Decides-like (a s) (λ x. (x.0, (same s x.0).0 x.1)) (λ x. (x.0, (same s x.0).1 x.1)) (each s)

module _ (n : ℕ) (steps : ℕ → ℕ → Bool) (Step : ℕ → ℕ → Type 0) (is : (s t : ℕ) → Decides (steps s t) (Step s t)) where
  into_found : (a : ℕ → Bool) (s : ℕ) → into n steps a s ≡ true → (t : ℕ) × (t < n) × (a t ≡ true) × (Step s t)
  into_found a s e =
      let x = (any_says n (λ t. a t && steps s t)).0 e in
      let y = and_parts (a x.0) (steps s x.0) x.2 in
      (x.0, x.1, y.0, (is s x.0).0 y.1)

  into_by : (a : ℕ → Bool) (s t : ℕ) → t < n → a t ≡ true → Step s t → into n steps a s ≡ true
  into_by a s t l e q = (any_says n (λ t. a t && steps s t)).1 (t, l, and_from (a t) (steps s t) e ((is s t).1 q))

  pub some_means : (a : ℕ → Bool) (P : ℕ → Type 0) → Means n a P → Means n (some_next n steps a) (SomeStep n Step P)
  some_means a P each = below_means n (into n steps a) (SomeStep n Step P) (λ s l. (
    λ e. let x = into_found a s e in (x.0, x.1, x.3, ((each x.0).0 x.2).1),
    λ x. into_by a s x.0 x.1 ((each x.0).1 (x.1, x.3)) x.2,
  ))

  every_at : (a p : Bool) → (a || not p) ≡ true → p ≡ true → a ≡ true
  every_at true p e q = refl
  every_at false true e q = e
  every_at false false e q = q

  every_by : (a p : Bool) → (p ≡ true → a ≡ true) → (a || not p) ≡ true
  every_by true p f = refl
  every_by false true f = f refl
  every_by false false f = refl

  pub every_means : (a : ℕ → Bool) (P : ℕ → Type 0) → Means n a P → Means n (every_next n steps a) (EveryStep n Step P)
  every_means a P each = below_means n (within n steps a) (EveryStep n Step P) (λ s l. (
    λ e t b q. ((each t).0 (every_at (a t) (steps s t) ((all_says n (λ t. a t || not (steps s t))).0 e t b) ((is s t).1 q))).1,
    λ f. (all_says n (λ t. a t || not (steps s t))).1 (λ t b. every_by (a t) (steps s t) (λ q. (each t).1 (b, f t b ((is s t).0 q)))),
  ))

  module _ (a : ℕ → Bool) (P : ℕ → Type 0) (each : Means n a P) where
    globally_first : (k s : ℕ) → globally_chain n steps a k s ≡ true → (s < n) × (P s)
    globally_first zero s e = let x = and_parts (ltb s n) (a s) e in (each s).0 x.1
    globally_first (suc k) s e = globally_first k s (and_parts (globally_chain n steps a k s) _ e).0

    pub globally_inside : (s : ℕ) → settled n (globally_chain n steps a) s ≡ true → (s < n) × (P s)
    unfolding settled
    globally_inside s e = globally_first (rounds n (globally_chain n steps a)) s e

    -- each state of the settled set has a step into it
    pub globally_closed : (s : ℕ) → settled n (globally_chain n steps a) s ≡ true →
        (t : ℕ) × (t < n) × (settled n (globally_chain n steps a) t ≡ true) × (Step s t)
    unfolding settled
    globally_closed s e =
        let z = globally_chain n steps a (rounds n (globally_chain n steps a)) in
        into_found z s (and_parts (z s) (into n steps z s) ((globally_settles n steps a).settled s ∙ e)).1

    globally_out : (s : ℕ) → settled n (globally_chain n steps a) s ≡ true → (s < n) × (Globally n Step P s)
    globally_out s e =
        let l = (globally_inside s e).0 in
        let x = endless n Step (λ t. settled n (globally_chain n steps a) t ≡ true) (λ t _ on. globally_closed t on) s l e in
        (l, (x.0, x.1, λ k. (globally_inside (x.0 k) (x.2 k)).1))

    globally_in : (s : ℕ) (x : Globally n Step P s) (k i : ℕ) → globally_chain n steps a k (x.0 i) ≡ true
    globally_in s x zero i =
        and_from (ltb (x.0 i) n) (a (x.0 i)) (lt-ltb _ _ (x.1.inside i)) ((each (x.0 i)).1 (x.1.inside i, x.2 i))
    globally_in s x (suc k) i =
        and_from (globally_chain n steps a k (x.0 i)) _ (globally_in s x k i)
        (into_by (globally_chain n steps a k) (x.0 i) (x.0 (suc i)) (x.1.inside (suc i)) (globally_in s x k (suc i)) (x.1.follows i))

    pub globally_means : Means n (settled n (globally_chain n steps a)) (Globally n Step P)
    unfolding settled
    globally_means s = (globally_out s, λ x. rw x.1.1.starts at (globally_in s x.1 (rounds n (globally_chain n steps a)) 0))

  module _ (a b : ℕ → Bool) (P Q : ℕ → Type 0) (first : Means n a P) (second : Means n b Q) where
    here : (s : ℕ) → s < n → Q s → FiniteUntil n Step P Q s
    here s l q = (
      λ _. s,
      0,
      record { starts = refl; inside = λ _ _. l; follows = λ i j. absurd (omega arith) },
      (q, λ i j. absurd (omega arith)),
    )

    until_out : (k s : ℕ) → until_chain n steps a b k s ≡ true → (s < n) × (FiniteUntil n Step P Q s)
    until_out zero s e = let x = (second s).0 (and_parts (ltb s n) (b s) e).1 in (x.0, here s x.0 x.1)
    until_out (suc k) s e =
        ⊎_elim (until_out k s) (λ on. more (and_parts (ltb s n) _ on) (λ t. until_out k t)) (or_cases (until_chain n steps a b k s) _ e)
      where
        more : (ltb s n ≡ true) × ((a s && into n steps (until_chain n steps a b k) s) ≡ true) →
            ((t : ℕ) → until_chain n steps a b k t ≡ true → (t < n) × (FiniteUntil n Step P Q t)) → (s < n) × (FiniteUntil n Step P Q s)
        more x rec =
            let y = and_parts (a s) _ x.1 in
            let p = (first s).0 y.0 in
            let t = into_found (until_chain n steps a b k) s y.1 in
            (p.0, cons_until n Step P Q s t.0 p.0 p.1 t.3 (rec t.0 t.2).1)

    until_first : (k s : ℕ) → s < n → Q s → until_chain n steps a b k s ≡ true
    until_first zero s l q = and_from (ltb s n) (b s) (lt-ltb s n l) ((second s).1 (l, q))
    until_first (suc k) s l q = or_left (until_chain n steps a b k s) _ (until_first k s l q)

    until_in : (k s : ℕ) (π : ℕ → ℕ) → Finite n Step s π k → UpTo P Q π k → settled n (until_chain n steps a b) (π 0) ≡ true
    unfolding settled
    until_in zero s π p u = until_first (rounds n (until_chain n steps a b)) (π 0) (p.inside 0 (omega arith)) u.0
    until_in (suc k) s π p u =
        let r = rounds n (until_chain n steps a b) in
        let l = p.inside 0 (omega arith) in
        let on = until_in k (π 1) (λ i. π (suc i)) (record {
          starts = refl;
          inside = λ i l. p.inside (suc i) (omega arith);
          follows = λ i l. p.follows (suc i) (omega arith);
        }) (u.0, λ i l. u.1 (suc i) (omega arith)) in
        sym ((until_settles n steps a b).settled (π 0))
        ∙ or_right (until_chain n steps a b r (π 0)) _ (and_from (ltb (π 0) n) _ (lt-ltb _ _ l) (and_from (a (π 0)) _ ((first (π 0)).1 (l, u.1 0 (omega arith)))
        (into_by (until_chain n steps a b r) (π 0) (π 1) (p.inside 1 (omega arith)) on (p.follows 0 (omega arith)))))

    pub until_means : Means n (settled n (until_chain n steps a b)) (FiniteUntil n Step P Q)
    unfolding settled
    until_means s = (
      until_out (rounds n (until_chain n steps a b)) s,
      λ x. rw x.1.2.starts at (until_in x.1.1 s x.1.0 x.1.2 x.1.3),
    )
