-- Paths are made from steps, and finite paths go on where every state has a step.
use Rattle.std.proofs.Common.{ℕ, zero, suc, ◌<◌, refl, arith}
use Rattle.semantics.specs.Paths.{Endless, Finite, UpTo, SomeStep, Next, Globally, Until, FiniteUntil}

-- a path with a state put before it
abbrev pub cons : ℕ → (ℕ → ℕ) → ℕ → ℕ
cons s π zero = s
cons s π (suc k) = π k

module _ (n : ℕ) (Step : ℕ → ℕ → Type 0) where
  -- from a state that has P, where each such state has a step to another, goes an endless path that keeps P
  walk : (P : ℕ → Type 0) → ((s : ℕ) → s < n → P s → (t : ℕ) × (t < n) × (P t) × (Step s t)) →
      (s : ℕ) → s < n → P s → ℕ → (t : ℕ) × (t < n) × (P t)
  walk P go s h p zero = (s, h, p)
  walk P go s h p (suc k) =
      let w = walk P go s h p k in
      let x = go w.0 w.1 w.2 in (x.0, x.1, x.2)

  pub endless : (P : ℕ → Type 0) → ((s : ℕ) → s < n → P s → (t : ℕ) × (t < n) × (P t) × (Step s t)) →
      (s : ℕ) → s < n → P s → Globally n Step P s
  unfolding walk
  endless P go s h p = (
    λ k. (walk P go s h p k).0,
    record {
      starts = refl;
      inside = λ k. (walk P go s h p k).1;
      follows = λ k. (go (walk P go s h p k).0 (walk P go s h p k).1 (walk P go s h p k).2).3;
    },
    λ k. (walk P go s h p k).2,
  )

  cons_endless : (s t : ℕ) (π : ℕ → ℕ) → s < n → Step s t → Endless n Step t π → Endless n Step s (cons s π)
  cons_endless s t π h e p = record {
    starts = refl;
    inside = elim [ zero ↦ h | suc k ↦ p.inside k ];
    follows = elim [ zero ↦ rw p.starts e | suc k ↦ p.follows k ];
  }

  -- the path without its first place
  rest : (s : ℕ) (π : ℕ → ℕ) (k : ℕ) → Finite n Step s π (suc k) → Finite n Step (π 1) (λ i. π (suc i)) k
  rest s π k p = record {
    starts = refl;
    inside = λ i l. p.inside (suc i) (omega arith);
    follows = λ i l. p.follows (suc i) (omega arith);
  }

  pub cons_until : (P Q : ℕ → Type 0) (s t : ℕ) → s < n → P s → Step s t → FiniteUntil n Step P Q t → FiniteUntil n Step P Q s
  cons_until P Q s t h p e x = (cons s x.0, suc x.1, path, (x.3.0, front))
    where
      path : Finite n Step s (cons s x.0) (suc x.1)
      path = record {
        starts = refl;
        inside = elim [ zero ↦ λ _. h | suc i ↦ λ l. x.2.inside i (omega arith) ];
        follows = elim [ zero ↦ λ _. rw x.2.starts e | suc i ↦ λ l. x.2.follows i (omega arith) ];
      }

      front : (i : ℕ) → i < suc x.1 → P (cons s x.0 i)
      front zero l = p
      front (suc i) l = x.3.1 i (omega arith)

  until_finite : (P Q : ℕ → Type 0) (s : ℕ) → Until n Step P Q s → FiniteUntil n Step P Q s
  until_finite P Q s x = (
    x.0,
    x.2,
    record { starts = x.1.starts; inside = λ i _. x.1.inside i; follows = λ i _. x.1.follows i },
    x.3,
  )

  next_step : (P : ℕ → Type 0) (s : ℕ) → Next n Step P s → SomeStep n Step P s
  next_step P s x = (x.0 1, x.1.inside 1, rw x.1.starts at (x.1.follows 0), x.2)

  module _ (total : (s : ℕ) → s < n → SomeStep n Step (λ _. Unit {0}) s) where
    any_endless : (s : ℕ) → s < n → (π : ℕ → ℕ) × (Endless n Step s π)
    any_endless s h =
        let x = endless (λ _. Unit {0}) (λ t l _. let y = total t l in (y.0, y.1, tt, y.2)) s h tt in
        (x.0, x.1)

    step_next : (P : ℕ → Type 0) (s : ℕ) → s < n → SomeStep n Step P s → Next n Step P s
    step_next P s h x =
        let r = any_endless x.0 x.1 in
        (cons s r.0, cons_endless s x.0 r.0 h x.2 r.1, rw r.1.starts x.3)

    -- an endless path that goes on from the last place of a finite one
    finite_until : (P Q : ℕ → Type 0) (k s : ℕ) (π : ℕ → ℕ) → Finite n Step s π k → UpTo P Q π k → Until n Step P Q (π 0)
    finite_until P Q zero s π p u =
        let r = any_endless (π 0) (p.inside 0 (omega arith)) in
        (r.0, r.1, 0, (rw r.1.starts u.0, λ i l. absurd (omega arith)))
    finite_until P Q (suc k) s π p u =
        let x = finite_until P Q k (π 1) (λ i. π (suc i)) (rest s π k p) (u.0, λ i l. u.1 (suc i) (omega arith)) in (
          cons (π 0) x.0,
          cons_endless (π 0) (π 1) x.0 (p.inside 0 (omega arith)) (p.follows 0 (omega arith)) x.1,
          suc x.2,
          (x.3.0, elim [ zero ↦ λ _. u.1 0 (omega arith) | suc i ↦ λ l. x.3.1 i (omega arith) ]),
        )

    pub next_is : (P : ℕ → Type 0) (s : ℕ) → s < n → (SomeStep n Step P s → Next n Step P s) × (Next n Step P s → SomeStep n Step P s)
    next_is P s h = (step_next P s h, next_step P s)

    pub until_is : (P Q : ℕ → Type 0) (s : ℕ) → (FiniteUntil n Step P Q s → Until n Step P Q s) × (Until n Step P Q s → FiniteUntil n Step P Q s)
    until_is P Q s = (λ x. rw x.2.starts at (finite_until P Q x.1 s x.0 x.2 x.3), until_finite P Q s)
