-- Laws of access, by its three rules.
use Rattle.std.proofs.Common.{◌≡◌, ℕ, ◌<◌, Bool, true, false, not, ◌&&◌, eqb, ltb, Decides, sym, refl, ◌∙◌, inl, inr}
use Rattle.std.proofs.lemmas.Bool.{and_parts, and_from, eqb-true, eq-eqb, both_ways, false≢true}
use Rattle.semantics.specs.Sets.{all}
use Rattle.semantics.specs.Sheets.{Sheet, shares}
use Rattle.semantics.specs.Access.{implies, agree, same_local, handed_over, otherwise_kept, access}
use Rattle.semantics.specs.Formulas.{Holds}
use Rattle.semantics.specs.AccessLaws.{AccessTransitive, AccessEuclidean, AccessShiftReflexive, CommitmentWithoutAccess, FulfilmentCommits, FulfilmentOnlyOfCommitments}
use Rattle.semantics.proofs.Quantifiers.{all_says}

implies_says : (a b : Bool) → Decides (implies a b) (a ≡ true → b ≡ true)
implies_says true b = (λ e _. e, λ f. f refl)
implies_says false b = (λ _ e. absurd (false≢true e), λ _. refl)

-- on every channel where the test g passes, the copies x and y are equal
abbrev Equal : ℕ → (ℕ → Bool) → (ℕ → ℕ) → (ℕ → ℕ) → Type 0
Equal n g x y = (c : ℕ) → c < n → g c ≡ true → x c ≡ y c

equal_says : (n : ℕ) (g : ℕ → Bool) (x y : ℕ → ℕ) → Decides (all n (λ c. implies (g c) (agree (x c) (y c)))) (Equal n g x y)
equal_says n g x y = (
  λ e c l on. eqb-true (x c) (y c) ((implies_says (g c) (agree (x c) (y c))).0 ((all_says n (λ c. implies (g c) (agree (x c) (y c)))).0 e c l) on),
  λ f. (all_says n (λ c. implies (g c) (agree (x c) (y c)))).1
      (λ c l. (implies_says (g c) (agree (x c) (y c))).1 (λ on. eq-eqb (x c) (y c) (f c l on))),
)

module _ (h : Sheet) (i j : ℕ) where
  -- what access from s to t says
  record Rules (s t : ℕ) : Type 0 where
    from : ltb s h.states ≡ true
    to : ltb t h.states ≡ true
    position : h.position s i ≡ h.position t i
    kept : Equal h.channels (λ c. h.holds c i) (h.copy s i) (h.copy t i)
    sharing : shares h i j ≡ true
    handed : Equal h.channels (λ c. h.holds c i && h.holds c j) (h.copy s i) (h.copy t j)
    other : Equal h.channels (λ c. h.holds c j && not (h.holds c i)) (h.copy s j) (h.copy t j)

  rules : (s t : ℕ) → access h i j s t ≡ true → Rules s t
  unfolding access
  rules s t e =
      let p = and_parts (ltb s h.states && ltb t h.states) _ e in
      let range = and_parts (ltb s h.states) (ltb t h.states) p.0 in
      let q = and_parts (same_local h i s t) _ p.1 in
      let local = and_parts (eqb (h.position s i) (h.position t i)) _ q.0 in
      let r = and_parts (handed_over h i j s t) (otherwise_kept h i j s t) q.1 in
      let hand = and_parts (shares h i j) _ r.0 in
      record {
        from = range.0;
        to = range.1;
        position = eqb-true _ _ local.0;
        kept = (equal_says h.channels (λ c. h.holds c i) (h.copy s i) (h.copy t i)).0 local.1;
        sharing = hand.0;
        handed = (equal_says h.channels (λ c. h.holds c i && h.holds c j) (h.copy s i) (h.copy t j)).0 hand.1;
        other = (equal_says h.channels (λ c. h.holds c j && not (h.holds c i)) (h.copy s j) (h.copy t j)).0 r.1;
      }

  ruled : (s t : ℕ) → Rules s t → access h i j s t ≡ true
  unfolding access
  ruled s t r =
      and_from (ltb s h.states && ltb t h.states) _ (and_from (ltb s h.states) (ltb t h.states) r.from r.to)
      (and_from (same_local h i s t) _
      (and_from (eqb (h.position s i) (h.position t i)) _ (eq-eqb _ _ r.position)
      ((equal_says h.channels (λ c. h.holds c i) (h.copy s i) (h.copy t i)).1 r.kept))
      (and_from (handed_over h i j s t) (otherwise_kept h i j s t)
      (and_from (shares h i j) _ r.sharing
      ((equal_says h.channels (λ c. h.holds c i && h.holds c j) (h.copy s i) (h.copy t j)).1 r.handed))
      ((equal_says h.channels (λ c. h.holds c j && not (h.holds c i)) (h.copy s j) (h.copy t j)).1 r.other)))

pub access_transitive : AccessTransitive
access_transitive h i j s t u e f =
    let a = rules h i j s t e in
    let b = rules h i j t u f in
    ruled h i j s u (record {
      from = a.from;
      to = b.to;
      position = a.position ∙ b.position;
      kept = λ c l on. a.kept c l on ∙ b.kept c l on;
      sharing = a.sharing;
      handed = λ c l on. a.kept c l (and_parts (h.holds c i) (h.holds c j) on).0 ∙ b.handed c l on;
      other = λ c l on. a.other c l on ∙ b.other c l on;
    })

pub access_euclidean : AccessEuclidean
access_euclidean h i j s t u e f =
    let a = rules h i j s t e in
    let b = rules h i j s u f in
    ruled h i j t u (record {
      from = a.to;
      to = b.to;
      position = sym a.position ∙ b.position;
      kept = λ c l on. sym (a.kept c l on) ∙ b.kept c l on;
      sharing = a.sharing;
      handed = λ c l on. sym (a.kept c l (and_parts (h.holds c i) (h.holds c j) on).0) ∙ b.handed c l on;
      other = λ c l on. sym (a.other c l on) ∙ b.other c l on;
    })

pub access_shift_reflexive : AccessShiftReflexive
access_shift_reflexive h i j s t e = access_euclidean h i j s t t e e

pub commitment_without_access : CommitmentWithoutAccess
unfolding Holds
commitment_without_access h i j f s none t l e = absurd (both_ways (access h i j s t) (none t) e)

pub fulfilment_commits : FulfilmentCommits
unfolding Holds
fulfilment_commits h i j f s x t l e = x.3 t l (access_transitive h i j x.0 s t x.2 e)

pub fulfilment_only_of_commitments : FulfilmentOnlyOfCommitments
unfolding Holds
fulfilment_only_of_commitments h i j f s (π, path, k, (some-place, always)) =
    some-place (λ (ρ, along, m, (both, before)). both (inr (λ full. both (inl (λ fails. fails (fulfilment_commits h i j f (ρ m) full))))))
