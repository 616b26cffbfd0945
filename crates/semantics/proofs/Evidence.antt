-- Evidence exists exactly where it is due.
use Rattle.std.proofs.Common.{◌≡◌, ℕ, suc, ◌-◌, ◌<◌, Bool, true, false, not, ◌&&◌, ◌⊎◌, length, get_or, Some, None, Decides, refl, subst, inl, inr, ⊎_elim, arith}
use Rattle.std.proofs.lemmas.Bool.{cases_Bool, cases_lt, cases_eq, both_ways, and_from, not_from_false}
use Rattle.std.proofs.lemmas.Bool.Decides.{Decides-and, Decides-not}
use Rattle.semantics.specs.Sets.{any, least}
use Rattle.semantics.specs.Access.{commitment_access, fulfilment_access}
use Rattle.semantics.specs.Chains.{until_chain, globally_chain, rounds, settled}
use Rattle.semantics.specs.Paths.{Leads, SomeStep, EveryStep, Globally, Until}
use Rattle.semantics.specs.Sheets.{Sheet}
use Rattle.semantics.specs.Validity.{Valid}
use Rattle.semantics.specs.Formulas.{Formula, atom, neg, or, EX, EG, EU, committed, fulfilled, Holds}
use Rattle.semantics.specs.Evidence.{Lowest, Evidence, Due, EvidenceWhereDue}
use Rattle.semantics.specs.Walks.{Shown, alone, ReachingBy, LoopingBy}
use Rattle.semantics.proofs.Quantifiers.{any_says, least_at, least_before}
use Rattle.semantics.proofs.Paths.{endless, next_is, until_is}
use Rattle.semantics.proofs.Searches.{means_at, globally_means, globally_inside, globally_closed, until_means}
use Rattle.semantics.proofs.Truth.{rule_says, every_state_moves}
use Rattle.semantics.proofs.Decided.{set_of_law}
use Rattle.semantics.proofs.Walks.{descent}
use Rattle.semantics.proofs.Lassos.{lasso}

-- of what a test decides, there is a lowest where there is some
lowest : (n : ℕ) (p : ℕ → Bool) (Q : ℕ → Type 0) → ((t : ℕ) → t < n → Decides (p t) (Q t)) → (t : ℕ) → t < n → Q t → (u : ℕ) × (Lowest n Q u)
lowest n p Q each t l q =
    let low : least n p < n = ⊎_elim (λ m. m) (λ m. absurd (both_ways (p t) (least_before n p t (omega arith)) ((each t l).1 q))) (cases_lt (least n p) n) in
    (least n p, (low, (each (least n p) low).0 (least_at n p low), λ u m r. both_ways (p u) (least_before n p u m) ((each u (omega arith)).1 r)))

show_alone : (n : ℕ) (p : ℕ → Bool) (Q : ℕ → Type 0) → ((t : ℕ) → t < n → Decides (p t) (Q t)) → (t : ℕ) → t < n → Q t →
    (e : Shown) × ((u : ℕ) × (e ≡ alone u) × (Lowest n Q u))
show_alone n p Q each t l q = let x = lowest n p Q each t l q in (alone x.0, (x.0, refl, x.1))

module _ (h : Sheet) (v : Valid h) where
  abbrev L : ℕ → ℕ → Type 0
  L = Leads h.moves

  total : (s : ℕ) → s < h.states → SomeStep h.states L (λ _. Unit {0}) s
  total = every_state_moves h v

  tested : (steps : ℕ → ℕ → Bool) (f : Formula) (s u : ℕ) → u < h.states → Decides (steps s u && (set_of_law h v f).0 u) ((steps s u ≡ true) × (Holds h f u))
  tested steps f s u l =
      Decides-and (steps s u) ((set_of_law h v f).0 u) (λ e. e, λ e. e) (means_at h.states (set_of_law h v f).0 (Holds h f) (set_of_law h v f).1 u l)

  untested : (steps : ℕ → ℕ → Bool) (f : Formula) (s u : ℕ) → u < h.states →
      Decides (steps s u && not ((set_of_law h v f).0 u)) ((steps s u ≡ true) × (Holds h f u → ⊥))
  untested steps f s u l =
      Decides-and (steps s u) (not ((set_of_law h v f).0 u)) (λ e. e, λ e. e)
      (Decides-not ((set_of_law h v f).0 u) (means_at h.states (set_of_law h v f).0 (Holds h f) (set_of_law h v f).1 u l))

  -- where not every step leads to f, some step leads to where f fails
  escape : (steps : ℕ → ℕ → Bool) (f : Formula) (s : ℕ) → (EveryStep h.states (Leads steps) (Holds h f) s → ⊥) →
      (u : ℕ) × (u < h.states) × ((steps s u ≡ true) × (Holds h f u → ⊥))
  escape steps f s not-every = go (cases_Bool (any h.states p))
    where
      p : ℕ → Bool
      p u = steps s u && not ((set_of_law h v f).0 u)

      go : (any h.states p ≡ true) ⊎ (any h.states p ≡ false) → (u : ℕ) × (u < h.states) × ((steps s u ≡ true) × (Holds h f u → ⊥))
      go (inl on) = let x = (any_says h.states p).0 on in (x.0, x.1, (untested steps f s x.0 x.1).0 x.2)
      go (inr off) = absurd (not-every (λ t l q. ⊎_elim
          (λ e. (((set_of_law h v f).1 t).0 e).1)
          (λ e. absurd (both_ways _ off ((any_says h.states p).1 (t, l, and_from (steps s t) _ q (not_from_false ((set_of_law h v f).0 t) e)))))
          (cases_Bool ((set_of_law h v f).0 t))))

  show_until : (f g : Formula) (s : ℕ) → s < h.states → Until h.states L (Holds h f) (Holds h g) s →
      (e : Shown) × (ReachingBy h.states h.moves (Holds h f) (Holds h g) s e)
  unfolding settled
  show_until f g s l u =
      let a = set_of_law h v f in
      let b = set_of_law h v g in
      let on = (until_means h.states h.moves L (rule_says h.moves) a.0 b.0 (Holds h f) (Holds h g) a.1 b.1 s).1
      (l, (until_is h.states L total (Holds h f) (Holds h g) s).1 u) in
      let d = descent h.states h.moves a.0 b.0 (rounds h.states (until_chain h.states h.moves a.0 b.0)) s on in (
        record { path = d.0; place = None },
        record {
          no_place = refl;
          walk = d.1.walk;
          before = λ i m. ((a.1 (get_or d.0 i 0)).0 (d.1.before i m)).1;
          last = λ i m. ((b.1 (get_or d.0 i 0)).0 (d.1.last i m)).1;
        },
      )

  shown_until : (P Q : ℕ → Type 0) (s : ℕ) (e : Shown) → ReachingBy h.states h.moves P Q s e → Until h.states L P Q s
  shown_until P Q s e r =
      let k = length e.path - 1 in
      (until_is h.states L total P Q s).0 (
        λ i. get_or e.path i 0,
        k,
        record {
          starts = r.walk.begins;
          inside = λ i m. r.walk.inside i (omega (arith, r.walk.nonempty));
          follows = λ i m. r.walk.follows i (omega arith);
        },
        (r.last k (omega (arith, r.walk.nonempty)), λ i m. r.before i (omega arith)),
      )

  show_globally : (f : Formula) (s : ℕ) → s < h.states → Globally h.states L (Holds h f) s → (e : Shown) × (LoopingBy h.states h.moves (Holds h f) s e)
  show_globally f s l u =
      let a = set_of_law h v f in
      let z = settled h.states (globally_chain h.states h.moves a.0) in
      let on = (globally_means h.states h.moves L (rule_says h.moves) a.0 (Holds h f) a.1 s).1 (l, u) in
      let x = lasso h.states h.moves z (globally_closed h.states h.moves L (rule_says h.moves) a.0 (Holds h f) a.1) s l on in (
        record { path = x.0; place = Some x.1 },
        record {
          at = x.1;
          is_place = refl;
          within = x.2.within;
          walk = x.2.walk;
          throughout = λ i m. (globally_inside h.states h.moves L (rule_says h.moves) a.0 (Holds h f) a.1 (get_or x.0 i 0) (x.2.stays i m)).1;
          returns = x.2.returns;
        },
      )

  shown_globally : (P : ℕ → Type 0) (s : ℕ) (e : Shown) → s < h.states → LoopingBy h.states h.moves P s e → Globally h.states L P s
  shown_globally P s e l r =
      let x = endless h.states L On onward s l (0, r.walk.nonempty, r.walk.begins) in
      (x.0, x.1, λ k. let y = x.2 k in subst P y.2 (r.throughout y.0 y.1))
    where
      -- t stands on the path
      On : ℕ → Type 0
      On t = (i : ℕ) × (i < length e.path) × (get_or e.path i 0 ≡ t)

      onward : (t : ℕ) → t < h.states → On t → (u : ℕ) × (u < h.states) × (On u) × (L t u)
      onward t l (i, m, q) = ⊎_elim
          (λ z. (get_or e.path r.at 0, r.walk.inside r.at r.within, (r.at, r.within, refl), rw (← q) (r.returns i z)))
          (λ ne. let m' : suc i < length e.path = omega (arith, ne) in
          (get_or e.path (suc i) 0, r.walk.inside (suc i) m', (suc i, m', refl), rw (← q) (r.walk.follows i m')))
          (cases_eq (suc i) (length e.path))

pub evidence_where_due : EvidenceWhereDue
unfolding Evidence Due Holds
evidence_where_due h v (atom m) s l = (λ x. x.1, λ x. absurd x)
evidence_where_due h v (neg f) s l = (λ x. x.1, λ x. absurd x)
evidence_where_due h v (or f g) s l = (λ x. x.1, λ x. absurd x)
evidence_where_due h v (EX f) s l = (
  λ x. let y = x.1.2 in (next_is h.states (L h v) (total h v) (Holds h f) s l).0 (x.1.0, y.0, y.1.0, y.1.1),
  λ d.
      let x = (next_is h.states (L h v) (total h v) (Holds h f) s l).1 d in
      show_alone h.states (λ u. h.moves s u && (set_of_law h v f).0 u) _ (tested h v h.moves f s) x.0 x.1 (x.2, x.3),
)
evidence_where_due h v (EG f) s l = (λ x. shown_globally h v (Holds h f) s x.0 l x.1, show_globally h v f s l)
evidence_where_due h v (EU f g) s l = (λ x. shown_until h v (Holds h f) (Holds h g) s x.0 x.1, show_until h v f g s l)
evidence_where_due h v (committed i j f) s l = (
  λ x every. let y = x.1.2 in y.1.1 (every x.1.0 y.0 y.1.0),
  λ d.
      let x = escape h v (commitment_access h i j) f s d in
      show_alone h.states (λ u. commitment_access h i j s u && not ((set_of_law h v f).0 u)) _ (untested h v (commitment_access h i j) f s) x.0 x.1 x.2,
)
evidence_where_due h v (fulfilled i j f) s l = (
  λ x. let y = x.1.2 in (x.1.0, y.0, y.1.0, y.1.1),
  λ x.
      show_alone h.states (λ u. fulfilment_access h i j u s && (set_of_law h v (committed i j f)).0 u) _
      (tested h v (λ s u. fulfilment_access h i j u s) (committed i j f) s) x.0 x.1 (x.2, x.3),
)
