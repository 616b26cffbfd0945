-- The computed steps are the admitted ones.
use Rattle.std.proofs.Common.{◌≡◌, ℕ, Bool, true, ◌&&◌, ◌||◌, eqb, ltb, Decides, sym, refl, ap, ◌∙◌, subst, ⊎_elim}
use Rattle.std.proofs.lemmas.Bool.{and_parts, and_from, or_cases, or_left, or_right, ltb-true, lt-ltb, eqb-true, eq-eqb, false≢true}
use Rattle.std.proofs.lemmas.Bool.Decides.{same_from_decides}
use Rattle.semantics.specs.Sets.{any}
use Rattle.semantics.specs.Sheets.{Sheet}
use Rattle.semantics.specs.Actions.{Action, R, D, V, is_action, steps_by, same_action, Admitted, admitted}
use Rattle.semantics.proofs.Quantifiers.{any_says}

module _ (h : Sheet) (p : Action → Bool) (s t : ℕ) where
  abbrev passes : Action → Bool
  passes x = p x && steps_by h x s t

  abbrev column : ℕ → ℕ → Bool
  column i j = passes (D i j) || passes (V i j)

  abbrev row : ℕ → Bool
  row i = any h.parties (column i)

  admits : (x : Action) → is_action h x ≡ true → passes x ≡ true → Admitted h p s t
  admits x on e = let y = and_parts (p x) (steps_by h x s t) e in (x, on, y.0, y.1)

  admitted_out : admitted h p s t ≡ true → Admitted h p s t
  unfolding admitted
  admitted_out e = ⊎_elim (admits R refl) pair (or_cases (passes R) (any h.parties row) e)
    where
      pair : any h.parties row ≡ true → Admitted h p s t
      pair on =
          let x = (any_says h.parties row).0 on in
          let y = (any_says h.parties (column x.0)).0 x.2 in
          let range = and_from (ltb x.0 h.parties) (ltb y.0 h.parties) (lt-ltb _ _ x.1) (lt-ltb _ _ y.1) in
          ⊎_elim (admits (D x.0 y.0) range) (admits (V x.0 y.0) range) (or_cases (passes (D x.0 y.0)) (passes (V x.0 y.0)) y.2)

  paired : (i j : ℕ) → (ltb i h.parties && ltb j h.parties) ≡ true → column i j ≡ true → admitted h p s t ≡ true
  unfolding admitted
  paired i j on e =
      let r = and_parts (ltb i h.parties) (ltb j h.parties) on in
      or_right (passes R) (any h.parties row)
      ((any_says h.parties row).1 (i, ltb-true _ _ r.0, (any_says h.parties (column i)).1 (j, ltb-true _ _ r.1, e)))

  admitted_in : (x : Action) → is_action h x ≡ true → passes x ≡ true → admitted h p s t ≡ true
  unfolding admitted
  admitted_in R on e = or_left (passes R) (any h.parties row) e
  admitted_in (D i j) on e = paired i j on (or_left (passes (D i j)) (passes (V i j)) e)
  admitted_in (V i j) on e = paired i j on (or_right (passes (D i j)) (passes (V i j)) e)

pub admitted_says : (h : Sheet) (p : Action → Bool) (s t : ℕ) → Decides (admitted h p s t) (Admitted h p s t)
admitted_says h p s t = (
  admitted_out h p s t,
  λ x. admitted_in h p s t x.0 x.1 (and_from (p x.0) (steps_by h x.0 s t) x.2 x.3),
)

pair_same : (f : ℕ → ℕ → Action) (a b i j : ℕ) → (eqb a i && eqb b j) ≡ true → f a b ≡ f i j
pair_same f a b i j e =
    let x = and_parts (eqb a i) (eqb b j) e in
    ap (λ c. f c b) (eqb-true a i x.0) ∙ ap (f i) (eqb-true b j x.1)

same_action_law : (x y : Action) → same_action x y ≡ true → x ≡ y
same_action_law R R e = refl
same_action_law R (D i j) e = absurd (false≢true e)
same_action_law R (V i j) e = absurd (false≢true e)
same_action_law (D a b) R e = absurd (false≢true e)
same_action_law (D a b) (D i j) e = pair_same D a b i j e
same_action_law (D a b) (V i j) e = absurd (false≢true e)
same_action_law (V a b) R e = absurd (false≢true e)
same_action_law (V a b) (D i j) e = absurd (false≢true e)
same_action_law (V a b) (V i j) e = pair_same V a b i j e

action_same : (x : Action) → same_action x x ≡ true
action_same R = refl
action_same (D i j) = and_from (eqb i i) (eqb j j) (eq-eqb i i refl) (eq-eqb j j refl)
action_same (V i j) = and_from (eqb i i) (eqb j j) (eq-eqb i i refl) (eq-eqb j j refl)

-- under the formula of one action, just its own steps are admitted
pub only_admits : (h : Sheet) (x : Action) → is_action h x ≡ true → (s t : ℕ) → admitted h (same_action x) s t ≡ steps_by h x s t
only_admits h x on s t =
    same_from_decides {P = Admitted h (same_action x) s t} (admitted h (same_action x) s t) (steps_by h x s t) (admitted_says h (same_action x) s t) (
      λ e. (x, on, action_same x, e),
      λ y. subst (λ z. steps_by h z s t ≡ true) (sym (same_action_law x y.0 y.2)) y.3,
    )
