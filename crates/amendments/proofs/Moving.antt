-- The moves of a table in which one state has one successor more, or one less.
use Rattle.std.proofs.Common.{◌≡◌, ℕ, ◌<◌, Bool, true, false, not, ◌&&◌, ◌||◌, eqb, ltb, List, length, get_or, set, sym, refl, ap, ◌∙◌, inl, inr, length-set}
use mathlib.Core.Path.{fun_ext}
use Rattle.std.proofs.lemmas.List.{get_or-set_other, get_or-set_same}
use Rattle.std.proofs.lemmas.Bool.{cases_eq, eq-eqb, eqb-true, lt-ltb, ne_eqb}
use Rattle.semantics.specs.Sets.{Same}
use Rattle.sets.specs.Bits.{in_bits}
use Rattle.sets.specs.Member.{plus, minus}
use Rattle.sheets.specs.declared.parts.State.{State}
use Rattle.sheets.specs.Moves.{no_state, move_within}

joined_here : (a l o : Bool) → (a ≡ true → l ≡ true) → ((true && l) && (a || o)) ≡ (a || ((true && l) && o))
joined_here true true o h = refl
joined_here true false o h = h refl
joined_here false l o h = refl

cut_here : (a l o : Bool) → ((true && l) && (not a && o)) ≡ (not a && ((true && l) && o))
cut_here true true o = refl
cut_here true false o = refl
cut_here false l o = refl

module _ (ss : List State) (from to : ℕ) (x : State) (l : from < length ss) (k : to < length ss) where
  abbrev old : ℕ → Bool
  old = in_bits (get_or ss from no_state).successors.bits

  -- the steps of the changed state, and those of the others
  at_from : (t : ℕ) → move_within (set ss from x) from t ≡ ((true && ltb t (length ss)) && in_bits x.successors.bits t)
  at_from t =
      ap (λ n. (ltb from n && ltb t n) && in_bits (get_or (set ss from x) from no_state).successors.bits t) (length-set ss from x)
      ∙ ap (λ b. (b && ltb t (length ss)) && in_bits (get_or (set ss from x) from no_state).successors.bits t) (lt-ltb from (length ss) l)
      ∙ ap (λ (y : State). (true && ltb t (length ss)) && in_bits y.successors.bits t) (get_or-set_same ss from x no_state l)

  was_from : (t : ℕ) → move_within ss from t ≡ ((true && ltb t (length ss)) && old t)
  was_from t = ap (λ b. (b && ltb t (length ss)) && old t) (lt-ltb from (length ss) l)

  elsewhere : (s t : ℕ) → (s ≡ from → ⊥) → move_within (set ss from x) s t ≡ move_within ss s t
  elsewhere s t ne =
      ap (λ n. (ltb s n && ltb t n) && in_bits (get_or (set ss from x) s no_state).successors.bits t) (length-set ss from x)
      ∙ ap (λ (y : State). (ltb s (length ss) && ltb t (length ss)) && in_bits y.successors.bits t) (get_or-set_other ss from s x no_state ne)

  pub joined : Same (in_bits x.successors.bits) (plus old to) → move_within (set ss from x) ≡ (λ s t. (eqb s from && eqb t to) || move_within ss s t)
  joined is = fun_ext (λ s. fun_ext (λ t. elim (cases_eq s from) [
    | inl e ↦
        ap (λ v. move_within (set ss from x) v t) e ∙ at_from t ∙ ap (λ b. (true && ltb t (length ss)) && b) (is t)
        ∙ joined_here (eqb t to) (ltb t (length ss)) (old t) (λ q. ap (λ v. ltb v (length ss)) (eqb-true t to q) ∙ lt-ltb to (length ss) k)
        ∙ sym (ap (λ b. (b && eqb t to) || move_within ss s t) (eq-eqb s from e) ∙ ap (λ v. eqb t to || move_within ss v t) e ∙ ap (λ b. eqb t to || b) (was_from t))
    | inr ne ↦ elsewhere s t ne ∙ sym (ap (λ b. (b && eqb t to) || move_within ss s t) (ne_eqb s from ne))
  ]))

  pub cut : Same (in_bits x.successors.bits) (minus old to) → move_within (set ss from x) ≡ (λ s t. not (eqb s from && eqb t to) && move_within ss s t)
  cut is = fun_ext (λ s. fun_ext (λ t. elim (cases_eq s from) [
    | inl e ↦
        ap (λ v. move_within (set ss from x) v t) e ∙ at_from t ∙ ap (λ b. (true && ltb t (length ss)) && b) (is t)
        ∙ cut_here (eqb t to) (ltb t (length ss)) (old t)
        ∙ sym (ap (λ b. not (b && eqb t to) && move_within ss s t) (eq-eqb s from e) ∙ ap (λ v. not (eqb t to) && move_within ss v t) e ∙ ap (λ b. not (eqb t to) && b) (was_from t))
    | inr ne ↦ elsewhere s t ne ∙ sym (ap (λ b. not (b && eqb t to) && move_within ss s t) (ne_eqb s from ne))
  ]))
