-- The model of a table of states in which one local state is another.
use Rattle.std.proofs.Common.{◌≡◌, ℕ, ◌<◌, Bool, true, false, cond, ◌&&◌, eqb, ltb, List, length, get_or, set, sym, refl, ap, ◌∙◌, inl, inr}
use Rattle.std.proofs.lemmas.Bool.{and_parts, cases_eq, cond-true, eq-eqb, eqb-true, lt-ltb, ne_eqb}
use Rattle.semantics.specs.Edits.{edited, set_value, the_position, the_copy}
use Rattle.sheets.specs.declared.holders.Holders.{Holders}
use Rattle.sheets.specs.declared.parts.Header.{Header}
use Rattle.sheets.specs.declared.parts.Local.{Local}
use Rattle.sheets.specs.declared.parts.Row.{Row}
use Rattle.sheets.specs.declared.parts.State.{State}
use Rattle.sheets.specs.Holding.{held}
use Rattle.sheets.specs.Model.{model_from, local_at}
use Rattle.sheets.specs.Moves.{no_state, no_local}
use Rattle.amendments.proofs.Tables.{here, elsewhere, kept, values_changed}

-- a number where a test holds, which then is a party of the sheet
pub position_set : (b l : Bool) (new old : Local) (v : ℕ) → (b ≡ true → l ≡ true) → new.position ≡ v → cond l (cond b new old).position 0 ≡ cond b v (cond l old.position 0)
position_set true l new old v on is = cond-true l new.position 0 (on refl) ∙ is
position_set false l new old v on is = refl

-- a local state that differs in other things
pub same_position_law : (b l : Bool) (new old : Local) → (b ≡ true → new.position ≡ old.position) → cond l (cond b new old).position 0 ≡ cond l old.position 0
same_position_law true l new old is = ap (λ v. cond l v 0) (is refl)
same_position_law false l new old is = refl

pub same_copy : (b h : Bool) (new old : Local) (d : ℕ) → (b ≡ true → new.copies ≡ old.copies) → cond h (get_or (cond b new old).copies d 0) 0 ≡ cond h (get_or old.copies d 0) 0
same_copy true h new old d is = ap (λ cs. cond h (get_or cs d 0) 0) (is refl)
same_copy false h new old d is = refl

pub copy_set : (a b e h : Bool) (new old : Local) (d v : ℕ) → ((a && b) ≡ true → get_or new.copies d 0 ≡ cond e v (get_or old.copies d 0)) →
    ((a && (b && e)) ≡ true → h ≡ true) → cond h (get_or (cond (a && b) new old).copies d 0) 0 ≡ cond (a && (b && e)) v (cond h (get_or old.copies d 0) 0)
copy_set true true true h new old d v is on = cond-true h _ 0 (on refl) ∙ is refl
copy_set true true false h new old d v is on = ap (λ x. cond h x 0) (is refl)
copy_set true false e h new old d v is on = refl
copy_set false b e h new old d v is on = refl

module _ (ss : List State) (at : ℕ) (x : State) (l : at < length ss) (party : ℕ) (new : Local)
    (locals : (p : ℕ) → get_or x.locals p no_local ≡ cond (eqb p party) new (get_or (get_or ss at no_state).locals p no_local)) where
  local_at_law : (k j : ℕ) → local_at (set ss at x) k j ≡ cond (eqb k at && eqb j party) new (local_at ss k j)
  local_at_law k j = elim (cases_eq k at) [
    | inl e ↦
        ap (λ i. local_at (set ss at x) i j) e ∙ ap (λ (s : State). get_or s.locals j no_local) (here ss at x l) ∙ locals j
        ∙ sym (ap (λ b. cond (b && eqb j party) new (local_at ss k j)) (eq-eqb k at e) ∙ ap (λ i. cond (eqb j party) new (local_at ss i j)) e)
    | inr ne ↦ ap (λ (s : State). get_or s.locals j no_local) (elsewhere ss at x l k ne) ∙ sym (ap (λ b. cond (b && eqb j party) new (local_at ss k j)) (ne_eqb k at ne))
  ]

  old_at : (k j : ℕ) → (eqb k at && eqb j party) ≡ true → local_at ss k j ≡ local_at ss at party
  old_at k j e = let p = and_parts (eqb k at) (eqb j party) e in ap (λ i. local_at ss i j) (eqb-true k at p.0) ∙ ap (local_at ss at) (eqb-true j party p.1)

  module _ (head : Header) (who : Holders) (rows : List Row) (start : x.start ≡ (get_or ss at no_state).start) (marks : x.marks ≡ (get_or ss at no_state).marks)
      (successors : x.successors ≡ (get_or ss at no_state).successors) where
    pub position_changed : party < head.parties → new.copies ≡ (local_at ss at party).copies →
        model_from head who (set ss at x) rows ≡ edited (model_from head who ss rows) (set_value at party the_position new.position)
    position_changed k copies =
        values_changed ss at x l head who rows _ _ _ start successors (kept ss at x l (λ s. s.marks) marks)
        (λ i j. ap (λ (y : Local). cond (ltb j head.parties) y.position 0) (local_at_law i j)
        ∙ position_set (eqb i at && eqb j party) (ltb j head.parties) new (local_at ss i j) new.position
        (λ e. ap (λ p. ltb p head.parties) (eqb-true j party (and_parts (eqb i at) (eqb j party) e).1) ∙ lt-ltb party head.parties k) refl)
        (λ i j d. ap (λ (y : Local). cond (held who d j) (get_or y.copies d 0) 0) (local_at_law i j)
        ∙ same_copy (eqb i at && eqb j party) (held who d j) new (local_at ss i j) d (λ e. copies ∙ ap (λ (y : Local). y.copies) (sym (old_at i j e))))

    pub copy_changed : (channel v : ℕ) → held who channel party ≡ true → new.position ≡ (local_at ss at party).position →
        ((d : ℕ) → get_or new.copies d 0 ≡ cond (eqb d channel) v (get_or (local_at ss at party).copies d 0)) →
        model_from head who (set ss at x) rows ≡ edited (model_from head who ss rows) (set_value at party (the_copy channel) v)
    copy_changed channel v on position copies =
        values_changed ss at x l head who rows _ _ _ start successors (kept ss at x l (λ s. s.marks) marks)
        (λ i j. ap (λ (y : Local). cond (ltb j head.parties) y.position 0) (local_at_law i j)
        ∙ same_position_law (eqb i at && eqb j party) (ltb j head.parties) new (local_at ss i j) (λ e. position ∙ ap (λ (y : Local). y.position) (sym (old_at i j e))))
        (λ i j d. ap (λ (y : Local). cond (held who d j) (get_or y.copies d 0) 0) (local_at_law i j)
        ∙ copy_set (eqb i at) (eqb j party) (eqb d channel) (held who d j) new (local_at ss i j) d v
        (λ e. copies d ∙ ap (λ (y : Local). cond (eqb d channel) v (get_or y.copies d 0)) (sym (old_at i j e)))
        (λ e. let p = and_parts (eqb i at) (eqb j party && eqb d channel) e in let q = and_parts (eqb j party) (eqb d channel) p.1 in
        ap (λ c. held who c j) (eqb-true d channel q.1) ∙ ap (held who channel) (eqb-true j party q.0) ∙ on))
