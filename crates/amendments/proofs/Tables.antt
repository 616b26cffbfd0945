-- The model of a table of states in which one state is another.
use Rattle.std.proofs.Common.{◌≡◌, ℕ, ◌<◌, cond, ◌&&◌, eqb, ltb, List, map, length, get_or, set, sym, refl, ap, ◌∙◌, inl, inr, length-set}
use mathlib.Core.Path.{fun_ext}
use Rattle.std.proofs.lemmas.List.{get_or-set_other, get_or-set_same}
use Rattle.std.proofs.lemmas.Bool.{cases_eq, cond-false, cond-true, eq-eqb, ne_eqb}
use Rattle.semantics.specs.Edits.{with_moves, with_values, edited, set_marks}
use Rattle.sets.specs.Bits.{in_bits}
use Rattle.sheets.specs.declared.holders.Holders.{Holders}
use Rattle.sheets.specs.declared.parts.Header.{Header}
use Rattle.sheets.specs.declared.parts.Row.{Row}
use Rattle.sheets.specs.declared.parts.State.{State}
use Rattle.sheets.specs.Holding.{held}
use Rattle.sheets.specs.Model.{model_from, local_at, line_of}
use Rattle.sheets.specs.Moves.{no_state, no_local, move_within}

module _ (ss : List State) (at : ℕ) (x : State) (l : at < length ss) where
  -- what stands at a place of the table
  abbrev now_at : ℕ → State
  now_at k = get_or (set ss at x) k no_state

  abbrev was_at : ℕ → State
  was_at k = get_or ss k no_state

  pub here : now_at at ≡ x
  here = get_or-set_same ss at x no_state l

  pub elsewhere : (k : ℕ) → (k ≡ at → ⊥) → now_at k ≡ was_at k
  elsewhere k ne = get_or-set_other ss at k x no_state ne

  -- what the new state has in common with the old one
  pub kept : {X : Type 0} (f : State → X) → f x ≡ f (was_at at) → (k : ℕ) → f (now_at k) ≡ f (was_at k)
  kept f same k = elim (cases_eq k at) [
    | inl e ↦ ap (λ j. f (now_at j)) e ∙ ap f here ∙ same ∙ ap (λ j. f (was_at j)) (sym e)
    | inr ne ↦ ap f (elsewhere k ne)
  ]

  module _ (head : Header) (who : Holders) (rows : List Row) where
    -- the new state has other successors alone
    pub moves_changed : x.start ≡ (was_at at).start → x.marks ≡ (was_at at).marks → x.locals ≡ (was_at at).locals →
        model_from head who (set ss at x) rows ≡ with_moves (model_from head who ss rows) (move_within (set ss at x))
    moves_changed start marks locals = λ i. record {
      number = head.number;
      parties = head.parties;
      channels = head.channels;
      states = length-set ss at x i;
      marks = head.marks;
      holds = held who;
      start = fun_ext (kept (λ s. s.start) start) i;
      mark_sum = fun_ext (kept (λ s. s.marks) marks) i;
      position = fun_ext (λ k. fun_ext (λ p. ap (λ ls. cond (ltb p head.parties) (get_or ls p no_local).position 0) (kept (λ s. s.locals) locals k))) i;
      copy = fun_ext (λ k. fun_ext (λ p. fun_ext (λ c. ap (λ ls. cond (held who c p) (get_or (get_or ls p no_local).copies c 0) 0) (kept (λ s. s.locals) locals k)))) i;
      moves = move_within (set ss at x);
      lines = map line_of rows;
    }

    -- the new state has other marks and local states alone
    pub values_changed : (m : ℕ → ℕ) (p : ℕ → ℕ → ℕ) (c : ℕ → ℕ → ℕ → ℕ) → x.start ≡ (was_at at).start → x.successors ≡ (was_at at).successors →
        ((k : ℕ) → (now_at k).marks ≡ m k) → ((k j : ℕ) → cond (ltb j head.parties) (local_at (set ss at x) k j).position 0 ≡ p k j) →
        ((k j d : ℕ) → cond (held who d j) (get_or (local_at (set ss at x) k j).copies d 0) 0 ≡ c k j d) →
        model_from head who (set ss at x) rows ≡ with_values (model_from head who ss rows) m p c
    values_changed m p c start successors marks positions copies = λ i. record {
      number = head.number;
      parties = head.parties;
      channels = head.channels;
      states = length-set ss at x i;
      marks = head.marks;
      holds = held who;
      start = fun_ext (kept (λ s. s.start) start) i;
      mark_sum = fun_ext marks i;
      position = fun_ext (λ k. fun_ext (positions k)) i;
      copy = fun_ext (λ k. fun_ext (λ j. fun_ext (copies k j))) i;
      moves = fun_ext (λ s. fun_ext (λ t.
          ap (λ n. (ltb s n && ltb t n) && in_bits (now_at s).successors.bits t) (length-set ss at x)
          ∙ ap (λ (b : _). (ltb s (length ss) && ltb t (length ss)) && in_bits b.bits t) (kept (λ s. s.successors) successors s))) i;
      lines = map line_of rows;
    }

    -- a function of the table that is another at one state
    changed : (f : State → ℕ) (y : ℕ) → f x ≡ y → (k : ℕ) → f (now_at k) ≡ cond (eqb k at) y (f (was_at k))
    changed f y is k = elim (cases_eq k at) [
      | inl e ↦ ap (λ j. f (now_at j)) e ∙ ap f here ∙ is ∙ sym (cond-true (eqb k at) y (f (was_at k)) (eq-eqb k at e))
      | inr ne ↦ ap f (elsewhere k ne) ∙ sym (cond-false (eqb k at) y (f (was_at k)) (ne_eqb k at ne))
    ]

    -- other marks alone
    pub marks_changed : x.start ≡ (was_at at).start → x.successors ≡ (was_at at).successors → x.locals ≡ (was_at at).locals →
        model_from head who (set ss at x) rows ≡ edited (model_from head who ss rows) (set_marks at x.marks)
    marks_changed start successors locals =
        values_changed _ _ _ start successors (changed (λ s. s.marks) x.marks refl)
        (λ k p. ap (λ ls. cond (ltb p head.parties) (get_or ls p no_local).position 0) (kept (λ s. s.locals) locals k))
        (λ k p c. ap (λ ls. cond (held who c p) (get_or (get_or ls p no_local).copies c 0) 0) (kept (λ s. s.locals) locals k))
