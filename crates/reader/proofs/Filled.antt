-- What the tables have after each line.
use Rattle.std.proofs.Common.{◌≡◌, ℕ, ◌<◌, Bool, true, false, cond, eqb, ltb, List, [], ◌∷◌, ◌++◌, length, get_or, set, take, sym, ap, ◌∙◌, inl, inr, arith}
use Rattle.std.proofs.lemmas.List.{get_or_push, get_or_append_left, get_or_past, length_push}
use Rattle.std.proofs.lemmas.Bool.{and_parts, and_from, cases_lt, cases_eq, or_cases, eqb-true, lt-ltb}
use Rattle.std.proofs.Math.Seq.{take-append_seam}
use Rattle.semantics.specs.Sets.{Same, has_step}
use Rattle.semantics.proofs.Quantifiers.{any_says, all_says}
use Rattle.sets.specs.Member.{plus}
use Rattle.sheets.specs.declared.parts.State.{State}
use Rattle.sheets.specs.Moves.{no_state, move_in, move_within, all_move}
use Rattle.sheets.proofs.Filling.{at_set}
use Rattle.reader.specs.Reading.{Unmoved}

-- another state at place i, with the moves of the one that was there
pub unmoved_set : (ss : List State) (i : ℕ) (t : State) → Unmoved ss → t.successors ≡ (get_or ss i no_state).successors → Unmoved (set ss i t)
unmoved_set ss i t none e k = at_set (λ (s : State). s.successors.bits ≡ 0) ss i k t no_state (ap (λ b. b.bits) e ∙ none i) (none k)

pub unmoved_push : (ss : List State) (t : State) → Unmoved ss → t.successors.bits ≡ 0 → Unmoved (ss ++ t ∷ [])
unmoved_push ss t none e k = elim (cases_lt k (length ss)) [
  | inl l ↦ (ap (λ (s : State). s.successors.bits) (get_or_append_left ss (t ∷ []) no_state k l) ∙ none k)
  | inr g ↦ elim (cases_eq k (length ss)) [
    | inl is ↦ (ap (λ (s : State). s.successors.bits) (get_or_push ss t no_state k (sym is)) ∙ e)
    | inr ne ↦ ap (λ (s : State). s.successors.bits) (get_or_past (ss ++ t ∷ []) k no_state (omega (arith, length_push ss t, ne)))
  ]
]

-- a whole list of n items, whatever is behind them
pub take-append-whole : {X : Type 0} (n : ℕ) (xs ys : List X) → n ≡ length xs → take n (xs ++ ys) ≡ xs
take-append-whole n xs ys e = ap (λ k. take k (xs ++ ys)) e ∙ take-append_seam xs ys

-- a set with x put in has no other state more
pub put_adds : (r : Bool) (new old : ℕ → Bool) (x : ℕ) → Same new (cond r (plus old x) old) → (t : ℕ) → (t ≡ x → ⊥) → new t ≡ true → old t ≡ true
put_adds true new old x e t ne on = elim (or_cases (eqb t x) (old t) (sym (e t) ∙ on)) [
  | inl is ↦ absurd (ne (eqb-true t x is))
  | inr more ↦ more
]
put_adds false new old x e t ne on = sym (e t) ∙ on

-- a move to a state of the table stays within the table
step_within : (ss : List State) (k : ℕ) → has_step (length ss) (move_in ss) k ≡ true → has_step (length ss) (move_within ss) k ≡ true
step_within ss k e =
    let x = (any_says (length ss) (move_in ss k)).0 e in
    let a = and_parts (ltb k (length ss)) _ x.2 in
    (any_says (length ss) (move_within ss k)).1 (x.0, x.1, and_from _ _ (and_from _ _ a.0 (lt-ltb x.0 (length ss) x.1)) a.1)

pub all_move_law : (ss : List State) → ((k : ℕ) → k < length ss → has_step (length ss) (move_in ss) k ≡ true) → all_move ss ≡ true
unfolding all_move
all_move_law ss each = (all_says (length ss) (has_step (length ss) (move_within ss))).1 (λ k l. step_within ss k (each k l))
