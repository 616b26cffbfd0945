-- An accepted edit is taken back by its inverse.
use Rattle.std.proofs.Common.{◌≡◌, ℕ, ◌^◌, ◌<◌, Bool, true, false, cond, not, ◌&&◌, ◌||◌, eqb, ltb, leb, List, [], ◌∷◌, None, sym, refl, ap, ◌∙◌, ⊎_elim, arith}
use mathlib.Core.Path.{fun_ext}
use Rattle.std.proofs.lemmas.Bool.{and_parts, and_from, cases_Bool, cond-false, eq-eqb, eqb-true, le-leb, lt-leb, lt-ltb, ltb-true, not-false, not_from_false, not_from_true, or_left, both_ways}
use Rattle.semantics.specs.Sheets.{Sheet}
use Rattle.semantics.specs.Validity.{Valid, move_count}
use Rattle.semantics.specs.Edits.{Edit, join_move, cut_move, set_value, set_marks, the_position, the_copy, with_moves, with_values, edited, first_of, edit_checks, other_move}
use Rattle.semantics.specs.Undoing.{inverse, EditsUndone}
use Rattle.semantics.proofs.Quantifiers.{any_says, all_says}
use Rattle.semantics.proofs.Counts.{count_mono, count_falls}
use Rattle.semantics.proofs.EditValid.{Clear, clear_from}
use Rattle.semantics.proofs.MoveCounts.{moves_fall}

first_clear : (xs : List (Bool × ℕ)) → Clear xs → first_of xs ≡ None
first_clear [] c = refl
first_clear (x ∷ xs) c = cond-false x.0 _ _ c.0 ∙ first_clear xs c.1

-- a move that was absent is joined and cut again
rejoined : (a m : Bool) → (a ≡ true → m ≡ false) → (not a && (a || m)) ≡ m
rejoined true m off = sym (off refl)
rejoined false m off = refl

-- a move that was present is cut and joined again
recut : (a m : Bool) → (a ≡ true → m ≡ true) → (a || (not a && m)) ≡ m
recut true m on = sym (on refl)
recut false m on = refl

-- a value that is set and set back
reset : (b : Bool) (v w x : ℕ) → (b ≡ true → w ≡ x) → cond b w (cond b v x) ≡ x
reset true v w x same = same refl
reset false v w x same = refl

module _ (h : Sheet) (v : Valid h) where
  at_move : (m : ℕ → ℕ → Bool) (from to s t : ℕ) → (eqb s from && eqb t to) ≡ true → m s t ≡ m from to
  at_move m from to s t e = let p = and_parts (eqb s from) (eqb t to) e in rw (eqb-true s from p.0, eqb-true t to p.1) refl

  here : (from to : ℕ) → (eqb from from && eqb to to) ≡ true
  here from to = and_from (eqb from from) (eqb to to) (eq-eqb from from refl) (eq-eqb to to refl)

  join_undone : (from to : ℕ) → from < h.states → to < h.states → h.moves from to ≡ false →
      (Clear (edit_checks (edited h (join_move from to)) 0 (cut_move from to))) × (edited (edited h (join_move from to)) (cut_move from to) ≡ h)
  join_undone from to l k off = (
    (not_from_true _ (and_from _ _ (lt-ltb _ _ l) (lt-ltb _ _ k)), (not_from_true _ (or_left _ _ (here from to)), (not_from_true _ other, (refl, tt)))),
    ap (with_moves h) (fun_ext (λ s. fun_ext (λ t. rejoined (eqb s from && eqb t to) (h.moves s t) (λ e. at_move h.moves from to s t e ∙ off)))),
  )
    where
      -- the move that the state had before is another one
      other : other_move (edited h (join_move from to)) from to ≡ true
      other =
          let x = (any_says h.states (h.moves from)).0 ((all_says h.states _).0 v.moves_leave from l) in
          let ne : eqb x.0 to ≡ false = ⊎_elim (λ e. absurd (both_ways (h.moves from to) off (ap (h.moves from) (sym (eqb-true x.0 to e)) ∙ x.2))) (λ e. e) (cases_Bool (eqb x.0 to)) in
          (any_says h.states (λ t. ((eqb from from && eqb t to) || h.moves from t) && not (eqb t to))).1
          (x.0, x.1, and_from _ _ (rw x.2 (or_true (eqb from from && eqb x.0 to))) (not_from_false _ ne))
        where
          or_true : (b : Bool) → (b || true) ≡ true
          or_true true = refl
          or_true false = refl

  cut_undone : (from to : ℕ) → from < h.states → to < h.states → h.moves from to ≡ true →
      (Clear (edit_checks (edited h (cut_move from to)) 0 (join_move from to))) × (edited (edited h (cut_move from to)) (join_move from to) ≡ h)
  cut_undone from to l k on = (
    (not_from_true _ (and_from _ _ (lt-ltb _ _ l) (lt-ltb _ _ k)), (gone, (lt-leb _ _ (omega (arith, fewer, v.moves_few)), (refl, tt)))),
    ap (with_moves h) (fun_ext (λ s. fun_ext (λ t. recut (eqb s from && eqb t to) (h.moves s t) (λ e. at_move h.moves from to s t e ∙ on)))),
  )
    where
      m : ℕ → ℕ → Bool
      m s t = not (eqb s from && eqb t to) && h.moves s t

      gone : m from to ≡ false
      gone = ap (λ b. not b && h.moves from to) (here from to)

      sub : (s t : ℕ) → m s t ≡ true → h.moves s t ≡ true
      sub s t e = (and_parts (not (eqb s from && eqb t to)) (h.moves s t) e).1

      fewer : move_count (edited h (cut_move from to)) < move_count h
      fewer =
          moves_fall (with_moves h m) h from (λ s. count_mono h.states (m s) (h.moves s) (sub s))
          (count_falls h.states (m from) (h.moves from) (sub from) to k gone on) h.states l

  position_undone : (s i x : ℕ) → s < h.states → i < h.parties →
      (Clear (edit_checks (edited h (set_value s i the_position x)) 0 (set_value s i the_position (h.position s i))))
      × (edited (edited h (set_value s i the_position x)) (set_value s i the_position (h.position s i)) ≡ h)
  position_undone s i x l k = (
    (not_from_true _ (and_from _ _ (lt-ltb _ _ l) (and_from _ _ (lt-ltb _ _ k) (le-leb _ _ (v.positions_fit s i)))), (refl, tt)),
    ap (λ p. with_values h h.mark_sum p h.copy) (fun_ext (λ t. fun_ext (λ j.
        reset (eqb t s && eqb j i) x (h.position s i) (h.position t j)
        (λ e. let q = and_parts (eqb t s) (eqb j i) e in rw (eqb-true t s q.0, eqb-true j i q.1) refl)))),
  )

  copy_undone : (s i c x : ℕ) → s < h.states → i < h.parties → c < h.channels → h.holds c i ≡ true →
      (Clear (edit_checks (edited h (set_value s i (the_copy c) x)) 0 (set_value s i (the_copy c) (h.copy s i c))))
      × (edited (edited h (set_value s i (the_copy c) x)) (set_value s i (the_copy c) (h.copy s i c)) ≡ h)
  copy_undone s i c x l k d held = (
    (
      not_from_true _ (and_from _ _ (lt-ltb _ _ l) (and_from _ _ (lt-ltb _ _ k) (and_from _ _ (lt-ltb _ _ d) (le-leb _ _ (v.copies_fit s i c))))),
      (not_from_true _ held, (refl, tt)),
    ),
    ap (with_values h h.mark_sum h.position) (fun_ext (λ t. fun_ext (λ j. fun_ext (λ e.
        reset (eqb t s && (eqb j i && eqb e c)) x (h.copy s i c) (h.copy t j e)
        (λ q. let p = and_parts (eqb t s) (eqb j i && eqb e c) q in let r = and_parts (eqb j i) (eqb e c) p.1 in
        rw (eqb-true t s p.0, eqb-true j i r.0, eqb-true e c r.1) refl))))),
  )

  marks_undone : (s x : ℕ) → s < h.states →
      (Clear (edit_checks (edited h (set_marks s x)) 0 (set_marks s (h.mark_sum s)))) × (edited (edited h (set_marks s x)) (set_marks s (h.mark_sum s)) ≡ h)
  marks_undone s x l = (
    (not_from_true _ (and_from _ _ (lt-ltb _ _ l) (lt-ltb _ _ (v.marks_fit s))), (refl, tt)),
    ap (λ m. with_values h m h.position h.copy) (fun_ext (λ t. reset (eqb t s) x (h.mark_sum s) (h.mark_sum t) (λ e. ap h.mark_sum (sym (eqb-true t s e))))),
  )

  undone : (k : ℕ) (e : Edit) → Clear (edit_checks h k e) → (Clear (edit_checks (edited h e) 0 (inverse h e))) × (edited (edited h e) (inverse h e) ≡ h)
  undone k (join_move from to) c =
      let p = and_parts (ltb from h.states) (ltb to h.states) (not-false _ c.0) in join_undone from to (ltb-true _ _ p.0) (ltb-true _ _ p.1) c.1.0
  undone k (cut_move from to) c =
      let p = and_parts (ltb from h.states) (ltb to h.states) (not-false _ c.0) in
      cut_undone from to (ltb-true _ _ p.0) (ltb-true _ _ p.1) (not-false _ c.1.0)
  undone k (set_value s i the_position x) c =
      let p = and_parts (ltb s h.states) _ (not-false _ c.0) in
      let q = and_parts (ltb i h.parties) (leb x 999) p.1 in
      position_undone s i x (ltb-true _ _ p.0) (ltb-true _ _ q.0)
  undone k (set_value s i (the_copy d) x) c =
      let p = and_parts (ltb s h.states) _ (not-false _ c.0) in
      let q = and_parts (ltb i h.parties) _ p.1 in
      let r = and_parts (ltb d h.channels) (leb x 999) q.1 in
      copy_undone s i d x (ltb-true _ _ p.0) (ltb-true _ _ q.0) (ltb-true _ _ r.0) (not-false _ c.1.0)
  undone k (set_marks s x) c =
      let p = and_parts (ltb s h.states) (ltb x (2 ^ h.marks)) (not-false _ c.0) in marks_undone s x (ltb-true _ _ p.0)

pub edits_undone : EditsUndone
edits_undone h v k e ok =
    let u = undone h v k e (clear_from (edit_checks h k e) ok) in (first_clear (edit_checks (edited h e) 0 (inverse h e)) u.0, u.1)
