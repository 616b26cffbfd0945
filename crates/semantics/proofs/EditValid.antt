-- An edit that passes its checks leaves the sheet valid.
use Rattle.std.proofs.Common.{◌≡◌, ℕ, ◌+◌, ◌^◌, ◌<◌, ◌≤◌, Bool, true, false, not, ◌&&◌, ◌||◌, eqb, ltb, leb, List, [], ◌∷◌, Some, None, sym, refl, ap, ◌∙◌, ⊎_elim, arith}
use Rattle.std.proofs.lemmas.Bool.{and_parts, and_from, and_left, and_right, or_cases, or_right, not-true, not-false, not_from_false, cond-true, cond-false, cond_both, cases_Bool, cases_eq, ltb-true, leb-true, leb-false, eqb-true, ne_eqb}
use Rattle.semantics.specs.Sets.{has_step}
use Rattle.semantics.specs.Sheets.{Sheet, Line, mark, negation, disjunction, next, globally, until, commitment, fulfilment}
use Rattle.semantics.specs.Validity.{Valid, paired, line_fits, lines_fit, moves_from, move_count}
use Rattle.semantics.specs.Edits.{Edit, join_move, cut_move, set_value, set_marks, the_position, the_copy, with_moves, with_values, edited, first_of, other_move, edit_checks}
use Rattle.semantics.proofs.Quantifiers.{any_says, all_says}
use Rattle.semantics.proofs.Counts.{count_mono}
use Rattle.semantics.proofs.MoveCounts.{moves_fewer, moves_joined}

-- every check passes
abbrev pub Clear : List (Bool × ℕ) → Type 0
Clear [] = Unit {0}
Clear (x ∷ xs) = (x.0 ≡ false) × Clear xs

pub clear_from : (xs : List (Bool × ℕ)) → first_of xs ≡ None → Clear xs
clear_from [] e = tt
clear_from (x ∷ xs) e = ⊎_elim
    (λ on. let c : Some x.1 ≡ None = sym (cond-true x.0 _ _ on) ∙ e in let z : ◌≡◌ {A = ℕ} 0 1 = cc in absurd (omega arith))
    (λ off. (off, clear_from xs (sym (cond-false x.0 _ _ off) ∙ e)))
    (cases_Bool x.0)

-- the lines fit where marks and pairs stay
pub lines_same : (g h : Sheet) → g.marks ≡ h.marks → ((i j : ℕ) → paired g i j ≡ paired h i j) → (ls : List Line) (k : ℕ) → lines_fit g k ls ≡ lines_fit h k ls
lines_same g h m p [] k = refl
lines_same g h m p (l ∷ ls) k = ap (λ b. b && lines_fit g (k + 1) ls) (line l) ∙ ap (λ b. line_fits h k l && b) (lines_same g h m p ls (k + 1))
  where
    line : (l : Line) → line_fits g k l ≡ line_fits h k l
    line (mark x) = ap (ltb x) m
    line (negation a) = refl
    line (disjunction a b) = refl
    line (next a) = refl
    line (globally a) = refl
    line (until a b) = refl
    line (commitment i j a) = ap (λ b. b && ltb a k) (p i j)
    line (fulfilment i j a) = ap (λ b. b && ltb a k) (p i j)

module _ (h : Sheet) (v : Valid h) where
  -- other moves, that exist, are few and leave every state
  moves_valid : (m : ℕ → ℕ → Bool) → ((s t : ℕ) → m s t ≡ true → (s < h.states) × (t < h.states)) →
      moves_from (with_moves h m) h.states ≤ 1024 → ((s : ℕ) → s < h.states → (t : ℕ) × (t < h.states) × (m s t ≡ true)) → Valid (with_moves h m)
  moves_valid m exist few leave = record {
    sizes_fit = v.sizes_fit;
    holders_exist = v.holders_exist;
    starts_exist = v.starts_exist;
    marks_fit = v.marks_fit;
    marks_placed = v.marks_placed;
    positions_fit = v.positions_fit;
    positions_placed = v.positions_placed;
    copies_fit = v.copies_fit;
    copies_placed = v.copies_placed;
    moves_exist = exist;
    moves_few = few;
    some_start = v.some_start;
    moves_leave = (all_says h.states (has_step h.states m)).1 (λ s l. (any_says h.states (m s)).1 (leave s l));
    lines_fit = lines_same (with_moves h m) h refl (λ i j. refl) h.lines 0 ∙ v.lines_fit;
  }

  a_move : (s : ℕ) → s < h.states → (t : ℕ) × (t < h.states) × (h.moves s t ≡ true)
  a_move s l = (any_says h.states (h.moves s)).0 ((all_says h.states (has_step h.states h.moves)).0 v.moves_leave s l)

  join_valid : (from to : ℕ) → from < h.states → to < h.states → move_count h < 1024 → Valid (edited h (join_move from to))
  join_valid from to l k few =
      moves_valid m
      (λ s t e. ⊎_elim
      (λ here. let p = and_parts (eqb s from) (eqb t to) here in let q = eqb-true s from p.0 in let r = eqb-true t to p.1 in (omega arith, omega arith))
      (v.moves_exist s t) (or_cases (eqb s from && eqb t to) (h.moves s t) e))
      (omega (arith, moves_joined h h.moves from to h.states))
      (λ s b. let x = a_move s b in (x.0, x.1, or_right (eqb s from && eqb x.0 to) (h.moves s x.0) x.2))
    where
      m : ℕ → ℕ → Bool
      m s t = (eqb s from && eqb t to) || h.moves s t

  cut_valid : (from to : ℕ) → other_move h from to ≡ true → Valid (edited h (cut_move from to))
  cut_valid from to other =
      moves_valid m
      (λ s t e. v.moves_exist s t (and_parts (not (eqb s from && eqb t to)) (h.moves s t) e).1)
      (omega (
        arith,
        v.moves_few,
        moves_fewer (with_moves h m) h
            (λ s. count_mono h.states (m s) (h.moves s) (λ t e. (and_parts (not (eqb s from && eqb t to)) (h.moves s t) e).1)) h.states,
      ))
      (λ s b. ⊎_elim (λ e. here s e) (λ ne. let x = a_move s b in
      (x.0, x.1, and_from (not (eqb s from && eqb x.0 to)) _ (not_from_false _ (and_left (eqb s from) (eqb x.0 to) (ne_eqb s from ne))) x.2)) (cases_eq s from))
    where
      m : ℕ → ℕ → Bool
      m s t = not (eqb s from && eqb t to) && h.moves s t

      here : (s : ℕ) → s ≡ from → (t : ℕ) × (t < h.states) × (m s t ≡ true)
      here s e =
          let x = (any_says h.states (λ t. h.moves from t && not (eqb t to))).0 other in
          let p = and_parts (h.moves from x.0) (not (eqb x.0 to)) x.2 in
          (x.0, x.1, and_from (not (eqb s from && eqb x.0 to)) _ (not_from_false _ (and_right (eqb s from) (eqb x.0 to) (not-true _ p.1))) (rw e p.0))

  -- other values, that fit and stand where they have a place
  values_valid : (m : ℕ → ℕ) (p : ℕ → ℕ → ℕ) (c : ℕ → ℕ → ℕ → ℕ) → ((s : ℕ) → m s < 2 ^ h.marks) → ((s : ℕ) → 0 < m s → s < h.states) →
      ((s i : ℕ) → p s i ≤ 999) → ((s i : ℕ) → 0 < p s i → (s < h.states) × (i < h.parties)) →
      ((s i j : ℕ) → c s i j ≤ 999) → ((s i j : ℕ) → 0 < c s i j → (s < h.states) × (h.holds j i ≡ true)) → Valid (with_values h m p c)
  values_valid m p c m-fit m-placed p-fit p-placed c-fit c-placed = record {
    sizes_fit = v.sizes_fit;
    holders_exist = v.holders_exist;
    starts_exist = v.starts_exist;
    marks_fit = m-fit;
    marks_placed = m-placed;
    positions_fit = p-fit;
    positions_placed = p-placed;
    copies_fit = c-fit;
    copies_placed = c-placed;
    moves_exist = v.moves_exist;
    moves_few = omega (arith, v.moves_few, moves_fewer (with_values h m p c) h (λ s. omega arith) h.states);
    some_start = v.some_start;
    moves_leave = v.moves_leave;
    lines_fit = lines_same (with_values h m p c) h refl (λ i j. refl) h.lines 0 ∙ v.lines_fit;
  }

  position_valid : (s i x : ℕ) → s < h.states → i < h.parties → x ≤ 999 → Valid (edited h (set_value s i the_position x))
  position_valid s i x ls li lx =
      values_valid h.mark_sum _ h.copy v.marks_fit v.marks_placed
      (λ t j. cond_both (eqb t s && eqb j i) x (h.position t j) (λ y. y ≤ 999) (λ _. lx) (λ _. v.positions_fit t j))
      (λ t j. cond_both (eqb t s && eqb j i) x (h.position t j) (λ y. 0 < y → (t < h.states) × (j < h.parties))
      (λ e _. let q = and_parts (eqb t s) (eqb j i) e in let a = eqb-true t s q.0 in let b = eqb-true j i q.1 in (omega arith, omega arith))
      (λ _. v.positions_placed t j))
      v.copies_fit v.copies_placed

  copy_valid : (s i c x : ℕ) → s < h.states → h.holds c i ≡ true → x ≤ 999 → Valid (edited h (set_value s i (the_copy c) x))
  copy_valid s i c x ls held lx =
      values_valid h.mark_sum h.position _ v.marks_fit v.marks_placed v.positions_fit v.positions_placed
      (λ t j d. cond_both (eqb t s && (eqb j i && eqb d c)) x (h.copy t j d) (λ y. y ≤ 999) (λ _. lx) (λ _. v.copies_fit t j d))
      (λ t j d. cond_both (eqb t s && (eqb j i && eqb d c)) x (h.copy t j d) (λ y. 0 < y → (t < h.states) × (h.holds d j ≡ true))
      (λ e _.
      let q = and_parts (eqb t s) (eqb j i && eqb d c) e in
      let r = and_parts (eqb j i) (eqb d c) q.1 in
      let a = eqb-true t s q.0 in
      (omega arith, rw (eqb-true j i r.0, eqb-true d c r.1) held))
      (λ _. v.copies_placed t j d))

  marks_valid : (s x : ℕ) → s < h.states → x < 2 ^ h.marks → Valid (edited h (set_marks s x))
  marks_valid s x ls lx =
      values_valid _ h.position h.copy
      (λ t. cond_both (eqb t s) x (h.mark_sum t) (λ y. y < 2 ^ h.marks) (λ _. lx) (λ _. v.marks_fit t))
      (λ t. cond_both (eqb t s) x (h.mark_sum t) (λ y. 0 < y → t < h.states) (λ e _. let a = eqb-true t s e in omega arith) (λ _. v.marks_placed t))
      v.positions_fit v.positions_placed v.copies_fit v.copies_placed

  pub edit_valid : (n : ℕ) (e : Edit) → Clear (edit_checks h n e) → Valid (edited h e)
  edit_valid n (join_move from to) c =
      let p = and_parts (ltb from h.states) (ltb to h.states) (not-false _ c.0) in
      join_valid from to (ltb-true _ _ p.0) (ltb-true _ _ p.1) (leb-false _ _ c.1.1.0)
  edit_valid n (cut_move from to) c = cut_valid from to (not-false _ c.1.1.0)
  edit_valid n (set_value s i the_position x) c =
      let p = and_parts (ltb s h.states) _ (not-false _ c.0) in
      let q = and_parts (ltb i h.parties) (leb x 999) p.1 in
      position_valid s i x (ltb-true _ _ p.0) (ltb-true _ _ q.0) (leb-true _ _ q.1)
  edit_valid n (set_value s i (the_copy d) x) c =
      let p = and_parts (ltb s h.states) _ (not-false _ c.0) in
      let q = and_parts (ltb i h.parties) _ p.1 in
      let r = and_parts (ltb d h.channels) (leb x 999) q.1 in
      copy_valid s i d x (ltb-true _ _ p.0) (not-false _ c.1.0) (leb-true _ _ r.1)
  edit_valid n (set_marks s x) c =
      let p = and_parts (ltb s h.states) (ltb x (2 ^ h.marks)) (not-false _ c.0) in
      marks_valid s x (ltb-true _ _ p.0) (ltb-true _ _ p.1)
