-- S and L lines that were read.
use Rattle.std.proofs.Common.{◌≡◌, ℕ, zero, suc, ◌+◌, ◌^◌, ◌<◌, ◌≤◌, Bool, true, false, cond, ◌&&◌, eqb, List, [], ◌∷◌, ◌++◌, length, get_or, take, drop, replicate, Ok, decimal, sym, refl, ap, ◌∙◌, ⊎_elim, append_assoc, append-nil, zero-add, arith}
use Rattle.std.proofs.lemmas.List.{take_all, take_more}
use Rattle.std.proofs.lemmas.Bool.{and_parts, cases_eq, cond-true, cond-false, eq-eqb, eqb-true, ne_eqb, ltb-true}
use Rattle.semantics.specs.LineReading.{at}
use Rattle.semantics.specs.Sets.{count}
use Rattle.semantics.specs.SheetReading.{Reading, due_line, under, value, state_line, held_below, local_line, each_due}
use Rattle.semantics.specs.Sheets.{Sheet}
use Rattle.semantics.specs.Written.{fields_text, line_text, texts_below}
use Rattle.semantics.proofs.NumberFields.{Ranged}
use Rattle.semantics.proofs.PlainLines.{due_back}
use Rattle.semantics.proofs.SectionsBack.{AllDue, each_back}
use Rattle.semantics.proofs.SheetRows.{fields_append}
use Rattle.semantics.proofs.Uncutting.{ended}

flag : (x : ℕ) → x < 2 → cond (eqb x 1) 1 0 ≡ x
flag x l = ⊎_elim (λ e. cond-true (eqb x 1) _ _ (eq-eqb x 1 e) ∙ sym e) (λ ne. cond-false (eqb x 1) _ _ (ne_eqb x 1 ne) ∙ omega (arith, ne)) (cases_eq x 1)

-- what the S line of state s says, from its numbers
abbrev pub state_written : ℕ → List ℕ → List ℕ
state_written s xs = line_text 83 (s ∷ cond (eqb (at xs 1) 1) 1 0 ∷ at xs 2 ∷ [])

module _ (h : Sheet) where
  state_text_law : (s : ℕ) (xs : List ℕ) → Ranged (under h.states ∷ under 2 ∷ under (2 ^ h.marks) ∷ []) xs → eqb (at xs 0) s ≡ true →
      (line_text 83 xs ≡ state_written s xs) × (at xs 2 < 2 ^ h.marks)
  state_text_law s [] r e = absurd r
  state_text_law s (x ∷ []) r e = absurd r.1
  state_text_law s (x ∷ y ∷ []) r e = absurd r.1.1
  state_text_law s (x ∷ y ∷ z ∷ []) r e =
      (ap (λ v. line_text 83 (v ∷ y ∷ z ∷ [])) (eqb-true x s e) ∙ ap (λ v. line_text 83 (s ∷ v ∷ z ∷ [])) (sym (flag y (ltb-true y 2 r.1.0))), ltb-true z _ r.1.1.0)
  state_text_law s (x ∷ y ∷ z ∷ w ∷ xs) r e = absurd r.1.1.1

  state_item : (s : ℕ) (a : Reading (List (List ℕ))) (b : Reading (List ℕ)) → due_line 83 (state_line h s) a ≡ Ok b →
      (ended a.left ≡ state_written s b.known ++ ended b.left) × (at b.known 2 < 2 ^ h.marks)
  state_item s a b e =
      let d = due_back (under h.states ∷ under 2 ∷ under (2 ^ h.marks) ∷ []) (λ xs. eqb (at xs 0) s) 83 a.line a.left b e in
      let t = state_text_law s b.known d.1 d.2 in
      (d.0 ∙ ap (λ v. v ++ ended b.left) t.0, t.1)

  -- what the S lines say
  abbrev pub states_written : List (List ℕ) → List ℕ
  states_written rows = texts_below h.states (λ s. state_written s (get_or rows s []))

  pub states_back : (r : Reading Sheet) (b : Reading (List (List ℕ))) → each_due h.states (λ s. due_line 83 (state_line h s)) r ≡ Ok b →
      AllDue state_written (λ s xs. at xs 2 < 2 ^ h.marks) [] h.states r b
  states_back = each_back (λ s. due_line 83 (state_line h s)) state_written (λ s xs. at xs 2 < 2 ^ h.marks) [] state_item h.states

  ranged_values : (k : ℕ) (ys : List ℕ) → Ranged (replicate k value) ys → (length ys ≡ k) × ((i : ℕ) → at ys i < 1000)
  ranged_values zero [] r = (refl, λ i. omega arith)
  ranged_values zero (y ∷ ys) r = absurd r
  ranged_values (suc k) [] r = absurd r
  ranged_values (suc k) (y ∷ ys) r =
      let s = ranged_values k ys r.1 in
      (omega (arith, s.0), λ i. at_cons y ys i (ltb-true y 1000 r.0) s.1)
    where
      at_cons : (y : ℕ) (ys : List ℕ) (i : ℕ) → y < 1000 → ((i : ℕ) → at ys i < 1000) → at (y ∷ ys) i < 1000
      at_cons y ys zero l f = l
      at_cons y ys (suc i) l f = f i

  -- the copies of the held channels, from the numbers of the line
  abbrev copies_written : ℕ → (ℕ → Bool) → List ℕ → List ℕ
  copies_written n held ys = texts_below n (λ c. cond (held c) (44 ∷ decimal (cond (held c) (at ys (count c held)) 0)) [])

  copies_text_law : (n : ℕ) (held : ℕ → Bool) (ys : List ℕ) → count n held ≤ length ys → copies_written n held ys ≡ fields_text (take (count n held) ys)
  unfolding texts_below
  copies_text_law zero held ys l = refl
  copies_text_law (suc n) held ys l = step (held n) (count n held) l (copies_text_law n held ys (omega arith))
    where
      step : (v : Bool) (k : ℕ) → cond v 1 0 + k ≤ length ys → copies_written n held ys ≡ fields_text (take k ys) →
          copies_written n held ys ++ cond v (44 ∷ decimal (cond v (at ys k) 0)) [] ≡ fields_text (take (cond v 1 0 + k) ys)
      step true k l e =
          let one : k + 1 ≡ 1 + k = omega arith in
          ap (λ v. v ++ (44 ∷ decimal (at ys k))) e
          ∙ ap (λ v. fields_text (take k ys) ++ v) (sym (append-nil (44 ∷ decimal (at ys k))))
          ∙ sym (fields_append (take k ys) (at ys k ∷ []))
          ∙ ap fields_text (sym (take_more ys k 0 (omega arith)))
          ∙ ap (λ i. fields_text (take i ys)) one
      step false k l e = append-nil (copies_written n held ys) ∙ e ∙ ap (λ i. fields_text (take i ys)) (sym (zero-add k))

  -- what the L line of state s and party p says, from its numbers
  abbrev pub local_written : ℕ → ℕ → List ℕ → List ℕ
  local_written s p xs = (76 ∷ []) ++ (fields_text (s ∷ p ∷ at xs 2 ∷ []) ++ (copies_written h.channels (λ c. h.holds c p) (drop 3 xs) ++ 10 ∷ []))

  -- its values are below 1000
  abbrev pub SmallValues : List ℕ → Type 0
  SmallValues xs = (at xs 2 < 1000) × ((i : ℕ) → at (drop 3 xs) i < 1000)

  local_text_law : (s p : ℕ) (xs : List ℕ) → Ranged (under h.states ∷ under h.parties ∷ value ∷ replicate (held_below h h.channels p) value) xs →
      (eqb (at xs 0) s && eqb (at xs 1) p) ≡ true → (line_text 76 xs ≡ local_written s p xs) × (SmallValues xs)
  local_text_law s p [] r e = absurd r
  local_text_law s p (x ∷ []) r e = absurd r.1
  local_text_law s p (x ∷ y ∷ []) r e = absurd r.1.1
  local_text_law s p (x ∷ y ∷ z ∷ ys) r e =
      let due = and_parts (eqb x s) (eqb y p) e in
      let k = held_below h h.channels p in
      let w = ranged_values k ys r.1.1.1 in
      let copies : fields_text ys ≡ copies_written h.channels (λ c. h.holds c p) ys =
      ap fields_text (sym (take_all k ys (omega (arith, w.0)))) ∙ sym (copies_text_law h.channels (λ c. h.holds c p) ys (omega (arith, w.0))) in (
        ap (λ v. line_text 76 (v ∷ y ∷ z ∷ ys)) (eqb-true x s due.0)
            ∙ ap (λ v. line_text 76 (s ∷ v ∷ z ∷ ys)) (eqb-true y p due.1)
            ∙ ap (λ v. 76 ∷ (v ++ 10 ∷ [])) (fields_append (s ∷ p ∷ z ∷ []) ys)
            ∙ ap (λ v. 76 ∷ v) (append_assoc (fields_text (s ∷ p ∷ z ∷ [])) (fields_text ys) (10 ∷ []))
            ∙ ap (λ v. 76 ∷ (fields_text (s ∷ p ∷ z ∷ []) ++ (v ++ 10 ∷ []))) copies,
        (ltb-true z 1000 r.1.1.0, w.1),
      )

  local_item : (s p : ℕ) (a : Reading (List (List ℕ))) (b : Reading (List ℕ)) → due_line 76 (local_line h s p) a ≡ Ok b →
      (ended a.left ≡ local_written s p b.known ++ ended b.left) × (SmallValues b.known)
  local_item s p a b e =
      let d = due_back (under h.states ∷ under h.parties ∷ value ∷ replicate (held_below h h.channels p) value)
      (λ xs. eqb (at xs 0) s && eqb (at xs 1) p) 76 a.line a.left b e in
      let t = local_text_law s p b.known d.1 d.2 in
      (d.0 ∙ ap (λ v. v ++ ended b.left) t.0, t.1)

  -- the L lines of one state
  abbrev pub row_written : ℕ → List (List ℕ) → List ℕ
  row_written s rows = texts_below h.parties (λ p. local_written s p (get_or rows p []))

  abbrev pub SmallRow : List (List ℕ) → Type 0
  SmallRow rows = (length rows ≡ h.parties) × ((p : ℕ) → p < h.parties → SmallValues (get_or rows p []))

  locals_item : (s : ℕ) (a : Reading (List (List (List ℕ)))) (b : Reading (List (List ℕ))) → each_due h.parties (λ p. due_line 76 (local_line h s p)) a ≡ Ok b →
      (ended a.left ≡ row_written s b.known ++ ended b.left) × (SmallRow b.known)
  locals_item s a b e =
      let d = each_back (λ p. due_line 76 (local_line h s p)) (local_written s) (λ p. SmallValues) [] (local_item s) h.parties a b e in
      (d.written, (d.all, d.holds))

  -- what all L lines say
  abbrev pub locals_written : List (List (List ℕ)) → List ℕ
  locals_written rows = texts_below h.states (λ s. row_written s (get_or rows s []))

  pub locals_back : (r : Reading Sheet) (b : Reading (List (List (List ℕ)))) → each_due h.states (λ s. each_due h.parties (λ p. due_line 76 (local_line h s p))) r ≡ Ok b →
      AllDue row_written (λ s. SmallRow) [] h.states r b
  locals_back = each_back (λ s. each_due h.parties (λ p. due_line 76 (local_line h s p))) row_written (λ s. SmallRow) [] locals_item h.states
