-- The S and L lines of a valid sheet are read back.
use Rattle.std.proofs.Common.{◌≡◌, ℕ, zero, suc, ◌+◌, ◌^◌, ◌<◌, ◌≤◌, Bool, true, false, cond, ◌&&◌, eqb, List, [], ◌∷◌, ◌++◌, length, get_or, drop, replicate, sym, refl, ap, ◌∙◌, ⊎_elim, arith, length-append}
use mathlib.Core.Path.{fun_ext}
use Rattle.std.specs.List.{AllByRecursion as All}
use Rattle.std.proofs.lemmas.List.{get_or_append_left, get_or_push, get_or_past, length_push}
use Rattle.std.proofs.lemmas.Bool.{and_from, cases_Bool, cases_eq, cases_lt, cond-true, cond-false, eq-eqb, lt-ltb, both_ways}
use Rattle.semantics.specs.LineReading.{at}
use Rattle.semantics.specs.Sets.{count}
use Rattle.semantics.specs.SheetReading.{due_in, due_line, each_due, under, value, state_line, held_below, local_line}
use Rattle.semantics.specs.Sheets.{Sheet}
use Rattle.semantics.specs.Validity.{Valid}
use Rattle.semantics.proofs.Counts.{count_less}
use Rattle.semantics.proofs.NumberFields.{Ranged}
use Rattle.semantics.proofs.PlainLines.{plain_read}
use Rattle.semantics.proofs.Rows.{plain, plain_clean}
use Rattle.semantics.proofs.RowsRead.{due_read, list_below, Takes, each_read}
use Rattle.semantics.proofs.SheetClean.{state_fit, local_fit}
use Rattle.semantics.proofs.SheetRows.{items_below, all_below, all_cond, state_numbers, copies_of, local_numbers, state_rows, local_rows}

list_length : {Y : Type 0} (n : ℕ) (y : ℕ → Y) → length (list_below n y) ≡ n
unfolding items_below
list_length zero y = refl
list_length (suc n) y = omega (arith, length_push (list_below n y) (y n), list_length n y)

list_at : {Y : Type 0} (n : ℕ) (y : ℕ → Y) (d : Y) (k : ℕ) → k < n → get_or (list_below n y) k d ≡ y k
unfolding items_below
list_at zero y d k l = absurd (omega arith)
list_at (suc n) y d k l = ⊎_elim
    (λ e. get_or_push (list_below n y) (y n) d k (list_length n y ∙ sym e) ∙ ap y (sym e))
    (λ ne. get_or_append_left (list_below n y) (y n ∷ []) d k (omega (arith, ne, list_length n y)) ∙ list_at n y d k (omega (arith, ne)))
    (cases_eq k n)

list_past : {Y : Type 0} (n : ℕ) (y : ℕ → Y) (d : Y) (k : ℕ) → n ≤ k → get_or (list_below n y) k d ≡ d
list_past n y d k l = get_or_past (list_below n y) k d (omega (arith, list_length n y))

-- what a party holds, one after another
module _ (held : ℕ → Bool) (x : ℕ → ℕ) where
  abbrev held_of : ℕ → List ℕ
  held_of n = items_below n (λ c. cond (held c) (x c ∷ []) [])

  held_length : (n : ℕ) → length (held_of n) ≡ count n held
  unfolding items_below
  held_length zero = refl
  held_length (suc n) = omega (arith, length-append (held_of n) (cond (held n) (x n ∷ []) []), held_length n, one (held n))
    where
      one : (b : Bool) → length (cond b (x n ∷ []) []) ≡ cond b 1 0
      one true = refl
      one false = refl

  -- a copy stands behind those of the lower channels
  held_at : (n c : ℕ) → c < n → held c ≡ true → at (held_of n) (count c held) ≡ x c
  unfolding items_below
  held_at zero c l on = absurd (omega arith)
  held_at (suc n) c l on = ⊎_elim
      (λ e.
      ap (λ v. at (held_of n ++ v) (count c held)) (cond-true (held n) _ _ (ap held (sym e) ∙ on))
      ∙ get_or_push (held_of n) (x n) 0 (count c held) (held_length n ∙ ap (λ v. count v held) (sym e)) ∙ ap x (sym e))
      (λ ne.
      get_or_append_left (held_of n) (cond (held n) (x n ∷ []) []) 0 (count c held) (omega (arith, held_length n, count_less n held c (omega (arith, ne)) on))
      ∙ held_at n c (omega (arith, ne)) on)
      (cases_eq c n)

ranged_from : (k : ℕ) (ys : List ℕ) → length ys ≡ k → All (λ y. y < 1000) ys → Ranged (replicate k value) ys
ranged_from zero [] l a = tt
ranged_from zero (y ∷ ys) l a = absurd (omega arith)
ranged_from (suc k) [] l a = absurd (omega arith)
ranged_from (suc k) (y ∷ ys) l a = (lt-ltb y 1000 a.0, ranged_from k ys (omega arith) a.1)

flag_small : (b : Bool) → cond b 1 0 < 2
flag_small true = omega arith
flag_small false = omega arith

-- a sheet so far, g, with the sizes and holders of a valid sheet h
module _ (g h : Sheet) (v : Valid h) (states : g.states ≡ h.states) (parties : g.parties ≡ h.parties) (channels : g.channels ≡ h.channels)
    (marks : g.marks ≡ h.marks) (holds : g.holds ≡ h.holds) where
  pub states_take : Takes {X = Sheet} (each_due h.states (λ s. due_line 83 (state_line g s))) (state_rows h) (list_below h.states (state_numbers h))
  states_take = each_read h.states (λ s. due_line 83 (state_line g s)) _ (state_numbers h) (λ s l a rest e. (
    a.line + 1,
    ap (due_in 83 (state_line g s) a.line) e
        ∙ due_read 83 (state_line g s) a.line (plain 83 (state_numbers h s)) rest (state_numbers h s)
        (record { clean = plain_clean 83 (state_numbers h s) (omega arith) (state_fit h v s l); letter = refl })
        (plain_read (under g.states ∷ under 2 ∷ under (2 ^ g.marks) ∷ []) (λ xs. eqb (at xs 0) s) 83 a.line (state_numbers h s)
        (lt-ltb s g.states (omega arith), (lt-ltb (cond (h.start s) 1 0) 2 (flag_small (h.start s)), (lt-ltb (h.mark_sum s) (2 ^ g.marks) (rw marks (v.marks_fit s)), tt)))
        (state_fit h v s l) (eq-eqb s s refl)),
  ))

  copies_ranged : (s p : ℕ) → Ranged (replicate (held_below g g.channels p) value) (copies_of h s p)
  copies_ranged s p = ranged_from (held_below g g.channels p) (copies_of h s p)
      (held_length (λ c. h.holds c p) (h.copy s p) h.channels ∙ ap (λ f. count h.channels (λ c. f c p)) (sym holds) ∙ ap (λ n. held_below g n p) (sym channels))
      (all_below (λ y. y < 1000) h.channels _ (λ c _. all_cond (λ y. y < 1000) (h.holds c p) (h.copy s p c) (λ _. omega (arith, v.copies_fit s p c))))

  pub locals_take : Takes {X = Sheet} (each_due h.states (λ s. each_due h.parties (λ p. due_line 76 (local_line g s p)))) (local_rows h)
      (list_below h.states (λ s. list_below h.parties (local_numbers h s)))
  locals_take = each_read h.states _ _ _ (λ s ls. each_read h.parties (λ p. due_line 76 (local_line g s p)) _ (local_numbers h s) (λ p lp a rest e. (
    a.line + 1,
    ap (due_in 76 (local_line g s p) a.line) e
        ∙ due_read 76 (local_line g s p) a.line (plain 76 (local_numbers h s p)) rest (local_numbers h s p)
        (record { clean = plain_clean 76 (local_numbers h s p) (omega arith) (local_fit h v s p ls lp); letter = refl })
        (plain_read (under g.states ∷ under g.parties ∷ value ∷ replicate (held_below g g.channels p) value) (λ xs. eqb (at xs 0) s && eqb (at xs 1) p) 76 a.line
        (local_numbers h s p)
        (lt-ltb s g.states (omega arith), (lt-ltb p g.parties (omega arith), (lt-ltb (h.position s p) 1000 (omega (arith, v.positions_fit s p)), copies_ranged s p)))
        (local_fit h v s p ls lp) (and_from _ _ (eq-eqb s s refl) (eq-eqb p p refl))),
  )))

flag_back : (b : Bool) → eqb (cond b 1 0) 1 ≡ b
flag_back true = refl
flag_back false = refl

none : (b : Bool) → (b ≡ true → ⊥) → false ≡ b
none b f = ⊎_elim (λ on. absurd (f on)) (λ off. sym off) (cases_Bool b)

-- a value that has no place is 0
zero_where : (x : ℕ) → (0 < x → ⊥) → 0 ≡ x
zero_where x f = ⊎_elim (λ l. absurd (f l)) (λ m. omega arith) (cases_lt 0 x)

-- what the lines say is what the sheet says
module _ (h : Sheet) (v : Valid h) where
  abbrev state_lists : List (List ℕ)
  state_lists = list_below h.states (state_numbers h)

  pub start_said : (λ s. eqb (at (get_or state_lists s []) 1) 1) ≡ h.start
  start_said = fun_ext (λ s. ⊎_elim
      (λ l. ap (λ xs. eqb (at xs 1) 1) (list_at h.states (state_numbers h) [] s l) ∙ flag_back (h.start s))
      (λ m. ap (λ xs. eqb (at xs 1) 1) (list_past h.states (state_numbers h) [] s m) ∙ none (h.start s) (λ on. omega (arith, v.starts_exist s on)))
      (cases_lt s h.states))

  pub mark_sum_said : (λ s. at (get_or state_lists s []) 2) ≡ h.mark_sum
  mark_sum_said = fun_ext (λ s. ⊎_elim
      (λ l. ap (λ xs. at xs 2) (list_at h.states (state_numbers h) [] s l))
      (λ m. ap (λ xs. at xs 2) (list_past h.states (state_numbers h) [] s m) ∙ zero_where (h.mark_sum s) (λ l. omega (arith, v.marks_placed s l)))
      (cases_lt s h.states))

  abbrev local_lists : List (List (List ℕ))
  local_lists = list_below h.states (λ s. list_below h.parties (local_numbers h s))

  local_at_law : (s p : ℕ) → s < h.states → p < h.parties → get_or (get_or local_lists s []) p [] ≡ local_numbers h s p
  local_at_law s p ls lp =
      ap (λ xs. get_or xs p []) (list_at h.states (λ s. list_below h.parties (local_numbers h s)) [] s ls) ∙ list_at h.parties (local_numbers h s) [] p lp

  local_past : (s p : ℕ) → ((s < h.states) × (p < h.parties) → ⊥) → get_or (get_or local_lists s []) p [] ≡ []
  local_past s p f = ⊎_elim
      (λ l. ap (λ xs. get_or xs p []) (list_at h.states (λ s. list_below h.parties (local_numbers h s)) [] s l)
      ∙ ⊎_elim (λ k. absurd (f (l, k))) (list_past h.parties (local_numbers h s) [] p) (cases_lt p h.parties))
      (λ m. ap (λ xs. get_or xs p []) (list_past h.states (λ s. list_below h.parties (local_numbers h s)) [] s m))
      (cases_lt s h.states)

  -- where a value has a place, and where it has none
  by_place : {A : Type 0} (s p : ℕ) → ((s < h.states) × (p < h.parties) → A) → (((s < h.states) × (p < h.parties) → ⊥) → A) → A
  by_place s p f g = ⊎_elim
      (λ l. ⊎_elim (λ k. f (l, k)) (λ m. g (λ x. omega (arith, x.1))) (cases_lt p h.parties))
      (λ m. g (λ x. omega (arith, x.0))) (cases_lt s h.states)

  pub position_said : (λ s p. at (get_or (get_or local_lists s []) p []) 2) ≡ h.position
  position_said = fun_ext (λ s. fun_ext (λ p. by_place s p
      (λ l. ap (λ xs. at xs 2) (local_at_law s p l.0 l.1))
      (λ f. ap (λ xs. at xs 2) (local_past s p f) ∙ zero_where (h.position s p) (λ l. f (v.positions_placed s p l)))))

  pub copy_said : (λ s p c. cond (h.holds c p) (at (drop 3 (get_or (get_or local_lists s []) p [])) (held_below h c p)) 0) ≡ h.copy
  copy_said = fun_ext (λ s. fun_ext (λ p. fun_ext (λ c. ⊎_elim
      (λ on.
      let x = v.holders_exist c p on in
      cond-true (h.holds c p) _ _ on ∙ by_place s p
      (λ l. ap (λ xs. at (drop 3 xs) (held_below h c p)) (local_at_law s p l.0 l.1) ∙ held_at (λ d. h.holds d p) (h.copy s p) h.channels c x.0 on)
      (λ f. ap (λ xs. at (drop 3 xs) (held_below h c p)) (local_past s p f) ∙ zero_where (h.copy s p c) (λ l. f ((v.copies_placed s p c l).0, x.1))))
      (λ off. cond-false (h.holds c p) _ _ off ∙ zero_where (h.copy s p c) (λ l. both_ways _ off (v.copies_placed s p c l).1))
      (cases_Bool (h.holds c p)))))
