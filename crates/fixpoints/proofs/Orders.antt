-- Lists in which each state leads to one before it.
use Rattle.std.proofs.Common.{◌≡◌, ℕ, zero, suc, ◌<◌, Bool, true, false, cond, ◌&&◌, ◌||◌, eqb, ltb, List, [], ◌∷◌, ◌++◌, length, get_or, take, sym, refl, ap, ◌∙◌, inl, inr, append_assoc, append-nil, arith}
use Rattle.std.proofs.lemmas.List.{get_or_append_left, get_or_push, length_push, take_all, take-append-le}
use Rattle.std.proofs.lemmas.List.Folds.{list_any_at, list_any-append}
use Rattle.std.proofs.lemmas.Bool.{and_left, cases_eq, eq-eqb, eqb-true, false≢true, le-ltb, or_cases, or_from, or_left, or_right}
use Rattle.fixpoints.specs.Rounds.{among, into_list, list_below, Ordered}
use Rattle.fixpoints.proofs.Lists.{among_below}

-- a step to a state of the list
pub into_at : (steps : ℕ → ℕ → Bool) (xs : List ℕ) (k t : ℕ) → among xs t ≡ true → steps k t ≡ true → into_list steps xs k ≡ true
into_at steps [] k t e s = absurd (false≢true e)
into_at steps (x ∷ xs) k t e s = elim (or_cases (eqb t x) (among xs t) e) [
  | inl q ↦ or_left (steps k x) (into_list steps xs k) (ap (steps k) (sym (eqb-true t x q)) ∙ s)
  | inr q ↦ or_right (steps k x) (into_list steps xs k) (into_at steps xs k t q s)
]

-- what stands at a place of a list is in it
pub among_at : (xs : List ℕ) (i : ℕ) → i < length xs → among xs (get_or xs i 0) ≡ true
among_at xs i l = list_any_at (eqb (get_or xs i 0)) xs i 0 l (eq-eqb _ _ refl)

module _ (steps : ℕ → ℕ → Bool) (f h : ℕ → Bool) where
  abbrev Grounded : List ℕ → ℕ → Type 0
  Grounded xs x = (h x || (f x && into_list steps xs x)) ≡ true

  ordered_none : Ordered steps f h []
  ordered_none = record { new = λ i l. absurd (omega arith); grounded = λ i l. absurd (omega arith) }

  ordered_push : (xs : List ℕ) (x : ℕ) → Ordered steps f h xs → among xs x ≡ false → Grounded xs x → Ordered steps f h (xs ++ x ∷ [])
  ordered_push xs x o off on = record { new = λ i l. at i l (λ ys y. among ys y ≡ false) off (o.new i); grounded = λ i l. at i l Grounded on (o.grounded i) }
    where
      -- a fact of each state and those before it, for the new state and for the old ones
      at : (i : ℕ) → i < length (xs ++ x ∷ []) → (P : List ℕ → ℕ → Type 0) → P xs x → (i < length xs → P (take i xs) (get_or xs i 0)) →
          P (take i (xs ++ x ∷ [])) (get_or (xs ++ x ∷ []) i 0)
      at i l P here before = elim (cases_eq i (length xs)) [
        | inl e ↦ rw (take-append-le i xs (x ∷ []) (omega arith), take_all i xs (omega arith), get_or_push xs x 0 i (sym e)) here
        | inr ne ↦ (let m : i < length xs = omega (arith, ne, length_push xs x) in
            rw (take-append-le i xs (x ∷ []) (omega arith), get_or_append_left xs (x ∷ []) 0 i m) (before m))
      ]

  -- the states below n that pass, put behind those of a list, where each is new and grounded
  pub ordered_below : (n : ℕ) (q : ℕ → Bool) (xs : List ℕ) → Ordered steps f h xs → ((k : ℕ) → q k ≡ true → among xs k ≡ false) →
      ((k : ℕ) → q k ≡ true → Grounded xs k) → Ordered steps f h (xs ++ list_below n q)
  ordered_below zero q xs o new on = rw append-nil o
  ordered_below (suc n) q xs o new on = rw (← append_assoc) (last (ordered_below n q xs o new on) (q n) refl)
    where
      fresh : q n ≡ true → among (xs ++ list_below n q) n ≡ false
      fresh e = list_any-append (eqb n) xs (list_below n q) ∙ or_from (among xs n) (among (list_below n q) n) (new n e) (among_below n q n ∙ and_left (ltb n n) (q n) (le-ltb n n (omega arith)))

      reach : (a b s t : Bool) → (a || (b && s)) ≡ true → (a || (b && (s || t))) ≡ true
      reach true b s t e = refl
      reach false true true t e = refl
      reach false true false t e = absurd (false≢true e)
      reach false false s t e = absurd (false≢true e)

      last : Ordered steps f h (xs ++ list_below n q) → (b : Bool) → q n ≡ b → Ordered steps f h ((xs ++ list_below n q) ++ cond b (n ∷ []) [])
      last low true e =
          ordered_push (xs ++ list_below n q) n low (fresh e)
          (ap (λ v. h n || (f n && v)) (list_any-append (steps n) xs (list_below n q)) ∙ reach (h n) (f n) (into_list steps xs n) (into_list steps (list_below n q) n) (on n e))
      last low false e = rw append-nil low

  -- at first: states of h alone
  pub ordered_first : (n : ℕ) (q : ℕ → Bool) (xs : List ℕ) → xs ≡ list_below n q → ((k : ℕ) → q k ≡ true → h k ≡ true) → Ordered steps f h xs
  ordered_first n q xs is sub = rw is (ordered_below n q [] ordered_none (λ k e. refl) (λ k e. or_left (h k) _ (sub k e)))
