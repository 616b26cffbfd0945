-- Lists of states: `among`, `list_below`, and the stack that a loop fills.
use Rattle.std.proofs.Common.{◌≡◌, ℕ, zero, suc, ◌+◌, ◌<◌, ◌≤◌, Bool, true, false, cond, not, ◌&&◌, ◌||◌, eqb, ltb, List, [], ◌∷◌, ◌++◌, length, get_or, Some, None, sym, refl, ap, ◌∙◌, inl, inr, append_assoc, append-nil, add-one, arith, length-append}
use Rattle.std.proofs.Math.Bool.{or-false}
use Rattle.std.proofs.lemmas.Bool.{cases_Bool, cases_lt, cond-true, eqb-true, lt-ltb}
use Rattle.std.proofs.lemmas.List.Elements.{All-from_get_or}
use Rattle.std.proofs.lemmas.List.Folds.{list_any_none, list_any-append}
use Rattle.std.proofs.lemmas.List.Quantifiers.{position-Some}
use Rattle.std.proofs.lemmas.List.Sums.{fails_before_first}
use Rattle.std.proofs.lemmas.Option.{none-some}
use Rattle.std.specs.List.{list_any, position, position_or_len}
use Rattle.std.proofs.lemmas.Bool.Decides.{nat_tests}
use Rattle.semantics.specs.Sets.{Same, any}
use Rattle.fixpoints.specs.Rounds.{among, lacks, list_below}
use Rattle.search.specs.Stack.{contents, capacity}
use Rattle.search.specs.declared.stack.Stack.{Stack}

-- where no place passes, nothing in the list does
pub position_none : (p : ℕ → Bool) (xs : List ℕ) → position p xs ≡ None → list_any p xs ≡ false
position_none p xs e = elim (cases_lt (position_or_len p xs) (length xs)) [
  | inl lt ↦ absurd (none-some _ (sym e ∙ cond-true _ _ _ (lt-ltb _ _ lt)))
  | inr ge ↦ list_any_none p xs (All-from_get_or (λ x. p x ≡ false) xs 0 (λ i l. fails_before_first p xs i 0 (omega (arith, ge, l))))
]

-- what stands at the place that is found
pub place_found : (xs : List ℕ) (k p : ℕ) → Some p ≡ position (eqb k) xs → (p < length xs) × (get_or xs p 0 ≡ k)
place_found xs k p e = let r = position-Some (eqb k) xs p 0 (sym e) in (r.0, sym (eqb-true k (get_or xs p 0) r.1))

-- a list with x on top
pub among_push : (xs ys : List ℕ) (x : ℕ) → ys ≡ xs ++ x ∷ [] → (k : ℕ) → among ys k ≡ (among xs k || eqb k x)
among_push xs ys x e k = ap (λ v. among v k) e ∙ list_any-append (eqb k) xs (x ∷ []) ∙ ap (λ v. among xs k || v) (or-false (eqb k x))

one_more : (p : ℕ → Bool) (n k : ℕ) (b : Bool) → p n ≡ b → ((ltb k n && p k) || among (cond b (n ∷ []) []) k) ≡ (ltb k (suc n) && p k)
one_more p n k true e = elim (cases_Bool (eqb k n)) [
  | inl q ↦ (let pk : p k ≡ true = ap p (eqb-true k n q) ∙ e in grind (arith, nat_tests, pk))
  | inr q ↦ grind (arith, nat_tests)
]
one_more p n k false e = elim (cases_Bool (eqb k n)) [
  | inl q ↦ (let pk : p k ≡ false = ap p (eqb-true k n q) ∙ e in grind (arith, nat_tests, pk))
  | inr q ↦ grind (arith, nat_tests)
]

pub among_below : (n : ℕ) (p : ℕ → Bool) (k : ℕ) → among (list_below n p) k ≡ (ltb k n && p k)
among_below zero p k = grind (arith, nat_tests)
among_below (suc n) p k =
    list_any-append (eqb k) (list_below n p) (cond (p n) (n ∷ []) []) ∙ ap (λ v. v || among (cond (p n) (n ∷ []) []) k) (among_below n p k) ∙ one_more p n k (p n) refl

-- the states of a set, all of which are below n
pub among_members : (n : ℕ) (z : ℕ → Bool) (xs : List ℕ) → xs ≡ list_below n z → ((k : ℕ) → z k ≡ true → ltb k n ≡ true) → Same (among xs) z
among_members n z xs is low k = ap (λ v. among v k) is ∙ among_below n z k ∙ both (z k) (ltb k n) (low k)
  where
    both : (a l : Bool) → (a ≡ true → l ≡ true) → (l && a) ≡ a
    both true l h = ap (λ v. v && true) (h refl)
    both false true h = refl
    both false false h = refl

-- those that are in the list, and those that the set lacks
pub length_members : (n : ℕ) (z : ℕ → Bool) (xs : List ℕ) → xs ≡ list_below n z → length xs + lacks n z ≡ n
length_members n z xs is = ap (λ v. length v + lacks n z) is ∙ counted n
  where
    more : (ys : List ℕ) (m k : ℕ) (b : Bool) → length ys + m ≡ k → length (ys ++ cond b (k ∷ []) []) + (cond (not b) 1 0 + m) ≡ suc k
    more ys m k true e = omega (arith, length-append ys (k ∷ []), e)
    more ys m k false e = omega (arith, length-append ys [], e)

    counted : (m : ℕ) → length (list_below m z) + lacks m z ≡ m
    counted zero = refl
    counted (suc m) = more (list_below m z) (lacks m z) m (z m) (counted m)

some_more : (xs : List ℕ) (n : ℕ) (b a : Bool) → not (eqb (length xs) 0) ≡ a → not (eqb (length (xs ++ cond b (n ∷ []) [])) 0) ≡ (b || a)
some_more xs n true a e = (let l = length-append xs (n ∷ []) in grind (arith, nat_tests, l))
some_more xs n false a e = (let l = length-append xs [] in grind (arith, nat_tests, l))

-- the list is empty just where no number passes
pub some_below : (n : ℕ) (p : ℕ → Bool) → not (eqb (length (list_below n p)) 0) ≡ any n p
some_below zero p = refl
some_below (suc n) p = some_more (list_below n p) n (p n) (any n p) (some_below n p)

-- a list that a loop has come to, with the numbers below s that pass behind xs
abbrev pub Pushed : List ℕ → (ℕ → Bool) → ℕ → List ℕ → Type 0
Pushed xs p s ys = ys ≡ xs ++ list_below s p

pub pushed_on : (xs : List ℕ) (p : ℕ → Bool) (s : ℕ) (ys zs : List ℕ) → Pushed xs p s ys → p s ≡ true → zs ≡ ys ++ s ∷ [] → Pushed xs p (s + 1) zs
pushed_on xs p s ys zs is on push = rw (add-one, on, push, is, append_assoc)

pub pushed_off : (xs : List ℕ) (p : ℕ → Bool) (s : ℕ) (ys : List ℕ) → Pushed xs p s ys → p s ≡ false → Pushed xs p (s + 1) ys
pushed_off xs p s ys is off = rw (add-one, off, append-nil, is)

-- the stack that a loop has filled with the numbers below s that pass
abbrev pub Filling : ℕ → (ℕ → Bool) → ℕ → Stack ℕ → Type 0
Filling size p s v = (capacity v ≡ size) × (length (contents v) ≤ s) × (Pushed [] p s (contents v))
