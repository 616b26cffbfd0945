-- What `any`, `all` and `count` answer over the numbers below a limit.
use Rattle.std.proofs.Common.{◌≡◌, refl, sym, ap, ◌∙◌, ℕ, zero, suc, ◌+◌, ◌%◌, ◌^◌, ◌<◌, ◌≤◌, Bool, true, false, cond, ◌&&◌, ◌||◌, List, [], ◌∷◌, ◌++◌, arith, length, Bor, Option}
use denote.Param.Members.{Mut}
use Rattle.std.specs.List.{range_with_len, list_any, list_all, count_by, FoldsTo}
use Rattle.std.specs.Option.{MatchOption}
use Rattle.std.specs.declared.ops.Range.{Range}
use Rattle.std.specs.declared.iter.Filter.{Filter}
use Rattle.std.specs.Iterator.{YieldsThen, Drains}
use Rattle.std.specs.Iterator.Adapters.{filter_source, filter_callee, filter_steps}
use Rattle.std.specs.Fn.{Called, CalledAt}
use Rattle.std.proofs.iter.Yields.{nat_range_steps}
use Rattle.std.proofs.lemmas.Iterator.{YieldsList-from_range}
use Rattle.std.proofs.lemmas.Iterator.Search.{any_from_yields_List, all_from_yields_List}
use Rattle.std.proofs.lemmas.Iterator.Consumers.{YieldsList-from_filter, count_from_yields_List}
use Rattle.std.proofs.lemmas.Fn.{fold_over}
use Rattle.std.proofs.lemmas.List.FromFn.{length-range_with_len}
use Rattle.std.proofs.lemmas.List.{length_push}
use Rattle.std.proofs.lemmas.List.Sums.{length-filter, sum_by-cons, sum_by-append, count_by-le-length}
use Rattle.semantics.specs.Sets.{any, all, count}

swap_or : (a b c : Bool) → (a || (b || c)) ≡ (b || (a || c))
swap_or true true c = refl
swap_or true false c = refl
swap_or false b c = refl

swap_and : (a b c : Bool) → (a && (b && c)) ≡ (b && (a && c))
swap_and true b c = refl
swap_and false true c = refl
swap_and false false c = refl

any_first : (n : ℕ) (p : ℕ → Bool) → any (suc n) p ≡ (p 0 || any n (λ k. p (suc k)))
any_first zero p = refl
any_first (suc n) p = ap (λ b. p (suc n) || b) (any_first n p) ∙ swap_or (p (suc n)) (p 0) _

all_first : (n : ℕ) (p : ℕ → Bool) → all (suc n) p ≡ (p 0 && all n (λ k. p (suc k)))
all_first zero p = refl
all_first (suc n) p = ap (λ b. p (suc n) && b) (all_first n p) ∙ swap_and (p (suc n)) (p 0) _

count_first : (n : ℕ) (p : ℕ → Bool) → count (suc n) p ≡ cond (p 0) 1 0 + count n (λ k. p (suc k))
count_first zero p = refl
count_first (suc n) p = omega (arith, count_first n p)

start : (a : ℕ) → a ≡ a + 0
start a = omega arith

step : (a k : ℕ) → a + 1 + k ≡ a + suc k
step a k = omega arith

from_zero : (p : ℕ → Bool) → (λ (k : ℕ). p (0 + k)) ≡ p
from_zero p = λ i k. let e : 0 + k ≡ k = omega arith in p (e i)

any_list : (n a : ℕ) (p : ℕ → Bool) → list_any p (range_with_len a n) ≡ any n (λ k. p (a + k))
any_list zero a p = refl
any_list (suc n) a p = (λ i. p (start a i) || (any_list n (a + 1) p ∙ (λ j. any n (λ k. p (step a k j)))) i) ∙ sym (any_first n (λ k. p (a + k)))

all_list : (n a : ℕ) (p : ℕ → Bool) → list_all p (range_with_len a n) ≡ all n (λ k. p (a + k))
all_list zero a p = refl
all_list (suc n) a p = (λ i. p (start a i) && (all_list n (a + 1) p ∙ (λ j. all n (λ k. p (step a k j)))) i) ∙ sym (all_first n (λ k. p (a + k)))

count_list : (n a : ℕ) (p : ℕ → Bool) → count_by p (range_with_len a n) ≡ count n (λ k. p (a + k))
count_list zero a p = refl
count_list (suc n) a p =
    sum_by-cons (λ x. cond (p x) 1 0) a (range_with_len (a + 1) n)
    ∙ (λ i. cond (p (start a i)) 1 0 + (count_list n (a + 1) p ∙ (λ j. count n (λ k. p (step a k j)))) i) ∙ sym (count_first n (λ k. p (a + k)))

module _ {F : Type 0} {g : Mut F (ℕ × Unit {0}) Bool} {n : ℕ} {u : Range ℕ} {f : F} {r : Bool} (test : ℕ → Bool) where
  pub any_upto : (xs : List ℕ) × (o : Option ℕ) × (j : F) × YieldsThen nat_range_steps (record { start = 0; end = n }) xs o u × FoldsTo (λ p x q. Called g p (x, tt) false q) f xs j × MatchOption o (r ≡ false) (λ x. (r ≡ true) × ((h : F) × Called g j (x, tt) true h))
      → ((x : ℕ) (b : Bool) (q : F) → Called g f (x, tt) b q → (q ≡ f) × (b ≡ test x)) → r ≡ any n test
  any_upto ran told = any_from_yields_List test u f r ran (YieldsList-from_range 0 n n refl (omega arith)) told ∙ any_list n 0 test ∙ ap (any n) (from_zero test)

  pub all_upto : (xs : List ℕ) × (o : Option ℕ) × (j : F) × YieldsThen nat_range_steps (record { start = 0; end = n }) xs o u × FoldsTo (λ p x q. Called g p (x, tt) true q) f xs j × MatchOption o (r ≡ true) (λ x. (r ≡ false) × ((h : F) × Called g j (x, tt) false h))
      → ((x : ℕ) (b : Bool) (q : F) → Called g f (x, tt) b q → (q ≡ f) × (b ≡ test x)) → r ≡ all n test
  all_upto ran told = all_from_yields_List test u f r ran (YieldsList-from_range 0 n n refl (omega arith)) told ∙ all_list n 0 test ∙ ap (all n) (from_zero test)

-- the facts are the clauses `source` and `closure` of the call of `filter`, and `ran` of the call of `count`
pub count_upto : {F : Type 0} {g : Mut F (Bor ℕ × Unit {0}) Bool} {n : ℕ} {s : Filter (Range ℕ) F} {f : F} {r : ℕ} (test : ℕ → Bool)
    → filter_source s ≡ record { start = 0; end = n } → filter_callee s ≡ f → (xs : List ℕ) × Drains (filter_steps nat_range_steps g) s xs × (r ≡ length xs)
    → ((x : ℕ) (b : Bool) (q : F) → CalledAt g f x b q → (q ≡ f) × (b ≡ test x)) → r ≡ count n test
count_upto {n = n} {s = s} test source callee ran told =
    count_from_yields_List s _ ran (YieldsList-from_filter _ test (YieldsList-from_range 0 n n source (omega arith)) callee told)
    ∙ length-filter test (range_with_len 0 n) ∙ count_list n 0 test ∙ ap (count n) (from_zero test)

one_at_most : (b : Bool) → cond b 1 0 ≤ 1
one_at_most true = omega arith
one_at_most false = omega arith

one_more : (test : ℕ → Bool) (ys : List ℕ) (x : ℕ) → count_by test (ys ++ x ∷ []) ≡ count_by test ys + cond (test x) 1 0
one_more test ys x =
    sum_by-append (λ k. cond (test k) 1 0) ys (x ∷ [])
    ∙ (let z : cond (test x) 1 0 + 0 ≡ cond (test x) 1 0 = omega arith in ap (λ m. count_by test ys + m) (sum_by-cons (λ k. cond (test k) 1 0) x [] ∙ z))

-- the fact is the clause `ran` of the call of `fold`
pub count_folded : {F : Type 0} {g : Mut F (ℕ × (ℕ × Unit {0})) ℕ} {n : ℕ} {f : F} {r : ℕ} (test : ℕ → Bool) → n < 2 ^ 64
    → (xs : List ℕ) × (f' : F) × Drains nat_range_steps (record { start = 0; end = n }) xs × FoldsTo {P = F × ℕ} (λ p x q. Called g p.0 (p.1, (x, tt)) q.1 q.0) (f, 0) xs (f', r)
    → ((a x b : ℕ) (q : F) → Called g f (a, (x, tt)) b q → (q ≡ f) × (b ≡ (a + cond (test x) 1 0) % 2 ^ 64)) → r ≡ count n test
count_folded {n = n} test small ran told =
    fold_over nat_range_steps (λ x. x) _ (λ ys a. length ys < 2 ^ 64 → a ≡ count_by test ys) _
    (λ ys a x b q j k. let t = told a x b q k in (
      (λ l.
          let len = length_push ys x in
          let before = j (omega (arith, l, len)) in
          omega (arith, t.1, before, l, len, one_more test ys x, one_at_most (test x), count_by-le-length test ys)),
      t.0,
    ))
    _ (range_with_len 0 n) 0 _ (YieldsList-from_range 0 n n refl (omega arith)).runs (λ l. refl) ran (omega (arith, small, length-range_with_len 0 n))
    ∙ count_list n 0 test ∙ ap (count n) (from_zero test)
