-- A loop that puts the states below s that pass into a set, and on a stack those that were not in it.
use Rattle.std.proofs.Common.{◌≡◌, ℕ, ◌+◌, ◌<◌, ◌≤◌, Bool, true, false, cond, not, ◌&&◌, ◌||◌, eqb, ltb, List, [], ◌∷◌, ◌++◌, length, sym, refl, ap, ◌∙◌, inl, inr, arith}
use Rattle.std.proofs.lemmas.Bool.{and_parts, cases_Bool, cond-true, eq-eqb, eqb-true, lt-ltb, not-true, or_left}
use Rattle.std.proofs.lemmas.List.Folds.{list_any-append}
use Rattle.std.proofs.lemmas.Bool.Decides.{nat_tests}
use Rattle.sets.specs.Member.{plus}
use Rattle.semantics.specs.Sets.{Same, outside}
use Rattle.semantics.proofs.Counts.{count_falls}
use Rattle.sets.proofs.MemberLaws.{cond_on}
use Rattle.fixpoints.specs.Rounds.{among, lacks, list_below}
use Rattle.search.specs.Stack.{contents, capacity}
use Rattle.search.specs.declared.stack.Stack.{Stack}
use Rattle.fixpoints.proofs.Lists.{Pushed, among_below, pushed_on, pushed_off}

-- from the set z and the states xs of the stack, the loop has come to s
pub record Adding (n size : ℕ) (p z : ℕ → Bool) (xs : List ℕ) (s : ℕ) (w : ℕ → Bool) (v : Stack ℕ) : Type 0 where
  pub in_set : Same w (λ k. z k || (ltb k s && p k))
  pub on_stack : Pushed xs (λ k. not (z k) && p k) s (contents v)
  pub few : length (contents v) + lacks n w ≤ n
  pub size_is : capacity v ≡ size

outside_plus : (x e y : Bool) → y ≡ (e || x) → not y ≡ true → not x ≡ true
outside_plus x true y p q = grind (arith, p, q)
outside_plus x false y p q = grind (arith, p, q)

-- one state more leaves one fewer to lack
pub lacks_falls : (n s : ℕ) (w y : ℕ → Bool) → s < n → w s ≡ false → Same y (plus w s) → lacks n y < lacks n w
lacks_falls n s w y lt off is =
    count_falls n (outside y) (outside w) (λ k. outside_plus (w k) (eqb k s) (y k) (is k)) s lt
    (ap not (is s ∙ or_left (eqb s s) (w s) (eq-eqb s s refl))) (ap not off)

module _ (p z : ℕ → Bool) (s : ℕ) (w : ℕ → Bool) (is : Same w (λ k. z k || (ltb k s && p k))) where
  at_place : w s ≡ z s
  at_place = is s ∙ grind (arith, nat_tests)

  set_on : (y : ℕ → Bool) → p s ≡ true → Same y (plus w s) → Same y (λ k. z k || (ltb k (s + 1) && p k))
  set_on y on put k = elim (cases_Bool (eqb k s)) [
    | inl e ↦ (let pk : p k ≡ true = ap p (eqb-true k s e) ∙ on in let h = put k in let i = is k in grind (arith, nat_tests))
    | inr e ↦ (let h = put k in let i = is k in grind (arith, nat_tests))
  ]

  set_off : (not (w s) && p s) ≡ false → Same w (λ k. z k || (ltb k (s + 1) && p k))
  set_off off k = elim (cases_Bool (eqb k s)) [
    | inl e ↦ (let q = eqb-true k s e in let i = is k in let wk : w k ≡ w s = ap w q in let pk : p k ≡ p s = ap p q in grind (arith, nat_tests))
    | inr e ↦ (let i = is k in grind (arith, nat_tests))
  ]

module _ (n size : ℕ) (p z : ℕ → Bool) (xs : List ℕ) (s : ℕ) (w : ℕ → Bool) (v : Stack ℕ) (m : Adding n size p z xs s w v) where
  test_is : (b : Bool) → b ≡ (not (w s) && p s) → (not (z s) && p s) ≡ b
  test_is b e = ap (λ x. not x && p s) (sym (at_place p z s w m.in_set)) ∙ sym e

  pub adding_on : (room : ℕ) (y : ℕ → Bool) (u : Stack ℕ) (r q : Bool) → n ≤ room → n ≤ size → s < n → true ≡ (not (w s) && p s)
      → r ≡ ltb s room → Same y (cond r (plus w s) w)
      → q ≡ ltb (length (contents v)) (capacity v) → contents u ≡ cond q (contents v ++ s ∷ []) (contents v)
      → length (contents u) ≡ cond q (length (contents v) + 1) (length (contents v)) → capacity u ≡ capacity v → Adding n size p z xs (s + 1) y u
  adding_on room y u r q le slots lt e ris put qis after len same =
      let ps = and_parts (not (w s)) (p s) (sym e) in
      let ron : r ≡ true = ris ∙ lt-ltb s room (omega arith) in
      let more : Same y (plus w s) = λ k. put k ∙ cond_on r (plus w s) w ron k in
      let falls : lacks n y < lacks n w = lacks_falls n s w y lt (not-true (w s) ps.0) more in
      let qon : q ≡ true = qis ∙ lt-ltb _ _ (omega (arith, m.few, m.size_is)) in
      record {
        in_set = set_on p z s w m.in_set y ps.1 more;
        on_stack = pushed_on xs (λ k. not (z k) && p k) s (contents v) (contents u) m.on_stack (test_is true e) (after ∙ cond-true q _ _ qon);
        few = omega (arith, m.few, len ∙ cond-true q _ _ qon);
        size_is = same ∙ m.size_is;
      }

  pub adding_off : false ≡ (not (w s) && p s) → Adding n size p z xs (s + 1) w v
  adding_off e = record {
    in_set = set_off p z s w m.in_set (sym e);
    on_stack = pushed_off xs (λ k. not (z k) && p k) s (contents v) m.on_stack (test_is false e);
    few = m.few;
    size_is = m.size_is;
  }

listed_more : (w y a b l p : Bool) → a ≡ w → y ≡ (w || (l && p)) → b ≡ (a || (l && (not w && p))) → b ≡ y
listed_more true y a b l p e i r = grind (arith, e, i, r)
listed_more false y a b l p e i r = grind (arith, e, i, r)

-- the stack still has the states of the set
pub adding_listed : (n size : ℕ) (p z : ℕ → Bool) (xs : List ℕ) (s : ℕ) (w : ℕ → Bool) (v : Stack ℕ) → Adding n size p z xs s w v → Same (among xs) z → Same (among (contents v)) w
adding_listed n size p z xs s w v m is k =
    listed_more (z k) (w k) (among xs k) (among (contents v) k) (ltb k s) (p k) (is k) (m.in_set k)
    (ap (λ v. among v k) m.on_stack ∙ list_any-append (eqb k) xs (list_below s (λ k. not (z k) && p k)) ∙ ap (λ v. among xs k || v) (among_below s (λ k. not (z k) && p k) k))

-- the same at an equal set, stack or place
pub adding_is : (n size : ℕ) (p z : ℕ → Bool) (xs : List ℕ) (s t : ℕ) (w y : ℕ → Bool) (v u : Stack ℕ)
    → t ≡ s → y ≡ w → u ≡ v → Adding n size p z xs s w v → Adding n size p z xs t y u
adding_is n size p z xs s t w y v u i j k m = rw (i, j, k) m
