-- The loop of one round of `until`, over the places of the frontier.
use Rattle.std.proofs.Common.{◌≡◌, ℕ, ◌+◌, ◌<◌, ◌≤◌, Bool, true, false, not, ◌&&◌, ◌||◌, eqb, ltb, List, ◌++◌, length, get_or, drop, sym, refl, ap, ◌∙◌, append_assoc, arith}
use Rattle.std.proofs.lemmas.List.{drop_all, drop-append-le, drop_more, get_or_append_left}
use Rattle.std.proofs.lemmas.List.Folds.{list_any-append}
use Rattle.std.proofs.lemmas.Bool.{and_parts, not-true, or_left, or_right}
use Rattle.semantics.specs.Sets.{Same, below}
use Rattle.fixpoints.specs.Rounds.{among, into_list, list_below, Ordered}
use Rattle.fixpoints.proofs.Lists.{among_below}
use Rattle.fixpoints.proofs.Orders.{among_at, into_at, ordered_below}

-- from the set z and the list xs, whose places from done on are the frontier, the loop has come to the set w and the list ys
pub record Growing (n : ℕ) (steps : ℕ → ℕ → Bool) (f z : ℕ → Bool) (done : ℕ) (xs : List ℕ) (place : ℕ) (w : ℕ → Bool) (ys : List ℕ) : Type 0 where
  pub front : ys ≡ xs ++ drop (length xs) ys
  pub total : (k : ℕ) → (w k || below n (λ s. f s && into_list steps (drop place xs) s) k) ≡ (z k || below n (λ s. f s && into_list steps (drop done xs) s) k)
  pub new : Same (among (drop (length xs) ys)) (λ k. w k && not (z k))
  pub kept : (k : ℕ) → z k ≡ true → w k ≡ true
  pub ordered : (h : ℕ → Bool) → Ordered steps f h xs → Ordered steps f h ys

drop_front : (xs ds : List ℕ) → drop (length xs) (xs ++ ds) ≡ ds
drop_front xs ds = rw (drop-append-le (length xs) xs ds (omega arith), drop_all (length xs) xs (omega arith))

taken : (w y l f i j s : Bool) → y ≡ (w || (l && (f && s))) → j ≡ (s || i) → (y || (l && (f && i))) ≡ (w || (l && (f && j)))
taken true y l f i j s p q = grind (arith, p)
taken false y false f i j s p q = grind (arith, p)
taken false y true false i j s p q = grind (arith, p)
taken false y true true i j true p q = grind (arith, p, q)
taken false y true true i j false p q = grind (arith, p, q)

grown : (z w y a b l p : Bool) → a ≡ (w && not z) → y ≡ (w || (l && p)) → b ≡ (a || (l && (not w && p))) → (z ≡ true → w ≡ true) → b ≡ (y && not z)
grown true w y a b l p e i r h = grind (arith, e, i, r, h refl)
grown false true y a b l p e i r h = grind (arith, e, i, r)
grown false false y a b l p e i r h = grind (arith, e, i, r)

nothing_more : (w l f : Bool) → (w || (l && (f && false))) ≡ w
nothing_more true l f = refl
nothing_more false true true = refl
nothing_more false true false = refl
nothing_more false false f = refl

module _ (n : ℕ) (steps : ℕ → ℕ → Bool) (f z : ℕ → Bool) (done : ℕ) (xs : List ℕ) where
  -- when the frontier is done with
  pub growing_last : (place : ℕ) (w : ℕ → Bool) (ys : List ℕ) → Growing n steps f z done xs place w ys → length xs ≤ place →
      (k : ℕ) → w k ≡ (z k || below n (λ s. f s && into_list steps (drop done xs) s) k)
  growing_last place w ys m le k =
      sym (ap (λ v. w k || (ltb k n && (f k && into_list steps v k))) (drop_all place xs le) ∙ nothing_more (w k) (ltb k n) (f k)) ∙ m.total k

  module _ (place : ℕ) (w : ℕ → Bool) (ys : List ℕ) (m : Growing n steps f z done xs place w ys) (listed : Same (among ys) w) (lt : place < length xs) (t : ℕ) (at : t ≡ get_or ys place 0) where
    abbrev q : ℕ → Bool
    q s = not (w s) && (f s && steps s t)

    old : get_or xs place 0 ≡ t
    old = sym (get_or_append_left xs (drop (length xs) ys) 0 place lt) ∙ ap (λ v. get_or v place 0) (sym m.front) ∙ sym at

    target_in : among ys t ≡ true
    target_in = ap (λ v. among v t) m.front ∙ list_any-append (eqb t) xs (drop (length xs) ys) ∙ or_left (among xs t) _ (ap (among xs) (sym old) ∙ among_at xs place lt)

    rest : (k : ℕ) → into_list steps (drop place xs) k ≡ (steps k t || into_list steps (drop (place + 1) xs) k)
    rest k = ap (λ v. into_list steps v k) (drop_more xs place 0 lt) ∙ ap (λ v. steps k v || into_list steps (drop (place + 1) xs) k) old

    pub growing_more : (y : ℕ → Bool) (us : List ℕ) → Same y (λ k. w k || below n (λ s. f s && steps s t) k) → us ≡ ys ++ list_below n q → Growing n steps f z done xs (place + 1) y us
    growing_more y us after push =
        let ds = drop (length xs) ys in
        let both : us ≡ xs ++ (ds ++ list_below n q) = push ∙ ap (λ v. v ++ list_below n q) m.front ∙ append_assoc xs ds (list_below n q) in
        let back : drop (length xs) us ≡ ds ++ list_below n q = ap (drop (length xs)) both ∙ drop_front xs (ds ++ list_below n q) in
        let among-new : (vs : List ℕ) (k : ℕ) → among (vs ++ list_below n q) k ≡ (among vs k || (ltb k n && q k)) =
        λ vs k. list_any-append (eqb k) vs (list_below n q) ∙ ap (λ v. among vs k || v) (among_below n q k) in
        record {
          front = both ∙ ap (λ v. xs ++ v) (sym back);
          total = λ k. taken (w k) (y k) (ltb k n) (f k) (into_list steps (drop (place + 1) xs) k) (into_list steps (drop place xs) k) (steps k t) (after k) (rest k) ∙ m.total k;
          new = λ k.
              grown (z k) (w k) (y k) (among ds k) (among (drop (length xs) us) k) (ltb k n) (f k && steps k t) (m.new k) (after k)
              (ap (λ v. among v k) back ∙ among-new ds k) (m.kept k);
          kept = λ k e. after k ∙ or_left (w k) _ (m.kept k e);
          ordered = λ h o. rw push (ordered_below steps f h n q ys (m.ordered h o)
              (λ k e. listed k ∙ not-true (w k) (and_parts (not (w k)) (f k && steps k t) e).0)
              (λ k e. or_right (h k) _ (grounded k (and_parts (f k) (steps k t) (and_parts (not (w k)) (f k && steps k t) e).1))));
        }
      where
        grounded : (k : ℕ) → (f k ≡ true) × (steps k t ≡ true) → (f k && into_list steps ys k) ≡ true
        grounded k e = ap (λ v. v && into_list steps ys k) e.0 ∙ into_at steps ys k t target_in e.1
