-- A rising list with a number put in or taken out.
use Rattle.std.specs.Prelude.{◌≡◌, ℕ, zero, suc, ◌+◌, ◌-◌, ◌<◌, ◌≤◌, true, false, not, ◌&&◌, ◌||◌, List, ◌==◌, ◌≢◌, nat_eq, slice_index, slice_index_or}
use Rattle.std.proofs.Common.{length, take, get_or, set, get_or-set_other, get_or-set_same, Result, Ok, Err, MatchResult, sym, ap, subst, ◌∙◌, inl, inr, arith}
use Rattle.std.specs.List.{CopiedTo, SameBelow}
use Rattle.std.specs.List.Sorted.{IsBinarySearchResult}
use Rattle.std.specs.Ordering.{nat_cmp}
use Rattle.std.specs.Result.{OnErr, is_ok}
use Rattle.std.proofs.lemmas.List.{get_or-take, length-take-le}
use Rattle.std.proofs.lemmas.List.Sorted.{searched}
use Rattle.std.proofs.lemmas.Bool.{cases_order, cases_lt, cases_eq, or_cases, or_left, or_right, eqb-true, eq-eqb, ne_eqb, both_ways, and_parts, and_from, not-true, not_from_false, cases_Bool}
use Rattle.sets.proofs.MemberLaws.{same_from}
use Rattle.sets.specs.Bounds.{among_found, among_small}
use Rattle.sets.specs.Sorted.{Small, Rising, among, At, InsertionPoint}

among_at : (xs : List ℕ) (n k i : ℕ) → i < n → slice_index xs i ≡ k → among xs n k ≡ true
among_at xs zero k i l e = absurd (omega arith)
among_at xs (suc n) k i l e = elim (cases_eq i n) [
  | inl q ↦ or_left (k == slice_index xs n) (among xs n k) (eq-eqb k (slice_index xs n) (sym e ∙ ap (λ u. slice_index xs u) q))
  | inr q ↦ or_right (k == slice_index xs n) (among xs n k) (among_at xs n k i (omega (arith, q)) e)
]

-- what is found in the first n of a list, said of the list
found_there : (xs : List ℕ) (n v : ℕ) → n ≤ length xs → (r : Result ℕ ℕ) →
    MatchResult r (λ i. (i < length (take n xs)) × (get_or (take n xs) i 0 ≡ v)) (λ i. (i ≤ length (take n xs)) × ((k : ℕ) → k < i → get_or (take n xs) k 0 < v) × ((k : ℕ) → i ≤ k → k < length (take n xs) → v < get_or (take n xs) k 0)) →
    MatchResult r (λ i. At xs n i v) (λ i. InsertionPoint xs n i v)
found_there xs n v l (Ok i) f =
    let len = length-take-le n xs l in
    let within : i < n = omega (arith, f.0, len) in
    record { within = within; here = sym (get_or-take n xs i 0 within) ∙ f.1 }
found_there xs n v l (Err i) f =
    let len = length-take-le n xs l in
    let within : i ≤ n = omega (arith, f.0, len) in
    record {
      within = within;
      before = λ k h. omega (arith, f.1 k h, get_or-take n xs k 0 (omega arith));
      above = λ k h m. omega (arith, f.2 k h (omega (arith, len)), get_or-take n xs k 0 m);
    }

-- what a binary search of the first n finds, where these rise
pub found_in : (xs : List ℕ) (n v : ℕ) (r : Result ℕ ℕ) → n ≤ length xs → Rising xs n → IsBinarySearchResult (λ y. nat_cmp y v) (take n xs) r →
    MatchResult r (λ i. At xs n i v) (λ i. InsertionPoint xs n i v)
found_in xs n v r l s b =
    let len = length-take-le n xs l in
    found_there xs n v l r (searched (take n xs) v r b (λ i j h m. elim (cases_eq i j) [
      | inl e ↦ omega (arith, ap (λ u. get_or (take n xs) u 0) e)
      | inr ne ↦ omega (arith, ne, len, get_or-take n xs i 0 (omega (arith, ne, len)), get_or-take n xs j 0 (omega (arith, len)), s i j (omega (arith, ne)) (omega (arith, len)))
    ]))

-- what is found in the first m is found in the first n, where v is not above the last of these m
pub found_farther : (xs : List ℕ) (m n v : ℕ) (r : Result ℕ ℕ) → Rising xs n → m ≤ n → (m < n → (0 < m) × (v ≤ slice_index xs (m - 1))) →
    MatchResult r (λ i. At xs m i v) (λ i. InsertionPoint xs m i v) → MatchResult r (λ i. At xs n i v) (λ i. InsertionPoint xs n i v)
found_farther xs m n v (Ok i) s l far a = record { within = omega (arith, a.within); here = a.here }
found_farther xs m n v (Err i) s l far b = record {
  within = omega (arith, b.within);
  before = b.before;
  above = λ k h q. elim (cases_lt k m) [
    | inl c ↦ b.above k h c
    | inr c ↦ (let f = far (omega arith) in omega (arith, f.1, s (m - 1) k (omega (arith, f.0)) q))
  ];
}

insertion_none : (xs : List ℕ) (n at v : ℕ) → InsertionPoint xs n at v → among xs n v ≡ false
insertion_none xs n at v b = elim (cases_Bool (among xs n v)) [
  | inl h ↦ (let f = among_found xs n v h in
      elim (cases_lt f.0 at) [
        | inl l ↦ absurd (omega (arith, b.before f.0 l, f.2))
        | inr l ↦ absurd (omega (arith, b.above f.0 l f.1, f.2))
      ])
  | inr h ↦ h
]

-- a rising list climbs at least by one at each place
climbs : (xs : List ℕ) (n : ℕ) → Rising xs n → (i : ℕ) → i < n → i ≤ slice_index xs i
climbs xs n r zero l = omega arith
climbs xs n r (suc i) l = omega (arith, climbs xs n r i (omega arith), r i (suc i) (omega arith) l)

-- d places before the last it is at most 63 - d
stays_under : (xs : List ℕ) → Small xs 64 → Rising xs 64 → (d i : ℕ) → i + d ≡ 63 → slice_index xs i ≤ i
stays_under xs s r zero i e = omega (arith, s i (omega arith))
stays_under xs s r (suc d) i e = omega (arith, stays_under xs s r d (i + 1) (omega arith), r i (i + 1) (omega arith) (omega arith))

full : (xs : List ℕ) (at v : ℕ) → Small xs 64 → Rising xs 64 → v < 64 → InsertionPoint xs 64 at v → ⊥
full xs zero v s r h b = omega (arith, b.above 0 (omega arith) (omega arith), stays_under xs s r 63 0 (omega arith))
full xs (suc p) v s r h b = elim (cases_lt (suc p) 64) [
  | inl q ↦ omega (arith, b.above (suc p) (omega arith) q, stays_under xs s r (63 - suc p) (suc p) (omega arith), b.before p (omega arith), climbs xs 64 r p (omega arith))
  | inr q ↦ omega (arith, b.within, b.before p (omega arith), climbs xs 64 r p (omega (arith, b.within)))
]

-- a full list has every number, so one that lacks v has a place left
insertion_fits : (xs : List ℕ) (n at v : ℕ) → n ≤ 64 → Small xs n → Rising xs n → v < 64 → InsertionPoint xs n at v → n < 64
insertion_fits xs n at v h s r small b = elim (cases_lt n 64) [
  | inl q ↦ q
  | inr q ↦ (let e : n ≡ 64 = omega arith in
      absurd (full xs at v (subst (Small xs) e s) (subst (Rising xs) e r) small (subst (λ m. InsertionPoint xs m at v) e b)))
]

pub found_member : (xs : List ℕ) (n v : ℕ) (r : Result ℕ ℕ) → MatchResult r (λ i. At xs n i v) (λ i. InsertionPoint xs n i v) → is_ok r ≡ among xs n v
found_member xs n v (Ok i) a = sym (among_at xs n v i a.within a.here)
found_member xs n v (Err i) b = sym (insertion_none xs n i v b)

pub room_left : (xs : List ℕ) (n v : ℕ) (r : Result ℕ ℕ) → n ≤ 64 → Small xs n → Rising xs n → MatchResult r (λ i. At xs n i v) (λ i. InsertionPoint xs n i v) → OnErr r (v < 64 → n < 64)
room_left xs n v (Ok i) h s r b = tt
room_left xs n v (Err i) h s r b = λ small. insertion_fits xs n i v h s r small b

-- the rest of the first n moved up by one, and v put in
module _ (xs zs : List ℕ) (n at v : ℕ) (w : at < length zs) (m : CopiedTo xs zs at (at + 1) (n - at)) (b : SameBelow xs zs (at + 1)) (l : at ≤ n) where
  abbrev pub ys : List ℕ
  ys = set zs at v

  before : (k : ℕ) → k < at → slice_index ys k ≡ slice_index xs k
  before k h = let ne : k ≢ at = omega arith in get_or-set_other zs at k v 0 ne ∙ b k 0 (omega arith)

  here : slice_index ys at ≡ v
  here = get_or-set_same zs at v 0 w

  past : (k : ℕ) → at < k → k < n + 1 → slice_index ys k ≡ slice_index xs (k - 1)
  past k h q =
      let ne : k ≢ at = omega arith in
      let e : at + (k - (at + 1)) ≡ k - 1 = omega arith in
      get_or-set_other zs at k v 0 ne ∙ m k 0 (omega arith) (omega arith) ∙ ap (λ u. get_or xs u 0) e

  pub inserted_has : (k : ℕ) → among ys (n + 1) k ≡ (k == v || among xs n k)
  inserted_has k = same_from (among ys (n + 1) k) (k == v || among xs n k)
      (λ h. let r = among_found ys (n + 1) k h in let i = r.0 in
      elim (cases_order i at) [
        | inl e ↦ or_left (k == v) (among xs n k) (eq-eqb k v (sym r.2 ∙ ap (λ u. slice_index ys u) e ∙ here))
        | inr q ↦ elim q [
          | inl lt ↦ or_right (k == v) (among xs n k) (among_at xs n k i (omega arith) (sym (before i lt) ∙ r.2))
          | inr gt ↦ or_right (k == v) (among xs n k) (among_at xs n k (i - 1) (omega (arith, r.1)) (sym (past i gt r.1) ∙ r.2))
        ]
      ])
      (λ h. elim (or_cases (k == v) (among xs n k) h) [
        | inl e ↦ among_at ys (n + 1) k at (omega arith) (here ∙ sym (eqb-true k v e))
        | inr e ↦ (let r = among_found xs n k e in let i = r.0 in
            elim (cases_lt i at) [
              | inl lt ↦ among_at ys (n + 1) k i (omega (arith, r.1)) (before i lt ∙ r.2)
              | inr ge ↦ among_at ys (n + 1) k (i + 1) (omega (arith, r.1)) ((let s : i ≡ i + 1 - 1 = omega arith in past (i + 1) (omega arith) (omega (arith, r.1)) ∙ ap (λ u. slice_index xs u) (sym s)) ∙ r.2)
            ])
      ])

  pub inserted_small : v < 64 → Small xs n → Small ys (n + 1)
  inserted_small h s i m = elim (cases_order i at) [
    | inl e ↦ omega (arith, ap (λ u. slice_index ys u) e, here)
    | inr q ↦ elim q [
      | inl lt ↦ omega (arith, before i lt, s i (omega arith))
      | inr gt ↦ omega (arith, past i gt m, s (i - 1) (omega arith))
    ]
  ]

  pub inserted_rises : Rising xs n → InsertionPoint xs n at v → Rising ys (n + 1)
  inserted_rises r b i j h m = elim (cases_order j at) [
    | inl e ↦ omega (arith, ap (λ u. slice_index ys u) e, here, before i (omega arith), b.before i (omega arith))
    | inr q ↦ elim q [
      | inl lt ↦ omega (arith, before j lt, before i (omega arith), r i j h (omega arith))
      | inr gt ↦ elim (cases_order i at) [
        | inl e ↦ omega (arith, ap (λ u. slice_index ys u) e, here, past j gt m, b.above (j - 1) (omega arith) (omega arith))
        | inr p ↦ elim p [
          | inl lt ↦ omega (arith, before i lt, past j gt m, r i (j - 1) (omega arith) (omega arith))
          | inr gi ↦ omega (arith, past i gi (omega arith), past j gt m, r (i - 1) (j - 1) (omega arith) (omega arith))
        ]
      ]
    ]
  ]

-- the rest of the first n moved down by one, onto v
module _ (xs ys : List ℕ) (n at v : ℕ) (m : CopiedTo xs ys (at + 1) at (n - (at + 1))) (b : SameBelow xs ys at) (l : at < n) (e : slice_index_or xs at 0 ≡ v) (r : Rising xs n) where
  next : (k : ℕ) → at ≤ k → k + 1 < n → slice_index ys k ≡ slice_index xs (k + 1)
  next k h q = let i : at + 1 + (k - at) ≡ k + 1 = omega arith in m k 0 h (omega arith) ∙ ap (λ u. get_or xs u 0) i

  pub removed_has : (k : ℕ) → among ys (n - 1) k ≡ (not (k == v) && among xs n k)
  removed_has k = same_from (among ys (n - 1) k) (not (k == v) && among xs n k)
      (λ h. let f = among_found ys (n - 1) k h in let i = f.0 in
      elim (cases_lt i at) [
        | inl lt ↦ and_from (not (k == v)) (among xs n k)
            (not_from_false (k == v) (ne_eqb k v (λ q. omega (arith, q, f.2, b i 0 lt, e, r i at lt l)))) (among_at xs n k i (omega arith) (sym (b i 0 lt) ∙ f.2))
        | inr ge ↦ and_from (not (k == v)) (among xs n k)
            (not_from_false (k == v) (ne_eqb k v (λ q. omega (arith, q, f.2, next i ge (omega (arith, f.1)), e, r at (i + 1) (omega arith) (omega (arith, f.1))))))
            (among_at xs n k (i + 1) (omega (arith, f.1)) (sym (next i ge (omega (arith, f.1))) ∙ f.2))
      ])
      (λ h. let ps = and_parts (not (k == v)) (among xs n k) h in
      let ne : nat_eq k v ≡ false = not-true (k == v) ps.0 in
      let f = among_found xs n k ps.1 in let i = f.0 in
      elim (cases_order i at) [
        | inl q ↦ absurd (both_ways (k == v) ne (eq-eqb k v (sym f.2 ∙ ap (λ u. slice_index xs u) q ∙ e)))
        | inr p ↦ elim p [
          | inl lt ↦ among_at ys (n - 1) k i (omega arith) (b i 0 lt ∙ f.2)
          | inr gt ↦ (let s : i ≡ (i - 1) + 1 = omega arith in
              among_at ys (n - 1) k (i - 1) (omega (arith, f.1)) (next (i - 1) (omega arith) (omega (arith, f.1)) ∙ ap (λ u. slice_index xs u) (sym s) ∙ f.2))
        ]
      ])

  pub removed_small : Small xs n → Small ys (n - 1)
  removed_small s i m = elim (cases_lt i at) [
    | inl lt ↦ omega (arith, b i 0 lt, s i (omega arith))
    | inr ge ↦ omega (arith, next i ge (omega arith), s (i + 1) (omega arith))
  ]

  pub removed_rises : Rising ys (n - 1)
  removed_rises i j h m = elim (cases_lt i at) [
    | inl li ↦ elim (cases_lt j at) [
      | inl lj ↦ omega (arith, b i 0 li, b j 0 lj, r i j h (omega arith))
      | inr gj ↦ omega (arith, b i 0 li, next j gj (omega arith), r i (j + 1) (omega arith) (omega arith))
    ]
    | inr gi ↦ omega (arith, next i gi (omega arith), next j (omega arith) (omega arith), r (i + 1) (j + 1) (omega arith) (omega arith))
  ]

pub above_none : (xs : List ℕ) (n v : ℕ) → Small xs n → 64 ≤ v → among xs n v ≡ false
above_none xs n v s h = elim (cases_Bool (among xs n v)) [ inl t ↦ absurd (omega (arith, among_small xs n v s t)) | inr f ↦ f ]
