-- Tables that are filled step by step stay fit.
use Rattle.std.proofs.Common.{◌≡◌, ℕ, zero, suc, ◌+◌, ◌^◌, ◌<◌, ◌≤◌, Bool, true, false, cond, ◌&&◌, ltb, leb, List, [], ◌∷◌, ◌++◌, length, get_or, set, replicate, sym, refl, ap, ◌∙◌, subst, inl, inr, arith, length-set, get_or-set_other, get_or-set_same}
use Rattle.std.proofs.lemmas.List.{set_past}
use Rattle.std.proofs.lemmas.Bool.{cases_lt, cases_eq, and_parts, and_from, and_right, lt-ltb, le-leb, ltb-true}
use Rattle.semantics.specs.Sets.{all, count}
use Rattle.semantics.proofs.Counts.{count_plus, count_mono}
use Rattle.semantics.proofs.Quantifiers.{all_says}
use Rattle.sets.specs.Bits.{in_bits}
use Rattle.sheets.specs.declared.parts.Local.{Local}
use Rattle.sheets.specs.declared.parts.State.{State}
use Rattle.sheets.specs.Fitting.{copies_fit, local_fits, state_fits, states_fit}
use Rattle.sheets.specs.Moves.{no_state, no_local, move_within, moves_from, move_count}
use Rattle.sheets.proofs.Model.{no_bits}

pub no_copies : copies_fit (replicate 8 0) ≡ true
unfolding copies_fit
no_copies = refl

-- what holds of the item put in and of the others
pub at_set : {X : Type 0} (P : X → Type 0) (xs : List X) (i j : ℕ) (x d : X) → P x → P (get_or xs j d) → P (get_or (set xs i x) j d)
at_set P xs i j x d here there = elim (cases_eq j i) [
  | inl e ↦ elim (cases_lt i (length xs)) [
    | inl l ↦ subst P (sym (ap (λ n. get_or (set xs i x) n d) e ∙ get_or-set_same xs i x d l)) here
    | inr g ↦ subst (λ ys. P (get_or ys j d)) (sym (set_past xs i x g)) there
  ]
  | inr ne ↦ subst P (sym (get_or-set_other xs i j x d ne)) there
]

pub copy_fits : (xs : List ℕ) (c x : ℕ) → copies_fit xs ≡ true → x ≤ 999 → copies_fit (set xs c x) ≡ true
unfolding copies_fit
copy_fits xs c x e l =
    (all_says 8 (λ i. leb (get_or (set xs c x) i 0) 999)).1 (λ i b.
    at_set (λ y. leb y 999 ≡ true) xs c i x 0 (le-leb x 999 l) ((all_says 8 (λ i. leb (get_or xs i 0) 999)).0 e i b))

pub known_fits : (l : Local) → l.position ≤ 999 → copies_fit l.copies ≡ true → local_fits l ≡ true
unfolding local_fits
known_fits l b e = and_from _ _ (le-leb l.position 999 b) e

-- a state with one local state more
pub local_set : (marks : ℕ) (s t : State) (p : ℕ) (l : Local) → state_fits marks s ≡ true → local_fits l ≡ true → t.marks ≡ s.marks → t.locals ≡ set s.locals p l → state_fits marks t ≡ true
unfolding state_fits
local_set marks s t p l e fit em el =
    let a = and_parts (ltb s.marks (2 ^ marks)) _ e in
    and_from _ _ (ap (λ n. ltb n (2 ^ marks)) em ∙ a.0)
    (ap (λ ls. all 6 (λ i. local_fits (get_or ls i no_local))) el
    ∙ (all_says 6 (λ i. local_fits (get_or (set s.locals p l) i no_local))).1 (λ i b.
    at_set (λ y. local_fits y ≡ true) s.locals p i l no_local fit ((all_says 6 (λ i. local_fits (get_or s.locals i no_local))).0 a.1 i b)))

-- a state with other moves
pub moves_set : (marks : ℕ) (s t : State) → state_fits marks s ≡ true → t.marks ≡ s.marks → t.locals ≡ s.locals → state_fits marks t ≡ true
unfolding state_fits
moves_set marks s t e em el = ap (λ n. ltb n (2 ^ marks) && all 6 (λ i. local_fits (get_or t.locals i no_local))) em ∙ ap (λ ls. ltb s.marks (2 ^ marks) && all 6 (λ i. local_fits (get_or ls i no_local))) el ∙ e

pub fit_push : (marks : ℕ) (ss : List State) (s : State) → states_fit marks ss ≡ true → state_fits marks s ≡ true → states_fit marks (ss ++ s ∷ []) ≡ true
fit_push marks [] s e f = and_from _ _ f refl
fit_push marks (t ∷ ss) s e f = let a = and_parts (state_fits marks t) _ e in and_from _ _ a.0 (fit_push marks ss s a.1 f)

pub fit_set : (marks : ℕ) (ss : List State) (k : ℕ) (s : State) → states_fit marks ss ≡ true → state_fits marks s ≡ true → states_fit marks (set ss k s) ≡ true
fit_set marks [] k s e f = refl
fit_set marks (t ∷ ss) zero s e f = and_from _ _ f (and_parts (state_fits marks t) _ e).1
fit_set marks (t ∷ ss) (suc k) s e f = let a = and_parts (state_fits marks t) _ e in and_from _ _ a.0 (fit_set marks ss k s a.1 f)

count_none : (n : ℕ) (m : ℕ → Bool) → ((k : ℕ) → m k ≡ false) → count n m ≡ 0
count_none zero m f = refl
count_none (suc n) m f = ap (λ b. cond b 1 0 + count n m) (f n) ∙ (let e = count_none n m f in omega arith)

-- no state has a move
pub unmoved_count : (ss : List State) → ((k : ℕ) → (get_or ss k no_state).successors.bits ≡ 0) → (k : ℕ) → moves_from ss k ≡ 0
unfolding moves_from
unmoved_count ss none zero = refl
unmoved_count ss none (suc k) =
    let e = count_none (length ss) (move_within ss k) (λ t. and_right (ltb k (length ss) && ltb t (length ss)) _ (ap (λ b. in_bits b t) (none k) ∙ no_bits t)) in
    omega (arith, e, unmoved_count ss none k)

-- one move more at most, from k to x
module _ (ss : List State) (k x : ℕ) (s : State)
    (put : (t : ℕ) → (t ≡ x → ⊥) → in_bits s.successors.bits t ≡ true → in_bits (get_or ss k no_state).successors.bits t ≡ true) where
  abbrev ts : List State
  ts = set ss k s

  same : length ts ≡ length ss
  same = length-set ss k s

  others : (j : ℕ) → (j ≡ k → ⊥) → (t : ℕ) → move_within ts j t ≡ true → move_within ss j t ≡ true
  others j ne t on =
      ap (λ n. (ltb j n && ltb t n) && in_bits (get_or ss j no_state).successors.bits t) (sym same)
      ∙ ap (λ (u : State). (ltb j (length ts) && ltb t (length ts)) && in_bits u.successors.bits t) (sym (get_or-set_other ss k j s no_state ne)) ∙ on

  here : (t : ℕ) → (t ≡ x → ⊥) → move_within ts k t ≡ true → move_within ss k t ≡ true
  here t ne on =
      let a = and_parts (ltb k (length ts) && ltb t (length ts)) _ on in
      let l = ltb-true k (length ts) (and_parts (ltb k (length ts)) _ a.0).0 in
      let is : get_or ts k no_state ≡ s = get_or-set_same ss k s no_state (omega (arith, l, same)) in
      and_from _ _ (ap (λ n. ltb k n && ltb t n) (sym same) ∙ a.0) (put t ne (ap (λ (u : State). in_bits u.successors.bits t) (sym is) ∙ a.1))

  rise : (j : ℕ) → (j ≤ k → moves_from ts j ≤ moves_from ss j) × (moves_from ts j ≤ moves_from ss j + 1)
  unfolding moves_from
  rise zero = (λ _. omega arith, omega arith)
  rise (suc j) =
      let r = rise j in
      let n = ap (λ m. count m (move_within ts j)) same in (
        λ l. let ne : j ≡ k → ⊥ = λ e. omega arith in omega (arith, n, r.0 (omega arith), count_mono (length ss) (move_within ts j) (move_within ss j) (others j ne)),
        elim (cases_eq j k) [
          | inl e ↦ omega (arith, n, r.0 (omega arith), (count_plus (length ss) (move_within ts j) (move_within ss j) x (subst (λ i. (t : ℕ) → (t ≡ x → ⊥) → move_within ts i t ≡ true → move_within ss i t ≡ true) (sym e) here)).1)
          | inr ne ↦ omega (arith, n, r.1, count_mono (length ss) (move_within ts j) (move_within ss j) (others j ne))
        ],
      )

  pub moves_more : move_count ts ≤ move_count ss + 1
  moves_more = omega (arith, (rise (length ss)).1, ap (moves_from ts) same)

-- a state of which nothing is known yet
pub plain_fits : (marks : ℕ) (t : State) → t.marks < 2 ^ marks → t.locals ≡ replicate 6 (record { position = 0; copies = replicate 8 0 }) → state_fits marks t ≡ true
unfolding state_fits local_fits copies_fit
plain_fits marks t l e = and_from _ _ (lt-ltb t.marks (2 ^ marks) l) (ap (λ ls. all 6 (λ i. local_fits (get_or ls i no_local))) e)
