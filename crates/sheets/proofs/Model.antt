-- What the model of a sheet has.
use Rattle.std.proofs.Common.{◌≡◌, ℕ, zero, suc, ◌/◌, ◌%◌, ◌^◌, ◌<◌, ◌≤◌, Bool, true, false, cond, ◌&&◌, ◌||◌, eqb, ltb, List, [], ◌∷◌, length, get_or, sym, refl, ap, ◌∙◌, inl, inr, lt_of_lt_of_le, arith, pow_mono}
use Rattle.std.proofs.Math.Bool.{and-true}
use native.Mathlib.Nat.{zero-div, div-eq_of_lt}
use Rattle.std.proofs.lemmas.List.{get_or_past}
use Rattle.std.proofs.lemmas.Bool.{cases_lt, cases_Bool, and_parts, and_from, and_left, ltb-true, lt-ltb, false≢true}
use Rattle.std.proofs.lemmas.Bool.Decides.{same_from_decides, Decides-like}
use Rattle.semantics.specs.Access.{implies}
use Rattle.semantics.specs.Sets.{any, all, bit_of}
use Rattle.semantics.specs.Sheets.{shares}
use Rattle.semantics.proofs.Quantifiers.{any_says, all_says}
use Rattle.sets.specs.Bits.{in_bits}
use Rattle.sheets.specs.declared.holders.Holders.{Holders}
use Rattle.sheets.specs.declared.parts.State.{State}
use Rattle.sheets.specs.declared.sheet.Sheet.{Sheet}
use Rattle.sheets.specs.Fits.{Fits}
use Rattle.sheets.specs.Holding.{held, share_some, holders_within}
use Rattle.sheets.specs.Model.{local_at, model_of}
use Rattle.sheets.specs.Moves.{no_state, all_move, moves_from, move_count}

no_cond : (b : Bool) (x : ℕ) → x ≡ 0 → 0 ≡ cond b x 0
no_cond true x e = sym e
no_cond false x e = refl

-- past the last state there is nothing
pub no_start : (ss : List State) (k : ℕ) → length ss ≤ k → false ≡ (get_or ss k no_state).start
no_start ss k h = sym (ap (λ (s : State). s.start) (get_or_past ss k no_state h))

pub no_position : (ss : List State) (k p : ℕ) (b : Bool) → length ss ≤ k → 0 ≡ cond b (local_at ss k p).position 0
no_position ss k p b h = no_cond b _ (ap (λ s. (local_at (s ∷ []) 0 p).position) (get_or_past ss k no_state h))

pub no_copy : (ss : List State) (k p c : ℕ) (b : Bool) → length ss ≤ k → 0 ≡ cond b (get_or (local_at ss k p).copies c 0) 0
no_copy ss k p c b h = no_cond b _ (ap (λ s. get_or (local_at (s ∷ []) 0 p).copies c 0) (get_or_past ss k no_state h))

implied : (a b : Bool) → implies a b ≡ true → a ≡ true → b ≡ true
implied true b e on = e
implied false b e on = absurd (false≢true on)

pub held_within : (channels parties : ℕ) (who : Holders) → holders_within channels parties who ≡ true → (c p : ℕ) → held who c p ≡ true → (c < channels) × (p < parties)
unfolding holders_within
held_within channels parties who e c p on =
    let a = and_parts (ltb c 8) _ on in
    let b = and_parts (ltb p 6) _ a.1 in
    let row = (all_says 8 (λ c. all 6 (λ p. implies (held who c p) (ltb c channels && ltb p parties)))).0 e c (ltb-true c 8 a.0) in
    let cell = (all_says 6 (λ p. implies (held who c p) (ltb c channels && ltb p parties))).0 row p (ltb-true p 6 b.0) in
    let both = and_parts (ltb c channels) (ltb p parties) (implied (held who c p) _ cell on) in
    (ltb-true c channels both.0, ltb-true p parties both.1)

imply : (a b : Bool) → (a ≡ true → b ≡ true) → implies a b ≡ true
imply true b f = f refl
imply false b f = refl

pub within_from : (channels parties : ℕ) (who : Holders) → ((c p : ℕ) → held who c p ≡ true → (c < channels) × (p < parties)) → holders_within channels parties who ≡ true
unfolding holders_within
within_from channels parties who f =
    (all_says 8 (λ c. all 6 (λ p. implies (held who c p) (ltb c channels && ltb p parties)))).1 (λ c _.
    (all_says 6 (λ p. implies (held who c p) (ltb c channels && ltb p parties))).1 (λ p _.
    imply (held who c p) _ (λ on. let x = f c p on in and_from _ _ (lt-ltb c channels x.0) (lt-ltb p parties x.1))))

-- an empty table
pub none_move : all_move [] ≡ true
unfolding all_move
none_move = refl

pub no_moves : move_count [] ≡ 0
unfolding moves_from
no_moves = refl

-- 0 has no bits
pub no_bits : (k : ℕ) → in_bits 0 k ≡ false
no_bits k = ap (λ q. eqb (q % 2) 1 && ltb k 128) (zero-div (2 ^ k))

-- a number below 2 to the power 128 has no other bits
pub small_bits : (x k : ℕ) → x < 2 ^ 128 → in_bits x k ≡ bit_of x k
small_bits x k h = elim (cases_lt k 128) [
  | inl l ↦ (ap (λ b. bit_of x k && b) (lt-ltb k 128 l) ∙ and-true (bit_of x k))
  | inr g ↦ (let none : x / 2 ^ k ≡ 0 = div-eq_of_lt (lt_of_lt_of_le h (pow_mono g)) in
      let off : bit_of x k ≡ false = ap (λ q. eqb (q % 2) 1) none in
      and_left (bit_of x k) _ off ∙ sym off)
]

-- past the last channel or party of a sheet that fits nothing is held
module _ (s : Sheet) (f : Fits s) where
  pub free_channel : (c p : ℕ) → s.header.channels ≤ c → held s.holders c p ≡ false
  free_channel c p l = elim (cases_Bool (held s.holders c p)) [
    | inl on ↦ absurd (omega (arith, l, (held_within _ _ s.holders f.holders_exist c p on).0))
    | inr off ↦ off
  ]

  pub free_party : (c p : ℕ) → s.header.parties ≤ p → held s.holders c p ≡ false
  free_party c p l = elim (cases_Bool (held s.holders c p)) [
    | inl on ↦ absurd (omega (arith, l, (held_within _ _ s.holders f.holders_exist c p on).1))
    | inr off ↦ off
  ]

-- a channel that two parties share is among those of the sheet
share_any : (f : ℕ → Bool) (m n : ℕ) → m ≤ n → ((c : ℕ) → f c ≡ true → c < m) → any m f ≡ any n f
share_any f m n l low = same_from_decides (any m f) (any n f) (any_says m f)
    (Decides-like (any n f) (λ x. (x.0, low x.0 x.2, x.2)) (λ x. (x.0, omega (arith, x.1), x.2)) (any_says n f))

pub shares_any : (h : Holders) (i j n : ℕ) → share_some n h i j ≡ any n (λ c. held h c i && held h c j)
unfolding share_some
shares_any h i j zero = refl
shares_any h i j (suc n) = ap (λ b. (held h n i && held h n j) || b) (shares_any h i j n)

pub shares_is : (s : Sheet) → Fits s → (i j : ℕ) → share_some 8 s.holders i j ≡ shares (model_of s) i j
unfolding model_of
shares_is s f i j = shares_any s.holders i j 8 ∙ sym (share_any (λ c. held s.holders c i && held s.holders c j) s.header.channels 8 s.few_channels
    (λ c on. (held_within _ _ s.holders f.holders_exist c i (and_parts _ _ on).0).0))
