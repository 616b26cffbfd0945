-- A number is the sum of its bytes, and a row that is written over leaves the others.
use Rattle.std.proofs.Common.{◌≡◌, ℕ, zero, suc, get_or, ◌+◌, ◌-◌, ◌*◌, ◌/◌, ◌%◌, ◌^◌, ◌<◌, ◌≤◌, List, cond, ltb, length, take, drop, sym, ap, ◌∙◌, subst, inl, inr, arith, length-drop}
use native.Mathlib.Nat.{div-div-eq-div-mul}
use borrow.Rule.Slice.PartMut.{put_mid, same_len_mid}
use Rattle.std.proofs.lemmas.List.{drop-take, drop-drop, length-take-le}
use Rattle.std.proofs.lemmas.Nat.{div-add-mod'}
use Rattle.std.proofs.lemmas.Slice.{take-put_mid_below, drop-put_mid, between-put_mid}
use Rattle.std.proofs.lemmas.Bool.{cases_order}
use Rattle.std.proofs.Math.Nat.{pow-suc}
use Rattle.std.specs.Int.{byte_at, byte_worth, sum_through, to_le_bytes, w128}
use Rattle.std.specs.Simd.{first_chunks}
use Rattle.workspace.specs.Rows.{number, row_of, within, row_in}

-- the lowest bytes of a number, and what is above them
bytes_summed : (k n : ℕ) → sum_through (λ i. byte_worth i (byte_at i n)) k + n / 256 ^ suc k * 256 ^ suc k ≡ n
bytes_summed zero n = omega arith
bytes_summed (suc k) n =
    let m = 256 ^ suc k in
    let halved : n / 256 ^ suc (suc k) ≡ n / m / 256 = ap (λ d. n / d) (pow-suc 256 (suc k)) ∙ sym (div-div-eq-div-mul n m 256) in
    let split : n / m * m ≡ (n / m / 256 * 256 + n / m % 256) * m = ap (λ q. q * m) (sym (div-add-mod' (n / m) 256)) in
    let above : n / 256 ^ suc (suc k) * 256 ^ suc (suc k) ≡ n / m / 256 * (m * 256) = λ i. halved i * pow-suc 256 (suc k) i in
    omega (arith, bytes_summed k n, split, above)

pub number_bytes : (x : ℕ) → x < 2 ^ 128 → number (to_le_bytes w128 x) ≡ x
unfolding number
number_bytes x h = omega (arith, bytes_summed 15 x)

-- chunk k is n elements from n * k on
pub chunk_at : (n c k : ℕ) (xs d : List ℕ) → k < c → get_or (first_chunks n c xs) k d ≡ take n (drop (n * k) xs)
chunk_at n zero k xs d l = absurd (omega arith)
chunk_at n (suc c) zero xs d l = let e : 0 ≡ n * 0 = omega arith in ap (λ m. take n (drop m xs)) e
chunk_at n (suc c) (suc k) xs d l = chunk_at n c k (drop n xs) d (omega arith) ∙ ap (take n) (drop-drop (n * k) n xs) ∙ (let e : n + n * k ≡ n * suc k = omega arith in ap (λ m. take n (drop m xs)) e)

pub sixteen : (k : ℕ) → 16 ≡ (16 * k + 16) - 16 * k
sixteen k = omega arith

-- what stands in row j after row k was written over
module _ (xs ys : List ℕ) (k : ℕ) (fits : 16 * k + 16 ≤ length xs) (len : length ys ≡ 16) where
  pub row_here : row_of (put_mid (16 * k) 16 xs ys) k ≡ number ys
  unfolding row_of
  row_here = ap number (ap (λ n. take n (drop (16 * k) (put_mid (16 * k) 16 xs ys))) (sixteen k) ∙ between-put_mid (16 * k) 16 xs ys (16 * k + 16) (omega arith) (omega arith))

  pub row_other : (j : ℕ) → (j ≡ k → ⊥) → row_of (put_mid (16 * k) 16 xs ys) j ≡ row_of xs j
  unfolding row_of
  row_other j ne = elim (cases_order j k) [
    | inl e ↦ absurd (ne e)
    | inr o ↦ elim o [
      | inl lt ↦ ap number (sym (drop-take (16 * j) 16 (put_mid (16 * k) 16 xs ys)) ∙ ap (drop (16 * j)) (take-put_mid_below (16 * k) 16 xs ys (16 * j + 16) (omega arith) (omega arith)) ∙ drop-take (16 * j) 16 xs)
      | inr gt ↦ ap (λ l. number (take 16 l)) (drop-put_mid (16 * k) 16 xs ys (16 * j) (omega arith) (omega arith) len)
    ]
  ]

-- row k was written over
pub record Written (xs ws : List ℕ) (k bits : ℕ) : Type 0 where
  pub here : row_in ws k ≡ cond (within xs k) bits 0
  pub others : (j : ℕ) → (j ≡ k → ⊥) → row_in ws j ≡ row_in xs j

-- by a part whose length is as the code has it
pub written : (xs ys : List ℕ) (k n bits : ℕ) → 16 * k + 16 ≤ length xs → n ≡ 16 → bits < 2 ^ 128 → ys ≡ to_le_bytes w128 bits → Written xs (put_mid (16 * k) n xs ys) k bits
written xs ys k n bits fits e small is =
    let len : length ys ≡ 16 = ap length is in
    let ws = put_mid (16 * k) 16 xs ys in
    let part : length ys ≡ length (take 16 (drop (16 * k) xs)) = len ∙ sym (length-take-le 16 (drop (16 * k) xs) (omega (arith, length-drop (16 * k) xs))) in
    let same : length ws ≡ length xs = same_len_mid (16 * k) 16 xs ys part in
    let bits_here : row_of ws k ≡ bits = row_here xs ys k fits len ∙ ap number is ∙ number_bytes bits small in
    let at_16 : Written xs ws k bits = record {
      here = λ i. cond (ltb k (same i / 16)) (bits_here i) 0;
      others = λ j ne i. cond (ltb j (same i / 16)) (row_other xs ys k fits len j ne i) 0;
    } in
    subst (λ m. Written xs (put_mid (16 * k) m xs ys) k bits) (sym e) at_16
