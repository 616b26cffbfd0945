-- A line that was written by the table of letters is read back.
use Rattle.std.proofs.Common.{◌≡◌, ℕ, ◌+◌, ◌<◌, ◌≤◌, true, cond, eqb, ltb, leb, List, [], ◌∷◌, map, length, Some, Ok, decimal, refl, ap, ◌∙◌, arith}
use lib.ListN.{length-map}
use Rattle.std.proofs.lemmas.Bool.{cond-true, cond-false, eq-eqb, lt-leb, le-ltb}
use Rattle.semantics.specs.Faults.{refused_at, and_then}
use Rattle.semantics.specs.LineReading.{Kind, Letter, letter_in, number_at, in_range, numbers_in, is_earlier, earlier_at, counted_line, lettered_line}
use Rattle.semantics.specs.Sheets.{Sheet}
use Rattle.semantics.specs.Written.{lettered_text}
use Rattle.semantics.proofs.Decimals.{reads_decimal}
use Rattle.semantics.proofs.NumberFields.{Ranged, ranged_length, numbers_read}
use Rattle.semantics.proofs.TextLengths.{Small, small_fit}

module _ (h : Sheet) (acts due : ℕ) where
  -- numbers that may stand where the letter asks for such kinds
  abbrev pub Sound : List Kind → List ℕ → Type 0
  Sound [] [] = Unit {0}
  Sound [] (x ∷ xs) = ⊥
  Sound (k ∷ ks) [] = ⊥
  Sound (k ∷ ks) (x ∷ xs) = (in_range h k x ≡ true) × (is_earlier acts due k x ≡ true) × (x < 1000) × (Sound ks xs)

  pub sound_small : (ks : List Kind) (xs : List ℕ) → Sound ks xs → Small xs
  sound_small [] [] s = tt
  sound_small [] (x ∷ xs) s = absurd s
  sound_small (k ∷ ks) [] s = absurd s
  sound_small (k ∷ ks) (x ∷ xs) s = (s.2, sound_small ks xs s.3)

  pub sound_ranged : (ks : List Kind) (xs : List ℕ) → Sound ks xs → Ranged (map (in_range h) ks) xs
  sound_ranged [] [] s = tt
  sound_ranged [] (x ∷ xs) s = absurd s
  sound_ranged (k ∷ ks) [] s = absurd s
  sound_ranged (k ∷ ks) (x ∷ xs) s = (s.0, sound_ranged ks xs s.3)

  module _ (n : ℕ) where
    earlier_read : (ks : List Kind) (xs : List ℕ) (f : ℕ) → Sound ks xs → earlier_at acts due n f ks xs ≡ Ok tt
    unfolding earlier_at
    earlier_read [] [] f s = refl
    earlier_read [] (x ∷ xs) f s = absurd s
    earlier_read (k ∷ ks) [] f s = absurd s
    earlier_read (k ∷ ks) (x ∷ xs) f s = cond-true (is_earlier acts due k x) _ _ s.1 ∙ earlier_read ks xs (f + 1) s.3

    pub line_read_law : {X : Type 0} (table : List (Letter X)) (most kind : ℕ) (l : Letter X) (xs : List ℕ) → letter_in table (l.byte ∷ []) ≡ Some l →
        Sound l.kinds xs → due < most → due < 1000 →
        lettered_line table most h acts due n ((kind ∷ []) ∷ decimal due ∷ (l.byte ∷ []) ∷ map decimal xs) ≡ Ok (l.makes xs)
    line_read_law table most kind l xs found s few small =
        let fs : List (List ℕ) = (kind ∷ []) ∷ decimal due ∷ (l.byte ∷ []) ∷ map decimal xs in
        cond-false (leb most due) _ _ (lt-leb most due few)
        ∙ cond-false (ltb (length fs) 3) _ _ (le-ltb (length fs) 3 (omega arith))
        ∙ ap (counted_line h acts due n fs) found
        ∙ cond-true (eqb (length fs) (3 + length l.kinds)) _ _ (eq-eqb _ _ (omega (arith, ranged_length (map (in_range h) l.kinds) xs (sound_ranged l.kinds xs s), length-map l.kinds (in_range h))))
        ∙ ap (λ o. and_then (number_at n 2 o) (λ k.
        and_then (numbers_in n 4 (map (in_range h) l.kinds) (map decimal xs)) (λ xs.
        cond (eqb k due) (and_then (earlier_at acts due n 4 l.kinds xs) (λ _. Ok (l.makes xs))) (refused_at 11 n 2)))) (reads_decimal due (omega arith))
        ∙ ap (λ r. and_then r (λ xs. cond (eqb due due) (and_then (earlier_at acts due n 4 l.kinds xs) (λ _. Ok (l.makes xs))) (refused_at 11 n 2)))
        (numbers_read n (map (in_range h) l.kinds) xs 4 (sound_ranged l.kinds xs s) (small_fit xs (sound_small l.kinds xs s)))
        ∙ cond-true (eqb due due) _ _ (eq-eqb due due refl)
        ∙ ap (λ r. and_then r (λ _. Ok (l.makes xs))) (earlier_read l.kinds xs 4 s)

-- x is written, as number due of its kind, by a letter of the table
pub record Spelled {X : Type 0} (table : List (Letter X)) (h : Sheet) (acts due kind : ℕ) (x : X) (text : List ℕ) : Type 0 where
  pub spelling : Letter X
  pub numbers : List ℕ
  pub found : letter_in table (spelling.byte ∷ []) ≡ Some spelling
  pub written : text ≡ lettered_text kind due spelling.byte numbers
  pub made : spelling.makes numbers ≡ x
  pub sound : Sound h acts due spelling.kinds numbers
  pub plain : 57 < spelling.byte
  pub few : length numbers ≤ 3
