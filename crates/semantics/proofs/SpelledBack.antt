-- The letters of the tables write the lines that they make.
use Rattle.std.proofs.Common.{◌≡◌, ℕ, true, List, [], ◌∷◌, refl}
use Rattle.std.specs.List.{AllByRecursion as All}
use Rattle.std.proofs.lemmas.Bool.{and_from}
use Rattle.semantics.specs.Actions.{ActionLine, only, except, either, R, D, V}
use Rattle.semantics.specs.Queries.{QueryLine, atom, neg, or, EX, AX, EG, EU}
use Rattle.semantics.specs.LineReading.{Kind, a_party, a_mark, an_action, an_operand, at, in_range, is_earlier}
use Rattle.semantics.specs.QueryReading.{action_letters, query_letters}
use Rattle.semantics.specs.QueryText.{action_text, query_line_text}
use Rattle.semantics.specs.ReadBack.{action_fits, query_line_fits}
use Rattle.semantics.specs.Sheets.{Sheet}
use Rattle.semantics.specs.Written.{lettered_text}
use Rattle.semantics.proofs.Inversion.{Named}

module _ (h : Sheet) (acts due n : ℕ) where
  -- what holds of the numbers that some kinds ask for
  none : (P : List ℕ → Type 0) → P [] → (xs : List ℕ) → Named h acts due n [] xs → P xs
  none P f [] s = f
  none P f (x ∷ xs) s = absurd s

  pub one : (P : List ℕ → Type 0) (k : Kind) → ((x : ℕ) → in_range h k x ≡ true → is_earlier acts due k x ≡ true → P (x ∷ [])) →
      (xs : List ℕ) → Named h acts due n (k ∷ []) xs → P xs
  one P k f [] s = absurd s
  one P k f (x ∷ xs) s = none (λ ys. P (x ∷ ys)) (f x s.0 s.1) xs s.2

  pub two : (P : List ℕ → Type 0) (k j : Kind) →
      ((x y : ℕ) → in_range h k x ≡ true → is_earlier acts due k x ≡ true → in_range h j y ≡ true → is_earlier acts due j y ≡ true → P (x ∷ y ∷ [])) →
      (xs : List ℕ) → Named h acts due n (k ∷ j ∷ []) xs → P xs
  two P k j f [] s = absurd s
  two P k j f (x ∷ xs) s = one (λ ys. P (x ∷ ys)) j (λ y a b. f x y s.0 s.1 a b) xs s.2

  pub three : (P : List ℕ → Type 0) (k j i : Kind) →
      ((x y z : ℕ) → in_range h k x ≡ true → is_earlier acts due k x ≡ true → in_range h j y ≡ true → is_earlier acts due j y ≡ true →
      in_range h i z ≡ true → is_earlier acts due i z ≡ true → P (x ∷ y ∷ z ∷ [])) →
      (xs : List ℕ) → Named h acts due n (k ∷ j ∷ i ∷ []) xs → P xs
  three P k j i f [] s = absurd s
  three P k j i f (x ∷ xs) s = two (λ ys. P (x ∷ ys)) j i (λ y z a b c d. f x y z s.0 s.1 a b c d) xs s.2

  unfoldable pub Spells : ℕ → List ℕ → ActionLine → Type 0
  Spells byte xs x = (action_text due x ≡ lettered_text 65 due byte xs) × (action_fits h due x ≡ true)

  pub actions_spell : All (λ l. (xs : List ℕ) → Named h acts due n l.kinds xs → Spells l.byte xs (l.makes xs)) action_letters
  unfolding Spells
  actions_spell = (
    none (λ xs. Spells 82 xs (only R)) (refl, refl),
    (
      two (λ xs. Spells 68 xs (only (D (at xs 0) (at xs 1)))) a_party a_party (λ x y a _ b _. (refl, and_from _ _ a b)),
      (
        two (λ xs. Spells 86 xs (only (V (at xs 0) (at xs 1)))) a_party a_party (λ x y a _ b _. (refl, and_from _ _ a b)),
        (
          one (λ xs. Spells 78 xs (except (at xs 0))) an_operand (λ x _ a. (refl, a)),
          (two (λ xs. Spells 79 xs (either (at xs 0) (at xs 1))) an_operand an_operand (λ x y _ a _ b. (refl, and_from _ _ a b)), tt),
        ),
      ),
    ),
  )

  unfoldable pub SpellsLine : ℕ → List ℕ → QueryLine → Type 0
  SpellsLine byte xs x = (query_line_text due x ≡ lettered_text 66 due byte xs) × (query_line_fits h acts due x ≡ true)

  stepped : (f : ℕ → ℕ → QueryLine) (byte : ℕ) → ((x y : ℕ) → is_earlier acts due an_action x ≡ true → is_earlier acts due an_operand y ≡ true → SpellsLine byte (x ∷ y ∷ []) (f x y)) →
      (xs : List ℕ) → Named h acts due n (an_action ∷ an_operand ∷ []) xs → SpellsLine byte xs (f (at xs 0) (at xs 1))
  stepped f byte g = two (λ xs. SpellsLine byte xs (f (at xs 0) (at xs 1))) an_action an_operand (λ x y _ a _ b. g x y a b)

  pub lines_spell : All (λ l. (xs : List ℕ) → Named h acts due n l.kinds xs → SpellsLine l.byte xs (l.makes xs)) query_letters
  unfolding SpellsLine
  lines_spell = (
    one (λ xs. SpellsLine 77 xs (atom (at xs 0))) a_mark (λ x a _. (refl, a)),
    (
      one (λ xs. SpellsLine 78 xs (neg (at xs 0))) an_operand (λ x _ a. (refl, a)),
      (
        two (λ xs. SpellsLine 79 xs (or (at xs 0) (at xs 1))) an_operand an_operand (λ x y _ a _ b. (refl, and_from _ _ a b)),
        (
          stepped EX 88 (λ x y a b. (refl, and_from _ _ a b)),
          (
            stepped AX 89 (λ x y a b. (refl, and_from _ _ a b)),
            (
              stepped EG 71 (λ x y a b. (refl, and_from _ _ a b)),
              (three (λ xs. SpellsLine 85 xs (EU (at xs 0) (at xs 1) (at xs 2))) an_action an_operand an_operand (λ x y z _ a _ b _ c. (refl, and_from _ _ a (and_from _ _ b c))), tt),
            ),
          ),
        ),
      ),
    ),
  )
