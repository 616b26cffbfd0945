-- The operands of a row, written in step with their kinds.
use Rattle.std.proofs.Common.{◌≡◌, ℕ, ◌+◌, ◌≤◌, ◌⊎◌, List, ◌∷◌, length, get_or, drop, decimal, refl, sym, ap, ◌∙◌, add-zero, inl, inr, arith}
use Rattle.std.proofs.lemmas.List.{get_or-drop, drop-drop, length-drop}
use Rattle.sheets.specs.declared.operator.Kind.{Kind}
use Rattle.sheets.specs.declared.operator.Kind.TheVariants as kind
use Rattle.sheets.specs.declared.parts.Row.{Row}
use Rattle.sheets.specs.Operators.{kinds_of}
use Rattle.texts.specs.declared.writer.Writer.{Writer}
use Rattle.texts.specs.Written.{Gave, texts_below}
use Rattle.texts.proofs.Writing.{texts_none, texts_more, gave_as}
use Rattle.writer.specs.Render.{number_text, operand_text}

-- the first n operands are written, and these kinds and operands are left
pub record Walked (row : Row) (ks : List Kind) (xs : List ℕ) (w v : Writer) : Type 0 where
  pub n : ℕ
  pub kinds : drop n (kinds_of row.operator) ≡ ks
  pub operands : drop n row.operands ≡ xs
  pub few : n ≤ length row.operands
  pub given : Gave w (texts_below n (operand_text row)) v

pub walked_none : (row : Row) (w : Writer) → Walked row (kinds_of row.operator) row.operands w w
walked_none row w = record { n = 0; kinds = refl; operands = refl; few = omega arith; given = texts_none (operand_text row) w w.counted }

first_left : {A : Type 0} (n : ℕ) (xs : List A) (y d : A) (ys : List A) → drop n xs ≡ y ∷ ys → y ≡ get_or xs n d
first_left n xs y d ys e = sym (ap (λ l. get_or l 0 d) e) ∙ get_or-drop n xs 0 d ∙ ap (λ i. get_or xs i d) (add-zero n)

rest_left : {A : Type 0} (n : ℕ) (xs : List A) (y : A) (ys : List A) → drop n xs ≡ y ∷ ys → drop (n + 1) xs ≡ ys
rest_left n xs y ys e = sym (drop-drop 1 n xs) ∙ ap (drop 1) e

pub walked_more : {row : Row} {k : Kind} {ks ls : List Kind} {x : ℕ} {xs ys : List ℕ} {u v w : Writer} → Walked row ls ys u v → ls ≡ k ∷ ks → ys ≡ x ∷ xs → Gave v (number_text k x) w → Walked row ks xs u w
walked_more {row = row} {k = k} {ks = ks} {x = x} {xs = xs} {u = u} h e f g =
    let a = h.kinds ∙ e in
    let b = h.operands ∙ f in
    let here : number_text k x ≡ operand_text row h.n =
    λ i. number_text (first_left h.n (kinds_of row.operator) k kind.Absent ks a i) (first_left h.n row.operands x 0 xs b i) in
    record {
      n = h.n + 1;
      kinds = rest_left h.n (kinds_of row.operator) k ks a;
      operands = rest_left h.n row.operands x xs b;
      few = omega (arith, length-drop h.n row.operands, ap length b);
      given = texts_more (operand_text row) h.n u.counted h.given (gave_as here g);
    }

pub walked_all : {row : Row} {ks : List Kind} {xs : List ℕ} {u v : Writer} → length (kinds_of row.operator) ≡ 3 → length row.operands ≡ 3 → Walked row ks xs u v → (length ks ≡ 0) ⊎ (length xs ≡ 0) → Gave u (texts_below 3 (operand_text row)) v
walked_all {row = row} m n h none =
    let all : h.n ≡ 3 = elim none [
      | inl e ↦ omega (arith, m, length-drop h.n (kinds_of row.operator), ap length h.kinds)
      | inr e ↦ omega (arith, n, length-drop h.n row.operands, ap length h.operands)
    ] in
    gave_as (ap (λ n. texts_below n (operand_text row)) all) h.given

pub number_some : {k : Kind} (x : ℕ) → (k ≡ kind.Mark) ⊎ ((k ≡ kind.Party) ⊎ (k ≡ kind.Line)) → 44 ∷ decimal x ≡ number_text k x
number_some x (inl e) = sym (ap (λ k. number_text k x) e)
number_some x (inr (inl e)) = sym (ap (λ k. number_text k x) e)
number_some x (inr (inr e)) = sym (ap (λ k. number_text k x) e)
