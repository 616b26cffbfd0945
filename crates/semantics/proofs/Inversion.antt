-- What a line that is read was.
use Rattle.std.proofs.Common.{◌≡◌, ℕ, ◌+◌, ◌<◌, ◌≤◌, true, eqb, ltb, leb, List, [], ◌∷◌, map, length, get_or, Some, None, Ok, decimal, Option, sym, refl, ap, ◌∙◌, subst, ⊎_elim, arith}
use lib.ListN.{length-map}
use Rattle.std.specs.List.{AllByRecursion as All}
use Rattle.std.proofs.lemmas.Bool.{cases_Bool, cond-true, cond-false, eqb-true, leb-false, ltb-false, false≢true}
use Rattle.semantics.specs.Numbers.{number_of}
use Rattle.semantics.specs.LineReading.{Kind, Letter, is_byte, letter_in, number_at, in_range, numbers_in, is_earlier, earlier_at, numbered_line, counted_line, lettered_line}
use Rattle.semantics.specs.Sheets.{Sheet}
use Rattle.semantics.proofs.Decimals.{only_decimal}
use Rattle.semantics.proofs.NumberFields.{ok_same, err_ok, then_ok, passed, held_back, number_back, Ranged, numbers_back}
use Rattle.semantics.proofs.Rows.{Row}

pub byte_back : (b : ℕ) (bs : List ℕ) → is_byte b bs ≡ true → bs ≡ b ∷ []
byte_back b [] e = absurd (false≢true e)
byte_back b (c ∷ []) e = ap (λ v. v ∷ []) (eqb-true c b e)
byte_back b (c ∷ d ∷ cs) e = absurd (false≢true e)

letter_back : {X : Type 0} (P : Letter X → Type 0) (table : List (Letter X)) (bs : List ℕ) (l : Letter X) → All P table → letter_in table bs ≡ Some l → (P l) × (bs ≡ l.byte ∷ [])
letter_back P [] bs l a e = let z : ◌≡◌ {A = ℕ} 0 1 = cc in absurd (omega arith)
letter_back P (m ∷ ms) bs l a e = ⊎_elim
    (λ on. let same : m ≡ l = some_same m l (sym (cond-true (is_byte m.byte bs) _ _ on) ∙ e) in
    (subst P same a.0, byte_back m.byte bs on ∙ ap (λ v. v.byte ∷ []) same))
    (λ off. letter_back P ms bs l a.1 (sym (cond-false (is_byte m.byte bs) _ _ off) ∙ e))
    (cases_Bool (is_byte m.byte bs))
  where
    some_same : {X : Type 0} (x y : X) → Some x ≡ Some y → x ≡ y
    some_same x y e = cc

module _ (h : Sheet) (acts due n : ℕ) where
  -- numbers that name what the kinds ask for
  abbrev pub Named : List Kind → List ℕ → Type 0
  Named [] [] = Unit {0}
  Named [] (x ∷ xs) = ⊥
  Named (k ∷ ks) [] = ⊥
  Named (k ∷ ks) (x ∷ xs) = (in_range h k x ≡ true) × (is_earlier acts due k x ≡ true) × (Named ks xs)

  earlier_back : (ks : List Kind) (xs : List ℕ) (f : ℕ) → Ranged (map (in_range h) ks) xs → earlier_at acts due n f ks xs ≡ Ok tt → Named ks xs
  unfolding earlier_at
  earlier_back [] [] f r e = tt
  earlier_back [] (x ∷ xs) f r e = absurd r
  earlier_back (k ∷ ks) [] f r e = absurd r
  earlier_back (k ∷ ks) (x ∷ xs) f r e = let c = passed (is_earlier acts due k x) _ _ tt e in (r.0, c.0, earlier_back ks xs (f + 1) r.1 c.1)

  numbered_back : {X : Type 0} (f g b : List ℕ) (rest : Row) (l : Letter X) (x : X) → length (f ∷ g ∷ b ∷ rest) ≡ 3 + length l.kinds →
      numbered_line h acts due n (f ∷ g ∷ b ∷ rest) l ≡ Ok x →
      (xs : List ℕ) × (g ≡ decimal due) × (rest ≡ map decimal xs) × (Named l.kinds xs) × (l.makes xs ≡ x)
  numbered_back f g b rest l x len e =
      let a = then_ok (number_at n 2 (number_of g)) _ x e in
      let d = only_decimal g a.0 (number_back n 2 (number_of g) a.0 a.1) in
      let c = then_ok (numbers_in n 4 (map (in_range h) l.kinds) rest) _ x a.2 in
      let r = numbers_back n (map (in_range h) l.kinds) rest 4 c.0 (omega (arith, length-map l.kinds (in_range h))) c.1 in
      let o = passed (eqb a.0 due) _ _ x c.2 in
      let w = then_ok (earlier_at acts due n 4 l.kinds c.0) _ x o.1 in
      (c.0, d.0 ∙ ap decimal (eqb-true a.0 due o.0), r.0, earlier_back l.kinds c.0 4 r.1 w.1, ok_same (l.makes c.0) x w.2)

  counted_back : {X : Type 0} (fs : Row) (o : Option (Letter X)) (x : X) → counted_line h acts due n fs o ≡ Ok x →
      (l : Letter X) × (o ≡ Some l) × (length fs ≡ 3 + length l.kinds) × (numbered_line h acts due n fs l ≡ Ok x)
  counted_back fs None x e = absurd (err_ok _ x e)
  counted_back fs (Some l) x e = let c = passed (eqb (length fs) (3 + length l.kinds)) _ _ x e in (l, refl, eqb-true _ _ c.0, c.1)

  -- a line that is read, with its first field, was spelled by a letter of the table
  pub lettered_back : {X : Type 0} (table : List (Letter X)) (most : ℕ) (Q : ℕ → List ℕ → X → Type 0) (fs : Row) (x : X) →
      All (λ l. (xs : List ℕ) → Named l.kinds xs → Q l.byte xs (l.makes xs)) table → lettered_line table most h acts due n fs ≡ Ok x →
      (byte : ℕ) × (xs : List ℕ) × (due < most) × (fs ≡ get_or fs 0 [] ∷ decimal due ∷ (byte ∷ []) ∷ map decimal xs) × (Q byte xs x)
  lettered_back table most Q fs x a e =
      let c = held_back (leb most due) _ _ x e in
      let d = held_back (ltb (length fs) 3) _ _ x c.1 in
      go fs (ltb-false _ _ d.0) (leb-false _ _ c.0) d.1
    where
      go : (fs : Row) → 3 ≤ length fs → due < most → counted_line h acts due n fs (letter_in table (get_or fs 2 [])) ≡ Ok x →
          (byte : ℕ) × (xs : List ℕ) × (due < most) × (fs ≡ get_or fs 0 [] ∷ decimal due ∷ (byte ∷ []) ∷ map decimal xs) × (Q byte xs x)
      go [] m l e = absurd (omega arith)
      go (f ∷ []) m l e = absurd (omega arith)
      go (f ∷ g ∷ []) m l e = absurd (omega arith)
      go (f ∷ g ∷ b ∷ rest) m l e =
          let c = counted_back (f ∷ g ∷ b ∷ rest) (letter_in table b) x e in
          let k = letter_back (λ l. (xs : List ℕ) → Named l.kinds xs → Q l.byte xs (l.makes xs)) table b c.0 a c.1 in
          let r = numbered_back f g b rest c.0 x c.2 c.3 in (
            c.0.byte,
            r.0,
            l,
            ap (λ v. f ∷ v ∷ b ∷ rest) r.1 ∙ ap (λ v. f ∷ decimal due ∷ v ∷ rest) k.1 ∙ ap (λ v. f ∷ decimal due ∷ (c.0.byte ∷ []) ∷ v) r.2,
            subst (Q c.0.byte r.0) r.4 (k.0 r.0 r.3),
          )
