-- A line of numbers is read exactly where it is written so, each number is in its range, and all are in place.
use Rattle.std.proofs.Common.{◌≡◌, ℕ, ◌+◌, Bool, true, cond, eqb, List, [], ◌∷◌, ◌++◌, map, length, get_or, Ok, decimal, Result, sym, ap, ◌∙◌, subst, arith}
use Rattle.std.proofs.lemmas.Bool.{cond-true, eqb-true, eq-eqb}
use Rattle.semantics.specs.Cuts.{fields_of}
use Rattle.semantics.specs.Faults.{Fault, refused_at, and_then}
use Rattle.semantics.specs.LineReading.{numbers_in}
use Rattle.semantics.specs.SheetReading.{Reading, leads, due_in, plain_line}
use Rattle.semantics.specs.Written.{line_text}
use Rattle.semantics.proofs.Inversion.{byte_back}
use Rattle.semantics.proofs.NumberFields.{ok_same, err_ok, then_ok, passed, Ranged, ranged_length, numbers_back, numbers_read}
use Rattle.semantics.proofs.Rows.{Row, Fit, row_body, plain, plain_text}
use Rattle.semantics.proofs.Uncutting.{fields_back, ended}

module _ (ranges : List (ℕ → Bool)) (inPlace : List ℕ → Bool) (b : ℕ) where
  row_back : (n : ℕ) (fs : Row) (xs : List ℕ) → get_or fs 0 [] ≡ b ∷ [] → plain_line ranges inPlace n fs ≡ Ok xs →
      (fs ≡ plain b xs) × (Ranged ranges xs) × (inPlace xs ≡ true)
  row_back n [] xs q e = let z : ◌≡◌ {A = ℕ} 0 1 = cc in absurd (omega arith)
  row_back n (f ∷ fs) xs q e =
      let c = passed (eqb (length (f ∷ fs)) (1 + length ranges)) _ _ xs e in
      let a = then_ok (numbers_in n 2 ranges fs) _ xs c.1 in
      let d = passed (inPlace a.0) _ _ xs a.2 in
      let same = ok_same a.0 xs d.1 in
      let s = numbers_back n ranges fs 2 a.0 (omega (arith, eqb-true _ _ c.0)) a.1 in
      (ap (λ v. v ∷ fs) q ∙ ap (λ v. (b ∷ []) ∷ v) (s.0 ∙ ap (map decimal) same), subst (Ranged ranges) same s.1, ap inPlace (sym same) ∙ d.0)

  -- a line that is read is the text of its numbers
  pub plain_back : (n : ℕ) (l : List ℕ) (xs : List ℕ) → leads b l ≡ true → plain_line ranges inPlace n (fields_of l) ≡ Ok xs →
      (l ++ 10 ∷ [] ≡ line_text b xs) × (Ranged ranges xs) × (inPlace xs ≡ true)
  plain_back n l xs first e =
      let r = row_back n (fields_of l) xs (byte_back b _ first) e in
      (ap (λ v. v ++ 10 ∷ []) (sym (fields_back l) ∙ ap row_body r.0) ∙ sym (plain_text b xs), r.1, r.2)

  pub plain_read : (n : ℕ) (xs : List ℕ) → Ranged ranges xs → Fit xs → inPlace xs ≡ true → plain_line ranges inPlace n (plain b xs) ≡ Ok xs
  plain_read n xs s w p =
      cond-true (eqb (length (plain b xs)) (1 + length ranges)) _ _ (eq-eqb _ _ (omega (arith, ranged_length ranges xs s)))
      ∙ ap (λ r. and_then r (λ xs. cond (inPlace xs) (Ok xs) (refused_at 11 n 2))) (numbers_read n ranges xs 2 s w)
      ∙ cond-true (inPlace xs) _ _ p

-- the line that was due
due_line_law : {X : Type 0} (b : ℕ) (f : ℕ → List (List ℕ) → Result X Fault) (n : ℕ) (ls : List (List ℕ)) (r : Reading X) → due_in b f n ls ≡ Ok r →
    (l : List ℕ) × (ls ≡ l ∷ r.left) × (leads b l ≡ true) × (f n (fields_of l) ≡ Ok r.known)
due_line_law b f n [] r e = absurd (err_ok _ r e)
due_line_law b f n (l ∷ ls) r e =
    let c = passed (leads b l) _ _ r e in
    let a = then_ok (f n (fields_of l)) _ r c.1 in
    let same = ok_same _ r a.2 in
    (l, ap (λ v. l ∷ v.left) same, c.0, a.1 ∙ ap (λ v. Ok v.known) same)

pub due_back : (ranges : List (ℕ → Bool)) (inPlace : List ℕ → Bool) (b n : ℕ) (ls : List (List ℕ)) (r : Reading (List ℕ)) →
    due_in b (plain_line ranges inPlace) n ls ≡ Ok r →
    (ended ls ≡ line_text b r.known ++ ended r.left) × (Ranged ranges r.known) × (inPlace r.known ≡ true)
due_back ranges inPlace b n ls r e =
    let d = due_line_law b (plain_line ranges inPlace) n ls r e in
    let p = plain_back ranges inPlace b n d.0 r.known d.2 d.3 in
    (ap ended d.1 ∙ ap (λ v. v ++ ended r.left) p.0, p.1, p.2)
