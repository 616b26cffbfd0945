-- A text cut at its first separator, line by line and field by field.
use Rattle.std.proofs.Common.{◌≡◌, ℕ, zero, suc, ◌+◌, ◌<◌, Bool, true, false, ◌&&◌, eqb, List, [], ◌∷◌, length, get_or, sym, refl, ap, ◌∙◌, ⊎_elim, add-one, arith}
use Rattle.std.proofs.lemmas.Bool.{cases_Bool, cond-true, cond-false, eqb-true, ne_eqb, and_left, and_right}
use Rattle.semantics.specs.Cuts.{prefixed, lines_of, fields_of, count_of}
use Rattle.semantics.specs.LineReading.{is_byte}
use Rattle.std.proofs.Math.Numerals.{one-add}
use Rattle.texts.specs.Cuts.{before, after}
use Rattle.texts.specs.Lines.{leads}

-- a separator at the front, or another byte there
before_here : (b c : ℕ) (cs : List ℕ) → eqb c b ≡ true → before b (c ∷ cs) ≡ []
before_here b c cs e = rw e refl

after_here : (b c : ℕ) (cs : List ℕ) → eqb c b ≡ true → after b (c ∷ cs) ≡ cs
after_here b c cs e = rw e refl

before_other : (b c : ℕ) (cs : List ℕ) → eqb c b ≡ false → before b (c ∷ cs) ≡ c ∷ before b cs
before_other b c cs e = rw (e, one-add) refl

after_other : (b c : ℕ) (cs : List ℕ) → eqb c b ≡ false → after b (c ∷ cs) ≡ after b cs
after_other b c cs e = rw (e, one-add, add-one, add-one) refl

prefixed_lines : (b : ℕ) (bs : List ℕ) → (0 < length bs → lines_of bs ≡ before 10 bs ∷ lines_of (after 10 bs)) →
    prefixed b (lines_of bs) ≡ (b ∷ before 10 bs) ∷ lines_of (after 10 bs)
prefixed_lines b [] e = refl
prefixed_lines b (c ∷ cs) e = ap (prefixed b) (e (omega arith))

-- the first line, and those behind it
pub lines_cut : (t : List ℕ) → 0 < length t → lines_of t ≡ before 10 t ∷ lines_of (after 10 t)
lines_cut [] l = absurd (omega arith)
lines_cut (b ∷ bs) l = ⊎_elim
    (λ e. cond-true (eqb b 10) _ _ e ∙ sym (λ i. before_here 10 b bs e i ∷ lines_of (after_here 10 b bs e i)))
    (λ e. cond-false (eqb b 10) _ _ e ∙ prefixed_lines b bs (lines_cut bs) ∙ sym (λ i. before_other 10 b bs e i ∷ lines_of (after_other 10 b bs e i)))
    (cases_Bool (eqb b 10))

first_prefixed : (b : ℕ) (fs : List (List ℕ)) → get_or (prefixed b fs) 0 [] ≡ b ∷ get_or fs 0 []
first_prefixed b [] = refl
first_prefixed b (f ∷ fs) = refl

-- the first field
pub first_field : (bs : List ℕ) → get_or (fields_of bs) 0 [] ≡ before 44 bs
first_field [] = refl
first_field (b ∷ bs) = ⊎_elim
    (λ e. ap (λ v. get_or v 0 []) (cond-true (eqb b 44) _ _ e) ∙ sym (before_here 44 b bs e))
    (λ e. ap (λ v. get_or v 0 []) (cond-false (eqb b 44) _ _ e) ∙ first_prefixed b (fields_of bs) ∙ ap (λ v. b ∷ v) (first_field bs) ∙ sym (before_other 44 b bs e))
    (cases_Bool (eqb b 44))

more_prefixed : (b : ℕ) (fs : List (List ℕ)) (i : ℕ) → get_or (prefixed b fs) (suc i) [] ≡ get_or fs (suc i) []
more_prefixed b [] i = refl
more_prefixed b (f ∷ fs) i = refl

-- the fields behind it; where there are none, those of an empty line
pub more_fields : (bs : List ℕ) (i : ℕ) → get_or (fields_of bs) (suc i) [] ≡ get_or (fields_of (after 44 bs)) i []
more_fields [] zero = refl
more_fields [] (suc i) = refl
more_fields (b ∷ bs) i = ⊎_elim
    (λ e. ap (λ v. get_or v (suc i) []) (cond-true (eqb b 44) _ _ e) ∙ ap (λ v. get_or (fields_of v) i []) (sym (after_here 44 b bs e)))
    (λ e. ap (λ v. get_or v (suc i) []) (cond-false (eqb b 44) _ _ e) ∙ more_prefixed b (fields_of bs) i ∙ more_fields bs i ∙ ap (λ v. get_or (fields_of v) i []) (sym (after_other 44 b bs e)))
    (cases_Bool (eqb b 44))

length_prefixed : (b : ℕ) (fs : List (List ℕ)) → 0 < length fs → length (prefixed b fs) ≡ length fs
length_prefixed b [] l = absurd (omega arith)
length_prefixed b (f ∷ fs) l = refl

-- one field more than commas
pub field_count : (bs : List ℕ) → length (fields_of bs) ≡ count_of 44 bs + 1
field_count [] = refl
field_count (b ∷ bs) = ⊎_elim
    (λ e. ap length (cond-true (eqb b 44) _ _ e) ∙ omega (arith, field_count bs, cond-true (eqb b 44) (count_of 44 bs + 1) (count_of 44 bs) e))
    (λ e. ap length (cond-false (eqb b 44) _ _ e) ∙ length_prefixed b (fields_of bs) (omega (arith, field_count bs)) ∙ omega (arith, field_count bs, cond-false (eqb b 44) (count_of 44 bs + 1) (count_of 44 bs) e))
    (cases_Bool (eqb b 44))

-- a line leads with a letter where its first field is the letter
pub leads_field : (b : ℕ) (bs : List ℕ) → (b ≡ 44 → ⊥) → leads b bs ≡ is_byte b (get_or (fields_of bs) 0 [])
leads_field b bs other = go bs ∙ ap (is_byte b) (sym (first_field bs))
  where
    comma : (c : ℕ) → eqb c 44 ≡ true → eqb c b ≡ false
    comma c e = ne_eqb c b (λ q. other (sym q ∙ eqb-true c 44 e))

    go : (bs : List ℕ) → leads b bs ≡ is_byte b (before 44 bs)
    go [] = refl
    go (c ∷ []) = ⊎_elim
        (λ e. comma c e ∙ ap (is_byte b) (sym (before_here 44 c [] e)))
        (λ e. ap (is_byte b) (sym (before_other 44 c [] e)))
        (cases_Bool (eqb c 44))
    go (c ∷ d ∷ cs) = ⊎_elim
        (λ e. and_left _ _ (comma c e) ∙ ap (is_byte b) (sym (before_here 44 c (d ∷ cs) e)))
        (λ e. ⊎_elim
        (λ f. ap (λ v. eqb c b && v) f ∙ keep (eqb c b) ∙ ap (λ v. is_byte b (c ∷ v)) (sym (before_here 44 d cs f)) ∙ ap (is_byte b) (sym (before_other 44 c (d ∷ cs) e)))
        (λ f. and_right (eqb c b) _ f ∙ ap (λ v. is_byte b (c ∷ v)) (sym (before_other 44 d cs f)) ∙ ap (is_byte b) (sym (before_other 44 c (d ∷ cs) e)))
        (cases_Bool (eqb d 44)))
        (cases_Bool (eqb c 44))
      where
        keep : (v : Bool) → (v && true) ≡ v
        keep true = refl
        keep false = refl
