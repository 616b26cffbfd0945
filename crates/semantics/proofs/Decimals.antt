-- Numbers are read back from their decimal digits.
use Rattle.std.proofs.Common.{◌≡◌, ℕ, ◌+◌, ◌-◌, ◌*◌, ◌^◌, ◌<◌, ◌≤◌, Bool, true, ◌&&◌, leb, List, [], ◌∷◌, ◌++◌, length, get_or, Some, None, decimal, sym, refl, ap, ◌∙◌, ⊎_elim, arith, rules}
use Rattle.std.proofs.lemmas.Bool.{cond-true, cond-false, and_parts, and_from, leb-true, cases_lt, cases_Bool}
use Rattle.std.proofs.lemmas.Str.Parse.{IsNumeralModel, numerals_by_fold, digits_value_short}
use Rattle.std.proofs.lemmas.Fmt.{decimal-digits_value, digits_decimal, digits_value-decimal, length-decimal-le, decimal_nonempty, first_decimal, decimal_digit}
use Rattle.std.proofs.lemmas.Bool.Decides.{nat_tests}
use Rattle.semantics.specs.Numbers.{digit, digits_from, shaped, number_of}

abbrev all_digit : List ℕ → Bool
all_digit [] = true
all_digit (c ∷ cs) = digit c && all_digit cs

abbrev read_on : ℕ → List ℕ → ℕ
read_on n [] = n
read_on n (c ∷ cs) = read_on (n * 10 + (c - 48)) cs

own : IsNumeralModel (λ ds. all_digit ds ≡ true) (read_on 0)
own = numerals_by_fold _ (search rules) read_on (search rules)

digits_of : (cs : List ℕ) (n : ℕ) → all_digit cs ≡ true → digits_from n cs ≡ Some (read_on n cs)
digits_of [] n h = refl
digits_of (c ∷ cs) n h = let p = and_parts (digit c) (all_digit cs) h in cond-true _ _ _ p.0 ∙ digits_of cs _ p.1

shaped_from : (bs : List ℕ) → 0 < length bs → length bs ≤ 5 → (get_or bs 0 0 ≡ 48 → length bs ≡ 1) → shaped bs ≡ true
shaped_from bs a b f = grind (arith, nat_tests)

pub decimal_length : (n : ℕ) → n < 1000 → length (decimal n) ≤ 3
decimal_length n h = length-decimal-le 3 n (omega arith) (omega arith) (omega arith)

pub reads_decimal : (n : ℕ) → n < 100000 → number_of (decimal n) ≡ Some n
reads_decimal n h =
    let small : n < 2 ^ 64 = omega arith in
    let lead : get_or (decimal n) 0 0 ≡ 48 → length (decimal n) ≡ 1 =
    λ e. ⊎_elim
    (λ z. ap length (decimal_digit n (omega arith)))
    (λ z. absurd (omega (arith, first_decimal n (omega arith) small)))
    (cases_lt n 1) in
    cond-true _ _ _ (shaped_from (decimal n) (decimal_nonempty n small) (length-decimal-le 5 n (omega arith) (omega arith) small) lead)
    ∙ digits_of (decimal n) 0 (digits_decimal own n small) ∙ ap (λ m. Some m) (digits_value-decimal own n small)

-- b is none of the bytes
abbrev pub Lacks : ℕ → List ℕ → Type 0
Lacks b [] = Unit {0}
Lacks b (c ∷ cs) = (c ≡ b → ⊥) × Lacks b cs

pub lacks_append : (b : ℕ) (xs ys : List ℕ) → Lacks b xs → Lacks b ys → Lacks b (xs ++ ys)
lacks_append b [] ys p q = q
lacks_append b (x ∷ xs) ys p q = (p.0, lacks_append b xs ys p.1 q)

digits_lack : (b : ℕ) → b < 48 → (cs : List ℕ) → all_digit cs ≡ true → Lacks b cs
digits_lack b l [] h = tt
digits_lack b l (c ∷ cs) h =
    let p = and_parts (digit c) (all_digit cs) h in
    let low = leb-true 48 c (and_parts (leb 48 c) (leb c 57) p.0).0 in
    (λ e. omega arith, digits_lack b l cs p.1)

pub decimal_lacks : (b : ℕ) → b < 48 → (n : ℕ) → n < 100000 → Lacks b (decimal n)
decimal_lacks b l n h = digits_lack b l (decimal n) (digits_decimal own n (omega arith))

digits_ok : (cs : List ℕ) (n m : ℕ) → digits_from n cs ≡ Some m → (all_digit cs ≡ true) × (read_on n cs ≡ m)
digits_ok [] n m h = (refl, cc)
digits_ok (c ∷ cs) n m h = ⊎_elim
    (λ d. let p = digits_ok cs _ m (sym (cond-true _ _ _ d) ∙ h) in (and_from _ _ d p.0, p.1))
    (λ d. let e : None ≡ Some m = sym (cond-false _ _ _ d) ∙ h in let z : ◌≡◌ {A = ℕ} 0 1 = cc in absurd (omega arith))
    (cases_Bool (digit c))

shaped_parts : (bs : List ℕ) → shaped bs ≡ true → (0 < length bs) × (length bs ≤ 5) × (get_or bs 0 0 ≡ 48 → length bs ≡ 1)
shaped_parts bs h = grind (arith, nat_tests)

-- nothing but decimal digits is read as a number
pub only_decimal : (bs : List ℕ) (n : ℕ) → number_of bs ≡ Some n → (bs ≡ decimal n) × (n < 100000)
only_decimal bs n h = ⊎_elim
    (λ s.
    let p = shaped_parts bs s in
    let d = digits_ok bs 0 n (sym (cond-true _ _ _ s) ∙ h) in
    let b : read_on 0 bs < 100000 = digits_value_short own bs 5 d.0 p.1 in
    let e = decimal-digits_value own bs d.0 p.0 p.2 (omega arith) in
    (sym e ∙ ap decimal d.1, omega (arith, d.1)))
    (λ s. let e : None ≡ Some n = sym (cond-false _ _ _ s) ∙ h in let z : ◌≡◌ {A = ℕ} 0 1 = cc in absurd (omega arith))
    (cases_Bool (shaped bs))
