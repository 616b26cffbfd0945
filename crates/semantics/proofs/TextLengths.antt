-- Lines of small numbers are short.
use Rattle.std.proofs.Common.{ℕ, ◌+◌, ◌*◌, ◌<◌, ◌≤◌, List, [], ◌∷◌, ◌++◌, length, decimal, arith, length-append}
use Rattle.std.specs.List.{AllByRecursion as All}
use Rattle.semantics.specs.Written.{fields_text, lettered_text}
use Rattle.semantics.proofs.Decimals.{decimal_length}
use Rattle.semantics.proofs.Rows.{Fit}

-- numbers of at most three digits
abbrev pub Small : List ℕ → Type 0
Small ns = All (λ n. n < 1000) ns

pub small_fit : (ns : List ℕ) → Small ns → Fit ns
small_fit [] s = tt
small_fit (n ∷ ns) s = (omega (arith, s.0), small_fit ns s.1)

pub text_length : (xs : List ℕ) → Small xs → length (fields_text xs) ≤ 4 * length xs
text_length [] q = omega arith
text_length (x ∷ xs) q = omega (arith, length-append (44 ∷ decimal x) (fields_text xs), decimal_length x q.0, text_length xs q.1)

pub lettered_length : (kind k letter : ℕ) (ns : List ℕ) → k < 1000 → Small ns → length (lettered_text kind k letter ns) ≤ 8 + 4 * length ns
lettered_length kind k letter ns few small =
    omega (
      arith,
      length-append ((44 ∷ decimal k) ++ []) (44 ∷ letter ∷ (fields_text ns ++ 10 ∷ [])),
      length-append (44 ∷ decimal k) [],
      length-append (fields_text ns) (10 ∷ []),
      decimal_length k few,
      text_length ns small,
    )
