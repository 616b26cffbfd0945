-- A line of three numbers is short.
use Rattle.std.proofs.Common.{ℕ, ◌^◌, ◌<◌, ◌≤◌, [], ◌∷◌, length, decimal, arith, length-append}
use Rattle.std.proofs.lemmas.Fmt.{length-decimal-le}
use Rattle.texts.specs.Written.{line_text}

digits : (n : ℕ) → n < 2 ^ 64 → length (decimal n) ≤ 20
digits n l = length-decimal-le 20 n (omega arith) (omega arith) l

pub line_short : (letter a b c : ℕ) → a < 2 ^ 64 → b < 2 ^ 64 → c < 2 ^ 64 → length (line_text letter (a ∷ b ∷ c ∷ [])) ≤ 70
line_short letter a b c la lb lc = simp length-append (omega (arith, digits a la, digits b lb, digits c lc))
