use Rattle.std.proofs.Common.{◌≡◌, ℕ, zero, suc, ◌+◌, ◌*◌, false, ltb, get_or, replicate, refl}
use Rattle.std.proofs.lemmas.Bool.{and_right}
use Rattle.sheets.proofs.holders.Holders.none.Goals as goal

all_false : (n i : ℕ) → get_or (replicate n false) i false ≡ false
all_false zero i = refl
all_false (suc n) zero = refl
all_false (suc n) (suc i) = all_false n i

pub returns : goal.returns
returns c = λ k p. and_right (ltb k 8) _ (and_right (ltb p 6) _ (all_false 48 (k * 6 + p)))
