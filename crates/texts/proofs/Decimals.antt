-- The number of a field is the one that the semantics reads; numbers are read back from their decimal digits, and from nothing else.
use Rattle.std.proofs.Common.{◌≡◌, ℕ, ◌+◌, ◌-◌, ◌*◌, Bool, true, false, cond, List, [], ◌∷◌, Some, None, Ok, Err, decimal, Option, sym, refl, ap, ◌∙◌, arith}
use Rattle.std.specs.Option.{ok_or}
use Rattle.semantics.specs.Numbers as model
use Rattle.semantics.proofs.Decimals.{reads_decimal, only_decimal}
use Rattle.texts.specs.declared.refusal.Refusal.TheVariants.{NotANumber}
use Rattle.texts.specs.Numbers.{digit, digits_from, shaped, number_of, number_read, ReadsDecimals, OnlyDecimals}

chosen : (d : Bool) (o : Option ℕ) → cond d (ok_or o NotANumber) (Err NotANumber) ≡ ok_or (cond d o None) NotANumber
chosen true o = refl
chosen false o = refl

digits_same : (n : ℕ) (bs : List ℕ) → digits_from n bs ≡ ok_or (model.digits_from n bs) NotANumber
digits_same n [] = refl
digits_same n (b ∷ bs) = ap (λ r. cond (digit b) r (Err NotANumber)) (digits_same (n * 10 + (b - 48)) bs) ∙ chosen (digit b) _

pub number_same : (bs : List ℕ) → number_of bs ≡ number_read bs
number_same bs = ap (λ r. cond (shaped bs) r (Err NotANumber)) (digits_same 0 bs) ∙ chosen (shaped bs) _

pub reads_decimals : ReadsDecimals
reads_decimals n l = number_same (decimal n) ∙ ap (λ o. ok_or o NotANumber) (reads_decimal n l)

pub only_decimals : OnlyDecimals
only_decimals bs n e = only_decimal bs n (some (model.number_of bs) (sym (number_same bs) ∙ e))
  where
    some : (o : Option ℕ) → ok_or o NotANumber ≡ Ok n → o ≡ Some n
    some (Some m) e = cc
    some None e = let z : ◌≡◌ {A = ℕ} 0 1 = cc in absurd (omega arith)
