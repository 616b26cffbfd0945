-- A number field: one to five decimal digits without a leading zero.
use Rattle.std.specs.Prelude.{◌≡◌, ℕ, ◌+◌, ◌-◌, ◌*◌, ◌<◌, Bool, cond, not, ◌&&◌, ◌||◌, List, [], ◌∷◌, length, Ok, Err, decimal, Result, ◌==◌, nat_le, nat_lt, slice_index}
use Rattle.std.specs.Option.{ok_or}
use Rattle.semantics.specs.Numbers as model
use Rattle.texts.specs.declared.refusal.Refusal.{Refusal}
use Rattle.texts.specs.declared.refusal.Refusal.TheVariants.{NotANumber}

-- the bytes of the digits 0 to 9
abbrev pub digit : ℕ → Bool
digit b = nat_le 48 b && nat_le b 57

-- the number whose digits are those of n and then bs
abbrev pub digits_from : ℕ → List ℕ → Result ℕ Refusal
digits_from n [] = Ok n
digits_from n (b ∷ bs) = cond (digit b) (digits_from (n * 10 + (b - 48)) bs) (Err NotANumber)

-- one to five bytes, and a first 0 stands alone
abbrev pub shaped : List ℕ → Bool
shaped bs = nat_lt 0 (length bs) && (nat_le (length bs) 5 && (length bs == 1 || not (slice_index bs 0 == 48)))

abbrev pub number_of : List ℕ → Result ℕ Refusal
number_of bs = cond (shaped bs) (digits_from 0 bs) (Err NotANumber)

-- a number below 100000 is read back from its decimal digits
abbrev pub ReadsDecimals : Type 0
ReadsDecimals = (n : ℕ) → n < 100000 → number_of (decimal n) ≡ Ok n

-- and nothing else is read
abbrev pub OnlyDecimals : Type 0
OnlyDecimals = (bs : List ℕ) (n : ℕ) → number_of bs ≡ Ok n → (bs ≡ decimal n) × (n < 100000)

-- the number that the semantics reads, or a refusal
abbrev pub number_read : List ℕ → Result ℕ Refusal
number_read bs = ok_or (model.number_of bs) NotANumber
