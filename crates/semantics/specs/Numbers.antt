-- A number field: one to five decimal digits without a leading zero.
use Rattle.std.specs.Prelude.{ℕ, ◌+◌, ◌-◌, ◌*◌, Bool, cond, not, ◌&&◌, ◌||◌, List, [], ◌∷◌, length, Some, None, Option, ◌==◌, nat_le, nat_lt, slice_index}

-- the bytes of the digits 0 to 9
abbrev pub digit : ℕ → Bool
digit b = nat_le 48 b && nat_le b 57

-- the number whose digits are those of n and then bs
abbrev pub digits_from : ℕ → List ℕ → Option ℕ
digits_from n [] = Some n
digits_from n (b ∷ bs) = cond (digit b) (digits_from (n * 10 + (b - 48)) bs) None

-- one to five bytes, and a first 0 stands alone
abbrev pub shaped : List ℕ → Bool
shaped bs = nat_lt 0 (length bs) && (nat_le (length bs) 5 && (length bs == 1 || not (slice_index bs 0 == 48)))

-- the number that a field is
abbrev pub number_of : List ℕ → Option ℕ
number_of bs = cond (shaped bs) (digits_from 0 bs) None
