-- That a sheet is valid is a proposition: it has at most one proof.
use Rattle.std.proofs.Common.{◌≡◌, ℕ, ◌<◌, Bool}
use mathlib.Core.HLevel.{Π_prop, →_prop, ×_prop}
use mathlib.Core.Bool.{Bool-set}
use native.Mathlib.Bridge.{le_prop}
use Rattle.semantics.specs.Sheets.{Sheet}
use Rattle.semantics.specs.Validity.{Valid}

two_below : {a b c d : ℕ} → IsProp ((a < b) × (c < d))
two_below = ×_prop le_prop le_prop

test : {a b : Bool} → IsProp (a ≡ b)
test {a} {b} = Bool-set a b

pub valid_once : (h : Sheet) → IsProp (Valid h)
valid_once h x y = λ i. record {
  sizes_fit = test x.sizes_fit y.sizes_fit i;
  holders_exist = Π_prop (λ c. Π_prop (λ p. →_prop two_below)) x.holders_exist y.holders_exist i;
  starts_exist = Π_prop (λ s. →_prop le_prop) x.starts_exist y.starts_exist i;
  marks_fit = Π_prop (λ s. le_prop) x.marks_fit y.marks_fit i;
  marks_placed = Π_prop (λ s. →_prop le_prop) x.marks_placed y.marks_placed i;
  positions_fit = Π_prop (λ s. Π_prop (λ p. le_prop)) x.positions_fit y.positions_fit i;
  positions_placed = Π_prop (λ s. Π_prop (λ p. →_prop two_below)) x.positions_placed y.positions_placed i;
  copies_fit = Π_prop (λ s. Π_prop (λ p. Π_prop (λ c. le_prop))) x.copies_fit y.copies_fit i;
  copies_placed = Π_prop (λ s. Π_prop (λ p. Π_prop (λ c. →_prop (×_prop le_prop test)))) x.copies_placed y.copies_placed i;
  moves_exist = Π_prop (λ s. Π_prop (λ t. →_prop two_below)) x.moves_exist y.moves_exist i;
  moves_few = le_prop x.moves_few y.moves_few i;
  some_start = test x.some_start y.some_start i;
  moves_leave = test x.moves_leave y.moves_leave i;
  lines_fit = test x.lines_fit y.lines_fit i;
}
