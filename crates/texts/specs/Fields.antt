-- A number field within a range.
use Rattle.std.specs.Prelude.{ℕ, cond, ◌&&◌, List, Ok, Err, Result, nat_le, nat_lt}
use Rattle.texts.specs.declared.refusal.Fault.{Fault}
use Rattle.texts.specs.declared.refusal.Place.{Place}
use Rattle.texts.specs.declared.refusal.Refusal.{Refusal}
use Rattle.texts.specs.declared.refusal.Refusal.TheVariants.{OutOfRange}
use Rattle.texts.specs.Numbers.{number_of}

abbrev pub fault_at : Refusal → Place → Fault
fault_at r p = record { refusal = r; place = p }

-- a number from low on and below limit; that it is a number comes first
abbrev pub ranged : ℕ → ℕ → Place → Result ℕ Refusal → Result ℕ Fault
ranged low limit p (Ok n) = cond (nat_le low n && nat_lt n limit) (Ok n) (Err (fault_at OutOfRange p))
ranged low limit p (Err r) = Err (fault_at r p)

abbrev pub field_of : ℕ → ℕ → Place → List ℕ → Result ℕ Fault
field_of low limit p bs = ranged low limit p (number_of bs)
