-- Why a text is refused, and where.
use Rattle.std.specs.Prelude.{ℕ, Ok, Err, Result}

-- the number of a refusal, with its line and field
pub record Fault : Type 0 where
  pub why : ℕ
  pub line : ℕ
  pub field : ℕ

-- refused with number r at line l and field f
abbrev pub refused_at : {A : Type 0} → ℕ → ℕ → ℕ → Result A Fault
refused_at r l f = Err (record { why = r; line = l; field = f })

-- a step that may fail, then the rest
abbrev pub and_then : {A B E : Type 0} → Result A E → (A → Result B E) → Result B E
and_then (Ok a) k = k a
and_then (Err e) k = Err e
