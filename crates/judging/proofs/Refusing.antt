-- What holds where judging is not refused.
use Rattle.std.proofs.Common.{◌≡◌, ℕ, Bool, true, false, cond, Ok, Err, Result, refl, arith}
use Rattle.texts.specs.declared.refusal.Refusal.{Refusal}

pub passed : (b : Bool) (e : Refusal) (x : Result Unit Refusal) → Ok tt ≡ cond b (Err e) x → (b ≡ false) × (Ok tt ≡ x)
passed true e x h = absurd (let z : ◌≡◌ {A = ℕ} 0 1 = cc in omega arith)
passed false e x h = (refl, h)
