-- Texts that steps wrote one behind another.
use Rattle.std.proofs.Common.{◌≡◌, Bool, true, false, cond, List, ℕ, [], ◌++◌, ap, sym, subst}
use Rattle.texts.specs.declared.writer.Writer.{Writer}
use Rattle.texts.specs.Written.{Gave}
use Rattle.texts.proofs.Writing.{gave_as, gave_none, gave_more}

infixr 40 ◌⨾◌
pub ◌⨾◌ : {u v w : Writer} {xs ys : List ℕ} → Gave u xs v → Gave v ys w → Gave u (xs ++ ys) w
◌⨾◌ {u = u} a b = gave_more u.counted a b

-- a step that writes where a test says so
pub gave_when : {v x w : Writer} {b : Bool} {text : List ℕ} → true ≡ b → w ≡ x → Gave v text x → Gave v (cond b text []) w
gave_when {v = v} {text = text} on e g = gave_as (ap (λ b. cond b text []) on) (subst (λ w. Gave v text w) (sym e) g)

pub gave_unless : {v w : Writer} {b : Bool} (text : List ℕ) → false ≡ b → w ≡ v → Gave v (cond b text []) w
gave_unless {v = v} text off e = gave_as (ap (λ b. cond b text []) off) (subst (λ w. Gave v [] w) (sym e) (gave_none v v.counted))
