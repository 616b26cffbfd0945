use Rattle.std.proofs.Common.{◌≡◌, ◌+◌, ◌%◌, [], ◌∷◌, sym, ap, ◌∙◌, subst, arith}
use Rattle.std.proofs.lemmas.Fmt.{decimal_digit, decimal_step}
use Rattle.texts.specs.Written.{Gave}
use Rattle.texts.proofs.Writing.{gave_more, gave_as}
use Rattle.texts.proofs.writer.Writer.+number.Goals as goal
use Rattle.texts.proofs.writer.Writer.+number.Goals.{then-n-ge10, else-n-ge10}

pub returns : goal.returns
returns t c =
    let n = c.args.n in
    let digit : Gave c.if-n-ge10.self ((48 + n % 10) ∷ []) c.byte.new.self = c.byte.ensures in
    elim c.if-n-ge10.branch [
      | then-n-ge10 w ↦ gave_as (sym (decimal_step n w.if-n-ge10.true (omega arith)))
          (gave_more c.args.self.now.counted (subst (λ v. Gave _ _ v) (sym w.self-is) w.number.ensures) digit)
      | else-n-ge10 w ↦
          let e : n % 10 ≡ n = omega (arith, w.if-n-ge10.false) in
          gave_as (ap (λ d. (48 + d) ∷ []) e ∙ sym (decimal_digit n w.if-n-ge10.false))
          (subst (λ v. Gave v ((48 + n % 10) ∷ []) c.byte.new.self) w.self-is digit)
    ]
