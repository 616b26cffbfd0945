use Rattle.std.proofs.Common.{length, ◌∷◌, decimal, ◌∙◌, sym, ap, inl, inr, rules, arith}
use Rattle.texts.proofs.Writing.{gave_none, gave_as}
use Rattle.writer.specs.Render.{number_text}
use Rattle.writer.proofs.Operands.{walked_none, walked_more, walked_all, number_some}
use Rattle.writer.proofs.writing.write_operands.Goals as goal

pub loop-kind-init : goal.loop-kind-init
loop-kind-init c = search (rules, walked_none)

pub loop-kind-preserved-in-Absent : goal.loop-kind-preserved-in-Absent
loop-kind-preserved-in-Absent c =
    let blank = sym (ap (λ k. number_text k c.in-Some.operand.now) c.in-Absent.is) in
    walked_more c.loop-kind.invariant c.in-Some.ensures.steps.0 c.in-Some.ensures.steps.1 (gave_as blank (gave_none c.loop-kind.writer c.loop-kind.writer.counted))

pub loop-kind-preserved : goal.loop-kind-preserved
loop-kind-preserved c =
    let text = ap (λ n. 44 ∷ decimal n) c.from.ensures ∙ number_some c.in-Some.operand.now c.in-Mark.is in
    walked_more c.loop-kind.invariant c.in-Some.ensures.steps.0 c.in-Some.ensures.steps.1 (gave_as text c.field.ensures)

pub returns : goal.returns
returns c = walked_all (omega (arith, ap length c.kinds.ensures)) (omega arith) c.loop-kind.invariant (elim c.in-None.ensures.steps [ inl e ↦ inl e.1.0 | inr e ↦ inr e.1.0 ])
