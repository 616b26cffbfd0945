use Rattle.std.proofs.Common.{rules}
use Rattle.texts.proofs.Writing.{texts_none, texts_more}
use Rattle.writer.proofs.Steps.{gave_when, gave_unless}
use Rattle.writer.proofs.writing.write_state_moves.Goals as goal
use Rattle.writer.proofs.writing.write_state_moves.Goals.{then-leads, else-leads}

pub loop-to-init : goal.loop-to-init
loop-to-init c = search (rules, texts_none)

pub loop-to-preserved : goal.loop-to-preserved
loop-to-preserved c =
    texts_more _ _ c.args.writer.now.counted c.loop-to.invariant
    (elim c.if-leads.branch [ then-leads w ↦ gave_when w.if-leads.ensures w.writer-is w.line.ensures | else-leads w ↦ gave_unless _ w.if-leads.ensures w.writer-is ])
