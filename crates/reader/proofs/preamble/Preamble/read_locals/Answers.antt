use Rattle.std.proofs.Common.{refl}
use Rattle.sheets.proofs.Filling.{local_set}
use Rattle.reader.proofs.preamble.Preamble.read_locals.Goals as goal

pub loop-party-preserved : goal.loop-party-preserved
loop-party-preserved c = (
  local_set c.args.self.now.header.marks c.loop-party.state _ c.from.result c.in_ok-state.field-0 c.loop-party.invariant.0 c.in_ok-state.ensures.fits refl refl,
  c.loop-party.invariant.1,
)
