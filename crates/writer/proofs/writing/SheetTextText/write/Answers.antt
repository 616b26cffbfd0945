use Rattle.std.proofs.Common.{ap}
use Rattle.texts.proofs.Writing.{gave_as}
use Rattle.writer.specs.Render.{states_text, moves_text, rows_text}
use Rattle.writer.proofs.Steps.{◌⨾◌}
use Rattle.writer.proofs.writing.SheetTextText.write.Goals as goal

pub returns : goal.returns
returns c =
    c.write_header.ensures ⨾ c.write_holders.ensures
    ⨾ gave_as (ap states_text c.states.ensures.value) c.write_states.ensures
    ⨾ c.write_locals.ensures
    ⨾ gave_as (ap moves_text c.states-2.ensures.value) c.write_moves.ensures
    ⨾ gave_as (ap rows_text c.rows.ensures.value) c.write_rows.ensures
