use Rattle.std.proofs.Common.{◌∷◌, [], ap}
use Rattle.texts.proofs.Writing.{gave_as}
use Rattle.writer.proofs.Steps.{◌⨾◌}
use Rattle.writer.proofs.writing.write_row.Goals as goal

pub returns : goal.returns
returns c =
    c.byte.ensures ⨾ c.field.ensures ⨾ c.byte-2.ensures ⨾ gave_as (ap (λ l. l ∷ []) c.letter.ensures) c.byte-3.ensures
    ⨾ c.write_operands.ensures ⨾ c.byte-4.ensures
