use Rattle.std.proofs.Common.{[], ◌∷◌, ap}
use Rattle.texts.specs.Written.{fields_text}
use Rattle.texts.proofs.Writing.{gave_as}
use Rattle.writer.proofs.Steps.{◌⨾◌}
use Rattle.writer.proofs.writing.write_known.Goals as goal

pub returns : goal.returns
returns c =
    let numbers = ap (λ n. fields_text (c.args.k ∷ c.args.party ∷ n ∷ [])) c.from.ensures in
    c.byte.ensures ⨾ gave_as numbers c.fields.ensures ⨾ c.write_copies.ensures ⨾ c.byte-2.ensures
