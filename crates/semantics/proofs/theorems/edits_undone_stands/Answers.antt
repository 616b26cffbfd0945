use Rattle.semantics.proofs.Undoing.{edits_undone}
use Rattle.semantics.proofs.theorems.edits_undone_stands.Goals as goal

pub returns : goal.returns
returns c = edits_undone
