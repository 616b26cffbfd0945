use Rattle.semantics.proofs.SheetsBack.{texts_determine}
use Rattle.semantics.proofs.theorems.texts_determine_stands.Goals as goal

pub returns : goal.returns
returns c = texts_determine
