use Rattle.semantics.proofs.SheetSizes.{texts_short}
use Rattle.semantics.proofs.theorems.texts_short_stands.Goals as goal

pub returns : goal.returns
returns c = texts_short
