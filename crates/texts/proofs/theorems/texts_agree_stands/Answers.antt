use Rattle.texts.proofs.Agreement.{texts_agree}
use Rattle.texts.proofs.theorems.texts_agree_stands.Goals as goal

pub returns : goal.returns
returns c = texts_agree
