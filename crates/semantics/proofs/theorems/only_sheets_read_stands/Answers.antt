use Rattle.semantics.proofs.OnlySheets.{only_sheets_read}
use Rattle.semantics.proofs.theorems.only_sheets_read_stands.Goals as goal

pub returns : goal.returns
returns c = only_sheets_read
