use Rattle.semantics.proofs.SheetsBack.{sheets_read_back}
use Rattle.semantics.proofs.theorems.sheets_read_back_stands.Goals as goal

pub returns : goal.returns
returns c = sheets_read_back
