use Rattle.sheets.proofs.Model.{within_from}
use Rattle.reader.proofs.preamble.Preamble.read.Goals as goal

pub invariant_of-result-clause-holders_exist : goal.invariant_of-result-clause-holders_exist
invariant_of-result-clause-holders_exist c = within_from c.in_ok-header.header.channels c.in_ok-header.header.parties c.loop-line.holders c.loop-line.invariant
