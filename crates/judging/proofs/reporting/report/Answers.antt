use Rattle.std.proofs.Common.{length, ap, arith}
use Rattle.std.proofs.lemmas.Grind.{common_steps}
use Rattle.sheets.specs.Model.{model_of}
use Rattle.judging.proofs.Summaries.{report_is}
use Rattle.judging.proofs.reporting.report.Goals as goal

-- what was measured is the report's length
pub returns-in_err-check_set-clause-value : goal.returns-in_err-check_set-clause-value
unfolding model_of
returns-in_err-check_set-clause-value g c = λ f.
    let is = report_is c.args.sheet.now c.summarize.new.self.summaries.now (length c.rows.result.now) (ap length c.rows.ensures.value) (omega arith) (c.summarize.ensures f) in
    let n = ap length is in
    grind (arith, common_steps)
