use Rattle.std.proofs.Common.{length}
use Rattle.bench.proofs.Truth.{judged_truly}
use Rattle.bench.proofs.bench.Bench.judge.Goals as goal

pub returns-clause-truth : goal.returns-clause-truth
returns-clause-truth g c =
    let d = c.judge.ensures in
    judged_truly c.args.self.now.sheet c.args.self.now.fits c.args.line (length c.args.work.now) g.S.StateSet.CAPACITY (g.S.StateSet.holds c.judge.new.set) c.judge.result d.answered (d.judged c.args.self.now.fits)
