use Rattle.std.proofs.Common.{◌≡◌, ◌+◌, ◌-◌, ◌*◌, ◌≤◌, length, sym, arith, rules}
use Rattle.std.specs.Int.{to_le_bytes, w128}
use Rattle.workspace.proofs.Bytes.{sixteen, written}
use Rattle.workspace.proofs.put_row.Goals as goal

pub returns-then-k-work : goal.returns-then-k-work
returns-then-k-work c =
    let k = c.args.k in
    let old = c.args.work.now in
    let fits : 16 * k + 16 ≤ length old = omega (arith, c.if-k-work.true) in
    let is : c.copy_from_slice.new.self ≡ to_le_bytes w128 c.args.bits = search rules in
    let w = written old c.copy_from_slice.new.self k ((16 * k + 16) - 16 * k) c.args.bits fits (sym (sixteen k)) c.ranges.bits.fits is in
    record { here = w.here; others = w.others; len = search rules }
