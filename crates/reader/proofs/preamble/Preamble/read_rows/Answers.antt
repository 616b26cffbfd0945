use Rattle.std.proofs.Common.{◌≡◌, ◌+◌, length, vec_items, ap, ◌∙◌, arith}
use Rattle.sheets.specs.Rows.{sound_rows}
use Rattle.reader.proofs.Rows.{sound_push}
use Rattle.reader.proofs.preamble.Preamble.read_rows.Goals as goal

pub loop-line-preserved : goal.loop-line-preserved
loop-line-preserved c =
    let h = c.args.self.now.header in
    let who = c.args.self.now.holders in
    let read = c.loop-line.invariant.1 in
    let rs = vec_items c.loop-line.tables.rows in
    let due : c.len-due.result ≡ 0 + length rs = omega (arith, c.len-due.ensures, c.loop-line.tables.rows.ok.0) in
    let pushed = c.push_reserved.ensures.items in (
      c.loop-line.invariant.0,
      record {
        few = omega (arith, c.push_reserved.ensures.len, c.push_reserved.new.self.ok.0);
        sound = ap (sound_rows h who 0) pushed ∙ sound_push h who 0 c.len-due.result rs c.in_ok-row_line.field-0 read.sound due c.in_ok-row_line.ensures.sound;
      },
    )
