use Rattle.std.proofs.Common.{◌≡◌, vec_items, length, sym, ap, ◌∙◌, arith}
use Rattle.sheets.specs.Fitting.{states_fit, any_start}
use Rattle.sheets.specs.Moves.{all_move, move_count}
use Rattle.reader.proofs.Filled.{all_move_law, take-append-whole}
use Rattle.reader.proofs.reading.fill.Goals as goal

pub returns : goal.returns
returns c =
    let preamble = c.in_ok-preamble.preamble in
    let h = preamble.header in
    let ss = c.read_moves.new.states in
    let read = c.in_ok-read_all_locals.ensures in
    let moved = c.in_ok-read_moves.ensures in
    let rows = c.in_ok-read_rows.ensures.rows in
    let whole = c.in_ok-check_states.ensures in
    let table = c.read_states.new.tables.states in
    let t = c.read_rows.new.tables in
    let kept : vec_items t.states ≡ ss =
    ap vec_items c.in_ok-read_rows.ensures.states ∙ take-append-whole table.len ss _ (omega (arith, table.ok.0)) in
    let checked = c.deref.ensures.value in
    record {
      bounded = preamble.bounded;
      states = omega (arith, t.states.ok.0, ap length kept, read.all);
      few_rows = omega (arith, t.rows.ok.0, rows.few);
      holders_exist = preamble.holders_exist;
      states_fit = ap (states_fit h.marks) kept ∙ moved.fit;
      some_start = ap any_start (sym checked) ∙ whole.0;
      few_moves = omega (arith, ap move_count kept, moved.few);
      moves_leave = ap all_move (sym checked) ∙ all_move_law c.deref.result.now whole.1;
      sound_rows = rows.sound;
    }
