-- The limits of a valid sheet.
use Rattle.std.proofs.Common.{◌≤◌, leb, length}
use Rattle.std.proofs.lemmas.Bool.{and_parts, leb-true}
use Rattle.semantics.specs.Sheets.{Sheet}
use Rattle.semantics.specs.Validity.{Valid, between}

pub record Limits (h : Sheet) : Type 0 where
  pub small_number : h.number ≤ 9999
  pub few_parties : h.parties ≤ 6
  pub few_channels : h.channels ≤ 8
  pub few_states : h.states ≤ 128
  pub few_marks : h.marks ≤ 16
  pub few_lines : length h.lines ≤ 64

pub limits : (h : Sheet) → Valid h → Limits h
limits h v =
    let a = and_parts (between 1 9999 h.number) _ v.sizes_fit in
    let b = and_parts (between 2 6 h.parties) _ a.1 in
    let c = and_parts (leb h.channels 8) _ b.1 in
    let d = and_parts (between 1 128 h.states) _ c.1 in
    let e = and_parts (leb h.marks 16) (leb (length h.lines) 64) d.1 in
    record {
      small_number = leb-true _ _ (and_parts (leb 1 h.number) (leb h.number 9999) a.0).1;
      few_parties = leb-true _ _ (and_parts (leb 2 h.parties) (leb h.parties 6) b.0).1;
      few_channels = leb-true _ _ c.0;
      few_states = leb-true _ _ (and_parts (leb 1 h.states) (leb h.states 128) d.0).1;
      few_marks = leb-true _ _ e.0;
      few_lines = leb-true _ _ e.1;
    }
