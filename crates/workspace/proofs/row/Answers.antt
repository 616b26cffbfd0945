use Rattle.std.proofs.Common.{◌≡◌, ◌*◌, ◌/◌, ◌<◌, length, take, drop, get_or, sym, ap, ◌∙◌, arith}
use Rattle.std.proofs.lemmas.Bool.{cond-true, lt-ltb}
use Rattle.workspace.specs.Rows.{number, row_of}
use Rattle.workspace.proofs.Bytes.{chunk_at}
use Rattle.workspace.proofs.row.Goals as goal

pub returns-in-Some : goal.returns-in-Some
unfolding number row_of
returns-in-Some c =
    let k = c.args.k in
    let work = c.args.work.now in
    let here = c.in-Some.ensures.lookup in
    let within : k < length work / 16 = omega (arith, here.3.0, c.as_chunks.ensures.front_len) in
    let is : c.in-Some.row.now ≡ take 16 (drop (16 * k) work) = here.1 ∙ ap (λ rows. get_or rows k c.in-Some.row.now) c.as_chunks.ensures.front ∙ chunk_at 16 (length work / 16) k work c.in-Some.row.now within in
    c.from_le_bytes.ensures ∙ ap number is ∙ sym (cond-true _ _ _ (lt-ltb k (length work / 16) within))
