use Rattle.std.proofs.Common.{◌≡◌, ◌≤◌, ◌<◌, ◌^◌, length, subst, sym, refl, arith, rules}
use Rattle.std.proofs.lemmas.List.{length_push}
use Rattle.std.proofs.lemmas.Fn.{fold_over, slice_gives, fronts}
use Rattle.texts.specs.Cuts.{count}
use Rattle.texts.proofs.Counts.{count_push, count_short}
use Rattle.texts.proofs.cut.occurrences.Goals as goal

pub returns-clause-value : goal.returns-clause-value
returns-clause-value c = subst (λ l. c.fold.result ≡ count c.args.b l) c.iter.ensures.rest
    (fold_over fronts (λ y. y.now) _ (λ ys n. length ys < 2 ^ 64 → n ≡ count c.args.b ys) _
    (λ ys n x r f' j k. (
      (λ l.
          let more = length_push ys x.now in
          let is = j (omega (arith, l, more)) in
          let push = count_push c.args.b ys x.now in
          let short = count_short c.args.b ys in
          search rules),
      search rules,
    ))
    _ _ _ _ (slice_gives c.iter.result) (λ l. refl) c.fold.ensures.ran (omega (arith, c.iter.ensures.bound)))

pub returns-clause-bound : goal.returns-clause-bound
returns-clause-bound c = subst (λ n. n ≤ length c.args.bytes.now) (sym (returns-clause-value c)) (count_short c.args.b c.args.bytes.now)
