use Rattle.std.proofs.Common.{◌≡◌, ℕ, Bool, get_or, ap, arith}
use mathlib.Core.Path.{fun_ext}
use Rattle.std.proofs.lemmas.Grind.{common_steps}
use Rattle.sets.specs.Bits.{in_bits}
use Rattle.semantics.specs.Access.{commitment_access}
use Rattle.semantics.specs.Sets.{nothing, some_next, every_next, reversed}
use Rattle.sheets.specs.Model.{model_of}
use Rattle.checker.specs.Evaluation.{sets_in}
use Rattle.checker.proofs.Evaluated.{alike}
use Rattle.checker.proofs.evaluation.Evaluation.fulfilment.Goals as goal

pub returns : goal.returns
returns g c = λ f k.
    let h = model_of c.args.self.now.sheet.now in
    let access_is = c.access-access.ensures f in
    let commits : (s : ℕ) → in_bits c.every_next.new.set.bits s ≡ every_next h.states (commitment_access h c.args.debtor c.args.creditor) (get_or (sets_in c.args.self.now.work.now) c.args.a nothing) s = λ s.
    let after = rw c.graph.ensures.rule at c.every_next.ensures.after s in
    let e = alike (λ n ((st, z) : (ℕ → ℕ → Bool) × (ℕ → Bool)). every_next n st z) c.graph.ensures.states (λ i. (access_is i, c.operand.ensures i)) s in
    grind (arith, common_steps) in
    let after = rw c.graph-2.ensures.rule at c.next.ensures.after k in
    let e = alike (λ n ((st, z) : (ℕ → ℕ → Bool) × (ℕ → Bool)). some_next n st z) c.graph-2.ensures.states (λ i. (ap reversed access_is i, fun_ext commits i)) k in
    grind (arith, common_steps)
