use Rattle.std.proofs.Common.{◌≡◌, ℕ, zero, suc, ◌+◌, cond, refl, sym, ap, ◌∙◌, rules}
use Rattle.semantics.specs.Sets.{count}
use Rattle.sets.proofs.Ranges.{count_upto}
use Rattle.sheets.specs.declared.holders.Holders.{Holders}
use Rattle.sheets.specs.Holding.{held, held_count}
use Rattle.sheets.proofs.holders.Holders.count.Goals as goal

counted : (h : Holders) (p n : ℕ) → held_count n h p ≡ count n (λ c. held h c p)
unfolding held_count
counted h p zero = refl
counted h p (suc n) = ap (λ m. cond (held h n p) 1 0 + m) (counted h p n)

pub returns-clause-value : goal.returns-clause-value
returns-clause-value c =
    count_upto (λ k. held c.args.self.now k c.args.party)
    c.filter.ensures.source c.filter.ensures.closure c.count.ensures.ran (λ x b q k. (search rules, search rules))
    ∙ sym (counted c.args.self.now c.args.party 8)
