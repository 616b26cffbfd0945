use Rattle.std.proofs.Common.{◌≡◌, ℕ, zero, suc, map, refl, sym, ap, ◌∙◌, add-one, rules, arith}
use Rattle.std.specs.List.{range_with_len, sum}
use Rattle.std.proofs.lemmas.Iterator.{YieldsList-from_range, YieldsList-from_map}
use Rattle.std.proofs.lemmas.Iterator.Adapters.{at_most_from_yields_List, fits_from_length}
use Rattle.std.proofs.lemmas.Iterator.Consumers.{sum_from_yields_List}
use Rattle.std.proofs.lemmas.List.FromFn.{length-range_with_len, sum_by-map-range_with_len_more}
use Rattle.semantics.specs.Sets.{count}
use Rattle.semantics.specs.Sheets.{Sheet}
use Rattle.semantics.specs.Validity.{moves_from}
use Rattle.sheets.specs.Model.{model_of}
use Rattle.amendments.proofs.checks.move_count.Goals as goal

abbrev steps : Sheet → ℕ → ℕ
steps h k = count h.states (h.moves k)

moves_list : (h : Sheet) (k : ℕ) → sum (map (steps h) (range_with_len 0 k)) ≡ moves_from h k
moves_list h zero = refl
moves_list h (suc k) =
    ap (λ n. sum (map (steps h) (range_with_len 0 n))) (sym (add-one k))
    ∙ sum_by-map-range_with_len_more (λ x. x) (steps h) 0 k k (omega arith)
    ∙ (let e = moves_list h k in omega arith)

pub sum-requires-clause-fits : goal.sum-requires-clause-fits
sum-requires-clause-fits c =
    let n = c.state_count.result in
    fits_from_length _ _ 128 _ (at_most_from_yields_List (YieldsList-from_range 0 n n c.map.ensures.source (omega arith)) (omega (arith, length-range_with_len 0 n)))
    c.map.ensures.closure (omega arith) (λ x r q k. (search rules, search rules))

pub returns : goal.returns
returns c =
    let h = model_of c.args.sheet.now in
    sum_from_yields_List c.map.result _ c.sum.ensures.ran
    (YieldsList-from_map _ (steps h) (YieldsList-from_range 0 h.states h.states (search rules) (omega arith)) c.map.ensures.closure (λ x r q k. (search rules, search rules)))
    ∙ moves_list h h.states
