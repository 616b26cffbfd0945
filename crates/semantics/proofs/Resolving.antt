-- The set of each B line has the states at which it is true.
use Rattle.std.proofs.Common.{ℕ, Bool, List, [], get_or}
use mathlib.Core.Bool.{false≢true}
use Rattle.std.proofs.lemmas.Bool.Decides.{Decides-not, Decides-or}
use Rattle.semantics.specs.Sets.{nothing, union, outside}
use Rattle.semantics.specs.Sheets.{Sheet, marked}
use Rattle.semantics.specs.Actions.{Action, never, action_formulas}
use Rattle.semantics.specs.Queries.{QueryLine, atom, neg, or, EX, AX, EG, EU, StepUnder, Nowhere, meaning_of, meanings}
use Rattle.semantics.specs.Resolving.{steps_under, query_set_of, query_sets, QuerySetsAreTruth}
use Rattle.semantics.proofs.Actions.{admitted_says}
use Rattle.semantics.proofs.Searches.{Means, means_at, below_means, some_means, every_means, globally_means, until_means}
use Rattle.semantics.proofs.Turns.{Alike, alike_at, alike_turn}

module _ (h : Sheet) (ps : List (Action → Bool)) where
  abbrev True : (ℕ → Bool) → (ℕ → Type 0) → Type 0
  True z P = Means h.states z P

  nothing_nowhere : True nothing Nowhere
  nothing_nowhere s = (λ e. absurd (false≢true e), λ x. absurd x.1)

  module _ (zs : List (ℕ → Bool)) (ms : List (ℕ → Type 0)) (alike : Alike True zs ms) where
    operand : (b : ℕ) → True (get_or zs b nothing) (get_or ms b Nowhere)
    operand b = alike_at True zs ms nothing Nowhere b nothing_nowhere alike

    line_true : (l : QueryLine) → True (query_set_of h ps zs l) (meaning_of h ps ms l)
    line_true (atom m) = below_means h.states (marked h m) _ (λ s _. (λ e. e, λ e. e))
    line_true (neg b) =
        below_means h.states (outside (get_or zs b nothing)) _ (λ s l. Decides-not (get_or zs b nothing s) (means_at _ _ _ (operand b) s l))
    line_true (or b c) =
        below_means h.states (union (get_or zs b nothing) (get_or zs c nothing)) _
        (λ s l. Decides-or (get_or zs b nothing s) (get_or zs c nothing s) (means_at _ _ _ (operand b) s l) (means_at _ _ _ (operand c) s l))
    line_true (EX a b) = some_means h.states (steps_under h ps a) (StepUnder h ps a) (admitted_says h (get_or ps a never)) _ _ (operand b)
    line_true (AX a b) = every_means h.states (steps_under h ps a) (StepUnder h ps a) (admitted_says h (get_or ps a never)) _ _ (operand b)
    line_true (EG a b) = globally_means h.states (steps_under h ps a) (StepUnder h ps a) (admitted_says h (get_or ps a never)) _ _ (operand b)
    line_true (EU a b c) =
        until_means h.states (steps_under h ps a) (StepUnder h ps a) (admitted_says h (get_or ps a never)) _ _ _ _ (operand b) (operand c)

pub query_sets_are_truth : QuerySetsAreTruth
unfolding query_sets meanings
query_sets_are_truth h q b s =
    let ps = action_formulas q.actions in
    alike_at (True h ps) (query_sets h q) (meanings h q) nothing Nowhere b (nothing_nowhere h ps)
    (alike_turn (True h ps) (query_set_of h ps) (meaning_of h ps) (λ zs ms a l. line_true h ps zs ms a l) q.lines [] [] tt) s
