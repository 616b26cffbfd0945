-- The set of each line has the states at which its formula holds.
use Rattle.std.proofs.Common.{ℕ, ◌<◌, Bool, List, [], get_or, Decides, inl, inr}
use mathlib.Core.Bool.{false≢true}
use Rattle.std.proofs.lemmas.Bool.Decides.{Decides-not, Decides-or}
use Rattle.semantics.specs.Access.{commitment_access, fulfilment_access}
use Rattle.semantics.specs.Sets.{nothing, union, outside, has_step, every_next, reversed}
use Rattle.semantics.specs.Paths.{Leads, SomeStep}
use Rattle.semantics.specs.Sheets.{Sheet, Line, mark, negation, disjunction, next, globally, until, commitment, fulfilment, marked}
use Rattle.semantics.specs.Validity.{Valid}
use Rattle.semantics.specs.Formulas.{Formula, Holds, Committed, falsity, tree_of, trees}
use Rattle.semantics.specs.Judging.{set_of, line_sets}
use Rattle.semantics.specs.Truth.{SetsAreTruth}
use Rattle.semantics.proofs.Quantifiers.{any_says, all_says}
use Rattle.semantics.proofs.Paths.{next_is, until_is}
use Rattle.semantics.proofs.Searches.{Means, means_at, means_like, below_means, some_means, every_means, globally_means, until_means}
use Rattle.semantics.proofs.Turns.{Alike, alike_at, alike_turn}

pub rule_says : (steps : ℕ → ℕ → Bool) (s t : ℕ) → Decides (steps s t) (Leads steps s t)
rule_says steps s t = (λ e. e, λ e. e)

-- every state of a valid sheet has a move
pub every_state_moves : (h : Sheet) → Valid h → (s : ℕ) → s < h.states → SomeStep h.states (Leads h.moves) (λ _. Unit {0}) s
every_state_moves h v s l =
    let x = (any_says h.states (h.moves s)).0 ((all_says h.states (has_step h.states h.moves)).0 v.moves_leave s l) in
    (x.0, x.1, x.2, tt)

-- the set z has the states at which the formula f holds
abbrev pub Truly : Sheet → (ℕ → Bool) → Formula → Type 0
Truly h z f = Means h.states z (Holds h f)

nothing_falsity : (h : Sheet) → Truly h nothing falsity
unfolding Holds
nothing_falsity h s = (λ e. absurd (false≢true e), λ x. absurd (x.1 (inr (λ m. x.1 (inl m)))))

module _ (h : Sheet) (v : Valid h) (zs : List (ℕ → Bool)) (fs : List Formula) (alike : Alike (Truly h) zs fs) where
  operand : (a : ℕ) → Truly h (get_or zs a nothing) (get_or fs a falsity)
  operand a = alike_at (Truly h) zs fs nothing falsity a (nothing_falsity h) alike

  committed_means : (i j a : ℕ) → Means h.states (every_next h.states (commitment_access h i j) (get_or zs a nothing)) (Committed h i j (Holds h (get_or fs a falsity)))
  committed_means i j a =
      every_means h.states (commitment_access h i j) (Leads (commitment_access h i j)) (rule_says (commitment_access h i j))
      (get_or zs a nothing) (Holds h (get_or fs a falsity)) (operand a)

  pub line_truly : (l : Line) → Truly h (set_of h zs l) (tree_of fs l)
  unfolding Holds
  line_truly (mark m) = below_means h.states (marked h m) _ (λ s _. (λ e. e, λ e. e))
  line_truly (negation a) =
      below_means h.states (outside (get_or zs a nothing)) _ (λ s l. Decides-not (get_or zs a nothing s) (means_at _ _ _ (operand a) s l))
  line_truly (disjunction a b) =
      below_means h.states (union (get_or zs a nothing) (get_or zs b nothing)) _
      (λ s l. Decides-or (get_or zs a nothing s) (get_or zs b nothing s) (means_at _ _ _ (operand a) s l) (means_at _ _ _ (operand b) s l))
  line_truly (next a) =
      means_like h.states _ _ _ (λ s l. next_is h.states (Leads h.moves) (every_state_moves h v) _ s l)
      (some_means h.states h.moves (Leads h.moves) (rule_says h.moves) _ _ (operand a))
  line_truly (globally a) = globally_means h.states h.moves (Leads h.moves) (rule_says h.moves) _ _ (operand a)
  line_truly (until a b) =
      means_like h.states _ _ _ (λ s _. until_is h.states (Leads h.moves) (every_state_moves h v) (Holds h (get_or fs a falsity)) (Holds h (get_or fs b falsity)) s)
      (until_means h.states h.moves (Leads h.moves) (rule_says h.moves) _ _ _ _ (operand a) (operand b))
  line_truly (commitment i j a) = committed_means i j a
  line_truly (fulfilment i j a) =
      some_means h.states (reversed (fulfilment_access h i j)) (Leads (reversed (fulfilment_access h i j))) (rule_says (reversed (fulfilment_access h i j)))
      _ _ (committed_means i j a)

pub sets_are_truth : SetsAreTruth
unfolding line_sets trees
sets_are_truth h v f s =
    alike_at (Truly h) (line_sets h) (trees h.lines) nothing falsity f (nothing_falsity h)
    (alike_turn (Truly h) (set_of h) tree_of (λ zs fs a l. line_truly h v zs fs a l) h.lines [] [] tt) s
