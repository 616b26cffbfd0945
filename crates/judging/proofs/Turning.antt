-- The set of each line, from the sets of the lines before it.
use Rattle.std.proofs.Common.{◌≡◌, ℕ, zero, suc, ◌+◌, ◌<◌, ◌≤◌, Bool, true, false, ◌&&◌, ltb, List, [], ◌∷◌, length, get_or, take, drop, sym, refl, ap, ◌∙◌, inl, inr, arith}
use mathlib.Core.Path.{fun_ext}
use Rattle.std.proofs.lemmas.List.{take-append-drop, length-take-le}
use Rattle.std.proofs.lemmas.Bool.{and_parts, and_left, ltb-true, le-ltb, lt-ltb, cases_lt}
use Rattle.semantics.specs.Access.{commitment_access, fulfilment_access}
use Rattle.semantics.specs.Chains.{until_chain, globally_chain, rounds, settled}
use Rattle.semantics.specs.Judging.{set_of, rounds_of, line_sets, line_set, line_rounds}
use Rattle.semantics.specs.Sets.{nothing, union, below, outside, some_next, every_next, reversed}
use Rattle.semantics.specs.Sheets.{Sheet, Line, mark, negation, disjunction, next, globally, until, commitment, fulfilment, marked, line_at}
use Rattle.semantics.specs.Turns.{in_turn}
use Rattle.semantics.specs.Validity.{paired, line_fits, lines_fit}
use Rattle.semantics.proofs.Settling.{until_low, globally_low}
use Rattle.semantics.proofs.Turns.{turn_append, turn_length, turn_keeps, turn_nth}

-- each line of those that fit
pub fits_at : (h : Sheet) (ls : List Line) (i k : ℕ) → lines_fit h i ls ≡ true → k < length ls → line_fits h (i + k) (get_or ls k (mark 0)) ≡ true
fits_at h [] i k e l = absurd (omega arith)
fits_at h (x ∷ ls) i zero e l =
    let z : i + 0 ≡ i = omega arith in ap (λ n. line_fits h n x) z ∙ (and_parts (line_fits h i x) _ e).0
fits_at h (x ∷ ls) i (suc k) e l =
    let z : i + suc k ≡ i + 1 + k = omega arith in
    ap (λ n. line_fits h n (get_or ls k (mark 0))) z ∙ fits_at h ls (i + 1) k (and_parts (line_fits h i x) _ e).1 (omega arith)

-- a line reads only the sets of the lines before it
module _ (h : Sheet) (zs ws : List (ℕ → Bool)) (k : ℕ) (same : (j : ℕ) → j < k → get_or zs j nothing ≡ get_or ws j nothing) where
  before : (a : ℕ) → ltb a k ≡ true → get_or zs a nothing ≡ get_or ws a nothing
  before a e = same a (ltb-true a k e)

  pub sets_alike : (l : Line) → line_fits h k l ≡ true → set_of h zs l ≡ set_of h ws l
  sets_alike (mark m) e = refl
  sets_alike (negation a) e = ap (λ z. below h.states (outside z)) (before a e)
  sets_alike (disjunction a b) e =
      let p = and_parts (ltb a k) (ltb b k) e in
      ap (λ z. below h.states (union z (get_or zs b nothing))) (before a p.0) ∙ ap (λ z. below h.states (union (get_or ws a nothing) z)) (before b p.1)
  sets_alike (next a) e = ap (some_next h.states h.moves) (before a e)
  sets_alike (globally a) e = ap (λ z. settled h.states (globally_chain h.states h.moves z)) (before a e)
  sets_alike (until a b) e =
      let p = and_parts (ltb a k) (ltb b k) e in
      ap (λ z. settled h.states (until_chain h.states h.moves z (get_or zs b nothing))) (before a p.0)
      ∙ ap (λ z. settled h.states (until_chain h.states h.moves (get_or ws a nothing) z)) (before b p.1)
  sets_alike (commitment i j a) e = ap (every_next h.states (commitment_access h i j)) (before a (and_parts (paired h i j) (ltb a k) e).1)
  sets_alike (fulfilment i j a) e =
      ap (λ z. some_next h.states (reversed (fulfilment_access h i j)) (every_next h.states (commitment_access h i j) z)) (before a (and_parts (paired h i j) (ltb a k) e).1)

  pub rounds_alike : (l : Line) → line_fits h k l ≡ true → rounds_of h zs l ≡ rounds_of h ws l
  rounds_alike (mark m) e = refl
  rounds_alike (negation a) e = refl
  rounds_alike (disjunction a b) e = refl
  rounds_alike (next a) e = refl
  rounds_alike (globally a) e = ap (λ z. rounds h.states (globally_chain h.states h.moves z)) (before a e)
  rounds_alike (until a b) e =
      let p = and_parts (ltb a k) (ltb b k) e in
      ap (λ z. rounds h.states (until_chain h.states h.moves z (get_or zs b nothing))) (before a p.0)
      ∙ ap (λ z. rounds h.states (until_chain h.states h.moves (get_or ws a nothing) z)) (before b p.1)
  rounds_alike (commitment i j a) e = refl
  rounds_alike (fulfilment i j a) e = refl

-- a set of a line has only states
low : (n : ℕ) (m : ℕ → Bool) → ((s : ℕ) → n ≤ s → m s ≡ false) → below n m ≡ m
low n m f = fun_ext (λ s. elim (cases_lt s n) [
  | inl l ↦ ap (λ b. b && m s) (lt-ltb s n l)
  | inr g ↦ (and_left (ltb s n) (m s) (le-ltb s n g) ∙ sym (f s g))
])

low_below : (n : ℕ) (m : ℕ → Bool) → below n (below n m) ≡ below n m
low_below n m = low n (below n m) (λ s g. and_left (ltb s n) (m s) (le-ltb s n g))

pub set_below : (h : Sheet) (zs : List (ℕ → Bool)) (l : Line) → below h.states (set_of h zs l) ≡ set_of h zs l
unfolding settled
set_below h zs (mark m) = low_below h.states (marked h m)
set_below h zs (negation a) = low_below h.states _
set_below h zs (disjunction a b) = low_below h.states _
set_below h zs (next a) = low_below h.states _
set_below h zs (globally a) = low h.states _ (globally_low h.states h.moves (get_or zs a nothing) (get_or zs a nothing) (rounds h.states (globally_chain h.states h.moves (get_or zs a nothing))))
set_below h zs (until a b) = low h.states _ (until_low h.states h.moves (get_or zs a nothing) (get_or zs b nothing) (rounds h.states (until_chain h.states h.moves (get_or zs a nothing) (get_or zs b nothing))))
set_below h zs (commitment i j a) = low_below h.states _
set_below h zs (fulfilment i j a) = low_below h.states _

module _ (h : Sheet) (k : ℕ) (within : k < length h.lines) where
  abbrev earlier : List (ℕ → Bool)
  earlier = in_turn (set_of h) [] (take k h.lines)

  earlier_is : (j : ℕ) → j < k → get_or earlier j nothing ≡ line_set h j
  unfolding line_sets
  earlier_is j l =
      let n : length earlier ≡ k = turn_length (set_of h) (take k h.lines) [] ∙ (let e = length-take-le k h.lines (omega arith) in omega arith) in
      sym (ap (λ w. get_or (in_turn (set_of h) [] w) j nothing) (sym (take-append-drop k h.lines))
      ∙ ap (λ w. get_or w j nothing) (turn_append (set_of h) (take k h.lines) (drop k h.lines) [])
      ∙ turn_keeps (set_of h) (drop k h.lines) earlier nothing j (omega arith))

  -- the set of line k is what its operator makes of sets that are those of the lines before it
  pub line_turn : (zs : List (ℕ → Bool)) → line_fits h k (line_at h k) ≡ true → ((j : ℕ) → j < k → get_or zs j nothing ≡ line_set h j) → set_of h zs (line_at h k) ≡ line_set h k
  unfolding line_sets
  line_turn zs e same =
      sets_alike h zs earlier k (λ j l. same j l ∙ sym (earlier_is j l)) (line_at h k) e ∙ sym (turn_nth (set_of h) h.lines k (mark 0) nothing within)

  pub rounds_turn : (zs : List (ℕ → Bool)) → line_fits h k (line_at h k) ≡ true → ((j : ℕ) → j < k → get_or zs j nothing ≡ line_set h j) → rounds_of h zs (line_at h k) ≡ line_rounds h k
  rounds_turn zs e same = rounds_alike h zs (line_sets h) k same (line_at h k) e

  pub line_below : line_fits h k (line_at h k) ≡ true → below h.states (line_set h k) ≡ line_set h k
  line_below e = let t = line_turn (line_sets h) e (λ j l. refl) in ap (below h.states) (sym t) ∙ set_below h (line_sets h) (line_at h k) ∙ t
