-- The last B line of a reduction has the set, the verdict and the rounds of the last line.
use Rattle.std.proofs.Common.{◌≡◌, ℕ, ◌+◌, ◌-◌, ◌<◌, Bool, true, List, [], ◌∷◌, ◌++◌, length, get_or, take, drop, sym, refl, ap, ◌∙◌, append-nil, add-zero, zero-add, arith}
use Rattle.std.specs.List.{flat_map}
use Rattle.std.proofs.lemmas.List.{get_or_push, length_push, take_more, flat_map_more, length-take-le}
use Rattle.std.proofs.lemmas.Bool.{and_parts, and_from}
use Rattle.semantics.specs.Sets.{nothing}
use Rattle.semantics.specs.Sheets.{Sheet, Line, mark, line_at}
use Rattle.semantics.specs.Validity.{line_fits, lines_fit}
use Rattle.semantics.specs.Judging.{set_of, line_sets, line_set, rounds_of, verdict}
use Rattle.semantics.specs.Actions.{R, ActionLine, only, same_action, never, action_formulas}
use Rattle.semantics.specs.Queries.{QueryLine, atom}
use Rattle.semantics.specs.Resolving.{query_sets, query_set, query_rounds_of, query_rounds}
use Rattle.semantics.specs.Reduction.{action_lines, query_lines, Reduced, reduce_line, reduced, nothing_reduced, query_of, reduction, last_line}
use Rattle.semantics.specs.Roads.{TwoRoads}
use Rattle.semantics.specs.Turns.{in_turn}
use Rattle.semantics.proofs.ReducedLines.{front_of, last_of, Has, last_rounds}
use Rattle.semantics.proofs.Turns.{Alike, turn_append, turn_length, turn_keeps, turn_at, split_at}
use Rattle.semantics.proofs.Standing.{at_only, has_actions, B, Stands, operands, written_is, line_stands, lines_alike}

reduced_push : (ls : List Line) (r : Reduced) (l : Line) → reduced r (ls ++ l ∷ []) ≡ reduce_line (reduced r ls) l
reduced_push [] r l = refl
reduced_push (x ∷ ls) r l = reduced_push ls (reduce_line r x) l

fits_parts : (h : Sheet) (xs ys : List Line) (l : Line) (k : ℕ) → lines_fit h k (xs ++ l ∷ ys) ≡ true →
    (lines_fit h k xs ≡ true) × (line_fits h (k + length xs) l ≡ true)
fits_parts h [] ys l k e = (refl, rw add-zero (and_parts (line_fits h k l) _ e).0)
fits_parts h (x ∷ xs) ys l k e =
    let p = and_parts (line_fits h k x) (lines_fit h (k + 1) (xs ++ l ∷ ys)) e in
    let r = fits_parts h xs ys l (k + 1) p.1 in
    let same : k + 1 + length xs ≡ k + length (x ∷ xs) = omega arith in
    (and_from (line_fits h k x) (lines_fit h (k + 1) xs) p.0 r.0, ap (λ i. line_fits h i l) (sym same) ∙ r.1)

-- the reduction of lines, the last of which is l
module _ (h : Sheet) (xs ys : List Line) (l : Line) (fits : lines_fit h 0 (xs ++ l ∷ ys) ≡ true) where
  abbrev acts : List ActionLine
  acts = only R ∷ flat_map action_lines (xs ++ l ∷ [])

  acts_are : acts ≡ (only R ∷ flat_map action_lines xs) ++ action_lines l
  acts_are = ap (λ v. only R ∷ v) (sym (flat_map_more action_lines [] xs l))

  first : get_or (action_formulas acts) 0 never ≡ same_action R
  first = at_only [] (flat_map action_lines (xs ++ l ∷ [])) R

  abbrev zs : List (ℕ → Bool)
  zs = in_turn (set_of h) [] xs

  abbrev r : Reduced
  r = reduced nothing_reduced xs

  zs_length : length zs ≡ length xs
  zs_length = turn_length (set_of h) xs [] ∙ zero-add (length xs)

  made : Alike (Stands h acts first r.written) zs r.stands × (length (only R ∷ flat_map action_lines xs) ≡ r.due)
  made = lines_alike h acts first xs [] nothing_reduced (only R ∷ []) (action_lines l) acts_are refl (fits_parts h xs ys l 0 fits).0 tt

  line_fits_law : line_fits h (length zs) l ≡ true
  line_fits_law = ap (λ k. line_fits h k l) (zs_length ∙ sym (zero-add (length xs))) ∙ (fits_parts h xs ys l 0 fits).1

  has_last : Has h (action_formulas acts) r.due l
  has_last =
      rw (acts_are ∙ ap (λ v. (only R ∷ flat_map action_lines xs) ++ v) (sym (append-nil (action_lines l))), ← made.1)
      (has_actions h (only R ∷ flat_map action_lines xs) [] l)

  set_same : get_or (query_sets h (query_of (xs ++ l ∷ []))) (last_line (query_of (xs ++ l ∷ []))) nothing
      ≡ get_or (in_turn (set_of h) [] (xs ++ l ∷ ys)) (length xs) nothing
  unfolding query_sets
  set_same =
      ap (λ s. get_or (B h acts first s.written) (length s.written - 1) nothing) (reduced_push xs nothing_reduced l)
      ∙ (line_stands h acts first zs r made.0 l has_last line_fits_law).1
      ∙ sym (turn_at (set_of h) xs ys l nothing)

  operand_later : (v : List QueryLine) (a : ℕ) → a < length zs →
      get_or (B h acts first (r.written ++ v)) (get_or r.stands a 0) nothing ≡ get_or (in_turn (set_of h) [] (xs ++ l ∷ ys)) a nothing
  operand_later v a below =
      operands h acts first zs r made.0 v a below
      ∙ sym (turn_keeps (set_of h) (l ∷ ys) zs nothing a below)
      ∙ ap (λ z. get_or z a nothing) (sym (turn_append (set_of h) xs (l ∷ ys) []))

  rounds_same : query_rounds_of h (action_formulas acts) (query_sets h (query_of (xs ++ l ∷ []))) (get_or (query_of (xs ++ l ∷ [])).lines (last_line (query_of (xs ++ l ∷ []))) (atom 0))
      ≡ rounds_of h (in_turn (set_of h) [] (xs ++ l ∷ ys)) l
  unfolding query_sets
  rounds_same =
      let b : ℕ → ℕ = λ a. get_or r.stands a 0 in
      let q = last_of r.due (length r.written) b l in
      let front = r.written ++ front_of r.due b l in
      let e : get_or (front ++ q ∷ []) (length (front ++ q ∷ []) - 1) (atom 0) ≡ q = get_or_push front q (atom 0) _ (omega (arith, length_push front q)) in
      ap (λ s. query_rounds_of h (action_formulas acts) (B h acts first s.written) (get_or s.written (length s.written - 1) (atom 0))) (reduced_push xs nothing_reduced l)
      ∙ ap (λ w. query_rounds_of h (action_formulas acts) (B h acts first (reduce_line r l).written) (get_or w (length w - 1) (atom 0))) (written_is h acts first zs r made.0 l)
      ∙ ap (query_rounds_of h (action_formulas acts) (B h acts first (reduce_line r l).written)) e
      ∙ last_rounds h (action_formulas acts) (length zs) (B h acts first (reduce_line r l).written) (in_turn (set_of h) [] (xs ++ l ∷ ys)) b first
      (operand_later (query_lines r.due (length r.written) b l)) r.due (length r.written) l line_fits_law

pub two_roads : TwoRoads
unfolding reduction line_sets
two_roads h v f l =
    let xs = take f h.lines in
    let ys = drop (f + 1) h.lines in
    let x = line_at h f in
    let whole = split_at h.lines f (mark 0) l in
    let front : take (f + 1) h.lines ≡ xs ++ x ∷ [] = take_more h.lines f (mark 0) l in
    let at : length xs ≡ f = length-take-le f h.lines (omega arith) in
    let fits : lines_fit h 0 (xs ++ x ∷ ys) ≡ true = ap (lines_fit h 0) (sym whole) ∙ v.lines_fit in
    let s : query_set h (query_of (take (f + 1) h.lines)) (last_line (query_of (take (f + 1) h.lines))) ≡ line_set h f =
    ap (λ w. query_set h (query_of w) (last_line (query_of w))) front
    ∙ set_same h xs ys x fits
    ∙ ap (λ w. get_or (in_turn (set_of h) [] w) (length xs) nothing) (sym whole) ∙ ap (line_set h) at in
    record {
      one_set = s;
      one_verdict = ap (verdict h) s;
      one_rounds =
          ap (λ w. query_rounds h (query_of w) (last_line (query_of w))) front
          ∙ rounds_same h xs ys x fits
          ∙ ap (λ w. rounds_of h (in_turn (set_of h) [] w) x) (sym whole);
    }
