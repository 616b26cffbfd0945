-- The B lines of a reduction have the sets of the lines that they stand for.
use Rattle.std.proofs.Common.{◌≡◌, ℕ, ◌+◌, ◌-◌, ◌<◌, Bool, true, List, [], ◌∷◌, ◌++◌, length, get_or, sym, ap, ◌∙◌, subst, append_assoc, append-nil, arith, length-append}
use Rattle.std.specs.List.{flat_map}
use Rattle.std.proofs.lemmas.List.{length_push}
use Rattle.std.proofs.lemmas.Bool.{and_parts}
use Rattle.semantics.specs.Sets.{nothing}
use Rattle.semantics.specs.Sheets.{Sheet, Line, mark, negation, disjunction, next, globally, until, commitment, fulfilment}
use Rattle.semantics.specs.Validity.{line_fits, lines_fit}
use Rattle.semantics.specs.Judging.{set_of}
use Rattle.semantics.specs.Actions.{Action, R, D, V, ActionLine, only, same_action, never, actions_of, action_formulas}
use Rattle.semantics.specs.Queries.{QueryLine, AX}
use Rattle.semantics.specs.Resolving.{query_set_of}
use Rattle.semantics.specs.Reduction.{action_lines, Reduced, reduce_line, reduced}
use Rattle.semantics.specs.Turns.{in_turn}
use Rattle.semantics.proofs.ReducedLines.{front_of, last_of, front_last, Has, Inner, committed_set, last_set}
use Rattle.semantics.proofs.Turns.{Alike, alike_below, alike_map, alike_push, turn_append, turn_length, turn_keeps, turn_at}

pub at_only : (pre post : List ActionLine) (x : Action) → get_or (action_formulas (pre ++ only x ∷ post)) (length pre) never ≡ same_action x
unfolding action_formulas
at_only pre post x = turn_at actions_of pre post (only x) never

at_second : (pre post : List ActionLine) (x y : Action) → get_or (action_formulas (pre ++ only x ∷ only y ∷ post)) (length pre + 1) never ≡ same_action y
at_second pre post x y =
    ap (λ ls. get_or (action_formulas ls) (length pre + 1) never) (sym (append_assoc pre (only x ∷ []) (only y ∷ post)))
    ∙ ap (λ k. get_or (action_formulas ((pre ++ only x ∷ []) ++ only y ∷ post)) k never) (sym (length_push pre (only x)))
    ∙ at_only (pre ++ only x ∷ []) post y

-- the A lines of line l stand behind the lines pre
pub has_actions : (h : Sheet) (pre post : List ActionLine) (l : Line) →
    Has h (action_formulas (pre ++ (action_lines l ++ post))) (length pre) l
has_actions h pre post (mark x) = tt
has_actions h pre post (negation a) = tt
has_actions h pre post (disjunction a c) = tt
has_actions h pre post (next a) = tt
has_actions h pre post (globally a) = tt
has_actions h pre post (until a c) = tt
has_actions h pre post (commitment i j a) = at_only pre post (D i j)
has_actions h pre post (fulfilment i j a) = (at_only pre (only (V i j) ∷ post) (D i j), at_second pre post (D i j) (V i j))

module _ (h : Sheet) (acts : List ActionLine) (first : get_or (action_formulas acts) 0 never ≡ same_action R) where
  abbrev ps : List (Action → Bool)
  ps = action_formulas acts

  -- the sets of B lines
  abbrev pub B : List QueryLine → List (ℕ → Bool)
  B w = in_turn (query_set_of h ps) [] w

  -- the set of B line b of w is z
  abbrev pub Stands : List QueryLine → (ℕ → Bool) → ℕ → Type 0
  Stands w z b = (b < length w) × (get_or (B w) b nothing ≡ z)

  stands_more : (w v : List QueryLine) (z : ℕ → Bool) (b : ℕ) → Stands w z b → Stands (w ++ v) z b
  stands_more w v z b s = (
    simp length-append (omega (arith, s.0)),
    ap (λ x. get_or x b nothing) (turn_append (query_set_of h ps) w v [])
        ∙ turn_keeps (query_set_of h ps) v (B w) nothing b (omega (arith, s.0, turn_length (query_set_of h ps) w [])) ∙ s.1,
  )

  stands_last : (w : List QueryLine) (q : QueryLine) (z : ℕ → Bool) → query_set_of h ps (B w) q ≡ z → Stands (w ++ q ∷ []) z (length (w ++ q ∷ []) - 1)
  stands_last w q z e =
      let k : length (w ++ q ∷ []) - 1 ≡ length w = omega (arith, length_push w q) in (
        omega (arith, length_push w q),
        ap (λ i. get_or (B (w ++ q ∷ [])) i nothing) k ∙ turn_at (query_set_of h ps) w [] q nothing ∙ e,
      )

  module _ (zs : List (ℕ → Bool)) (r : Reduced) (alike : Alike (Stands r.written) zs r.stands) where
    abbrev b : ℕ → ℕ
    b a = get_or r.stands a 0

    abbrev w : List QueryLine
    w = r.written

    pub operands : (v : List QueryLine) (a : ℕ) → a < length zs → get_or (B (w ++ v)) (b a) nothing ≡ get_or zs a nothing
    operands v a l = (stands_more w v (get_or zs a nothing) (b a) (alike_below (Stands w) zs r.stands nothing 0 a l alike)).1

    operands_now : (a : ℕ) → a < length zs → get_or (B w) (b a) nothing ≡ get_or zs a nothing
    operands_now a l = (alike_below (Stands w) zs r.stands nothing 0 a l alike).1

    pub written_is : (l : Line) → (reduce_line r l).written ≡ (w ++ front_of r.due b l) ++ last_of r.due (length w) b l ∷ []
    written_is l = ap (λ v. w ++ v) (front_last r.due (length w) b l) ∙ sym (append_assoc w (front_of r.due b l) _)

    inner : (l : Line) → Has h ps r.due l → line_fits h (length zs) l ≡ true →
        Inner h ps (length zs) (B (w ++ front_of r.due b l)) zs b first (operands (front_of r.due b l)) (length w) l
    inner (mark x) has on = tt
    inner (negation a) has on = tt
    inner (disjunction a c) has on = tt
    inner (next a) has on = tt
    inner (globally a) has on = tt
    inner (until a c) has on = tt
    inner (commitment i j a) has on = tt
    inner (fulfilment i j a) has on =
        turn_at (query_set_of h ps) w [] (AX r.due (b a)) nothing
        ∙ committed_set h ps (length zs) (B w) zs b first operands_now r.due i j a has.0 on

    pub line_stands : (l : Line) → Has h ps r.due l → line_fits h (length zs) l ≡ true →
        Stands (reduce_line r l).written (set_of h zs l) (length (reduce_line r l).written - 1)
    line_stands l has on =
        let v = w ++ front_of r.due b l in
        subst (λ u. Stands u (set_of h zs l) (length u - 1)) (sym (written_is l))
        (stands_last v (last_of r.due (length w) b l) (set_of h zs l)
        (last_set h ps (length zs) (B v) zs b first (operands (front_of r.due b l)) r.due (length w) l has on (inner l has on)))

    line_alike : (l : Line) → Has h ps r.due l → line_fits h (length zs) l ≡ true →
        Alike (Stands (reduce_line r l).written) (zs ++ set_of h zs l ∷ []) (reduce_line r l).stands
    line_alike l has on =
        alike_push (Stands (reduce_line r l).written) zs r.stands (set_of h zs l) (length (reduce_line r l).written - 1) (line_stands l has on)
        (alike_map (Stands w) (Stands (reduce_line r l).written) (λ z k s. stands_more w _ z k s) zs r.stands alike)

  -- the lines ls have their A lines behind pre
  pub lines_alike : (ls : List Line) (zs : List (ℕ → Bool)) (r : Reduced) (pre post : List ActionLine) →
      acts ≡ pre ++ (flat_map action_lines ls ++ post) → length pre ≡ r.due → lines_fit h (length zs) ls ≡ true → Alike (Stands r.written) zs r.stands →
      Alike (Stands (reduced r ls).written) (in_turn (set_of h) zs ls) (reduced r ls).stands × (length (pre ++ flat_map action_lines ls) ≡ (reduced r ls).due)
  lines_alike [] zs r pre post e d on alike = (alike, ap length (append-nil pre) ∙ d)
  lines_alike (l ∷ ls) zs r pre post e d on alike =
      let p = and_parts (line_fits h (length zs) l) (lines_fit h (length zs + 1) ls) on in
      let e' : acts ≡ pre ++ (action_lines l ++ (flat_map action_lines ls ++ post)) = e ∙ ap (λ v. pre ++ v) (append_assoc (action_lines l) (flat_map action_lines ls) post) in
      let has : Has h ps r.due l = rw (e', ← d) (has_actions h pre (flat_map action_lines ls ++ post) l) in
      let x = lines_alike ls (zs ++ set_of h zs l ∷ []) (reduce_line r l) (pre ++ action_lines l) post
      (e' ∙ sym (append_assoc pre (action_lines l) (flat_map action_lines ls ++ post)))
      (length-append pre (action_lines l) ∙ ap (λ k. k + length (action_lines l)) d)
      (rw (length_push zs (set_of h zs l)) p.1)
      (line_alike zs r alike l has p.0) in
      (x.0, ap length (sym (append_assoc pre (action_lines l) (flat_map action_lines ls))) ∙ x.1)
