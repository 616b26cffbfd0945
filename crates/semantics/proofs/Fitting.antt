-- The reduction of a line of a valid sheet fits the sheet, so its text reads back.
use Rattle.std.proofs.Common.{◌≡◌, ℕ, zero, suc, ◌+◌, ◌-◌, ◌*◌, ◌<◌, ◌≤◌, Bool, true, ltb, List, [], ◌∷◌, ◌++◌, length, get_or, take, sym, refl, ap, ◌∙◌, ⊎_elim, add-zero, zero-add, arith, length-append}
use Rattle.std.specs.List.{flat_map}
use Rattle.std.proofs.lemmas.List.{get_or_append_left, get_or_push, length_push, length-take-le}
use Rattle.std.proofs.lemmas.Bool.{and_parts, and_from, ltb-true, lt-ltb, cases_eq}
use Rattle.semantics.specs.Queries.{QueryLine}
use Rattle.semantics.specs.ReadBack.{action_fits, query_line_fits, each_fits, QueryFits, QueriesReadBack, ReductionsReadBack}
use Rattle.semantics.specs.Reduction.{action_lines, query_lines, Reduced, reduce_line, reduced, nothing_reduced, query_of, reduction}
use Rattle.semantics.specs.Sheets.{Sheet, Line, mark, negation, disjunction, next, globally, until, commitment, fulfilment}
use Rattle.semantics.specs.Validity.{paired, line_fits, lines_fit}
use Rattle.semantics.proofs.ReadBack.{query_reads_back}
use Rattle.semantics.proofs.ReducedLines.{is_pair}
use Rattle.semantics.proofs.Sizes.{limits}

pub each_append : {X : Type 0} (p : ℕ → X → Bool) (xs ys : List X) (k : ℕ) → each_fits p k xs ≡ true → each_fits p (k + length xs) ys ≡ true → each_fits p k (xs ++ ys) ≡ true
each_append p [] ys k e f = ap (λ i. each_fits p i ys) (sym (add-zero k)) ∙ f
each_append p (x ∷ xs) ys k e f =
    let q = and_parts (p k x) (each_fits p (k + 1) xs) e in
    let same : k + length (x ∷ xs) ≡ k + 1 + length xs = omega arith in
    and_from (p k x) _ q.0 (each_append p xs ys (k + 1) q.1 (ap (λ i. each_fits p i ys) (sym same) ∙ f))

module _ (h : Sheet) where
  line_actions_fit : (l : Line) (k m : ℕ) → line_fits h k l ≡ true → each_fits (action_fits h) m (action_lines l) ≡ true
  line_actions_fit (mark x) k m e = refl
  line_actions_fit (negation a) k m e = refl
  line_actions_fit (disjunction a c) k m e = refl
  line_actions_fit (next a) k m e = refl
  line_actions_fit (globally a) k m e = refl
  line_actions_fit (until a c) k m e = refl
  line_actions_fit (commitment i j a) k m e = and_from _ true (is_pair h [] i j (ltb a k) e) refl
  line_actions_fit (fulfilment i j a) k m e = let p = is_pair h [] i j (ltb a k) e in and_from _ _ p (and_from _ true p refl)

  actions_fit : (ls : List Line) (k m : ℕ) → lines_fit h k ls ≡ true → each_fits (action_fits h) m (flat_map action_lines ls) ≡ true
  actions_fit [] k m e = refl
  actions_fit (l ∷ ls) k m e =
      let p = and_parts (line_fits h k l) (lines_fit h (k + 1) ls) e in
      each_append (action_fits h) (action_lines l) (flat_map action_lines ls) m (line_actions_fit l k m p.0) (actions_fit ls (k + 1) (m + length (action_lines l)) p.1)

  few_actions : (l : Line) → length (action_lines l) ≤ 2
  few_actions (mark x) = omega arith
  few_actions (negation a) = omega arith
  few_actions (disjunction a c) = omega arith
  few_actions (next a) = omega arith
  few_actions (globally a) = omega arith
  few_actions (until a c) = omega arith
  few_actions (commitment i j a) = omega arith
  few_actions (fulfilment i j a) = omega arith

  joined_few : (ls : List Line) → length (flat_map action_lines ls) ≤ 2 * length ls
  joined_few [] = omega arith
  joined_few (l ∷ ls) = omega (arith, length-append (action_lines l) (flat_map action_lines ls), few_actions l, joined_few ls)

  one_or_two : (d m : ℕ) (b : ℕ → ℕ) (l : Line) → (1 ≤ length (query_lines d m b l)) × (length (query_lines d m b l) ≤ 2)
  one_or_two d m b (mark x) = (omega arith, omega arith)
  one_or_two d m b (negation a) = (omega arith, omega arith)
  one_or_two d m b (disjunction a c) = (omega arith, omega arith)
  one_or_two d m b (next a) = (omega arith, omega arith)
  one_or_two d m b (globally a) = (omega arith, omega arith)
  one_or_two d m b (until a c) = (omega arith, omega arith)
  one_or_two d m b (commitment i j a) = (omega arith, omega arith)
  one_or_two d m b (fulfilment i j a) = (omega arith, omega arith)

  module _ (acts : ℕ) (some : 0 < acts) where
    -- the B lines of a line fit, where those before it do
    lines_of : (d m k : ℕ) (b : ℕ → ℕ) (l : Line) → line_fits h k l ≡ true → d + length (action_lines l) ≤ acts → ((a : ℕ) → a < k → b a < m) →
        each_fits (query_line_fits h acts) m (query_lines d m b l) ≡ true
    lines_of d m k b l fits room low = go l fits room
      where
        operand : (a : ℕ) → ltb a k ≡ true → ltb (b a) m ≡ true
        operand a e = lt-ltb _ _ (low a (ltb-true a k e))

        first : ltb 0 acts ≡ true
        first = lt-ltb 0 acts some

        go : (l : Line) → line_fits h k l ≡ true → d + length (action_lines l) ≤ acts → each_fits (query_line_fits h acts) m (query_lines d m b l) ≡ true
        go (mark x) e r = and_from _ true e refl
        go (negation a) e r = and_from _ true (operand a e) refl
        go (disjunction a c) e r =
            let p = and_parts (ltb a k) (ltb c k) e in
            and_from _ true (and_from (ltb (b a) m) _ (operand a p.0) (operand c p.1)) refl
        go (next a) e r = and_from _ true (and_from (ltb 0 acts) _ first (operand a e)) refl
        go (globally a) e r = and_from _ true (and_from (ltb 0 acts) _ first (operand a e)) refl
        go (until a c) e r =
            let p = and_parts (ltb a k) (ltb c k) e in
            and_from _ true (and_from (ltb 0 acts) _ first (and_from (ltb (b a) m) _ (operand a p.0) (operand c p.1))) refl
        go (commitment i j a) e r =
            and_from _ true (and_from (ltb d acts) _ (lt-ltb d acts (omega arith)) (operand a (and_parts (paired h i j) (ltb a k) e).1)) refl
        go (fulfilment i j a) e r =
            and_from _ _ (and_from (ltb d acts) _ (lt-ltb d acts (omega arith)) (operand a (and_parts (paired h i j) (ltb a k) e).1))
            (and_from _ true (and_from (ltb (d + 1) acts) _ (lt-ltb (d + 1) acts (omega arith)) (lt-ltb m (m + 1) (omega arith))) refl)

    record Fine (k : ℕ) (r : Reduced) : Type 0 where
      known : length r.stands ≡ k
      low : (a : ℕ) → a < k → get_or r.stands a 0 < length r.written
      fit : each_fits (query_line_fits h acts) 0 r.written ≡ true
      most : length r.written ≤ 2 * k
      least : k ≤ length r.written

    fine_line : (k : ℕ) (r : Reduced) (l : Line) → Fine k r → line_fits h k l ≡ true → r.due + length (action_lines l) ≤ acts → Fine (k + 1) (reduce_line r l)
    fine_line k r l f e room = record {
      known = length_push r.stands _ ∙ ap (λ i. i + 1) f.known;
      low = λ a m. ⊎_elim
          (λ q. let at_end = get_or_push r.stands (length (reduce_line r l).written - 1) 0 a (f.known ∙ sym q) in omega (arith, at_end, longer, more.0))
          (λ ne. let old = get_or_append_left r.stands ((length (reduce_line r l).written - 1) ∷ []) 0 a (omega (arith, ne, f.known)) in
          omega (arith, old, longer, f.low a (omega (arith, ne))))
          (cases_eq a k);
      fit = each_append (query_line_fits h acts) r.written new 0 f.fit
          (ap (λ i. each_fits (query_line_fits h acts) i new) (zero-add (length r.written))
          ∙ lines_of r.due (length r.written) k (λ a. get_or r.stands a 0) l e room f.low);
      most = omega (arith, longer, more.1, f.most);
      least = omega (arith, longer, more.0, f.least);
    }
      where
        new : List QueryLine
        new = query_lines r.due (length r.written) (λ a. get_or r.stands a 0) l

        longer : length (reduce_line r l).written ≡ length r.written + length new
        longer = length-append r.written new

        more : (1 ≤ length new) × (length new ≤ 2)
        more = one_or_two r.due (length r.written) (λ a. get_or r.stands a 0) l

    fine_lines : (ls : List Line) (k : ℕ) (r : Reduced) → Fine k r → lines_fit h k ls ≡ true → r.due + length (flat_map action_lines ls) ≤ acts →
        Fine (k + length ls) (reduced r ls)
    fine_lines [] k r f e room = rw add-zero f
    fine_lines (l ∷ ls) k r f e room =
        let p = and_parts (line_fits h k l) (lines_fit h (k + 1) ls) e in
        let len = length-append (action_lines l) (flat_map action_lines ls) in
        let same : k + 1 + length ls ≡ k + length (l ∷ ls) = omega arith in
        rw same at (fine_lines ls (k + 1) (reduce_line r l) (fine_line k r l f p.0 (omega arith)) p.1 (omega arith))

  query_fits : (ls : List Line) → lines_fit h 0 ls ≡ true → 0 < length ls → length ls ≤ 64 → QueryFits h (query_of ls)
  query_fits ls e some few =
      let acts = length (query_of ls).actions in
      let f = fine_lines acts (omega arith) ls 0 nothing_reduced
      (record { known = refl; low = λ a l. absurd (omega arith); fit = refl; most = omega arith; least = omega arith }) e (omega arith) in
      record {
        some_line = omega (arith, f.least);
        few_actions = omega (arith, joined_few ls);
        few_lines = omega (arith, f.most);
        actions_fit = actions_fit ls 0 1 e;
        lines_fit = f.fit;
      }

front_fits : (h : Sheet) (n : ℕ) (ls : List Line) (k : ℕ) → lines_fit h k ls ≡ true → lines_fit h k (take n ls) ≡ true
front_fits h zero ls k e = refl
front_fits h (suc n) [] k e = refl
front_fits h (suc n) (l ∷ ls) k e =
    let p = and_parts (line_fits h k l) (lines_fit h (k + 1) ls) e in
    and_from (line_fits h k l) _ p.0 (front_fits h n ls (k + 1) p.1)

pub queries_read_back : QueriesReadBack
queries_read_back h v q fits = let lim = limits h v in query_reads_back h lim.few_parties lim.few_marks q fits

pub reductions_read_back : ReductionsReadBack
unfolding reduction
reductions_read_back h v f l =
    let len : length (take (f + 1) h.lines) ≡ f + 1 = length-take-le (f + 1) h.lines (omega arith) in
    queries_read_back h v (query_of (take (f + 1) h.lines))
    (query_fits h (take (f + 1) h.lines) (front_fits h (f + 1) h.lines 0 v.lines_fit) (omega arith) (omega (arith, (limits h v).few_lines)))
