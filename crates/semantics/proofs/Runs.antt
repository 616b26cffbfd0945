-- What holds of each call of a lawful run from a sound reference state.
use Rattle.std.proofs.Common.{◌≡◌, ℕ, ◌<◌, ◌≤◌, Bool, true, not, eqb, ltb, leb, ◌↔◌, List, [], ◌∷◌, length, take, Some, None, Ok, Option, sym, refl, ap, ◌∙◌, subst}
use Rattle.std.proofs.lemmas.Bool.{cond-false, false≢true, le-ltb, lt-leb, not_from_true}
use Rattle.semantics.specs.Sheets.{Sheet, Line, mark, negation, disjunction, next, globally, until, commitment, fulfilment, line_at}
use Rattle.semantics.specs.Validity.{Valid}
use Rattle.semantics.specs.Formulas.{Formula, Holds, falsity, tree_of, trees, tree_at}
use Rattle.semantics.specs.Judging.{line_set, line_rounds, verdict}
use Rattle.semantics.specs.Evidence.{Evidence, Due}
use Rattle.semantics.specs.Walks.{Shown}
use Rattle.semantics.specs.QueryReading.{query_read}
use Rattle.semantics.specs.QueryText.{query_text}
use Rattle.semantics.specs.Reduction.{reduction, last_line}
use Rattle.semantics.specs.Resolving.{query_rounds}
use Rattle.semantics.specs.Edits.{Edit, edit_checks}
use Rattle.semantics.specs.Books.{Amending, Book, begin_refusal, close_refusal, edit_refusal, begun, amended, kept, withdrawn, unless}
use Rattle.semantics.specs.Calls.{Call, begin, edit, keep, withdraw, judge, translate, resolve, show, Limits, Answer, refused, ticket, done, edits, judged, written, shown, showable, refusal, book_after, after}
use Rattle.semantics.specs.Law.{Entry, Outcome, Showing, Resolved, Accepted, Responds, Gives, Throughout}
use Rattle.semantics.specs.RunLaws.{Sound, accepted, JudgedAs, OneAnswerTo, OneAnswer, RunsAgree, ShowsTo, Shows, RunsShow}
use Rattle.semantics.specs.Turns.{in_turn}
use Rattle.semantics.proofs.EditValid.{clear_from, edit_valid}
use Rattle.semantics.proofs.Evidence.{evidence_where_due}
use Rattle.semantics.proofs.Fitting.{reductions_read_back}
use Rattle.semantics.proofs.Roads.{two_roads}
use Rattle.semantics.proofs.Truth.{sets_are_truth}
use Rattle.semantics.proofs.Turns.{turn_nth}

abbrev pub book : Sheet → Option Amending → Book
book h a = record { sheet = h; amending = a }

unless_by : {X : Type 0} (o : Option ℕ) (x y : X) (P : X → Type 0) → P x → (o ≡ None → P y) → P (unless o x y)
unless_by None x y P old new = new refl
unless_by (Some r) x y P old new = old

edit_sound : (h : Sheet) (a : Option Amending) (t : ℕ) (e : Edit) → Sound (Some (book h a)) →
    Sound (Some (unless (edit_refusal h a t e) (book h a) (amended (book h a) e)))
edit_sound h None t e s = s
edit_sound h (Some a) t e s =
    unless_by (edit_refusal h (Some a) t e) (book h (Some a)) (amended (book h (Some a)) e) (λ b. Sound (Some b)) s
    (λ is. (edit_valid h s.0 a.count e (clear_from ((not (eqb t h.number), 21) ∷ edit_checks h a.count e) is).1, s.1))

withdraw_sound : (h : Sheet) (a : Option Amending) → Sound (Some (book h a)) → Sound (Some (withdrawn (book h a)))
withdraw_sound h None s = s
withdraw_sound h (Some a) s = (s.1, tt)

-- a sound reference state stays sound
pub book_sound : (b : Book) (c : Call) → Sound (Some b) → Sound (Some (book_after b c))
book_sound b begin s = unless_by (begin_refusal b.amending) b (begun b) (λ b. Sound (Some b)) s (λ _. (s.0, s.0))
book_sound b (edit t e) s = edit_sound b.sheet b.amending t e s
book_sound b (keep t) s = unless_by (close_refusal b.sheet b.amending t) b (kept b) (λ b. Sound (Some b)) s (λ _. (s.0, tt))
book_sound b (withdraw t) s =
    unless_by (close_refusal b.sheet b.amending t) b (withdrawn b) (λ b. Sound (Some b)) s (λ _. withdraw_sound b.sheet b.amending s)
book_sound b (judge f) s = s
book_sound b (translate f) s = s
book_sound b (resolve t k) s = s
book_sound b (show f n) s = s

after_sound : (r : Option Book) (c : Call) → Sound r → Sound (after r c)
after_sound None c s = tt
after_sound (Some b) c s = book_sound b c s

throughout_map : (P Q : Option Book → (ℕ → Bool) → Entry → Outcome → Type 0) →
    ((r : Option Book) (z : ℕ → Bool) (e : Entry) (o : Outcome) → Sound r → P r z e o → Q r z e o) →
    (es : List Entry) (os : List Outcome) (r : Option Book) (z : ℕ → Bool) → Sound r → Throughout P r z es os → Throughout Q r z es os
throughout_map P Q f [] [] r z s p = tt
throughout_map P Q f [] (o ∷ os) r z s p = absurd p
throughout_map P Q f (e ∷ es) [] r z s p = absurd p
throughout_map P Q f (e ∷ es) (o ∷ os) r z s p =
    (f r z e o s p.0, throughout_map P Q f es os (after r e.call) o.set (after_sound r e.call s) p.1)

module _ (b : Book) (z : ℕ → Bool) (o : Outcome) where
  -- a call that is answered was not refused
  settled_accepted : (x : Option ℕ) (c : Call) → Responds x b z c o → accepted o.answer ≡ true → Accepted b z c o
  settled_accepted None c s on = s
  settled_accepted (Some r) c s on = absurd (false≢true (sym (ap accepted s.0) ∙ on))

  judged_as : (f : ℕ) → Valid b.sheet → o.answer ≡ judged (verdict b.sheet (line_set b.sheet f)) (line_rounds b.sheet f) →
      o.set ≡ line_set b.sheet f → JudgedAs b.sheet f o
  judged_as f v a e = record {
    answers = a;
    holds_set = e;
    truth = λ s. subst (λ w. w s ≡ true ↔ ((s < b.sheet.states) × (Holds b.sheet (tree_at b.sheet f) s))) (sym e) (sets_are_truth b.sheet v f s);
  }

  resolved_as : (f k : ℕ) (t : List ℕ) → Valid b.sheet → f < length b.sheet.lines → t ≡ query_text (reduction b.sheet.lines f) →
      k ≡ last_line (reduction b.sheet.lines f) → Resolved b.sheet k (query_read b.sheet t) o → JudgedAs b.sheet f o
  resolved_as f k t v l text last a =
      let q = reduction b.sheet.lines f in
      let read : query_read b.sheet t ≡ Ok q = ap (query_read b.sheet) text ∙ reductions_read_back b.sheet v f l in
      let r = subst (λ i. Resolved b.sheet i (Ok q) o) last (subst (λ x. Resolved b.sheet k x o) read a) in
      let agree = two_roads b.sheet v f l in
      judged_as f v
      (r.0 ∙ ap (λ w. judged w (query_rounds b.sheet q (last_line q))) agree.one_verdict ∙ ap (judged (verdict b.sheet (line_set b.sheet f))) agree.one_rounds)
      (r.1 ∙ agree.one_set)

  one_answer : (m : Limits) (c : Call) → Valid b.sheet → Responds (refusal m b c) b z c o → OneAnswerTo b.sheet c o
  one_answer m begin v s = tt
  one_answer m (edit t e) v s = tt
  one_answer m (keep t) v s = tt
  one_answer m (withdraw t) v s = tt
  one_answer m (judge f) v s = λ on. let a = settled_accepted (refusal m b (judge f)) (judge f) s on in judged_as f v a.0 a.1
  one_answer m (translate f) v s = λ on. (settled_accepted (refusal m b (translate f)) (translate f) s on).0
  one_answer m (resolve t k) v s = λ f l text last on.
      resolved_as f k t v l text last (settled_accepted (refusal m b (resolve t k)) (resolve t k) s on)
  one_answer m (show f n) v s = tt

pub runs_agree : RunsAgree
runs_agree r z es os s p = throughout_map Gives OneAnswer each es os r z s p
  where
    each : (r : Option Book) (z : ℕ → Bool) (e : Entry) (o : Outcome) → Sound r → Gives r z e o → OneAnswer r z e o
    each None z e o s g = ap accepted g.0
    each (Some b) z e o s g = one_answer b z o e.limits e.call s.0 g

-- evidence is due on showable lines alone
due_showable : (h : Sheet) (s : ℕ) (fs : List Formula) (l : Line) → Due h (tree_of fs l) s → showable l ≡ true
unfolding Due
due_showable h s fs (mark m) d = absurd d
due_showable h s fs (negation a) d = absurd d
due_showable h s fs (disjunction a b) d = absurd d
due_showable h s fs (next a) d = refl
due_showable h s fs (globally a) d = refl
due_showable h s fs (until a b) d = refl
due_showable h s fs (commitment i j a) d = refl
due_showable h s fs (fulfilment i j a) d = refl

due_line_law : (h : Sheet) (f s : ℕ) → f < length h.lines → Due h (tree_at h f) s → showable (line_at h f) ≡ true
unfolding trees
due_line_law h f s l d =
    due_showable h s (in_turn tree_of [] (take f h.lines)) (line_at h f)
    (subst (λ x. Due h x s) (turn_nth tree_of h.lines f (mark 0) falsity l) d)

showing_evidence : (h : Sheet) (f s : ℕ) (x : Answer) → Showing h f s x → Due h (tree_at h f) s → (e : Shown) × (x ≡ shown e) × (Evidence h (tree_at h f) s e)
showing_evidence h f s (refused r) w d = absurd (w.1 d)
showing_evidence h f s (ticket n) w d = absurd w
showing_evidence h f s done w d = absurd w
showing_evidence h f s (edits n) w d = absurd w
showing_evidence h f s (judged v r) w d = absurd w
showing_evidence h f s (written t) w d = absurd w
showing_evidence h f s (shown e) w d = (e, refl, w)

-- where line, state and room fit and evidence is due, show is not refused
show_fits : (m : Limits) (b : Book) (f s : ℕ) → f < length b.sheet.lines → s < b.sheet.states → 16384 ≤ m.work → b.sheet.states ≤ m.path →
    b.sheet.states ≤ m.capacity → Due b.sheet (tree_at b.sheet f) s → refusal m b (show f s) ≡ None
show_fits m b f s lf ls lw lp lc d =
    cond-false (leb (length b.sheet.lines) f) _ _ (lt-leb _ _ lf)
    ∙ cond-false (leb b.sheet.states s) _ _ (lt-leb _ _ ls)
    ∙ cond-false (ltb m.work 16384) _ _ (le-ltb _ _ lw)
    ∙ cond-false (ltb m.path b.sheet.states) _ _ (le-ltb _ _ lp)
    ∙ cond-false (ltb m.capacity b.sheet.states) _ _ (le-ltb _ _ lc)
    ∙ cond-false (not (showable (line_at b.sheet f))) _ _ (not_from_true _ (due_line_law b.sheet f s lf d))

shows_to : (b : Book) (z : ℕ → Bool) (o : Outcome) (m : Limits) (c : Call) → Valid b.sheet → Responds (refusal m b c) b z c o → ShowsTo b.sheet m c o
shows_to b z o m begin v g = tt
shows_to b z o m (edit t e) v g = tt
shows_to b z o m (keep t) v g = tt
shows_to b z o m (withdraw t) v g = tt
shows_to b z o m (judge f) v g = tt
shows_to b z o m (translate f) v g = tt
shows_to b z o m (resolve t k) v g = tt
shows_to b z o m (show f s) v g = λ lf ls lw lp lc. (
  λ x. (x.0, x.2),
  λ x.
      let d = (evidence_where_due b.sheet v (tree_at b.sheet f) s ls).0 x in
      let a = subst (λ y. Responds y b z (show f s) o) (show_fits m b f s lf ls lw lp lc d) g in
      showing_evidence b.sheet f s o.answer a.0 d,
)

pub runs_show : RunsShow
runs_show r z es os s p = throughout_map Gives Shows each es os r z s p
  where
    each : (r : Option Book) (z : ℕ → Bool) (e : Entry) (o : Outcome) → Sound r → Gives r z e o → Shows r z e o
    each None z e o s g = tt
    each (Some b) z e o s g = shows_to b z o e.limits e.call s.0 g
