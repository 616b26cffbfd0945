-- The sheet of a run is accounted for by the accepted edits.
use Rattle.std.proofs.Common.{◌≡◌, ℕ, zero, suc, ◌+◌, Bool, true, false, cond, List, [], ◌∷◌, ◌++◌, length, Some, None, Option, sym, refl, ap, ◌∙◌, subst, append_assoc, append-nil}
use Rattle.std.proofs.lemmas.List.{length_push}
use Rattle.semantics.specs.Sheets.{Sheet}
use Rattle.semantics.specs.Edits.{Edit, edited, made}
use Rattle.semantics.specs.Books.{Amending, Book, begin_refusal, close_refusal, edit_refusal, begun, amended, kept, withdrawn, unless}
use Rattle.semantics.specs.Calls.{Call, begin, edit, keep, withdraw, judge, translate, resolve, show, Limits, refusal, book_after}
use Rattle.semantics.specs.Law.{Outcome, Accepted, Responds}
use Rattle.semantics.specs.RunLaws.{accepted, Account, entered, Accounted, RunsAccount}
use Rattle.semantics.proofs.Runs.{book, book_sound}

made_push : (es : List Edit) (h : Sheet) (e : Edit) → made h (es ++ e ∷ []) ≡ edited (made h es) e
made_push [] h e = refl
made_push (x ∷ es) h e = made_push es (edited h x) e

cond_same : {X : Type 0} (b : Bool) (x : X) → cond b x x ≡ x
cond_same true x = refl
cond_same false x = refl

module _ (first : Sheet) (a : Account) (z : ℕ → Bool) (o : Outcome) where
  -- a refused call changes neither book nor account
  refuses : (b : Book) (c : Call) (r : ℕ) → Responds (Some r) b z c o → Accounted first a b → Accounted first (cond (accepted o.answer) (entered a c) a) b
  refuses b c r s old = subst (λ v. Accounted first (cond v (entered a c) a) b) (sym (ap accepted s.0)) old

  -- a call that changes the book where it is not refused
  changes : (b new : Book) (c : Call) (x : Option ℕ) → (Accepted b z c o → accepted o.answer ≡ true) → Responds x b z c o →
      Accounted first a b → Accounted first (entered a c) new → Accounted first (cond (accepted o.answer) (entered a c) a) (unless x b new)
  changes b new c None says s old now = subst (λ v. Accounted first (cond v (entered a c) a) new) (sym (says s)) now
  changes b new c (Some r) says s old now = refuses b c r s old

  -- a call that changes neither
  stays : (b : Book) → Accounted first a b → Accounted first (cond (accepted o.answer) a a) b
  stays b old = subst (λ w. Accounted first w b) (sym (cond_same (accepted o.answer) a)) old

  begins : (h : Sheet) (m : Option Amending) → Responds (begin_refusal m) (book h m) z begin o → Accounted first a (book h m) →
      Accounted first (cond (accepted o.answer) a a) (unless (begin_refusal m) (book h m) (begun (book h m)))
  begins h None s old =
      changes (book h None) (begun (book h None)) begin None (λ g. ap accepted g.0) s old
      (old.0, (old.0 ∙ ap (λ v. made first (a.lasting ++ v)) old.1 ∙ ap (made first) (append-nil a.lasting), ap length (sym old.1)))
  begins h (Some m) s old = refuses (book h (Some m)) begin 20 s old

  edits : (h : Sheet) (m : Option Amending) (t : ℕ) (e : Edit) → Responds (edit_refusal h m t e) (book h m) z (edit t e) o → Accounted first a (book h m) →
      Accounted first (cond (accepted o.answer) (entered a (edit t e)) a) (unless (edit_refusal h m t e) (book h m) (amended (book h m) e))
  edits h None t e s old = refuses (book h None) (edit t e) 21 s old
  edits h (Some m) t e s old =
      changes (book h (Some m)) (amended (book h (Some m)) e) (edit t e) (edit_refusal h (Some m) t e) (λ g. ap accepted g.0) s old (
        ap (λ g. edited g e) old.0 ∙ sym (made_push (a.lasting ++ a.pending) first e) ∙ ap (made first) (append_assoc a.lasting a.pending (e ∷ [])),
        (old.1.0, ap (λ n. n + 1) old.1.1 ∙ sym (length_push a.pending e)),
      )

  keeps : (h : Sheet) (m : Option Amending) (t : ℕ) → Responds (close_refusal h m t) (book h m) z (keep t) o → Accounted first a (book h m) →
      Accounted first (cond (accepted o.answer) (entered a (keep t)) a) (unless (close_refusal h m t) (book h m) (kept (book h m)))
  keeps h None t s old = refuses (book h None) (keep t) 21 s old
  keeps h (Some m) t s old =
      changes (book h (Some m)) (kept (book h (Some m))) (keep t) (close_refusal h (Some m) t) (λ g. ap accepted g.0) s old
      (old.0 ∙ ap (made first) (sym (append-nil (a.lasting ++ a.pending))), refl)

  withdraws : (h : Sheet) (m : Option Amending) (t : ℕ) → Responds (close_refusal h m t) (book h m) z (withdraw t) o → Accounted first a (book h m) →
      Accounted first (cond (accepted o.answer) (entered a (withdraw t)) a) (unless (close_refusal h m t) (book h m) (withdrawn (book h m)))
  withdraws h None t s old = refuses (book h None) (withdraw t) 21 s old
  withdraws h (Some m) t s old =
      changes (book h (Some m)) (withdrawn (book h (Some m))) (withdraw t) (close_refusal h (Some m) t) (λ g. ap accepted g.0) s old
      (old.1.0 ∙ ap (made first) (sym (append-nil a.lasting)), refl)

  step : (b : Book) (m : Limits) (c : Call) → Responds (refusal m b c) b z c o → Accounted first a b →
      Accounted first (cond (accepted o.answer) (entered a c) a) (book_after b c)
  step b m begin s old = begins b.sheet b.amending s old
  step b m (edit t e) s old = edits b.sheet b.amending t e s old
  step b m (keep t) s old = keeps b.sheet b.amending t s old
  step b m (withdraw t) s old = withdraws b.sheet b.amending t s old
  step b m (judge f) s old = stays b old
  step b m (translate f) s old = stays b old
  step b m (resolve t k) s old = stays b old
  step b m (show f n) s old = stays b old

pub runs_account : RunsAccount
runs_account first a b z [] [] s old p zero = (old, s.0)
runs_account first a b z [] [] s old p (suc n) = (old, s.0)
runs_account first a b z [] (o ∷ os) s old p zero = absurd p
runs_account first a b z [] (o ∷ os) s old p (suc n) = absurd p
runs_account first a b z (e ∷ es) [] s old p zero = absurd p
runs_account first a b z (e ∷ es) [] s old p (suc n) = absurd p
runs_account first a b z (e ∷ es) (o ∷ os) s old p zero = (old, s.0)
runs_account first a b z (e ∷ es) (o ∷ os) s old p (suc n) =
    runs_account first (cond (accepted o.answer) (entered a e.call) a) (book_after b e.call) o.set es os
    (book_sound b e.call s) (step first a z o b e.limits e.call p.0 old) p.1 n
