-- What the sections of a text that were read had been.
use Rattle.std.proofs.Common.{◌≡◌, ℕ, zero, suc, ◌+◌, ◌<◌, true, List, [], ◌∷◌, ◌++◌, length, get_or, Ok, Result, sym, refl, ap, ◌∙◌, subst, ⊎_elim, append_assoc, arith}
use Rattle.std.proofs.lemmas.List.{get_or_append_left, get_or_push, length_push}
use Rattle.std.proofs.lemmas.Bool.{cases_Bool, cases_eq, cond-true, cond-false}
use Rattle.semantics.specs.Cuts.{fields_of}
use Rattle.semantics.specs.Faults.{Fault}
use Rattle.semantics.specs.SheetReading.{Reading, leads, each_due, while_in}
use Rattle.semantics.specs.Written.{texts_below}
use Rattle.semantics.proofs.BelowTexts.{texts_same}
use Rattle.semantics.proofs.NumberFields.{ok_same, then_ok}
use Rattle.semantics.proofs.Uncutting.{ended}

-- what was due is there, n times; each item has its text, and something holds of it
pub record AllDue {X Y : Type 0} (text : ℕ → Y → List ℕ) (Q : ℕ → Y → Type 0) (d : Y) (n : ℕ) (r : Reading X) (b : Reading (List Y)) : Type 0 where
  pub all : length b.known ≡ n
  pub holds : (k : ℕ) → k < n → Q k (get_or b.known k d)
  pub written : ended r.left ≡ texts_below n (λ k. text k (get_or b.known k d)) ++ ended b.left

module _ {X Y : Type 0} (f : ℕ → Reading (List Y) → Result (Reading Y) Fault) (text : ℕ → Y → List ℕ) (Q : ℕ → Y → Type 0) (d : Y)
    (each : (k : ℕ) (a : Reading (List Y)) (b : Reading Y) → f k a ≡ Ok b → (ended a.left ≡ text k b.known ++ ended b.left) × (Q k b.known)) where
  pub each_back : (n : ℕ) (r : Reading X) (b : Reading (List Y)) → each_due n f r ≡ Ok b → AllDue text Q d n r b
  unfolding each_due texts_below
  each_back zero r b e = subst (AllDue text Q d 0 r) (ok_same _ b e) (record { all = refl; holds = λ k l. absurd (omega arith); written = refl })
  each_back (suc n) r b e =
      let a = then_ok (each_due n f r) _ b e in
      let c = then_ok (f n a.0) _ b a.2 in
      let i = each_back n r a.0 a.1 in
      let s = each n a.0 c.0 c.1 in
      let ks = a.0.known in
      let y = c.0.known in
      let old : (k : ℕ) → k < n → get_or (ks ++ y ∷ []) k d ≡ get_or ks k d = λ k l. get_or_append_left ks (y ∷ []) d k (omega (arith, i.all)) in
      let new : get_or (ks ++ y ∷ []) n d ≡ y = get_or_push ks y d n i.all in
      subst (AllDue text Q d (suc n) r) (ok_same _ b c.2) (record {
        all = omega (arith, length_push ks y, i.all);
        holds = λ k l. ⊎_elim
            (λ q. subst (λ j. Q j (get_or (ks ++ y ∷ []) j d)) (sym q) (subst (Q n) (sym new) s.1))
            (λ ne. subst (Q k) (sym (old k (omega (arith, ne)))) (i.holds k (omega (arith, ne))))
            (cases_eq k n);
        written = i.written
            ∙ ap (λ v. v ++ ended a.0.left) (texts_same n _ _ (λ k l. ap (text k) (sym (old k l))))
            ∙ ap (λ v. texts_below n (λ k. text k (get_or (ks ++ y ∷ []) k d)) ++ v) (s.0 ∙ ap (λ v. text n v ++ ended c.0.left) (sym new))
            ∙ sym (append_assoc _ (text n (get_or (ks ++ y ∷ []) n d)) (ended c.0.left));
      })

-- each line that comes adds its text to what is known
module _ {X : Type 0} (b : ℕ) (f : X → ℕ → List (List ℕ) → Result X Fault) (Inv : X → Type 0) (text : X → List ℕ)
    (each : (x : X) (n : ℕ) (l : List ℕ) (y : X) → Inv x → leads b l ≡ true → f x n (fields_of l) ≡ Ok y → (Inv y) × (text y ≡ text x ++ (l ++ 10 ∷ []))) where
  abbrev Told : X → List (List ℕ) → Reading X → Type 0
  Told x ls r = (Inv r.known) × (text x ++ ended ls ≡ text r.known ++ ended r.left)

  pub while_back : (ls : List (List ℕ)) (x : X) (n : ℕ) (r : Reading X) → Inv x → while_in b f x n ls ≡ Ok r → Told x ls r
  unfolding while_in
  while_back [] x n r i e = subst (Told x []) (ok_same _ r e) (i, refl)
  while_back (l ∷ ls) x n r i e = ⊎_elim
      (λ on.
      let a = then_ok (f x n (fields_of l)) _ r (sym (cond-true (leads b l) _ _ on) ∙ e) in
      let s = each x n l a.0 i on a.1 in
      let t = while_back ls a.0 (n + 1) r s.0 a.2 in
      (t.0, sym (append_assoc (text x) (l ++ 10 ∷ []) (ended ls)) ∙ ap (λ v. v ++ ended ls) (sym s.1) ∙ t.1))
      (λ off. subst (Told x (l ∷ ls)) (ok_same _ r (sym (cond-false (leads b l) _ _ off) ∙ e)) (i, refl))
      (cases_Bool (leads b l))
