-- One channel more among the copies of an L line.
use Rattle.std.proofs.Common.{◌≡◌, ℕ, suc, ◌+◌, ◌-◌, ◌<◌, ◌≤◌, true, false, cond, List, set, Ok, Err, sym, ap, ◌∙◌, arith}
use Rattle.std.proofs.lemmas.Bool.{cond-true, cond-false}
use Rattle.texts.specs.declared.refusal.Fault.{Fault}
use Rattle.texts.specs.Cuts.{before, after}
use Rattle.texts.specs.Fields.{field_of}
use Rattle.texts.specs.Lines.{at}
use Rattle.sheets.specs.declared.holders.Holders.{Holders}
use Rattle.sheets.specs.Holding.{held}
use Rattle.reader.specs.Readers.{and_then, numbered, copies_from}

module _ (n : ℕ) (who : Holders) (p c f : ℕ) (copies bs : List ℕ) where
  more : c < 8 → copies_from n who p (8 - c) c f copies bs
      ≡ cond (held who c p) (numbered n f 0 1000 bs (λ x bs'. copies_from n who p (8 - (c + 1)) (c + 1) (f + 1) (set copies c x) bs')) (copies_from n who p (8 - (c + 1)) (c + 1) f copies bs)
  unfolding copies_from
  more h = let e : 8 - c ≡ suc (8 - (c + 1)) = omega arith in ap (λ k. copies_from n who p k c f copies bs) e

  pub copies_held : (x : ℕ) {rest : List ℕ} → c < 8 → held who c p ≡ true → field_of 0 1000 (at n f) (before 44 bs) ≡ Ok x → rest ≡ after 44 bs
      → copies_from n who p (8 - (c + 1)) (c + 1) (f + 1) (set copies c x) rest ≡ copies_from n who p (8 - c) c f copies bs
  copies_held x h on e r =
      ap (copies_from n who p (8 - (c + 1)) (c + 1) (f + 1) (set copies c x)) r
      ∙ sym (more h ∙ cond-true _ _ _ on ∙ ap (λ v. and_then v (λ y. copies_from n who p (8 - (c + 1)) (c + 1) (f + 1) (set copies c y) (after 44 bs))) e)

  pub copies_skip : c < 8 → held who c p ≡ false → copies_from n who p (8 - (c + 1)) (c + 1) f copies bs ≡ copies_from n who p (8 - c) c f copies bs
  copies_skip h off = sym (more h ∙ cond-false _ _ _ off)

  pub copies_fault : (e : Fault) → c < 8 → held who c p ≡ true → field_of 0 1000 (at n f) (before 44 bs) ≡ Err e → copies_from n who p (8 - c) c f copies bs ≡ Err e
  copies_fault e h on w = more h ∙ cond-true _ _ _ on ∙ ap (λ v. and_then v (λ y. copies_from n who p (8 - (c + 1)) (c + 1) (f + 1) (set copies c y) (after 44 bs))) w

  pub copies_end : 8 ≤ c → copies_from n who p (8 - c) c f copies bs ≡ Ok copies
  unfolding copies_from
  copies_end h = let e : 8 - c ≡ 0 = omega arith in ap (λ k. copies_from n who p k c f copies bs) e
