-- F lines that were read.
use Rattle.std.proofs.Common.{◌≡◌, ℕ, ◌+◌, ◌≤◌, true, ◌&&◌, List, [], ◌∷◌, ◌++◌, length, Ok, sym, refl, ap, ◌∙◌, subst, zero-add, arith}
use Rattle.std.specs.List.{AllByRecursion as All}
use Rattle.std.proofs.lemmas.List.{length_push}
use Rattle.std.proofs.lemmas.Bool.{and_from}
use Rattle.semantics.specs.Cuts.{fields_of}
use Rattle.semantics.specs.LineReading.{a_party, a_mark, an_operand, at, lettered_line}
use Rattle.semantics.specs.ReadBack.{each_fits}
use Rattle.semantics.specs.SheetReading.{leads, formula_letters, pair_shares, formula_line}
use Rattle.semantics.specs.Sheets.{Sheet, Line, mark, negation, disjunction, next, globally, until, commitment, fulfilment}
use Rattle.semantics.specs.SheetText.{formula_text}
use Rattle.semantics.specs.Validity.{paired, line_fits, lines_fit}
use Rattle.semantics.specs.Written.{lettered_text, numbered_text}
use Rattle.semantics.proofs.Inversion.{byte_back, Named, lettered_back}
use Rattle.semantics.proofs.NumberFields.{ok_same, then_ok, passed}
use Rattle.semantics.proofs.OnlyQueries.{line_text_law, numbered_push, each_push}
use Rattle.semantics.proofs.SpelledBack.{one, two, three}

pub lines_each : (h : Sheet) (ls : List Line) (k : ℕ) → lines_fit h k ls ≡ each_fits (line_fits h) k ls
lines_each h [] k = refl
lines_each h (l ∷ ls) k = ap (λ v. line_fits h k l && v) (lines_each h ls (k + 1))

module _ (h : Sheet) where
  module _ (due n : ℕ) where
    -- the letter writes the line, which fits if its pair shares a channel
    unfoldable SpellsFormula : ℕ → List ℕ → Line → Type 0
    SpellsFormula byte xs l = (formula_text due l ≡ lettered_text 70 due byte xs) × (pair_shares h l ≡ true → line_fits h due l ≡ true)

    formulas_spell : All (λ l. (xs : List ℕ) → Named h 0 due n l.kinds xs → SpellsFormula l.byte xs (l.makes xs)) formula_letters
    unfolding SpellsFormula
    formulas_spell = (
      one h 0 due n (λ xs. SpellsFormula 77 xs (mark (at xs 0))) a_mark (λ x a _. (refl, λ _. a)),
      (
        one h 0 due n (λ xs. SpellsFormula 78 xs (negation (at xs 0))) an_operand (λ x _ a. (refl, λ _. a)),
        (
          two h 0 due n (λ xs. SpellsFormula 79 xs (disjunction (at xs 0) (at xs 1))) an_operand an_operand (λ x y _ a _ b. (refl, λ _. and_from _ _ a b)),
          (
            one h 0 due n (λ xs. SpellsFormula 88 xs (next (at xs 0))) an_operand (λ x _ a. (refl, λ _. a)),
            (
              one h 0 due n (λ xs. SpellsFormula 71 xs (globally (at xs 0))) an_operand (λ x _ a. (refl, λ _. a)),
              (
                two h 0 due n (λ xs. SpellsFormula 85 xs (until (at xs 0) (at xs 1))) an_operand an_operand (λ x y _ a _ b. (refl, λ _. and_from _ _ a b)),
                (
                  three h 0 due n (λ xs. SpellsFormula 67 xs (commitment (at xs 0) (at xs 1) (at xs 2))) a_party a_party an_operand
                      (λ x y z a _ b _ _ c. (refl, λ s. and_from (paired h x y) _ (and_from _ _ a (and_from _ _ b s)) c)),
                  (
                    three h 0 due n (λ xs. SpellsFormula 75 xs (fulfilment (at xs 0) (at xs 1) (at xs 2))) a_party a_party an_operand
                        (λ x y z a _ b _ _ c. (refl, λ s. and_from (paired h x y) _ (and_from _ _ a (and_from _ _ b s)) c)),
                    tt,
                  ),
                ),
              ),
            ),
          ),
        ),
      ),
    )

  -- the lines so far
  abbrev pub Fitting : List Line → Type 0
  Fitting ls = (length ls ≤ 64) × (each_fits (line_fits h) 0 ls ≡ true)

  pub formula_step : (ls : List Line) (n : ℕ) (l : List ℕ) (ms : List Line) → Fitting ls → leads 70 l ≡ true → formula_line h ls n (fields_of l) ≡ Ok ms →
      (Fitting ms) × (numbered_text formula_text 0 ms ≡ numbered_text formula_text 0 ls ++ (l ++ 10 ∷ []))
  unfolding SpellsFormula
  formula_step ls n l ms fit first e =
      let k = length ls in
      let a = then_ok (lettered_line formula_letters 64 h 0 k n (fields_of l)) _ ms e in
      let x = a.0 in
      let r = lettered_back h 0 k n formula_letters 64 (SpellsFormula k n) (fields_of l) x (formulas_spell k n) a.1 in
      let c = passed (pair_shares h x) _ _ ms a.2 in
      let front = numbered_text formula_text 0 ls in
      let text : formula_text k x ≡ l ++ 10 ∷ [] = r.4.0 ∙ sym (line_text_law l 70 k r.0 r.1 (byte_back 70 _ first) r.3) in
      subst (λ v. (Fitting v) × (numbered_text formula_text 0 v ≡ front ++ (l ++ 10 ∷ []))) (ok_same (ls ++ x ∷ []) ms c.1) (
        (omega (arith, r.2, length_push ls x), each_push (line_fits h) ls x fit.1 (r.4.1 c.0)),
        numbered_push formula_text ls 0 x ∙ ap (λ i. front ++ formula_text i x) (zero-add k) ∙ ap (λ v. front ++ v) text,
      )
