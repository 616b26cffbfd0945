-- What is judged is the truth.
use Rattle.std.proofs.Common.{◌≡◌, ℕ, Bool, eqb, IfOk, Ok, Err, Result, sym, ◌∙◌}
use Rattle.texts.specs.declared.refusal.Refusal.{Refusal}
use Rattle.semantics.proofs.Truth.{sets_are_truth}
use Rattle.sheets.specs.declared.sheet.Sheet.{Sheet}
use Rattle.sheets.specs.Fits.{Fits}
use Rattle.sheets.specs.Model.{model_of}
use Rattle.sheets.proofs.Validity.{model_valid}
use Rattle.judging.specs.declared.judge.Judgement.{Judgement}
use Rattle.judging.specs.Judging.{line_refusal, settled, Judged}
use Rattle.judging.proofs.Refusing.{passed}
use Rattle.bench.specs.Benches.{WhereTrue}

pub judged_truly : (s : Sheet) → Fits s → (line work capacity : ℕ) (z : ℕ → Bool) (r : Result Judgement Refusal) → settled r ≡ line_refusal (model_of s) line work capacity →
    IfOk r (Judged (model_of s) line z) → IfOk r (λ _. WhereTrue (model_of s) line z)
judged_truly s f line work capacity z (Ok j) e d = λ k.
    let t = sets_are_truth (model_of s) (model_valid s f (sym (passed (eqb (model_of s).states 0) _ _ e).0)) line k in
    (λ on. t.0 (sym (d.set_is k) ∙ on), λ x. d.set_is k ∙ t.1 x)
judged_truly s f line work capacity z (Err x) e d = tt
