-- The table of sheet 7.
use Rattle.std.proofs.Common.{◌≡◌, [], ◌∷◌, map, sym, refl, ap, ◌∙◌}
use Rattle.std.specs.Fmt.{digits}
use Rattle.semantics.specs.Access.{access}
use Rattle.semantics.specs.Chains.{rounds, settled}
use Rattle.semantics.specs.Judging.{line_sets, line_set, line_rounds, verdict}
use Rattle.semantics.specs.QueryText.{query_text}
use Rattle.semantics.specs.Reduction.{reduction}
use Rattle.semantics.specs.SheetReading.{sheet_read}
use Rattle.semantics.specs.SheetText.{sheet_text}
use Rattle.semantics.specs.Written.{texts_below}
use Rattle.semantics.specs.Worked.{sheet7, text7, query3, list_below, Worked}
use Rattle.semantics.proofs.SheetsBack.{sheets_read_back, texts_determine}
use Rattle.semantics.proofs.WorkedRun.{run_lawful}
use Rattle.semantics.proofs.WorkedValid.{valid7}

text_is : sheet_text sheet7 ≡ text7
unfolding digits sheet_text texts_below sheet7
text_is = refl

accessible_is : map (λ s. list_below 3 (access sheet7 0 1 s)) (0 ∷ 1 ∷ 2 ∷ []) ≡ (0 ∷ []) ∷ (2 ∷ []) ∷ (2 ∷ []) ∷ []
unfolding access sheet7
accessible_is = refl

sets_are : map (λ f. list_below 3 (line_set sheet7 f)) (0 ∷ 1 ∷ 2 ∷ 3 ∷ 4 ∷ 5 ∷ []) ≡ (2 ∷ []) ∷ (1 ∷ 2 ∷ []) ∷ (2 ∷ []) ∷ (1 ∷ 2 ∷ []) ∷ (0 ∷ 1 ∷ []) ∷ [] ∷ []
unfolding access line_sets settled rounds sheet7
sets_are = refl

rounds_are : map (line_rounds sheet7) (0 ∷ 1 ∷ 2 ∷ 3 ∷ 4 ∷ 5 ∷ []) ≡ 0 ∷ 0 ∷ 0 ∷ 1 ∷ 0 ∷ 2 ∷ []
unfolding access line_sets settled rounds sheet7
rounds_are = refl

verdicts_are : map (λ f. verdict sheet7 (line_set sheet7 f)) (0 ∷ 1 ∷ 2 ∷ 3 ∷ 4 ∷ 5 ∷ []) ≡ 0 ∷ 0 ∷ 0 ∷ 0 ∷ 1 ∷ 0 ∷ []
unfolding access line_sets settled rounds sheet7
verdicts_are = refl

query_is : query_text (reduction sheet7.lines 3) ≡ query3
unfolding digits query_text reduction sheet7
query_is = refl

pub worked : Worked
worked = record {
  valid = valid7;
  text = text_is;
  reads = λ g v e. texts_determine g sheet7 v valid7 (e ∙ sym text_is);
  read_back = ap sheet_read (sym text_is) ∙ sheets_read_back sheet7 valid7;
  accessible = accessible_is;
  sets = sets_are;
  rounds = rounds_are;
  verdicts = verdicts_are;
  query = query_is;
  run = run_lawful;
}
