-- The text of a valid sheet in a buffer, with room for it or without.
use Rattle.std.proofs.Common.{◌≡◌, ℕ, ◌≤◌, Bool, true, false, cond, eqb, ltb, List, ◌++◌, length, take, drop, Ok, Err, Result, refl, sym, ap, ◌∙◌, subst, inl, inr, arith}
use Rattle.std.proofs.lemmas.List.{take-append-le, take_all}
use Rattle.std.proofs.lemmas.Bool.{cases_Bool, cases_lt, cond-true, cond-false, le-ltb, lt-ltb}
use Rattle.std.specs.Result.{IfOk}
use Rattle.semantics.specs.SheetReading.{sheet_read}
use Rattle.semantics.specs.Sheets as semantics
use Rattle.semantics.specs.SheetText.{sheet_text}
use Rattle.semantics.specs.Validity.{Valid}
use Rattle.semantics.proofs.OnlySheets.{only_sheets_read}
use Rattle.semantics.proofs.SheetSizes.{texts_short}
use Rattle.semantics.proofs.SheetsBack.{sheets_read_back}
use Rattle.sheets.specs.declared.sheet.Sheet.{Sheet}
use Rattle.sheets.specs.Fits.{Fits}
use Rattle.sheets.specs.Model.{model_of}
use Rattle.sheets.specs.Sheets.{states_of}
use Rattle.sheets.proofs.Validity.{model_valid}
use Rattle.texts.specs.declared.refusal.Refusal.{Refusal}
use Rattle.texts.specs.declared.refusal.Refusal.TheVariants.{Blank}
use Rattle.texts.specs.Written.{fitted, placed}
use Rattle.writer.specs.Writing.{text_of, write_result, write_buffer, sheet_answer, sheet_written, ReadsBack}
use Rattle.writer.proofs.SameText.{same_text}

module _ (h : semantics.Sheet) (v : Valid h) (some : false ≡ eqb h.states 0) (old : List ℕ) (room : length (sheet_text h) ≤ length old) where
  fits : ltb (length old) (length (sheet_text h)) ≡ false
  fits = le-ltb (length old) (length (sheet_text h)) room

  pub length_answered : Ok (length (sheet_text h)) ≡ sheet_answer h old
  length_answered = sym (cond-false _ _ _ (sym some) ∙ cond-false _ _ _ fits)

  pub text_placed : sheet_text h ++ drop (length (sheet_text h)) old ≡ sheet_written h old
  text_placed = sym (cond-false _ _ _ (sym some) ∙ cond-false _ _ _ fits)

  pub text_back : (n : ℕ) (new : List ℕ) → n ≡ length (sheet_text h) → new ≡ sheet_written h old → ReadsBack h new n
  text_back n new e f t =
      let m = length (sheet_text h) in
      let front : take n new ≡ sheet_text h =
      (λ i. take (e i) ((f ∙ sym text_placed) i)) ∙ take-append-le m (sheet_text h) (drop m old) (omega arith) ∙ take_all m (sheet_text h) (omega arith) in
      (λ read. (only_sheets_read t h read).1 ∙ sym front, λ same. ap sheet_read (same ∙ front) ∙ sheets_read_back h v)

cond_same : {X : Type 0} (b : Bool) (x y z : X) → (b ≡ false → y ≡ z) → cond b x y ≡ cond b x z
cond_same true x y z f = refl
cond_same false x y z f = f refl

-- what `write` answers and leaves, behind the test of a blank sheet
module _ (s : Sheet) (old : List ℕ) where
  abbrev empty : Bool
  empty = eqb (length (states_of s)) 0

  pub blank_same : empty ≡ eqb (model_of s).states 0
  unfolding model_of
  blank_same = refl

  pub blank_answer : empty ≡ true → Err Blank ≡ sheet_answer (model_of s) old
  blank_answer on = sym (cond-true _ _ _ (sym blank_same ∙ on))

  pub blank_written : empty ≡ true → old ≡ sheet_written (model_of s) old
  blank_written on = sym (cond-true _ _ _ (sym blank_same ∙ on))

  module _ (f : Fits s) where
    -- such a text is never too long
    pub text_few : empty ≡ false → length (text_of s) ≤ 65536
    text_few off = omega (arith, ap length (same_text s f), texts_short (model_of s) (model_valid s f (sym off ∙ blank_same)))

    pub result_same : empty ≡ false → write_result (text_of s) old ≡ fitted (length (sheet_text (model_of s))) (length old)
    result_same off =
        cond-false _ _ _ (le-ltb 65536 (length (text_of s)) (text_few off))
        ∙ ap (λ (t : List ℕ). fitted (length t) (length old)) (same_text s f)

    pub buffer_same : empty ≡ false → write_buffer (text_of s) old ≡ placed (sheet_text (model_of s)) old
    buffer_same off =
        cond-false _ _ _ (le-ltb 65536 (length (text_of s)) (text_few off))
        ∙ ap (λ t. placed t old) (same_text s f)

    pub answer_same : cond empty (Err Blank) (write_result (text_of s) old) ≡ sheet_answer (model_of s) old
    answer_same =
        cond_same empty (Err Blank) (write_result (text_of s) old) (fitted (length (sheet_text (model_of s))) (length old)) result_same
        ∙ ap (λ b. cond b (Err Blank) (fitted (length (sheet_text (model_of s))) (length old))) blank_same

    pub written_same : cond empty old (write_buffer (text_of s) old) ≡ sheet_written (model_of s) old
    written_same =
        cond_same empty old (write_buffer (text_of s) old) (placed (sheet_text (model_of s)) old) buffer_same
        ∙ ap (λ b. cond b old (placed (sheet_text (model_of s)) old)) blank_same

    pub some_answer : empty ≡ false → write_result (text_of s) old ≡ sheet_answer (model_of s) old
    some_answer off = sym (cond-false empty _ _ off) ∙ answer_same

    pub some_written : empty ≡ false → write_buffer (text_of s) old ≡ sheet_written (model_of s) old
    some_written off = sym (cond-false empty _ _ off) ∙ written_same

    -- where it answers a length, that many bytes read back
    pub written_back : (r : Result ℕ Refusal) (new : List ℕ) → r ≡ sheet_answer (model_of s) old → new ≡ sheet_written (model_of s) old → IfOk r (ReadsBack (model_of s) new)
    written_back r new e g =
        let h = model_of s in
        subst (λ x. IfOk x (ReadsBack (model_of s) new)) (sym e) (elim (cases_Bool empty) [
          | inl on ↦ subst (λ x. IfOk x (ReadsBack (model_of s) new)) (blank_answer on) tt
          | inr off ↦ elim (cases_lt (length old) (length (sheet_text h))) [
            | inl less ↦ subst (λ x. IfOk x (ReadsBack (model_of s) new))
                (sym (cond-false _ _ _ (sym blank_same ∙ off) ∙ cond-true _ _ _ (lt-ltb (length old) (length (sheet_text h)) less))) tt
            | inr room ↦
                let some : false ≡ eqb h.states 0 = sym off ∙ blank_same in
                let v = model_valid s f some in
                subst (λ x. IfOk x (ReadsBack (model_of s) new)) (length_answered h v some old room) (text_back h v some old room (length (sheet_text h)) new refl g)
          ]
        ])
