-- This crate's lines, fields and checks are those of the semantics.
use Rattle.std.proofs.Common.{◌≡◌, ℕ, ◌+◌, Bool, true, false, cond, ◌&&◌, ltb, leb, length, Some, None, Ok, Err, Option, refl, ap, ◌∙◌}
use Rattle.std.specs.Option.{ok_or}
use Rattle.semantics.specs.Cuts.{count_of}
use Rattle.semantics.specs.Faults as told
use Rattle.semantics.specs.LineReading.{number_at, finished}
use Rattle.semantics.specs.Numbers.{number_of}
use Rattle.texts.specs.declared.refusal.Refusal.TheVariants.{TextTooLong, Unfinished, NotANumber, OutOfRange}
use Rattle.texts.specs.Agreement.{answered, TextsAgree}
use Rattle.texts.specs.Fields.{fault_at, ranged}
use Rattle.texts.specs.Lines.{at}
use Rattle.texts.proofs.Decimals.{number_same}
use Rattle.texts.proofs.Cutting.{lines_cut, first_field, more_fields, field_count, leads_field}

field_agrees : (low limit n f : ℕ) (o : Option ℕ) →
    answered (ranged low limit (at n f) (ok_or o NotANumber)) ≡ told.and_then (number_at n f o) (λ x. cond (leb low x && ltb x limit) (Ok x) (told.refused_at 10 n f))
field_agrees low limit n f None = refl
field_agrees low limit n f (Some x) = go (leb low x && ltb x limit)
  where
    go : (b : Bool) → answered (cond b (Ok x) (Err (fault_at OutOfRange (at n f)))) ≡ cond b (Ok x) (told.refused_at 10 n f)
    go true = refl
    go false = refl

whole_agrees : {A : Type 0} (long done : Bool) (a : A) (line : ℕ) →
    answered (cond long (Err (fault_at TextTooLong (at 0 0))) (cond done (Ok a) (Err (fault_at Unfinished (at line 0)))))
    ≡ cond long (told.refused_at 1 0 0) (cond done (Ok a) (told.refused_at 2 line 0))
whole_agrees true done a line = refl
whole_agrees false true a line = refl
whole_agrees false false a line = refl

pub texts_agree : TextsAgree
texts_agree = record {
  lines = lines_cut;
  first_field = first_field;
  more_fields = more_fields;
  field_count = field_count;
  letter = leads_field;
  field = λ low limit n f bs. ap (λ r. answered (ranged low limit (at n f) r)) (number_same bs) ∙ field_agrees low limit n f (number_of bs);
  whole = λ limit t. whole_agrees (ltb limit (length t)) (finished t) tt (count_of 10 t + 1);
}
