-- Lines, fields and checks of this crate are those by which the semantics reads a text.
use Rattle.std.specs.Prelude.{◌≡◌, ℕ, suc, ◌+◌, ◌<◌, cond, ◌&&◌, List, [], ◌∷◌, length, Ok, Err, Result, ◌≢◌, nat_le, nat_lt, slice_index_or}
use Rattle.semantics.specs.Cuts.{lines_of, fields_of, count_of}
use Rattle.semantics.specs.Faults as told
use Rattle.semantics.specs.LineReading.{is_byte, number_at, finished}
use Rattle.semantics.specs.Numbers.{number_of}
use Rattle.texts.specs.declared.refusal.Fault.{Fault}
use Rattle.texts.specs.Cuts.{before, after}
use Rattle.texts.specs.Fields.{field_of}
use Rattle.texts.specs.Lines.{at, leads}
use Rattle.texts.specs.Refusals.{code_of}
use Rattle.texts.specs.Texts.{whole_of}

-- a fault as the number of its refusal, its line and its field
abbrev pub fault_of : Fault → told.Fault
fault_of f = record { why = code_of f.refusal; line = f.place.line; field = f.place.field }

-- an answer with its fault so
abbrev pub answered : {A : Type 0} → Result A Fault → Result A told.Fault
answered (Ok a) = Ok a
answered (Err f) = Err (fault_of f)

pub record TextsAgree : Type 0 where
  -- what stands before the first line end is the first line, and the others stand behind it
  pub lines : (t : List ℕ) → 0 < length t → lines_of t ≡ before 10 t ∷ lines_of (after 10 t)
  -- what stands before the first comma is the first field, and the others stand behind it
  pub first_field : (bs : List ℕ) → slice_index_or (fields_of bs) 0 [] ≡ before 44 bs
  pub more_fields : (bs : List ℕ) (i : ℕ) → slice_index_or (fields_of bs) (suc i) [] ≡ slice_index_or (fields_of (after 44 bs)) i []
  -- there is one field more than commas
  pub field_count : (bs : List ℕ) → length (fields_of bs) ≡ count_of 44 bs + 1
  -- a line of a letter has it as its first field
  pub letter : (b : ℕ) (bs : List ℕ) → (b ≢ 44) → leads b bs ≡ is_byte b (slice_index_or (fields_of bs) 0 [])
  -- a field is a number, 3, and in its range, 10
  pub field : (low limit n f : ℕ) (bs : List ℕ) →
      answered (field_of low limit (at n f) bs) ≡ told.and_then (number_at n f (number_of bs)) (λ x. cond (nat_le low x && nat_lt x limit) (Ok x) (told.refused_at 10 n f))
  -- a text is short enough, 1, and finished, 2
  pub whole : (limit : ℕ) (t : List ℕ) →
      answered (whole_of limit t) ≡ cond (nat_lt limit (length t)) (told.refused_at 1 0 0) (cond (finished t) (Ok tt) (told.refused_at 2 (count_of 10 t + 1) 0))
