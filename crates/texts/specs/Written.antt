-- What a writer leaves in its buffer.
use Rattle.std.specs.Prelude.{◌≡◌, ℕ, ◌+◌, ◌-◌, ◌^◌, min, cond, List, [], ◌∷◌, ◌++◌, length, drop, Ok, Err, Result, nat_lt, slice_set}
use Rattle.texts.specs.declared.refusal.Refusal.{Refusal}
use Rattle.texts.specs.declared.refusal.Refusal.TheVariants.{ShortBuffer}
use Rattle.texts.specs.declared.writer.Writer.{Writer}
pub use Rattle.semantics.specs.Written.{fields_text, line_text}
unfoldable pub use Rattle.semantics.specs.Written.{texts_below}

-- n bytes more, counted up to the largest number that fits 64 bits
abbrev pub onward : ℕ → ℕ → ℕ
onward p n = min (p + n) (2 ^ 64 - 1)

-- text written over old from a place on, as far as old goes
abbrev pub over : List ℕ → ℕ → List ℕ → List ℕ
over old p [] = old
over old p (b ∷ bs) = over (slice_set old p b) (onward p 1) bs

-- the writer w was given text, which made it v
pub record Gave (w : Writer) (text : List ℕ) (v : Writer) : Type 0 where
  pub bytes : v.buffer.now ≡ over w.buffer.now w.length text
  pub counted : v.length ≡ onward w.length (length text)
  pub lent : v.buffer.ghost_name ≡ w.buffer.ghost_name

-- a text of n bytes goes into a buffer that has room for it
abbrev pub fitted : ℕ → ℕ → Result ℕ Refusal
fitted n room = cond (nat_lt room n) (Err ShortBuffer) (Ok n)

-- it stands from the front, and later bytes stay
abbrev pub placed : List ℕ → List ℕ → List ℕ
placed text old = cond (nat_lt (length old) (length text)) old (text ++ drop (length text) old)
