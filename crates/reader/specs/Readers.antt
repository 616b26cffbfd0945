-- What the fields of each kind of line say.
use Rattle.std.specs.Prelude.{ℕ, zero, suc, ◌+◌, ◌^◌, ◌<◌, ◌≤◌, Bool, true, cond, ◌&&◌, ◌||◌, List, replicate, Some, None, Ok, Err, Option, Result, ◌==◌, nat_lt, slice_set}
use Rattle.texts.specs.declared.refusal.Fault.{Fault}
use Rattle.texts.specs.declared.refusal.Refusal.TheVariants.{FieldCount, OutOfOrder}
use Rattle.texts.specs.Cuts.{before, after}
use Rattle.texts.specs.Fields.{fault_at, field_of}
use Rattle.texts.specs.Lines.{at}
use Rattle.sheets.specs.declared.holders.Holders.{Holders}
use Rattle.sheets.specs.declared.parts.Header.{Header}
use Rattle.sheets.specs.declared.parts.Local.{Local}
use Rattle.reader.specs.declared.readers.Pair.{Pair}
use Rattle.sheets.specs.declared.parts.State.{State}
use Rattle.sheets.specs.Holding.{held, held_count}

-- a step that may fail, then the rest
abbrev pub and_then : {A B E : Type 0} → Result A E → (A → Result B E) → Result B E
and_then (Ok a) k = k a
and_then (Err e) k = Err e

-- line n has c fields, and must have m
abbrev pub counted : {B : Type 0} → ℕ → ℕ → ℕ → Result B Fault → Result B Fault
counted n c m k = cond (c == m) k (Err (fault_at FieldCount (at n 0)))

-- the next field, number f of line n, is a number from low on and below limit; the rest goes on behind it
abbrev pub numbered : {B : Type 0} → ℕ → ℕ → ℕ → ℕ → List ℕ → (ℕ → List ℕ → Result B Fault) → Result B Fault
numbered n f low limit bs k = and_then (field_of low limit (at n f) (before 44 bs)) (λ x. k x (after 44 bs))

-- the limits of a sheet
pub record Bounded (h : Header) : Type 0 where
  pub some_number : 1 ≤ h.number
  pub small_number : h.number ≤ 9999
  pub two_parties : 2 ≤ h.parties
  pub few_parties : h.parties ≤ 6
  pub few_channels : h.channels ≤ 8
  pub few_states : h.states ≤ 128
  pub some_states : 0 < h.states
  pub few_marks : h.marks ≤ 16

abbrev pub header_of : ℕ → ℕ → List ℕ → Result Header Fault
header_of n c bs =
    counted n c 6 (
    numbered n 2 1 10000 bs (λ sheet bs₂.
    numbered n 3 2 7 bs₂ (λ parties bs₃.
    numbered n 4 0 9 bs₃ (λ channels bs₄.
    numbered n 5 1 129 bs₄ (λ states bs₅.
    numbered n 6 0 17 bs₅ (λ marks _.
    Ok (record { number = sheet; parties = parties; channels = channels; states = states; marks = marks })))))))

-- first by the first number, then by the second
abbrev pub above : Option Pair → Pair → Bool
above None p = true
above (Some q) p = nat_lt q.first p.first || (q.first == p.first && nat_lt q.second p.second)

abbrev pub pair_of : ℕ → ℕ → List ℕ → ℕ → ℕ → Option Pair → Result Pair Fault
pair_of n c bs limit₁ limit₂ last =
    counted n c 3 (
    numbered n 2 0 limit₁ bs (λ a bs₂.
    numbered n 3 0 limit₂ bs₂ (λ b _.
    let p : Pair = record { first = a; second = b } in
    cond (above last p) (Ok p) (Err (fault_at OutOfOrder (at n 2))))))

-- a state as its S line gives it
abbrev pub plain_state : ℕ → ℕ → State
plain_state start marks = record { start = (start == 1); marks = marks; locals = replicate 6 (record { position = 0; copies = replicate 8 0 }); successors = record { bits = 0 } }

abbrev pub state_of : ℕ → ℕ → List ℕ → Header → ℕ → Result State Fault
state_of n c bs h due =
    counted n c 4 (
    numbered n 2 0 h.states bs (λ s bs₂.
    numbered n 3 0 2 bs₂ (λ start bs₃.
    numbered n 4 0 (2 ^ h.marks) bs₃ (λ marks _.
    cond (s == due) (Ok (plain_state start marks)) (Err (fault_at OutOfOrder (at n 2)))))))

-- the copies of the k channels from number c on, of those that p holds, from field f on
unfoldable pub copies_from : ℕ → Holders → ℕ → ℕ → ℕ → ℕ → List ℕ → List ℕ → Result (List ℕ) Fault
copies_from n who p zero c f copies bs = Ok copies
copies_from n who p (suc k) c f copies bs =
    cond (held who c p)
    (numbered n f 0 1000 bs (λ x bs'. copies_from n who p k (c + 1) (f + 1) (slice_set copies c x) bs'))
    (copies_from n who p k (c + 1) f copies bs)

-- counted for the party due, whatever party the line names
abbrev pub local_of : ℕ → ℕ → List ℕ → Header → Holders → ℕ → ℕ → Result Local Fault
local_of n c bs h who dueState dueParty =
    counted n c (4 + held_count 8 who dueParty) (
    numbered n 2 0 h.states bs (λ s bs₂.
    numbered n 3 0 h.parties bs₂ (λ p bs₃.
    numbered n 4 0 1000 bs₃ (λ position bs₄.
    and_then (copies_from n who dueParty 8 0 5 (replicate 8 0) bs₄) (λ copies.
    cond (s == dueState && p == dueParty) (Ok (record { position = position; copies = copies })) (Err (fault_at OutOfOrder (at n 2))))))))
