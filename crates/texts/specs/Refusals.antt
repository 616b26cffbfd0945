-- The refusal table: the number of each refusal.
use Rattle.std.specs.Prelude.{ℕ, List, [], ◌∷◌}
use Rattle.semantics.specs.Written.{line_text}
use Rattle.texts.specs.declared.refusal.Fault.{Fault}
use Rattle.texts.specs.declared.refusal.Refusal.{Refusal}
use Rattle.texts.specs.declared.refusal.Refusal.TheVariants.{TextTooLong, Unfinished, NotANumber, NotDue, FieldCount, OutOfRange, OutOfOrder, EndsEarly, WrittenTooLong, NoStart, NoMove, TooManyLines, NotEarlier, NoSharedChannel, AmendmentOpen, WrongTicket, EditOutOfRange, ChannelNotHeld, MovePresent, MoveAbsent, LastMove, MovesFull, EditsFull, Blank, NoSuchLine, NoSuchState, ShortBuffer, SetTooSmall, NoEvidence, FalseThere, TrueThere}

abbrev pub code_of : Refusal → ℕ
code_of TextTooLong = 1
code_of Unfinished = 2
code_of NotANumber = 3
code_of NotDue = 4
code_of FieldCount = 5
code_of OutOfRange = 10
code_of OutOfOrder = 11
code_of EndsEarly = 12
code_of WrittenTooLong = 13
code_of NoStart = 14
code_of NoMove = 15
code_of TooManyLines = 16
code_of NotEarlier = 17
code_of NoSharedChannel = 18
code_of AmendmentOpen = 20
code_of WrongTicket = 21
code_of EditOutOfRange = 22
code_of ChannelNotHeld = 23
code_of MovePresent = 24
code_of MoveAbsent = 25
code_of LastMove = 26
code_of MovesFull = 27
code_of EditsFull = 28
code_of Blank = 29
code_of NoSuchLine = 30
code_of NoSuchState = 31
code_of ShortBuffer = 32
code_of SetTooSmall = 33
code_of NoEvidence = 34
code_of FalseThere = 35
code_of TrueThere = 36

-- a fault as a line: its number, line and field
abbrev pub fault_text : Fault → List ℕ
fault_text f = line_text 69 (code_of f.refusal ∷ f.place.line ∷ f.place.field ∷ [])
