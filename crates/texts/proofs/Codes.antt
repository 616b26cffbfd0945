-- The numbers of the refusal table are small.
use Rattle.std.proofs.Common.{◌^◌, ◌<◌, arith}
use Rattle.texts.specs.declared.refusal.Refusal.{Refusal}
use Rattle.texts.specs.declared.refusal.Refusal.TheVariants.{TextTooLong, Unfinished, NotANumber, NotDue, FieldCount, OutOfRange, OutOfOrder, EndsEarly, WrittenTooLong, NoStart, NoMove, TooManyLines, NotEarlier, NoSharedChannel, AmendmentOpen, WrongTicket, EditOutOfRange, ChannelNotHeld, MovePresent, MoveAbsent, LastMove, MovesFull, EditsFull, Blank, NoSuchLine, NoSuchState, ShortBuffer, SetTooSmall, NoEvidence, FalseThere, TrueThere}
use Rattle.texts.specs.Refusals.{code_of}

pub code_small : (r : Refusal) → code_of r < 2 ^ 64
code_small TextTooLong = omega arith
code_small Unfinished = omega arith
code_small NotANumber = omega arith
code_small NotDue = omega arith
code_small FieldCount = omega arith
code_small OutOfRange = omega arith
code_small OutOfOrder = omega arith
code_small EndsEarly = omega arith
code_small WrittenTooLong = omega arith
code_small NoStart = omega arith
code_small NoMove = omega arith
code_small TooManyLines = omega arith
code_small NotEarlier = omega arith
code_small NoSharedChannel = omega arith
code_small AmendmentOpen = omega arith
code_small WrongTicket = omega arith
code_small EditOutOfRange = omega arith
code_small ChannelNotHeld = omega arith
code_small MovePresent = omega arith
code_small MoveAbsent = omega arith
code_small LastMove = omega arith
code_small MovesFull = omega arith
code_small EditsFull = omega arith
code_small Blank = omega arith
code_small NoSuchLine = omega arith
code_small NoSuchState = omega arith
code_small ShortBuffer = omega arith
code_small SetTooSmall = omega arith
code_small NoEvidence = omega arith
code_small FalseThere = omega arith
code_small TrueThere = omega arith
