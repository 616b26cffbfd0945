use Rattle.std.proofs.Common.{◌≡◌, ◌^◌, ◌<◌, ◌≤◌, true, length, drop}
use Rattle.semantics.specs.Numbers.{digits_from, shaped}
use Rattle.texts.proofs.number.digits.Given as goal

abbrev pub invariant-loop-b : goal.invariant-loop-b
invariant-loop-b l = (digits_from l.n (drop l.b-index l.bytes) ≡ digits_from 0 l.bytes) × (l.n < 10 ^ l.b-index) × (shaped l.bytes ≡ true) × (length l.bytes ≤ 5)
