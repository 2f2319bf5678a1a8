-- `write_digits` stores the digits, the last first. The loop's invariant: those behind the first i are there.
use Rattle.listing.proofs.DigitLaws.{DigitsSoFar}
use Rattle.listing.proofs.digits.write_digits.Given as goal

abbrev pub invariant-loop-i : goal.invariant-loop-i
invariant-loop-i l = DigitsSoFar l.initial.out l.base l.k l.n l.at l.i l.rest l.out
