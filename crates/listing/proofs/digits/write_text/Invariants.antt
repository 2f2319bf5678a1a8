-- `write_text` writes two digits for each byte. The loop's invariant: so far they are there.
use Rattle.listing.proofs.DigitLaws.{HexSoFar}
use Rattle.listing.proofs.digits.write_text.Given as goal

abbrev pub invariant-loop-byte : goal.invariant-loop-byte
invariant-loop-byte l = HexSoFar l.initial.out l.at l.text l.byte-index l.p l.out
