use native.Mathlib.Omega.{arith}
use Rattle.listing.proofs.DigitLaws.{hex_none, hex_room, hex_next}
use Rattle.listing.proofs.digits.write_text.Goals as goal

pub loop-byte-init : goal.loop-byte-init
loop-byte-init c = hex_none c.requires

pub write_digits-p-requires : goal.write_digits-p-requires
write_digits-p-requires c = (omega arith, omega arith, hex_room c.loop-byte.invariant c.requires c.loop-byte-test.true)

pub loop-byte-preserved : goal.loop-byte-preserved
loop-byte-preserved c = hex_next c.loop-byte.invariant c.loop-byte-test.true c.from.ensures c.write_digits-p.ensures
