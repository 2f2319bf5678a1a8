-- `write_shown`, arm by arm.
use native.Mathlib.Omega.{arith}
use Rattle.listing.proofs.ShownLaws.{room_at, digits_room}
use Rattle.listing.proofs.entry.write_shown.Goals as goal

pub write_digits-requires : goal.write_digits-requires
write_digits-requires c = (omega arith, omega arith, digits_room _ _ _ (room_at c.args.bytes.now c.in-Bits.is _ _ c.requires))
