-- `write_decimal` writes as many digits as the number has.
use native.Mathlib.Omega.{arith}
use Rattle.listing.proofs.DigitLaws.{length_decimal}
use Rattle.listing.proofs.digits.write_decimal.Goals as goal

pub write_digits-requires : goal.write_digits-requires
write_digits-requires c = (omega arith, omega arith, omega (arith, c.requires, length_decimal c.args.n, c.decimal_places-k.ensures.0))
