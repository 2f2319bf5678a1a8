-- The wider bits, without the sign and with it.
use Rattle.std.proofs.Common.{sym}
use Rattle.scalar.proofs.IntegerLaws.{widened_low, widened_high}
use Rattle.scalar.proofs.cast.widened.Goals as goal

pub returns-then-n-lt2147483648 : goal.returns-then-n-lt2147483648
returns-then-n-lt2147483648 c = sym (widened_low c.args.n c.if-n-lt2147483648.true)

pub returns-else-n-lt2147483648 : goal.returns-else-n-lt2147483648
returns-else-n-lt2147483648 c = sym (widened_high c.args.n c.if-n-lt2147483648.false c.ranges.n.fits)
