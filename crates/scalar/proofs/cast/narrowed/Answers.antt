-- An Int64 below, outside of and above the gap between Int32's halves.
use Rattle.std.proofs.Common.{sym, ap}
use Rattle.scalar.specs.declared.value.Value.TheVariants.{Int64}
use Rattle.scalar.specs.Value.{value_saying}
use Rattle.scalar.proofs.CastLaws.{narrowed_cast}
use Rattle.scalar.proofs.IntegerLaws.{narrowed_low, narrowed_outside, narrowed_high}
use Rattle.scalar.proofs.cast.narrowed.Goals as goal

pub returns-then-n-lt2147483648 : goal.returns-then-n-lt2147483648
returns-then-n-lt2147483648 c = narrowed_cast c.args.n (ap (value_saying (Int64 c.args.n)) (sym (narrowed_low c.args.n c.if-n-lt2147483648.true)))

pub returns-then-n-lt18446744071562067968 : goal.returns-then-n-lt18446744071562067968
returns-then-n-lt18446744071562067968 c = narrowed_cast c.args.n (ap (value_saying (Int64 c.args.n)) (sym (narrowed_outside c.args.n c.if-n-lt2147483648.false c.if-n-lt18446744071562067968.true)))

pub returns : goal.returns
returns c = narrowed_cast c.args.n (ap (value_saying (Int64 c.args.n)) (sym (narrowed_high c.args.n c.if-n-lt18446744071562067968.false c.ranges.n.fits)))
