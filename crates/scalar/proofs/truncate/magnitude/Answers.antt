-- `magnitude` by the exponent: below 1, shifted down, shifted up, too large.
use Rattle.std.proofs.Common.{◌∙◌}
use Rattle.scalar.proofs.WholeLaws.{small, down, up, large}
use Rattle.scalar.proofs.truncate.magnitude.Goals as goal

pub returns-then-exponent-lt1023 : goal.returns-then-exponent-lt1023
returns-then-exponent-lt1023 c = small c.args.bits c.if-exponent-lt1023.true

pub returns-then-exponent-lt1075 : goal.returns-then-exponent-lt1075
returns-then-exponent-lt1075 c = c.without_fraction.ensures ∙ down c.args.bits c.if-exponent-lt1023.false c.if-exponent-lt1075.true

pub returns-then-exponent-lt1087 : goal.returns-then-exponent-lt1087
returns-then-exponent-lt1087 c = up c.args.bits c.if-exponent-lt1075.false c.if-exponent-lt1087.true

pub returns : goal.returns
returns c = large c.args.bits c.if-exponent-lt1087.false
