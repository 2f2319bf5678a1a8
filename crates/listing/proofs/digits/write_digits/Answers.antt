use native.Mathlib.Omega.{arith}
use Rattle.listing.proofs.DigitLaws.{digits_none, digits_more, digits_all}
use Rattle.listing.proofs.digits.write_digits.Goals as goal

pub loop-i-init : goal.loop-i-init
loop-i-init c = digits_none c.requires.2

pub loop-i-preserved : goal.loop-i-preserved
loop-i-preserved c = digits_more _ c.digit.result c.loop-i.invariant (omega arith) c.digit.ensures

pub returns : goal.returns
returns c = digits_all c.loop-i.invariant (omega arith)
