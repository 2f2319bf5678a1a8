use native.Mathlib.Omega.{arith}
use Rattle.listing.proofs.DigitLaws.{places_start, places_next, places_end}
use Rattle.listing.proofs.digits.decimal_places.Goals as goal

pub loop-rest-init : goal.loop-rest-init
loop-rest-init c = places_start c.args.n (omega arith)

pub loop-rest-preserved : goal.loop-rest-preserved
loop-rest-preserved c = places_next c.loop-rest.invariant c.loop-rest-test.true

pub returns : goal.returns
returns c = places_end c.loop-rest.invariant c.loop-rest-test.false
