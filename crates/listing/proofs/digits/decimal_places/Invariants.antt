-- `decimal_places` counts the digits. The loop's invariant: those counted and those of what is left are all, one of them twice.
use Rattle.listing.proofs.DigitLaws.{PlacesSoFar}
use Rattle.listing.proofs.digits.decimal_places.Given as goal

abbrev pub invariant-loop-rest : goal.invariant-loop-rest
invariant-loop-rest l = PlacesSoFar l.n l.k l.rest

abbrev pub decreases-loop-rest : goal.decreases-loop-rest
decreases-loop-rest l = l.rest
