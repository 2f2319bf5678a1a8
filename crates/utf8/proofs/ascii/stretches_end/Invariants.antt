-- Where the stretches end is as far from where the loop stands as from the place it began at.
use mathlib.Core.Path.{◌≡◌}
use Prim.Native.Nat.{◌-◌}
use lib.ListN.{length}
use Rattle.utf8.specs.Ascii.{stretches_end}
use Rattle.utf8.proofs.ascii.stretches_end.Given as goal

abbrev pub invariant-loop-i : goal.invariant-loop-i
invariant-loop-i l = (stretches_end l.bytes l.i ≡ stretches_end l.bytes l.at)

abbrev pub decreases-loop-i : goal.decreases-loop-i
decreases-loop-i l = length l.bytes - l.i
