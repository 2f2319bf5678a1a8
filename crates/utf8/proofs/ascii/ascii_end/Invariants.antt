-- Where the ASCII ends is as far from where the loop stands as from the place it began at.
use mathlib.Core.Path.{◌≡◌}
use Prim.Native.Nat.{◌-◌}
use lib.ListN.{length}
use Rattle.utf8.specs.Ascii.{ascii_end}
use Rattle.utf8.proofs.ascii.ascii_end.Given as goal

abbrev pub invariant-loop-i : goal.invariant-loop-i
invariant-loop-i l = (ascii_end l.bytes l.i ≡ ascii_end l.bytes l.at)

abbrev pub decreases-loop-i : goal.decreases-loop-i
decreases-loop-i l = length l.bytes - l.i
