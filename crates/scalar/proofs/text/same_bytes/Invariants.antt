-- `same_bytes` says whether two texts are the same. The loop's invariant: from `i` on they are. Assumes nothing.
use Rattle.std.proofs.Common.{◌≡◌, true, drop}
use Rattle.scalar.specs.Text.{same_bytes}
use Rattle.scalar.proofs.text.same_bytes.Given as goal

abbrev pub invariant-loop-i : goal.invariant-loop-i
invariant-loop-i l = (same_bytes (drop l.i l.a) (drop l.i l.b) ≡ true)
