-- `same_long` goes four bytes at a time. The loop's invariant: from `left` on the texts are one.
use Rattle.std.proofs.Common.{◌≡◌, ◌≤◌, length, drop}
use Rattle.case.proofs.bytes_like_lookup_table.same_long.Given as goal

abbrev pub invariant-loop-left : goal.invariant-loop-left
invariant-loop-left l = (l.left ≤ length l.text) × (drop l.left l.text ≡ drop l.left l.there)

abbrev pub decreases-loop-left : goal.decreases-loop-left
decreases-loop-left l = l.left
