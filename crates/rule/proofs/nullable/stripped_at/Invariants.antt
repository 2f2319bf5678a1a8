-- `stripped_at` goes from child to child. The loop's invariant: a tree that is stripped to the same stands at the place; the measure is what is left of the rule.
use Rattle.rule.proofs.NullableLaws.{StrippedLeft}
use Prim.Native.Nat.{◌-◌}
use lib.ListN.{length}
use Rattle.rule.proofs.nullable.stripped_at.Given as goal

abbrev pub invariant-loop-at : goal.invariant-loop-at
invariant-loop-at l = StrippedLeft l.rule l.start l.at

abbrev pub decreases-loop-at : goal.decreases-loop-at
decreases-loop-at l = length l.rule - l.at
