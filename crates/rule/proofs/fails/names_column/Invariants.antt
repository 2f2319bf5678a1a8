-- `names_column` goes from field to field. The loop's invariant: trees that name the same columns stand at the place; the measure is what is left of the node.
use Prim.Native.Nat.{◌-◌}
use Rattle.rule.proofs.FailsLaws.{ColumnsLeft}
use Rattle.rule.proofs.fails.names_column.Given as goal

abbrev pub invariant-loop-at : goal.invariant-loop-at
invariant-loop-at l = ColumnsLeft l.rule l.start l.end l.at

abbrev pub decreases-loop-at : goal.decreases-loop-at
decreases-loop-at l = l.end - l.at
