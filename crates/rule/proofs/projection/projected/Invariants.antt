-- The loop's invariant: the columns below `i` stand at the front.
use Rattle.rule.proofs.ProjectionLaws.{Projecting}
use Rattle.rule.proofs.projection.projected.Given as goal

abbrev pub invariant-loop-i : goal.invariant-loop-i
invariant-loop-i l = Projecting l.seen.marks l.i l.count l.columns
