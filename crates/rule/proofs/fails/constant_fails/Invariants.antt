-- `constant_fails` goes from field to field. The loop's invariant: trees that hold a constant cast that fails, if the rule does, stand at the place; the
use Rattle.rule.proofs.FailsLaws.{FailsLeft}
use Prim.Native.Nat.{◌-◌}
use lib.ListN.{length}
use Rattle.rule.proofs.fails.constant_fails.Given as goal

abbrev pub invariant-loop-at : goal.invariant-loop-at
invariant-loop-at l = FailsLeft l.rule l.at

abbrev pub decreases-loop-at : goal.decreases-loop-at
decreases-loop-at l = length l.rule - l.at
