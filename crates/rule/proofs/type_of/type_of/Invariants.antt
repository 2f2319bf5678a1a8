-- `type_of` goes on to the node that a node has its type from. The loop's invariant: the node at the place has the result's type; the measure is what is left of
use mathlib.Core.Path.{◌≡◌}
use Rattle.rule.specs.Walked.{type_at}
use lib.ListN.{length}
use Prim.Native.Nat.{◌-◌}
use Rattle.rule.proofs.type_of.type_of.Given as goal

abbrev pub invariant-loop-at : goal.invariant-loop-at
invariant-loop-at l = type_at l.rule l.at ≡ type_at l.rule l.start

abbrev pub decreases-loop-at : goal.decreases-loop-at
decreases-loop-at l = length l.rule - l.at
