-- The cycle of calls that works out a node without reading a column. The measure is eight times the depth that is left, and how far a call is
-- from the next node. The loop's invariant: the branches that are left stand at the place and give what all give.
use Rattle.rule.proofs.ConstantCase.{BranchesLeft}
use Prim.Native.Nat.{◌+◌, ◌-◌, ◌*◌}
use Rattle.rule.proofs.constant.+constant.Given as goal

abbrev pub decreases-constant : goal.decreases-constant
decreases-constant l = 8 * l.depth

abbrev pub decreases-constant_base : goal.decreases-constant_base
decreases-constant_base l = 8 * l.depth + 1

abbrev pub decreases-constant_branches : goal.decreases-constant_branches
decreases-constant_branches l = 8 * l.depth + 2

abbrev pub invariant-constant_branches-loop : goal.invariant-constant_branches-loop
invariant-constant_branches-loop l = BranchesLeft l.masked.rule.now l.branches.at l.branches.end l.branches.count l.base l.branches.to l.masked.target.now l.depth l.place (l.branches.count - l.counter)

abbrev pub decreases-constant_case : goal.decreases-constant_case
decreases-constant_case l = 8 * l.depth + 4

abbrev pub decreases-constant_else : goal.decreases-constant_else
decreases-constant_else l = 8 * l.depth + 1

abbrev pub decreases-constant_node : goal.decreases-constant_node
decreases-constant_node l = 8 * l.depth + 5

abbrev pub decreases-constant_with : goal.decreases-constant_with
decreases-constant_with l = 8 * l.depth + 3
