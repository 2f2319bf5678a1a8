-- The cycle of calls that tells whether a node is nullable. The measure is eight times the depth that is left, and how far a call is from the
-- next node. The loops' invariants: the trees, or the branches, that are left stand at the place, and one of them is nullable if one of all is.
use Rattle.rule.proofs.NullableLaws.{AnyLeft, NullableLeft}
use Prim.Native.Nat.{◌+◌, ◌-◌, ◌*◌}
use Rattle.rule.proofs.nullable.+nullable.Given as goal

abbrev pub decreases-nullable_any : goal.decreases-nullable_any
decreases-nullable_any l = 8 * l.depth + 1

abbrev pub invariant-nullable_any-loop-at : goal.invariant-nullable_any-loop-at
invariant-nullable_any-loop-at l = AnyLeft l.rule l.start l.end l.depth l.at

abbrev pub decreases-nullable_any-loop-at : goal.decreases-nullable_any-loop-at
decreases-nullable_any-loop-at l = l.end - l.at

abbrev pub decreases-nullable_branch : goal.decreases-nullable_branch
decreases-nullable_branch l = 8 * l.depth + 1

abbrev pub decreases-nullable_branches : goal.decreases-nullable_branches
decreases-nullable_branches l = 8 * l.depth + 2

abbrev pub invariant-nullable_branches-loop : goal.invariant-nullable_branches-loop
invariant-nullable_branches-loop l = NullableLeft l.rule l.at l.end l.count l.base l.depth l.place (l.count - l.counter)

abbrev pub decreases-nullable_case : goal.decreases-nullable_case
decreases-nullable_case l = 8 * l.depth + 3

abbrev pub decreases-nullable_node : goal.decreases-nullable_node
decreases-nullable_node l = 8 * l.depth
