-- Each step of the reading gives what its definition does; the depth left falls, or the step's place in the field, or the branches left.
use Prim.Native.Nat.{◌+◌, ◌*◌}
use Rattle.rule.proofs.read.+read.Given as goal

abbrev pub decreases-read_binary : goal.decreases-read_binary
decreases-read_binary l = 1000 * l.left.depth + 500

abbrev pub decreases-read_branches : goal.decreases-read_branches
decreases-read_branches l = 1000 * l.left.depth + (10 + 2 * l.count)

abbrev pub decreases-read_case : goal.decreases-read_case
decreases-read_case l = 1000 * l.left.depth + 500

abbrev pub decreases-read_cast : goal.decreases-read_cast
decreases-read_cast l = 1000 * l.left.depth + 500

abbrev pub decreases-read_field : goal.decreases-read_field
decreases-read_field l = 1000 * l.left.depth

abbrev pub decreases-read_kind : goal.decreases-read_kind
decreases-read_kind l = 1000 * l.left.depth + 600

abbrev pub decreases-read_optional : goal.decreases-read_optional
decreases-read_optional l = 1000 * l.left.depth + 1

abbrev pub decreases-read_parts : goal.decreases-read_parts
decreases-read_parts l = 1000 * l.left.depth + (20 + 2 * l.count)

abbrev pub decreases-read_then : goal.decreases-read_then
decreases-read_then l = 1000 * l.left.depth + (11 + 2 * l.count)

abbrev pub decreases-read_unary : goal.decreases-read_unary
decreases-read_unary l = 1000 * l.left.depth + 500
