-- The cycle of calls that evaluates expressions and CASEs over a list of rows. The measure is sixteen times the depth that is left, and how far a
-- call is from the next node. What is to be shown at each call and at each return is a law over plain lists.
use Rattle.std.proofs.Common.{◌+◌, ◌-◌, ◌*◌}
use Rattle.case.proofs.ChooseLaws.{Chosen}
use Rattle.case.proofs.TakeLaws.{Taken}
use Rattle.case.proofs.case.+expressions.Given as goal

abbrev pub decreases-against : goal.decreases-against
decreases-against l = 16 * l.depth + 1

abbrev pub decreases-binary : goal.decreases-binary
decreases-binary l = 16 * l.depth + 2

abbrev pub decreases-branches : goal.decreases-branches
decreases-branches l = 16 * l.depth + 3

abbrev pub decreases-by_base : goal.decreases-by_base
decreases-by_base l = 16 * l.depth + 4

abbrev pub decreases-case : goal.decreases-case
decreases-case l = 16 * l.depth + 6

abbrev pub decreases-case_column_or_null : goal.decreases-case_column_or_null
decreases-case_column_or_null l = 16 * l.depth + 1

abbrev pub decreases-case_when_no_expr : goal.decreases-case_when_no_expr
decreases-case_when_no_expr l = 16 * l.depth + 5

abbrev pub decreases-case_when_with_expr : goal.decreases-case_when_with_expr
decreases-case_when_with_expr l = 16 * l.depth + 5

abbrev pub decreases-choose : goal.decreases-choose
decreases-choose l = 16 * l.depth + 2

abbrev pub decreases-expr : goal.decreases-expr
decreases-expr l = 16 * l.depth

abbrev pub decreases-expr_or_expr : goal.decreases-expr_or_expr
decreases-expr_or_expr l = 16 * l.depth + 5

abbrev pub decreases-scalar_or_scalar : goal.decreases-scalar_or_scalar
decreases-scalar_or_scalar l = 16 * l.depth + 3

abbrev pub decreases-take : goal.decreases-take
decreases-take l = 16 * l.depth + 2

abbrev pub decreases-take_else : goal.decreases-take_else
decreases-take_else l = 16 * l.depth + 1

abbrev pub decreases-then : goal.decreases-then
decreases-then l = 16 * l.depth + 1

abbrev pub decreases-turn : goal.decreases-turn
decreases-turn l = 16 * l.depth + 1

abbrev pub decreases-unary : goal.decreases-unary
decreases-unary l = 16 * l.depth + 1

abbrev pub decreases-with_lookup_table : goal.decreases-with_lookup_table
decreases-with_lookup_table l = 16 * l.depth + 1

abbrev pub invariant-choose-loop-i : goal.invariant-choose-loop-i
invariant-choose-loop-i l = Chosen l.rule l.at l.table l.t l.depth l.how l.count l.initial.work l.left l.initial.builder l.i l.place l.«open» l.builder l.work

abbrev pub decreases-choose-loop-i : goal.decreases-choose-loop-i
decreases-choose-loop-i l = l.count - l.i

abbrev pub invariant-take-loop-k : goal.invariant-take-loop-k
invariant-take-loop-k l = Taken l.rule l.at l.end l.table l.t l.depth l.count l.to l.values l.initial.work l.n l.k l.place l.work

abbrev pub decreases-take-loop-k : goal.decreases-take-loop-k
decreases-take-loop-k l = l.els - l.k
