-- `look_up` reads the literals, makes the table of the WHENs, and gives each row the literal at its base's index.
use Rattle.std.proofs.Common.{arith}
use Rattle.case.proofs.CellLaws.{filled_as}
use Rattle.case.proofs.LookUpTrees.{looked_up, not_served}
use Rattle.case.proofs.literal_lookup_table.look_up.Goals as goal

pub returns-then-count-gt-BRANCHES_MOST : goal.returns-then-count-gt-BRANCHES_MOST
returns-then-count-gt-BRANCHES_MOST c = not_served (omega (arith, c.if-count-gt-BRANCHES_MOST.true))

pub returns : goal.returns
returns c = filled_as c.map_rows.ensures (looked_up c.args.table.now c.read.ensures.read.literals c.args.work.now c.args.to c.read.ensures.read.whens c.read.ensures.else_index)
