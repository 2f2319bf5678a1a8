-- A mark is 0 or 1, else 11.
use mathlib.Core.Path.{ap, sym}
use Rattle.layout.specs.Result.{answered}
use Rattle.table.proofs.ColumnLaws.{mark_above, mark_below}
use Rattle.table.proofs.column.marked.Goals as goal

pub returns-then-mark-gt1 : goal.returns-then-mark-gt1
returns-then-mark-gt1 c = sym (ap (answered (λ b. b)) (mark_above c.args.mark c.if-mark-gt1.true))

pub returns : goal.returns
returns c = sym (ap (answered (λ b. b)) (mark_below c.args.mark c.if-mark-gt1.false))
