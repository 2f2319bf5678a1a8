-- `new` gives an empty builder, or 10.
use Rattle.builder.proofs.BuilderLaws.{new_refused, new_given}
use Rattle.builder.proofs.ResultBuilder.new.Goals as goal

pub returns-then-rows-gt-ROWS_MOST : goal.returns-then-rows-gt-ROWS_MOST
returns-then-rows-gt-ROWS_MOST c = new_refused c.args.rows c.if-rows-gt-ROWS_MOST.true

pub returns : goal.returns
returns c = new_given c.args.rows c.empty.result c.empty.ensures c.if-rows-gt-ROWS_MOST.false
