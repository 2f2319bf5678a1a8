-- `tembalku_table_read`: the reading of a table, as one number.
use Rattle.std.proofs.Common.{ℕ, ◌+◌, refl, ap, ◌∙◌, arith}
use Rattle.table.specs.Reading.{read_table}
use Rattle.tembalku.proofs.CodeLaws.{table_rows, table_accepted, table_refused_lem}
use Rattle.tembalku.proofs.tembalku_table_read.Goals as goal

pub overflow_cast-result : goal.overflow_cast-result
overflow_cast-result c = omega (arith, table_rows c.args.table.now c.read.ensures c.in-Ok.is)

pub overflow_add-result : goal.overflow_add-result
overflow_add-result c = omega (arith, table_rows c.args.table.now c.read.ensures c.in-Ok.is)

pub returns-in-Ok : goal.returns-in-Ok
returns-in-Ok c = table_accepted c.args.table.now c.read.ensures c.in-Ok.is

pub returns-in-Err : goal.returns-in-Err
returns-in-Err c = c.from.ensures ∙ c.number.ensures ∙ table_refused_lem c.args.table.now c.read.ensures c.in-Err.is
