-- `tembalku_table_null_count`: the answer about a column's nulls, as one number.
use Rattle.std.proofs.Common.{sym, ◌∙◌, ap, arith, Ok}
use Rattle.tembalku.specs.Codes.{null_count_code}
use Rattle.tembalku.proofs.CodeLaws.{nulls_few}
use Rattle.tembalku.proofs.tembalku_table_null_count.Goals as goal

pub overflow_add-result : goal.overflow_add-result
overflow_add-result c = let few = nulls_few c.args.table.now c.args.column c.in-Ok-Some.nulls (sym (c.in-Ok-Some.is ∙ ap Ok c.in-Ok-Some.field-0-is) ∙ c.column_null_count.ensures) in record { fits = omega (arith, few) }
