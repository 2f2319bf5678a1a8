-- `write_answer` writes plain rows, and others whose slots fit the type, and else says that they are no column.
use Rattle.std.specs.Prelude.{Ok, Err}
use native.Mathlib.Omega.{arith}
use Rattle.std.proofs.lemmas.Result.{err_from_is_err_and}
use Rattle.writer.proofs.FitLaws.{column_run, plain_written, slots_tell, write_asks}
use Rattle.writer.proofs.write.write_answer.Goals as goal

pub returns-in_err-write_plain : goal.returns-in_err-write_plain
returns-in_err-write_plain c =
    let p = err_from_is_err_and c.from_residual.result c.from_residual.ensures.1 in
    rw (p.1, p.2) (column_run (Err c.in_err-write_plain.field-0.0) (plain_written c.args.rule.now c.args.table.now c.args.work.now c.args.rows c.lengths_fit.ensures c.if-not-lengths_fit.false (λ i. omega (arith, c.type_inv.work i)) (c.plain_rows.ensures.holds c.if-plain_rows.true)) (c.in_err-write_plain.ensures c.args.rule.now c.args.table.now))

pub returns-then-plain_rows : goal.returns-then-plain_rows
returns-then-plain_rows c = column_run (Ok c.in_ok-write_plain.field-0) (plain_written c.args.rule.now c.args.table.now c.args.work.now c.args.rows c.lengths_fit.ensures c.if-not-lengths_fit.false (λ i. omega (arith, c.type_inv.work i)) (c.plain_rows.ensures.holds c.if-plain_rows.true)) (c.in_ok-write_plain.ensures c.args.rule.now c.args.table.now)

pub write_rows-requires : goal.write_rows-requires
write_rows-requires c = write_asks c.args.rule.now c.args.table.now c.args.work.now c.args.rows c.args.t (slots_tell c.args.rule.now c.args.table.now c.args.work.now c.args.rows c.lengths_fit.ensures c.if-not-lengths_fit.false c.args.t c.slots_fit.ensures c.number.ensures c.if-not-slots_fit.false)
