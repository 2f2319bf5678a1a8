-- `row_at` adds up the bytes of a row.
use Rattle.std.proofs.Common.{◌+◌, ◌*◌, arith}
use Rattle.layout.proofs.NumberLaws.{number_two}
use Rattle.case.proofs.rows.row_at.Goals as goal

pub returns : goal.returns
returns c = omega (arith, number_two c.args.work.now (c.args.at + 2 * c.args.i))
