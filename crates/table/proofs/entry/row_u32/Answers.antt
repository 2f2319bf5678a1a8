-- Four bytes of a row; behind the end they are 0.
use mathlib.Core.Path.{sym}
use Prim.Native.Nat.{◌*◌}
use native.Mathlib.Omega.{arith}
use Rattle.layout.proofs.NumberLaws.{number_behind}
use Rattle.table.proofs.entry.row_u32.Goals as goal

pub returns-then-values-row : goal.returns-then-values-row
returns-then-values-row c = sym (number_behind 4 c.args.values.now (4 * c.args.row) (omega arith))
