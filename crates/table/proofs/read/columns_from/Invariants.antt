-- The columns of a table: `count` of them are placed, and the definition goes on behind them.
use Prim.Native.Nat.{◌-◌}
use Rattle.table.proofs.ReadLaws.{ColumnsSoFar}
use Rattle.table.proofs.read.columns_from.Given as goal

abbrev pub invariant-loop-at : goal.invariant-loop-at
invariant-loop-at l = ColumnsSoFar l.bytes l.rows l.first l.columns l.count l.at

abbrev pub decreases-loop-at : goal.decreases-loop-at
decreases-loop-at l = 16 - l.count
