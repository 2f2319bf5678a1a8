use Rattle.std.proofs.Common.{refl, arith}
use Rattle.case.proofs.DenseLaws.{dense_none, dense_all}
use Rattle.case.proofs.primitive_lookup_table.PrimitiveIndexMap.dense.Goals as goal

pub loop-key-init : goal.loop-key-init
loop-key-init c = dense_none

pub returns : goal.returns
returns c = (dense_all c.loop-key.invariant c.args.self.now.numbered.once (omega arith), refl)
