use Rattle.std.proofs.Common.{refl, arith}
use Rattle.case.proofs.LookUpColumnLaws.{numbers_none, numbers_more, numbers_all, numbers_table}
use Rattle.case.proofs.LookUpTrees.{zeros}
use Rattle.case.proofs.primitive_lookup_table.PrimitiveIndexMap.try_new.Goals as goal

pub loop-k-init : goal.loop-k-init
loop-k-init c = (numbers_none refl refl (zeros 256), refl, refl, refl)

pub loop-k-preserved : goal.loop-k-preserved
loop-k-preserved c = (numbers_more c.loop-k.invariant.0 (omega arith) c.args.whens.now.whens.few (omega arith) c.value_of.ensures c.in-Number.ensures c.if-of-kind.false c.number_hint.ensures, c.loop-k.invariant.1, c.loop-k.invariant.2, c.loop-k.invariant.3)

pub invariant_of-map : goal.invariant_of-map
invariant_of-map c = record { numbered = rw c.loop-k.invariant.1 (rw c.loop-k.invariant.2 (rw c.loop-k.invariant.3 (numbers_table c.args.whens.now.whens c.requires.2 c.args.whens.now.small (numbers_all c.loop-k.invariant.0 (omega arith))))) }

pub returns : goal.returns
returns c = (numbers_all c.loop-k.invariant.0 (omega arith), c.loop-k.invariant.1, c.loop-k.invariant.2, c.loop-k.invariant.3)
