use Rattle.std.proofs.Common.{arith, eq-eqb, ne_eqb}
use Rattle.case.proofs.LookUpLaws.{search_misses, search_hits, search_ends}
use Rattle.case.proofs.primitive_lookup_table.PrimitiveIndexMap.find_key.Goals as goal

pub loop-k-preserved : goal.loop-k-preserved
loop-k-preserved c = search_misses c.loop-k.invariant (omega arith) (ne_eqb _ _ c.if-x-self.false)

pub returns-then-x-self : goal.returns-then-x-self
returns-then-x-self c = search_hits c.loop-k.invariant (omega arith) (eq-eqb _ _ c.if-x-self.true)

pub returns : goal.returns
returns c = search_ends c.loop-k.invariant (omega arith)
