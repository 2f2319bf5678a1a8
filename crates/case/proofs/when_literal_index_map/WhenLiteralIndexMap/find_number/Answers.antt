use Rattle.std.proofs.Common.{◌&&◌, eqb, get_or, ap₂, arith, eq-eqb, ne_eqb}
use Rattle.case.proofs.LookUpLaws.{search_misses, search_hits, search_ends, kind_differs, payload_differs}
use Rattle.case.proofs.when_literal_index_map.WhenLiteralIndexMap.find_number.Goals as goal
use Rattle.case.proofs.when_literal_index_map.WhenLiteralIndexMap.find_number.Goals.{else-payload-self-via-then-payload-self+else-kind-self, else-payload-self-via-else-payload-self}

pub loop-k-preserved : goal.loop-k-preserved
loop-k-preserved c = search_misses c.loop-k.invariant (omega arith) (elim c.else-payload-self.branch [ else-payload-self-via-then-payload-self+else-kind-self w ↦ kind_differs _ _ (ne_eqb _ _ w.if-kind-self.false) | else-payload-self-via-else-payload-self w ↦ payload_differs (eqb c.args.kind (get_or c.args.self.now.kinds c.loop-k.k 0)) _ (ne_eqb _ _ w.if-payload-self.false) ])

pub returns-then-kind-self : goal.returns-then-kind-self
returns-then-kind-self c = search_hits c.loop-k.invariant (omega arith) (ap₂ ◌&&◌ (eq-eqb _ _ c.if-kind-self.true) (eq-eqb _ _ c.if-payload-self.true))

pub returns : goal.returns
returns c = search_ends c.loop-k.invariant (omega arith)
