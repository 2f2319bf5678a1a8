use Rattle.std.proofs.Common.{sym, ◌∙◌, arith}
use Rattle.case.proofs.LookUpLaws.{search_misses, search_hits, search_ends}
use Rattle.case.proofs.when_literal_index_map.WhenLiteralIndexMap.find_text.Goals as goal

pub loop-k-preserved : goal.loop-k-preserved
loop-k-preserved c = search_misses c.loop-k.invariant (omega arith) (sym c.is_text.ensures ∙ c.if-is_text.false)

pub returns-then-is_text : goal.returns-then-is_text
returns-then-is_text c = search_hits c.loop-k.invariant (omega arith) (sym c.is_text.ensures ∙ c.if-is_text.true)

pub returns : goal.returns
returns c = search_ends c.loop-k.invariant (omega arith)
