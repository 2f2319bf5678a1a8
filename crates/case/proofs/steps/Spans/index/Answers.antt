use Rattle.std.proofs.Common.{sym, ◌∙◌, arith}
use Rattle.case.proofs.LookUpLaws.{search_misses, search_hits, search_ends}
use Rattle.case.proofs.steps.Spans.index.Goals as goal

pub loop-span-preserved : goal.loop-span-preserved
loop-span-preserved c = search_misses c.loop-span.invariant (omega arith) (sym c.in_span.ensures ∙ c.if-in_span.false)

pub returns-then-in_span : goal.returns-then-in_span
returns-then-in_span c = search_hits c.loop-span.invariant (omega arith) (sym c.in_span.ensures ∙ c.if-in_span.true)

pub returns : goal.returns
returns c = search_ends c.loop-span.invariant (omega arith)
