-- `read` reads WHEN by WHEN. The loop's invariant: whatever branches stand there, those read are steps and have their spans, and the others stand at the place; how many the spans are to be is unchanged.
use Rattle.std.proofs.Common.{◌≡◌}
use Rattle.case.proofs.SpanLaws.{SpansSoFar}
use Rattle.case.proofs.steps.Spans.read.Given as goal

abbrev pub invariant-loop-k : goal.invariant-loop-k
invariant-loop-k l = SpansSoFar l.rule l.at l.count l.column l.kind l.place l.k l.spans.0 l.spans.1.0 × (l.spans.1.1.0 ≡ l.count)
