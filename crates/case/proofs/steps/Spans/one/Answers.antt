use Rattle.std.proofs.Common.{refl}
use Rattle.case.proofs.SpanLaws.{spans_one}
use Rattle.case.proofs.steps.Spans.one.Goals as goal

pub returns : goal.returns
returns c = (refl, spans_one c.low.ensures c.high.ensures)
