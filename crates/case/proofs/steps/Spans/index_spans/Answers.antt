-- By the one span, or by all.
use Rattle.case.proofs.SpanLaws.{rows_one}
use Rattle.case.proofs.steps.Spans.index_spans.Goals as goal

pub returns-then-self-eq1 : goal.returns-then-self-eq1
returns-then-self-eq1 c = rows_one c.args.numbers.now c.args.validity.now c.args.self.now.lows c.args.self.now.highs c.if-self-eq1.true c.index_one.ensures
