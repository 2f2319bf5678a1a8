use Rattle.std.proofs.Common.{refl, arith}
use Rattle.case.proofs.SpanLaws.{read_none, read_more, read_all}
use Rattle.rule.proofs.WalkLaws.{end_gives}
use Rattle.case.proofs.steps.Spans.read.Goals as goal

pub loop-k-init : goal.loop-k-init
loop-k-init c = (read_none refl refl c.requires, refl)

pub loop-k-preserved : goal.loop-k-preserved
loop-k-preserved c = (read_more c.loop-k.invariant.0 (omega arith) (end_gives c.field_end-then.ensures) c.in-Some.ensures c.if-s-column.false c.if-s-kind.false (end_gives c.field_end-place.ensures) c.low.ensures c.high.ensures, c.loop-k.invariant.1)

pub invariant_of-spans : goal.invariant_of-spans
invariant_of-spans c = record { few = rw c.loop-k.invariant.1 c.requires }

pub returns : goal.returns
returns c = (read_all c.loop-k.invariant.0 (omega arith), c.loop-k.invariant.1)
