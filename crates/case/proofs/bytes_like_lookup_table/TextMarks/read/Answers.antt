use Rattle.std.proofs.Common.{refl, arith}
use Rattle.case.proofs.LookUpTrees.{zeros}
use Rattle.case.proofs.MarkLaws.{marks_none, marks_more}
use Rattle.case.proofs.bytes_like_lookup_table.TextMarks.read.Goals as goal

pub loop-k-init : goal.loop-k-init
loop-k-init c = marks_none refl refl (zeros 32)

pub loop-k-preserved : goal.loop-k-preserved
loop-k-preserved c = marks_more c.loop-k.invariant (omega (arith, c.args.whens.now.whens.few)) c.key_size.ensures c.key_mark.ensures
