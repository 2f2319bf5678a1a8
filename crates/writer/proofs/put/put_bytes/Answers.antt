use Rattle.writer.proofs.WroteLaws.{pasted_more, pasted_all}
use Rattle.writer.proofs.put.put_bytes.Goals as goal

pub loop-i-preserved : goal.loop-i-preserved
loop-i-preserved c = pasted_more c.loop-i.invariant c.requires c.loop-i-test.true

pub returns : goal.returns
returns c = pasted_all c.loop-i.invariant c.requires c.loop-i-test.false
