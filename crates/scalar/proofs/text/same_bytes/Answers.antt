use Rattle.std.proofs.Common.{◌-◌, length, sym, arith}
use Rattle.scalar.proofs.TextLaws.{same_length, same_differ, same_none, same_more}
use Rattle.scalar.proofs.text.same_bytes.Goals as goal

pub returns-then-a-b : goal.returns-then-a-b
returns-then-a-b c = sym (same_length c.args.a.now c.args.b.now c.if-a-b.true)

pub loop-i-init : goal.loop-i-init
loop-i-init c = same_none c.args.a.now c.args.b.now (length c.args.a.now) (omega arith) (omega arith)

pub returns-then-a-i : goal.returns-then-a-i
returns-then-a-i c = sym (same_differ c.args.a.now c.args.b.now (c.loop-i.i - 1) (omega arith) (omega arith) c.if-a-i.true)

pub loop-i-preserved : goal.loop-i-preserved
loop-i-preserved c = same_more c.args.a.now c.args.b.now c.loop-i.i (omega arith) (omega arith) (omega arith) c.if-a-i.false c.loop-i.invariant
