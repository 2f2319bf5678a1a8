use native.Mathlib.Omega.{arith}
use mathlib.Core.Path.{sym, ◌∙◌}
use Rattle.utf8.proofs.AsciiLaws.{stretch_more, stretch_short}
use Rattle.utf8.proofs.ascii.stretches_end.Goals as goal

pub returns-then-bytes-i-lt32 : goal.returns-then-bytes-i-lt32
returns-then-bytes-i-lt32 c = sym (stretch_short c.args.bytes.now c.loop-i.i (omega arith)) ∙ c.loop-i.invariant

pub loop-i-preserved : goal.loop-i-preserved
loop-i-preserved c = stretch_more c.args.bytes.now c.loop-i.i (sym c.ascii_stretch.ensures ∙ c.if-not-ascii_stretch.false) ∙ c.loop-i.invariant

pub returns : goal.returns
returns c = sym (stretch_short c.args.bytes.now c.loop-i.i (omega arith)) ∙ c.loop-i.invariant
