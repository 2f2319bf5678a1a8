use mathlib.Core.Path.{sym, ◌∙◌}
use Rattle.utf8.proofs.AsciiLaws.{end_at, end_stops, end_next, end_word, end_stretches}
use Rattle.utf8.proofs.ascii.ascii_end.Goals as goal

pub loop-i-init : goal.loop-i-init
loop-i-init c = end_stretches c.args.bytes.now c.args.at _ c.stretches_end-i.ensures

pub loop-i-preserved-then-ascii_word : goal.loop-i-preserved-then-ascii_word
loop-i-preserved-then-ascii_word c = end_word c.args.bytes.now c.loop-i.i (sym c.ascii_word.ensures ∙ c.if-ascii_word.true) ∙ c.loop-i.invariant

pub returns-then-bytes-i-ge128 : goal.returns-then-bytes-i-ge128
returns-then-bytes-i-ge128 c = sym (end_stops c.args.bytes.now c.loop-i.i c.loop-i-test.true c.if-bytes-i-ge128.true) ∙ c.loop-i.invariant

pub loop-i-preserved : goal.loop-i-preserved
loop-i-preserved c = end_next c.args.bytes.now c.loop-i.i c.loop-i-test.true c.if-bytes-i-ge128.false ∙ c.loop-i.invariant

pub returns : goal.returns
returns c = sym (end_at c.args.bytes.now c.loop-i.i c.loop-i-test.false) ∙ c.loop-i.invariant
