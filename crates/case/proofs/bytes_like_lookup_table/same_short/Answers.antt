use Rattle.std.proofs.Common.{◌-◌, refl, arith}
use Rattle.case.proofs.WordLaws.{backs_all, byte_unlike, byte_more}
use Rattle.case.proofs.bytes_like_lookup_table.same_short.Goals as goal

pub returns-then-text-left : goal.returns-then-text-left
returns-then-text-left c = byte_unlike c.args.text.now c.args.there.now c.requires (c.loop-left.left - 1) (omega (arith, c.loop-left.invariant.0, c.loop-left-test.true)) refl refl c.if-text-left.true

pub loop-left-preserved : goal.loop-left-preserved
loop-left-preserved c = (omega (arith, c.loop-left.invariant.0), byte_more c.args.text.now c.args.there.now c.requires {left = c.loop-left.left} (c.loop-left.left - 1) (omega (arith, c.loop-left.invariant.0, c.loop-left-test.true)) (omega (arith, c.loop-left-test.true)) c.loop-left.invariant.1 refl refl c.if-text-left.false)

pub returns : goal.returns
returns c = backs_all c.args.text.now c.args.there.now c.loop-left.left (omega (arith, c.loop-left-test.false)) c.loop-left.invariant.1
