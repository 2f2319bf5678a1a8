use Rattle.std.proofs.Common.{◌-◌, arith}
use Rattle.case.proofs.WordLaws.{words_unlike, backs_more, words_end}
use Rattle.case.proofs.bytes_like_lookup_table.same_long.Goals as goal

pub returns-then-word : goal.returns-then-word
returns-then-word c = words_unlike c.args.text.now c.args.there.now (c.loop-left.left - 4) c.word.ensures.0 c.word-in-loop-left.ensures.0 c.if-word.true

pub loop-left-preserved : goal.loop-left-preserved
loop-left-preserved c = (omega (arith, c.loop-left.invariant.0), backs_more c.args.text.now c.args.there.now (λ i. omega (arith, c.type_inv.text i)) (λ i. omega (arith, c.type_inv.there i)) c.requires.0 c.loop-left.left (omega (arith, c.loop-left-test.true)) c.loop-left.invariant.0 c.loop-left.invariant.1 c.word.ensures.0 c.word-in-loop-left.ensures.0 c.if-word.false)

pub returns : goal.returns
returns c = words_end c.args.text.now c.args.there.now (λ i. omega (arith, c.type_inv.text i)) (λ i. omega (arith, c.type_inv.there i)) c.requires.0 c.loop-left.left c.requires.1 (omega (arith, c.loop-left-test.false)) c.loop-left.invariant.1 c.word-2.ensures.0 c.word-3.ensures.0
