use mathlib.Core.Path.{ap}
use native.Mathlib.Omega.{arith}
use borrow.Author.Rules.{rules}
use lib.Count.{ones}
use Rattle.std.proofs.lemmas.Nat.{ones-le}
use Rattle.layout.proofs.CountLaws.{set_none, set_word}
use Rattle.layout.proofs.bits.word_set_bits.Goals as goal

pub loop-i-init : goal.loop-i-init
loop-i-init c = (set_none c.args.map.now, omega arith)

pub loop-i-preserved : goal.loop-i-preserved
loop-i-preserved c = let l = c.args.map.now in
    let i = c.loop-i.i in
    let more = set_word l i (λ j. (c.type_inv.map j).fits) (omega (arith, c.requires.0)) in
    let same = ap ones c.whole_u64-word.ensures in (
      omega (arith, more, same, c.loop-i.invariant.0),
      omega (arith, ones-le 64 c.whole_u64-word.result (search rules), c.loop-i.invariant.1),
    )
