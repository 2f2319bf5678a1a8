use native.Mathlib.Omega.{arith}
use Rattle.layout.proofs.CountLaws.{set_byte}
use Rattle.layout.proofs.bits.whole_set_bits.Goals as goal

pub loop-i-preserved : goal.loop-i-preserved
loop-i-preserved c = let l = c.args.map.now in
    let i = c.loop-i.i in (
      omega (arith, set_byte l i (c.type_inv.map i).fits, c.ones_in-sum.ensures.0, c.loop-i.invariant.0),
      omega (arith, c.ones_in-sum.ensures.1, c.loop-i.invariant.1),
    )
