-- `whole_u32` adds up four bytes. Assumes nothing.
use native.Mathlib.Omega.{arith}
use Rattle.layout.proofs.NumberLaws.{number_four}
use Rattle.layout.proofs.number.whole_u32.Goals as goal

pub returns : goal.returns
returns c = omega (arith, number_four c.args.s.now c.args.at)
