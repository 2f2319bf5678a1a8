-- `word` adds up the bytes of a number.
use Rattle.std.proofs.Common.{arith}
use Rattle.layout.proofs.NumberLaws.{number_four}
use Rattle.case.proofs.slot.word.Goals as goal

pub returns : goal.returns
returns c = (omega (arith, number_four c.args.work.now c.args.at), omega arith)
