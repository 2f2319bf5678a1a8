-- `long` gives the number of eight bytes, from the numbers of their halves.
use Rattle.layout.proofs.NumberLaws.{number_whole}
use Rattle.case.proofs.slot.long.Goals as goal

pub returns : goal.returns
returns c = number_whole 4 c.args.work.now c.args.at c.word-low.result c.word-high.result c.word-low.ensures.0 c.word-high.ensures.0
