-- `whole_u64` gives the number of eight bytes, from the numbers of their halves. Assumes nothing.
use Rattle.layout.proofs.NumberLaws.{number_whole}
use Rattle.layout.proofs.number.whole_u64.Goals as goal

pub returns : goal.returns
returns c = number_whole 4 c.args.s.now c.args.at c.whole_u32-low.result c.whole_u32-high.result c.whole_u32-low.ensures c.whole_u32-high.ensures
