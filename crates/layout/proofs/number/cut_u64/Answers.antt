-- `cut_u64` gives the number of the eight bytes at a place, from the numbers of its halves. Assumes nothing.
use Rattle.layout.proofs.NumberLaws.{number_halves}
use Rattle.layout.proofs.number.cut_u64.Goals as goal

pub returns-then-at-s : goal.returns-then-at-s
returns-then-at-s c = number_halves 4 c.args.s.now c.args.at c.read_u32-low.result c.read_u32-high.result c.read_u32-low.ensures c.read_u32-high.ensures
