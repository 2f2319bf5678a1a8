-- `cut_u32` gives the number of the four bytes at a place, from the numbers of its halves. Assumes nothing.
use Rattle.layout.proofs.NumberLaws.{number_halves}
use Rattle.layout.proofs.number.cut_u32.Goals as goal

pub returns-then-at-s : goal.returns-then-at-s
returns-then-at-s c = number_halves 2 c.args.s.now c.args.at c.read_u16-low.result c.read_u16-high.result c.read_u16-low.ensures c.read_u16-high.ensures
