-- `Results::read_block` reads the literals and copies them behind the class.
use Rattle.case.proofs.NestedLaws.{block_read}
use Rattle.case.proofs.results.Results.read_block.Goals as goal

pub returns : goal.returns
returns c = (c.copy_block.ensures.grown, block_read c.read.ensures c.copy_block.ensures)
