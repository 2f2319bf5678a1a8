-- `settle_rows` hands the rows that leave to the builder.
use Rattle.std.proofs.Common.{arith}
use Rattle.case.proofs.SettleLaws.{part_asks, settles}
use Rattle.case.proofs.settle.settle_rows.Goals as goal

pub returns : goal.returns
returns g c = settles c.requires.fact c.split-m.ensures (omega arith) (omega arith) c.add_part-builder.ensures

pub add_part-builder-requires : goal.add_part-builder-requires
add_part-builder-requires g c = part_asks c.requires.fact c.split-m.ensures (omega arith) (omega arith)
