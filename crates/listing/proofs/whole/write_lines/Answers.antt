use native.Mathlib.Omega.{arith}
use Rattle.table.specs.Places.{column_in}
use Rattle.table.proofs.EntryLaws.{entry_in_gives}
use Rattle.listing.proofs.WholeLaws.{lines_none, lines_room, lines_next, lines_all}
use Rattle.listing.proofs.whole.write_lines.Goals as goal

pub loop-row-init : goal.loop-row-init
loop-row-init c = lines_none (column_in c.args.bytes.now c.args.place) c.args.rows c.write_head-p.ensures c.requires

pub write_row-p-requires : goal.write_row-p-requires
write_row-p-requires c = lines_room c.loop-row.invariant c.loop-row-test.true (entry_in_gives c.args.bytes.now (λ i. omega (arith, c.type_inv.bytes i)) c.args.place c.loop-row.row c.entry_in.ensures) c.show-s.ensures

pub loop-row-preserved : goal.loop-row-preserved
loop-row-preserved c = lines_next c.loop-row.invariant c.loop-row-test.true (entry_in_gives c.args.bytes.now (λ i. omega (arith, c.type_inv.bytes i)) c.args.place c.loop-row.row c.entry_in.ensures) c.show-s.ensures c.write_row-p.ensures

pub returns : goal.returns
returns c = lines_all (column_in c.args.bytes.now c.args.place) c.args.rows c.write_head-p.ensures c.loop-row.invariant c.loop-row-test.false
