-- `row_size` adds the lengths of the line's parts.
use native.Mathlib.Omega.{arith}
use Rattle.table.proofs.EntryLaws.{entry_in_gives}
use Rattle.listing.proofs.WholeLaws.{size_room, size_row}
use Rattle.listing.proofs.whole.row_size.Goals as goal

pub shown_size-requires : goal.shown_size-requires
shown_size-requires c = size_room c.args.row (entry_in_gives c.args.bytes.now (λ i. omega (arith, c.type_inv.bytes i)) c.args.place c.args.row c.entry_in.ensures) c.show-s.ensures c.requires

pub overflow_add-result-2 : goal.overflow_add-result-2
overflow_add-result-2 c = omega (arith, c.requires, size_row c.args.row (entry_in_gives c.args.bytes.now (λ i. omega (arith, c.type_inv.bytes i)) c.args.place c.args.row c.entry_in.ensures) c.show-s.ensures c.decimal_places-k.ensures.0 c.shown_size.ensures)

pub returns : goal.returns
returns c = size_row c.args.row (entry_in_gives c.args.bytes.now (λ i. omega (arith, c.type_inv.bytes i)) c.args.place c.args.row c.entry_in.ensures) c.show-s.ensures c.decimal_places-k.ensures.0 c.shown_size.ensures
