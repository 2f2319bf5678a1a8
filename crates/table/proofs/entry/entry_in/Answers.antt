-- A row's entry, by its validity.
use Rattle.table.proofs.EntryLaws.{entry_valid, entry_null}
use Rattle.table.proofs.entry.entry_in.Goals as goal

pub returns-then-valid_at : goal.returns-then-valid_at
returns-then-valid_at c = entry_valid c.args.bytes.now c.args.place c.args.row c.part_of-validity.result.now c.part_of-validity.ensures c.valid_at.result c.valid_at.ensures c.if-valid_at.true c.value_at.result c.value_at.ensures

pub returns-else-valid_at : goal.returns-else-valid_at
returns-else-valid_at c = entry_null c.args.bytes.now c.args.place c.args.row c.part_of-validity.result.now c.part_of-validity.ensures c.valid_at.result c.valid_at.ensures c.if-valid_at.false
