-- `entry_or_null` goes by the test's truth.
use Rattle.std.proofs.Common.{◌∙◌, arith}
use Rattle.case.proofs.TruthLaws.{chosen_by}
use Rattle.scalar.specs.Entry.{Entry, entry}
use Rattle.scalar.specs.Value.{meaning}
use Rattle.table.specs.Column.{entry_at}
use Rattle.table.specs.Places.{column_in}
use Rattle.table.proofs.EntryLaws.{entry_in_gives}
use Rattle.case.proofs.column.entry_or_null.Goals as goal

pub returns-in-Yes : goal.returns-in-Yes
returns-in-Yes c = (λ rule. (entry_in_gives c.args.table.now (λ i. omega (arith, c.type_inv.table i)) c.args.place c.args.row c.entry_in.ensures).says rule ∙ chosen_by (meaning rule c.args.table.now c.args.test) (c.truth_of.ensures rule c.args.table.now) c.in-Yes.is (entry (entry_at (column_in c.args.table.now c.args.place) c.args.row)) (entry Entry.null), (entry_in_gives c.args.table.now (λ i. omega (arith, c.type_inv.table i)) c.args.place c.args.row c.entry_in.ensures).stores c.requires)
