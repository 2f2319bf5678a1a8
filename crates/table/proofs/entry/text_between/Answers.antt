-- A text between two offsets, cut at the end of its part, by its place in the whole.
use Rattle.table.proofs.EntryLaws.{text_empty, text_there}
use Rattle.table.proofs.entry.text_between.Goals as goal

pub returns-then-last-from : goal.returns-then-last-from
returns-then-last-from c = text_empty c.args.bytes.now c.args.start c.args.end c.args.from c.args.to c.min-last.result c.part_of-size.result.now c.part_of-size.ensures c.min-last.ensures c.if-last-from.true

pub returns : goal.returns
returns c = text_there c.args.bytes.now c.args.start c.args.end c.args.from c.args.to c.min-last.result c.part_of-size.result.now c.part_of-size.ensures c.min-last.ensures c.if-last-from.false
