-- `write_head` writes the word, the row count and what follows it.
use Rattle.std.proofs.Common.{◌∙◌}
use Rattle.layout.proofs.PutLaws.{wrote_then}
use Rattle.scalar.proofs.TypeLaws.{boolean_mark}
use Rattle.listing.proofs.LineLaws.{head_as}
use Rattle.listing.proofs.line.write_head.Goals as goal

pub returns : goal.returns
returns c = head_as c.args.rows c.args.data_type c.args.nullable (c.from.ensures ∙ c.number.ensures) (c.from-2.ensures ∙ boolean_mark c.args.nullable) (wrote_then (wrote_then c.write_bytes-p.ensures c.write_decimal-q.ensures) c.write_types.ensures)
