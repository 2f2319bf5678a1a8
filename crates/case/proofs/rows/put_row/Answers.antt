-- `put_row` stores a row's two bytes.
use Rattle.case.proofs.SiftLaws.{put_row_lem}
use Rattle.case.proofs.rows.put_row.Goals as goal

pub returns : goal.returns
returns c = put_row_lem c.args.work.now c.args.at c.args.i c.args.row c.requires.0 c.requires.1
