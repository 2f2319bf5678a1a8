-- `add_part` meets none of the builder's refusals.
use Rattle.std.proofs.Common.{rules}
use Rattle.case.proofs.PartLaws.{part_taken, part_added}
use Rattle.case.proofs.settle.add_part.Goals as goal

pub unwrap-requires : goal.unwrap-requires
unwrap-requires c = part_taken c.args.b c.args.rows.now c.args.values.now c.requires (search rules) (search rules) (search rules) c.add_branch_result.ensures

pub returns-then-not-is_empty : goal.returns-then-not-is_empty
returns-then-not-is_empty c = part_added c.args.b c.args.rows.now c.args.values.now c.requires (search rules) (search rules) (search rules) c.add_branch_result.ensures
