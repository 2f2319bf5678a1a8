-- `is_reachable` works out the WHEN with the bytes of the THEN, stripped, as null.
use Rattle.rule.proofs.NullableLaws.{reachable_gives}
use Rattle.rule.proofs.nullable.is_reachable.Goals as goal

pub returns : goal.returns
returns c = reachable_gives c.stripped_at-at.ensures c.part_of-target.ensures c.constant.ensures c.may_pass.ensures
