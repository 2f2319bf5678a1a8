-- Without ELSE the indexes are what the builder holds; with it the open list's rows are settled first.
use Rattle.std.proofs.Common.{refl}
use Rattle.case.proofs.MergeLaws.{values_none, values_some, settled_small}
use Rattle.rule.proofs.WalkLaws.{behind_gives}
use Rattle.case.proofs.merge.else_values.Goals as goal

pub returns-then-place-end : goal.returns-then-place-end
returns-then-place-end c = values_none (behind_gives c.behind_fields-place.ensures) c.requires.0 c.if-place-end.true c.finished.ensures

pub finished-requires-2 : goal.finished-requires-2
finished-requires-2 c = settled_small c.settle-s.ensures

pub returns : goal.returns
returns c = values_some (behind_gives c.behind_fields-place.ensures) c.requires.0 c.if-place-end.false refl c.settle-s.ensures c.finished-2.ensures
