use Rattle.std.proofs.Common.{arith}
use Rattle.case.proofs.NestedLaws.{classed_framed, classed_all, classed_not, classed_next}
use Rattle.rule.proofs.WalkLaws.{end_gives}
use Rattle.case.proofs.nested.nested_thens.Goals as goal

pub returns-in_default : goal.returns-in_default
returns-in_default c = classed_not c.requires.thens_ask c.requires.framed.list_ok.few c.loop-k.invariant c.nested_then.ensures

pub loop-k-preserved : goal.loop-k-preserved
loop-k-preserved c = classed_next c.requires.thens_ask c.requires.framed.list_ok.few c.loop-k.invariant c.in-Some.ensures (omega arith) (end_gives c.field_end-then.ensures) (end_gives c.field_end-next.ensures)

pub returns : goal.returns
returns c = classed_all c.requires.thens_ask c.requires.framed.list_ok.few c.loop-k.invariant (omega (arith, c.loop-k-test.false))

pub nested_then-requires : goal.nested_then-requires
nested_then-requires c = record { framed = classed_framed c.requires.thens_ask c.requires.framed.list_ok.few c.loop-k.invariant c.requires.framed; low = omega (arith, c.requires.thens_ask.few, c.loop-k-test.true) }
