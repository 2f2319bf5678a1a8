use Rattle.std.proofs.Common.{arith}
use Rattle.case.proofs.LookUpTrees.{literals_none, literals_more, literals_ended, literals_all}
use Rattle.rule.proofs.WalkLaws.{end_gives}
use Rattle.rule.proofs.LiteralLaws.{literal_gives}
use Rattle.case.proofs.literal_lookup_table.Literals.read.Goals as goal

pub loop-i-init : goal.loop-i-init
loop-i-init c = literals_none _ (omega arith) (omega arith) c.requires.few c.requires.empty

pub loop-i-preserved : goal.loop-i-preserved
loop-i-preserved c = literals_more c.loop-i.invariant c.literal_value-v.result (omega arith) (omega arith) (end_gives c.field_end-next.ensures) (literal_gives c.literal_value-v.ensures) c.kind.ensures c.payload.ensures

pub returns : goal.returns
returns c = literals_all c.loop-i.invariant (omega arith)

pub returns-then-end-place : goal.returns-then-end-place
returns-then-end-place c = literals_ended c.loop-i.invariant c.loop-i-test.true c.if-end-place.true
