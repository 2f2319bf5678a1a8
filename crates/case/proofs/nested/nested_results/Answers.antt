-- `nested_results` reads the literals behind the class, where there is room, and says whether all are of the kind.
use Rattle.std.proofs.Common.{◌≡◌, ◌+◌, subst, arith}
use Rattle.case.specs.Classes.{all_of_kind}
use Rattle.case.proofs.NestedLaws.{nested_give}
use Rattle.rule.proofs.TypeOfLaws.{type_gives}
use Rattle.case.proofs.nested.nested_results.Goals as goal

pub returns-then-all_of_kind : goal.returns-then-all_of_kind
returns-then-all_of_kind c = nested_give (omega (arith, c.if-rule-start.false)) c.byte_at-count.ensures (omega (arith, c.if-from-count-gt-CLASSES_MOST.false)) (type_gives c.type_of.ensures) c.read_block.ensures.0 c.read_block.ensures.1 (subst (λ k. c.all_of_kind.result ≡ all_of_kind c.read_block.new.self.kinds k c.args.from (c.byte_at-count.result + 1)) c.number.ensures c.all_of_kind.ensures) c.if-all_of_kind.true
