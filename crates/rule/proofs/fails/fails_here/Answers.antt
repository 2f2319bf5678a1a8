-- `fails_here` works out a cast that has no column under it.
use Rattle.rule.proofs.FailsLaws.{here_other, here_named, here_alone}
use Rattle.rule.proofs.WalkLaws.{nothing_behind, end_gives}
use native.Mathlib.Omega.{arith}
use Rattle.std.proofs.Common.{Bool, refl, sym, ap, subst, rules}
use Rattle.scalar.specs.Value.{kind_of}
use Rattle.scalar.proofs.OperationLaws.{not_failed}
use Rattle.rule.specs.ConstantWalks.{FailsHereGives}
use Rattle.rule.proofs.fails.fails_here.Goals as goal

pub returns-then-rule-start : goal.returns-then-rule-start
returns-then-rule-start c = record { is = λ end e n. absurd (let k = nothing_behind n in omega arith) }

pub returns-then-rule-start-ne-CAST : goal.returns-then-rule-start-ne-CAST
returns-then-rule-start-ne-CAST c = here_other c.if-rule-start-ne-CAST.true

pub returns-then-names_column : goal.returns-then-names_column
returns-then-names_column c = here_named c.if-rule-start-ne-CAST.false (end_gives c.field_end-end.ensures) c.names_column.ensures c.if-names_column.true

pub returns-in-Failed : goal.returns-in-Failed
returns-in-Failed c = here_alone c.if-rule-start-ne-CAST.false (end_gives c.field_end-end.ensures) c.names_column.ensures c.if-names_column.false c.part_of.ensures c.constant.ensures (sym (ap kind_of c.in-Failed.is))

pub returns-in_default : goal.returns-in_default
returns-in_default c =
    let gives = here_alone c.if-rule-start-ne-CAST.false (end_gives c.field_end-end.ensures) c.names_column.ensures c.if-names_column.false c.part_of.ensures c.constant.ensures refl in
    subst (λ (b : Bool). FailsHereGives c.args.rule.now c.args.start b) (not_failed c.constant.result (search rules)) gives
