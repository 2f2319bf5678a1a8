-- The root is a CASE, read at depth 8 with 3 CASEs on a path.
use mathlib.Core.Path.{sym, ◌∙◌}
use mathlib.Core.List.{[]}
use Rattle.rule.proofs.StepLaws.{none_of}
use Rattle.layout.proofs.AnswerLaws.{passed_on}
use Rattle.rule.proofs.CycleLaws.{root_cut, root_other, root_gives}
use Rattle.rule.proofs.read.read_root.Goals as goal

pub returns-in_err-f : goal.returns-in_err-f
returns-in_err-f c = λ s. rw (passed_on c.from_residual.result c.from_residual.ensures.1, none_of _ _ c.in_err-f.ensures.ok_part c.in_err-f.ensures.value) (root_cut c.args.rule.now (sym c.field_at.ensures ∙ c.in_err-f.ensures.ok_part))

pub returns-then-f-ne-CASE : goal.returns-then-f-ne-CASE
returns-then-f-ne-CASE c = λ s. root_other c.args.rule.now c.in_ok-f.f (sym c.field_at.ensures ∙ c.in_ok-f.ensures.ok_part) c.if-f-ne-CASE.true

pub returns : goal.returns
returns c = λ s. root_gives c.args.rule.now c.in_ok-f.f (sym c.field_at.ensures ∙ c.in_ok-f.ensures.ok_part) c.if-f-ne-CASE.false (c.read_field.ensures [] s)
