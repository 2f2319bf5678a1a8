-- A comparison of a column with a literal, whichever stands first, or no step.
use Rattle.std.proofs.Common.{◌≡◌, sym, ap, ◌∙◌, inl, inr}
use Rattle.case.specs.Steps.{comparison_tag}
use Rattle.case.proofs.StepLaws.{step_column, step_literal}
use Rattle.rule.proofs.WalkLaws.{children_gives, end_gives}
use Rattle.case.proofs.steps.step_at.Goals as goal
use Rattle.case.proofs.steps.step_at.Goals.{in-23, in-24}

pub returns-then-byte_at-ne-LITERAL : goal.returns-then-byte_at-ne-LITERAL
returns-then-byte_at-ne-LITERAL c =
    let tag : comparison_tag c.match-byte_at.comparison ≡ c.byte_at.result = elim c.match-byte_at.branch [ in-23 w ↦ ap comparison_tag w.comparison-is ∙ sym w.in-23.is | in-24 w ↦ ap comparison_tag w.comparison-is ∙ sym w.in-24.is ] in
    step_column c.args.end (tag ∙ c.byte_at.ensures) (children_gives c.children_at-at.ensures) (end_gives c.field_end-middle.ensures) c.step_between.result
    (elim c.match-byte_at.branch [ in-23 w ↦ inl (ap comparison_tag w.comparison-is) | in-24 w ↦ inr (ap comparison_tag w.comparison-is) ]) c.step_between.ensures

pub returns-in-Less : goal.returns-in-Less
returns-in-Less c =
    let tag : comparison_tag c.match-byte_at.comparison ≡ c.byte_at.result = elim c.match-byte_at.branch [ in-23 w ↦ ap comparison_tag w.comparison-is ∙ sym w.in-23.is | in-24 w ↦ ap comparison_tag w.comparison-is ∙ sym w.in-24.is ] in
    step_literal c.args.end c.byte_at.ensures (children_gives c.children_at-at.ensures) (end_gives c.field_end-middle.ensures) c.step_between-in-Less.result
    (sym tag ∙ ap comparison_tag c.in-Less.is) c.step_between-in-Less.ensures
