-- By the base's flag.
use Rattle.std.proofs.Common.{ℕ, ◌%◌, sym, ap, ◌∙◌}
use Rattle.rule.proofs.WalkLaws.{end_gives}
use Rattle.case.proofs.case_values.branches_at.Goals as goal

pub returns-then-byte_at-eq1 : goal.returns-then-byte_at-eq1
returns-then-byte_at-eq1 c = (λ h. end_gives c.field_end.ensures, λ d. absurd (d (ap (λ (b : ℕ). b % 2) (sym c.byte_at.ensures) ∙ c.if-byte_at-eq1.true)))
