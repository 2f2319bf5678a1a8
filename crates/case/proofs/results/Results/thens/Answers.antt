use Rattle.std.proofs.Common.{sym, ◌∙◌, ap, arith}
use Rattle.case.specs.declared.results.Results.{Results}
use Rattle.case.proofs.ResultLaws.{thens_none, then_literal, then_other}
use Rattle.rule.proofs.LiteralLaws.{literal_gives}
use Rattle.rule.proofs.WalkLaws.{end_gives}
use Rattle.case.proofs.results.Results.thens.Goals as goal
use Rattle.case.proofs.results.Results.thens.Goals.{then-byte_at-eq-LITERAL, else-byte_at-eq-LITERAL}

pub loop-k-preserved : goal.loop-k-preserved
loop-k-preserved c = elim c.if-byte_at-eq-LITERAL.branch [ then-byte_at-eq-LITERAL w ↦ then_literal c.loop-k.invariant (omega arith) (end_gives c.field_end-then.ensures) (end_gives c.field_end-next.ensures) w.literal_value-v.result (sym c.byte_at.ensures ∙ w.if-byte_at-eq-LITERAL.true) (literal_gives w.literal_value-v.ensures) w.kind.ensures w.payload.ensures (ap (λ (s : Results). s.kinds) w.self-is) (ap (λ (s : Results). s.payloads) w.self-is) | else-byte_at-eq-LITERAL w ↦ then_other c.loop-k.invariant (omega arith) (end_gives c.field_end-then.ensures) (end_gives c.field_end-next.ensures) (λ e. w.if-byte_at-eq-LITERAL.false (c.byte_at.ensures ∙ e)) (ap (λ (s : Results). s.kinds) w.self-is) (ap (λ (s : Results). s.payloads) w.self-is) ]

pub loop-k-init : goal.loop-k-init
loop-k-init c = thens_none c.requires.few (omega arith) (omega arith) c.requires.empty
