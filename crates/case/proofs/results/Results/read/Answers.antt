-- `Results::read` reads the THENs, puts a failure behind ELSE, and reads ELSE where it is there and a literal.
use Rattle.std.proofs.Common.{sym, ◌∙◌}
use Rattle.scalar.proofs.OperationLaws.{try_cast_gives}
use Rattle.case.proofs.ResultLaws.{else_absent, else_literal, else_other}
use Rattle.rule.proofs.LiteralLaws.{literal_gives}
use Rattle.case.proofs.results.Results.read.Goals as goal

pub returns-then-place-end : goal.returns-then-place-end
returns-then-place-end c = else_absent c.args.to c.requires.few c.thens-place.ensures c.if-place-end.true

pub returns-then-byte_at-eq-LITERAL : goal.returns-then-byte_at-eq-LITERAL
returns-then-byte_at-eq-LITERAL c = else_literal c.args.to c.requires.few c.thens-place.ensures c.if-place-end.false c.try_cast-v.result (sym c.byte_at.ensures ∙ c.if-byte_at-eq-LITERAL.true) (literal_gives c.literal_value.ensures) (try_cast_gives _ c.literal_value.result c.try_cast-v.ensures) c.kind.ensures c.payload.ensures

pub returns-else-byte_at-eq-LITERAL : goal.returns-else-byte_at-eq-LITERAL
returns-else-byte_at-eq-LITERAL c = else_other c.args.to c.requires.few c.thens-place.ensures c.if-place-end.false (λ e. c.if-byte_at-eq-LITERAL.false (c.byte_at.ensures ∙ e))
