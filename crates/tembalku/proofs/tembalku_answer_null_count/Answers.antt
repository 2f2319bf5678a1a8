-- `tembalku_answer_null_count`: the nulls of an answer, as one number.
use Rattle.std.proofs.Common.{ℕ, ◌+◌, ap, ◌∙◌}
use Rattle.tembalku.proofs.CodeLaws.{alone_refused, alone_nulls}
use Rattle.tembalku.proofs.tembalku_answer_null_count.Goals as goal

pub returns-in-Ok : goal.returns-in-Ok
returns-in-Ok c = ap (λ (n : ℕ). 65536 + n) c.from.ensures ∙ alone_nulls c.args.rows c.args.answer.now c.read_alone.ensures c.in-Ok.is

pub returns-in-Err : goal.returns-in-Err
returns-in-Err c = c.from-in-Err.ensures ∙ c.number.ensures ∙ alone_refused c.args.rows c.args.answer.now c.read_alone.ensures c.in-Err.is
