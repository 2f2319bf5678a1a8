-- `is_text` goes by the kind: a text, wherever it lies, by its bytes; nothing else is one.
use Rattle.std.proofs.Common.{ap, ◌∙◌, arith}
use Rattle.scalar.specs.Text.{same_bytes}
use Rattle.case.proofs.LookUpLaws.{text_nowhere, text_in_rule, text_in_table}
use Rattle.case.proofs.bytes_like_lookup_table.is_text.Goals as goal

pub returns-in-5 : goal.returns-in-5
returns-in-5 c = text_in_rule c.args.rule.now c.args.table.now c.args.text.now c.args.kind c.args.payload c.in-5.is (c.same_text.ensures ∙ ap (same_bytes c.args.text.now) c.key_text.ensures)

pub returns-in-6 : goal.returns-in-6
returns-in-6 c = text_in_table c.args.rule.now c.args.table.now c.args.text.now c.args.kind c.args.payload c.in-6.is (c.same_text-in-6.ensures ∙ ap (same_bytes c.args.text.now) c.key_text-in-6.ensures)

pub returns-in_default : goal.returns-in_default
returns-in_default c = text_nowhere c.args.rule.now c.args.table.now c.args.text.now c.args.kind c.args.payload (λ e. omega arith) (λ e. omega arith)
