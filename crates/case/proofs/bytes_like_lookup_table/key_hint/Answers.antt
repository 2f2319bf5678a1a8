-- `key_hint` goes by the kind: a text's hint, wherever it lies; what is no text has 0.
use Rattle.std.proofs.Common.{arith}
use Rattle.case.proofs.LookUpColumnLaws.{hint_in_rule, hint_in_table, hint_nowhere}
use Rattle.case.proofs.bytes_like_lookup_table.key_hint.Goals as goal

pub returns-in-5 : goal.returns-in-5
returns-in-5 c = hint_in_rule c.args.rule.now c.args.table.now c.args.kind c.args.payload c.in-5.is c.key_text.ensures c.text_hint.ensures

pub returns-in-6 : goal.returns-in-6
returns-in-6 c = hint_in_table c.args.rule.now c.args.table.now c.args.kind c.args.payload c.in-6.is c.key_text-in-6.ensures c.text_hint-in-6.ensures

pub returns-in_default : goal.returns-in_default
returns-in_default c = hint_nowhere c.args.rule.now c.args.table.now c.args.kind c.args.payload (λ e. omega arith) (λ e. omega arith)
