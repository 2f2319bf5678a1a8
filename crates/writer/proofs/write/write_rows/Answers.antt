-- `write_rows` gives 15, 16 or 17, or puts the answer.
use Rattle.writer.specs.Slots.{slot_at}
use Rattle.writer.proofs.SlotRunLaws.{gives_15, gives_16, gives_17, gives_answer}
use Rattle.writer.proofs.write.write_rows.Goals as goal

pub returns-then-some_of_kind : goal.returns-then-some_of_kind
returns-then-some_of_kind c = gives_15 c.args.rows.now.rule.now c.args.rows.now.table.now (slot_at c.args.rows.now.work.now) c.args.rows.now.count c.args.t c.args.nullable c.args.output.now c.some_of_kind.ensures c.if-some_of_kind.true

pub returns-then-text-gt-TEXT_MOST : goal.returns-then-text-gt-TEXT_MOST
returns-then-text-gt-TEXT_MOST c = gives_16 c.args.rows.now.rule.now c.args.rows.now.table.now (slot_at c.args.rows.now.work.now) c.args.rows.now.count c.args.t c.args.nullable c.args.output.now c.some_of_kind.ensures c.if-some_of_kind.false c.answer_text-text.ensures c.if-text-gt-TEXT_MOST.true

pub returns-then-output-size : goal.returns-then-output-size
returns-then-output-size c = gives_17 c.args.rows.now.rule.now c.args.rows.now.table.now (slot_at c.args.rows.now.work.now) c.args.rows.now.count c.args.t c.args.nullable c.args.output.now c.some_of_kind.ensures c.if-some_of_kind.false c.answer_text-text.ensures c.if-text-gt-TEXT_MOST.false c.some_of_kind-null.ensures c.column_size-size.ensures c.if-output-size.true

pub returns : goal.returns
returns c = gives_answer c.args.rows.now.rule.now c.args.rows.now.table.now (slot_at c.args.rows.now.work.now) c.args.rows.now.count c.args.t c.args.nullable c.args.output.now c.some_of_kind.ensures c.if-some_of_kind.false c.answer_text-text.ensures c.if-text-gt-TEXT_MOST.false c.some_of_kind-null.ensures c.put_column-end.ensures
