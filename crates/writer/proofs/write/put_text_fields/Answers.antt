-- `put_text_fields` puts the offsets' field and the texts' behind it.
use native.Mathlib.Omega.{arith}
use Rattle.writer.specs.Slots.{slot_at}
use Rattle.writer.proofs.ColumnPutLaws.{offsets_ask, second_header, texts_ask, text_fields}
use Rattle.writer.proofs.write.put_text_fields.Goals as goal

pub put_offsets-q-requires : goal.put_offsets-q-requires
put_offsets-q-requires c = (omega (arith, c.requires.0, c.requires.1), offsets_ask c.args.rows.now.rule.now c.args.rows.now.table.now (slot_at c.args.rows.now.work.now) c.args.rows.now.count c.args.text c.requires.0 c.requires.2 c.put_header-p.ensures)

pub put_header-s-requires : goal.put_header-s-requires
put_header-s-requires c = (omega (arith, second_header c.args.rows.now.rule.now c.args.rows.now.table.now (slot_at c.args.rows.now.work.now) c.args.rows.now.count c.args.text c.requires.0 c.requires.2 c.put_header-p.ensures c.put_offsets-q.ensures), omega (arith, c.requires.1))

pub put_texts-requires : goal.put_texts-requires
put_texts-requires c = (texts_ask c.args.rows.now.rule.now c.args.rows.now.table.now (slot_at c.args.rows.now.work.now) c.args.rows.now.count c.args.text c.requires.0 c.requires.2 c.put_header-p.ensures c.put_offsets-q.ensures c.put_header-s.ensures)

pub returns : goal.returns
returns c = text_fields c.args.rows.now.rule.now c.args.rows.now.table.now (slot_at c.args.rows.now.work.now) c.args.rows.now.count c.args.text c.requires.0 c.requires.2 c.put_header-p.ensures c.put_offsets-q.ensures c.put_header-s.ensures c.put_texts.ensures
