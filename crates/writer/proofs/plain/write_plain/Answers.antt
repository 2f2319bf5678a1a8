-- `write_plain` gives 17, or puts the front and the payloads.
use borrow.Author.Rules.{rules}
use Rattle.writer.specs.Write.{slot_payload}
use Rattle.writer.proofs.PlainLaws.{slot_fits_lem, wide_is, plain_17, plain_room, plain_answer}
use Rattle.writer.proofs.plain.write_plain.Goals as goal

pub returns-then-output-size : goal.returns-then-output-size
returns-then-output-size c = plain_17 c.requires (slot_payload c.args.rows.now.work.now) (slot_fits_lem c.args.rows.now.work.now c.args.rows.now.bytes) c.args.nullable c.column_size-size.ensures c.if-output-size.true

pub put_numbers-end-requires-clause-room : goal.put_numbers-end-requires-clause-room
put_numbers-end-requires-clause-room c = plain_room c.requires (slot_payload c.args.rows.now.work.now) (slot_fits_lem c.args.rows.now.work.now c.args.rows.now.bytes) c.args.nullable c.column_size-size.ensures c.if-output-size.false c.plain_front-p.ensures (wide_is c.args.t c.number-wide.ensures)

pub returns : goal.returns
returns c =
    let payload = slot_payload c.args.rows.now.work.now in
    let put = c.put_numbers-end.ensures payload (record { numbers_are = λ i r h p. search rules }) in
    plain_answer c.requires payload (slot_fits_lem c.args.rows.now.work.now c.args.rows.now.bytes) c.args.nullable c.column_size-size.ensures c.if-output-size.false c.plain_front-p.ensures (wide_is c.args.t c.number-wide.ensures) put
