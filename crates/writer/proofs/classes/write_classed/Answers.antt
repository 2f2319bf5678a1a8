-- `write_classed` gives 17, or puts the front and the numbers.
use borrow.Author.Rules.{rules}
use native.Mathlib.Omega.{arith}
use Rattle.writer.specs.Write.{class_payload}
use Rattle.writer.proofs.PlainLaws.{classes_plain, class_fits, wide_is, plain_17, plain_room, plain_answer}
use Rattle.writer.proofs.classes.write_classed.Goals as goal

pub returns-then-output-size : goal.returns-then-output-size
returns-then-output-size c = plain_17 (classes_plain c.requires) (class_payload c.args.classes.now c.args.payloads.now) (class_fits c.args.classes.now c.args.payloads.now (λ i. omega (arith, c.type_inv.payloads i))) c.args.nullable c.column_size-size.ensures c.if-output-size.true

pub put_numbers-end-requires-clause-room : goal.put_numbers-end-requires-clause-room
put_numbers-end-requires-clause-room c = plain_room (classes_plain c.requires) (class_payload c.args.classes.now c.args.payloads.now) (class_fits c.args.classes.now c.args.payloads.now (λ i. omega (arith, c.type_inv.payloads i))) c.args.nullable c.column_size-size.ensures c.if-output-size.false c.plain_front-p.ensures (wide_is c.args.t c.number-wide.ensures)

pub returns : goal.returns
returns c =
    let payload = class_payload c.args.classes.now c.args.payloads.now in
    let put = c.put_numbers-end.ensures payload (record { numbers_are = λ i r h p. search rules }) in
    plain_answer (classes_plain c.requires) payload (class_fits c.args.classes.now c.args.payloads.now (λ i. omega (arith, c.type_inv.payloads i))) c.args.nullable c.column_size-size.ensures c.if-output-size.false c.plain_front-p.ensures (wide_is c.args.t c.number-wide.ensures) put
