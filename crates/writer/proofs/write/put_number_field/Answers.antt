-- `put_number_field` puts a header and the numbers behind it.
use borrow.Author.Rules.{rules}
use mathlib.Core.Path.{sym}
use native.Mathlib.Omega.{arith}
use Prim.Native.Nat.{ℕ}
use Rattle.writer.specs.Slots.{slot_at}
use Rattle.writer.specs.Writing.{row_bytes, number_of, row_numbers}
use Rattle.writer.proofs.WroteLaws.{wrote_field}
use Rattle.writer.proofs.ColumnPutLaws.{content_room, numbers_size}
use Rattle.writer.proofs.write.put_number_field.Goals as goal

pub put_numbers-requires-clause-room : goal.put_numbers-requires-clause-room
put_numbers-requires-clause-room c =
    let v = slot_at c.args.rows.now.work.now in
    omega (arith, content_room c.args.size c.args.size (row_bytes (row_numbers c.args.wide v) c.args.rows.now.count) c.put_header-p.ensures (sym c.requires.0) c.requires.2, numbers_size c.args.wide v c.args.rows.now.count)

pub returns : goal.returns
returns c =
    let put = c.put_numbers.ensures (λ (i : ℕ). number_of (slot_at c.args.rows.now.work.now i)) (record { numbers_are = λ i r h p. search rules }) in
    wrote_field c.requires.0 c.put_header-p.ensures put
