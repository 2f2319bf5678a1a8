-- `put_values`, type by type.
use mathlib.Core.Path.{refl}
use mathlib.Core.Bool.{true, false}
use mathlib.Core.Logic.{⊎_elim}
use Prim.Native.Nat.{◌+◌, ◌*◌, ◌≤◌}
use lib.ListN.{length}
use Rattle.writer.proofs.ColumnPutLaws.{values_room, numbers_ask}
use Rattle.writer.proofs.write.put_values.Goals as goal

pub put_number_field-requires : goal.put_number_field-requires
put_number_field-requires c = numbers_ask false c.args.rows.now.work.now c.args.rows.now.count c.args.at (4 * c.args.rows.now.count) _ c.args.rows.now.few refl (values_room c.args.at c.args.rows.now.count c.args.text _ c.in-Int32.is c.requires.2)

pub put_number_field-requires-in-Int64 : goal.put_number_field-requires-in-Int64
put_number_field-requires-in-Int64 c =
    let room : c.args.at + (3 + 8 * c.args.rows.now.count) ≤ length c.args.output.now =
    ⊎_elim (λ e. values_room c.args.at c.args.rows.now.count c.args.text _ e c.requires.2) (λ e. values_room c.args.at c.args.rows.now.count c.args.text _ e c.requires.2) c.in-Int64.is in
    numbers_ask true c.args.rows.now.work.now c.args.rows.now.count c.args.at (8 * c.args.rows.now.count) _ c.args.rows.now.few refl room
