use Rattle.std.proofs.Common.{◌∙◌, subst, arith}
use Rattle.scalar.specs.declared.value.Value.{Value}
use Rattle.case.proofs.RowsLaws.{ends, row_fits_from, slot_fresh_from, next_from}
use Rattle.case.proofs.rows.map_rows.Goals as goal

pub loop-i-preserved : goal.loop-i-preserved
loop-i-preserved g c = next_from c.loop-i.invariant c.requires.fillable c.loop-i-test.true c.row_at-r.ensures c.put_slot.ensures (subst (λ (x : Value). goal.F-post g c.args.value x c.row_at-r.result c.value.result) (c.get_slot-v.ensures.0 ∙ slot_fresh_from c.loop-i.invariant c.requires.fillable c.loop-i-test.true c.row_at-r.ensures) c.value.ensures)

pub returns : goal.returns
returns g c = ends c.loop-i.invariant (omega arith)

pub value-requires : goal.value-requires
value-requires g c = c.requires.gives _ _ c.get_slot-v.ensures.1 (row_fits_from c.loop-i.invariant c.requires.fillable c.loop-i-test.true c.row_at-r.ensures).0

pub put_slot-requires : goal.put_slot-requires
put_slot-requires g c =
    let fits = row_fits_from c.loop-i.invariant c.requires.fillable c.loop-i-test.true c.row_at-r.ensures in
    record { row_bound = fits; storable = c.requires.stores _ _ _ c.get_slot-v.ensures.1 fits.0 c.value.ensures }

pub get_slot-v-requires : goal.get_slot-v-requires
get_slot-v-requires g c = row_fits_from c.loop-i.invariant c.requires.fillable c.loop-i-test.true c.row_at-r.ensures
