use Rattle.case.proofs.RowsLaws.{row_fits, next}
use Rattle.case.proofs.rows.fill_rows.Goals as goal

pub loop-i-preserved : goal.loop-i-preserved
loop-i-preserved g c = next c.loop-i.invariant c.requires.fillable c.loop-i-test.true c.row_at-r.ensures c.put_slot.ensures c.value.ensures

pub value-requires : goal.value-requires
value-requires g c = c.requires.gives _ (row_fits c.loop-i.invariant c.requires.fillable c.loop-i-test.true c.row_at-r.ensures).0

pub put_slot-requires : goal.put_slot-requires
put_slot-requires g c =
    let fits = row_fits c.loop-i.invariant c.requires.fillable c.loop-i-test.true c.row_at-r.ensures in
    record { row_bound = fits; storable = c.requires.stores _ _ fits.0 c.value.ensures }
