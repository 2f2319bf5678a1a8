use Rattle.std.proofs.Common.{◌≡◌, sym, ◌∙◌, arith}
use Rattle.case.proofs.SplitLaws.{split_ends, split_fits, stay_in, slots_kept, split_stays, split_leaves}
use Rattle.case.proofs.settle.split.Goals as goal
use Rattle.case.proofs.settle.split.Goals.{then-class-eq0, else-class-eq0}

pub loop-i-preserved : goal.loop-i-preserved
loop-i-preserved g c =
    let kept = slots_kept c.loop-i.invariant c.requires.rows c.requires.in_bounds c.loop-i-test.true c.row_at-r.ensures in
    let is : c.class_of-class.result ≡ g.L.Leaving.class c.args.leaving.now c.args.work.now c.row_at-r.result =
    ◌∙◌ {b = g.L.Leaving.class c.args.leaving.now c.loop-i.work c.row_at-r.result} c.class_of-class.ensures
    (g.met.L.Leaving.by_slots c.args.leaving.now c.args.work.now c.loop-i.work c.row_at-r.result kept.0 kept.1) in
    elim c.if-class-eq0.branch [ then-class-eq0 w ↦ split_stays c.loop-i.invariant c.requires.rows c.requires.in_bounds c.loop-i-test.true c.row_at-r.ensures w.put_row.ensures (sym is ∙ w.if-class-eq0.true) w.work-is w.rows-is w.values-is w.m-is | else-class-eq0 w ↦ split_leaves c.loop-i.invariant c.requires.rows c.requires.in_bounds c.loop-i-test.true c.row_at-r.ensures is w.if-class-eq0.false (omega arith) (omega arith) w.work-is w.rows-is w.values-is w.m-is ]

pub returns : goal.returns
returns g c = split_ends c.loop-i.invariant c.requires.rows (omega arith)

pub overflow_cast-rows : goal.overflow_cast-rows
overflow_cast-rows g c = omega (arith, (split_fits c.loop-i.invariant c.requires.rows c.requires.in_bounds c.loop-i-test.true c.row_at-r.ensures).0)

pub class_of-class-requires : goal.class_of-class-requires
class_of-class-requires g c = split_fits c.loop-i.invariant c.requires.rows c.requires.in_bounds c.loop-i-test.true c.row_at-r.ensures

pub put_row-requires : goal.put_row-requires
put_row-requires g c = stay_in c.loop-i.invariant c.requires.rows c.requires.in_bounds c.loop-i-test.true c.row_at-r.ensures
