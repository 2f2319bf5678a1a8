use Rattle.std.proofs.Common.{arith}
use Rattle.case.proofs.RowsLaws.{row_fits}
use Rattle.case.proofs.ResultLaws.{put_known, put_behind}
use Rattle.case.proofs.results.Results.put.Goals as goal
use Rattle.case.proofs.results.Results.put.Goals.{then-j-lt258, else-j-lt258}

pub put_parts-requires-else-j-lt258 : goal.put_parts-requires-else-j-lt258
put_parts-requires-else-j-lt258 c = row_fits c.loop-i.invariant c.requires c.loop-i-test.true c.row_at-r.ensures

pub loop-i-preserved : goal.loop-i-preserved
loop-i-preserved c = elim c.if-j-lt258.branch [ then-j-lt258 w ↦ put_known c.args.self.now.kinds c.args.self.now.payloads c.args.values.now c.loop-i.invariant c.requires c.loop-i-test.true c.row_at-r.ensures w.put_parts.ensures w.work-is | else-j-lt258 w ↦ put_behind c.args.self.now.kinds c.args.self.now.payloads c.args.values.now c.loop-i.invariant c.requires c.loop-i-test.true c.row_at-r.ensures (omega arith) (omega arith) (omega (arith, w.if-j-lt258.false)) w.put_parts-else-j-lt258.ensures w.work-is ]

pub bounds-values-r : goal.bounds-values-r
bounds-values-r c = omega (arith, (row_fits c.loop-i.invariant c.requires c.loop-i-test.true c.row_at-r.ensures).0)

pub offset_bounds-values-r : goal.offset_bounds-values-r
offset_bounds-values-r c = omega (arith, (row_fits c.loop-i.invariant c.requires c.loop-i-test.true c.row_at-r.ensures).0)

pub put_parts-requires : goal.put_parts-requires
put_parts-requires c = row_fits c.loop-i.invariant c.requires c.loop-i-test.true c.row_at-r.ensures
