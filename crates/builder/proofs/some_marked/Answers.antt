use native.Mathlib.Omega.{arith}
use Rattle.builder.proofs.BuilderLaws.{rises_below, mark_found, mark_more, mark_none}
use Rattle.builder.proofs.some_marked.Goals as goal

pub bounds-held-row : goal.bounds-held-row
bounds-held-row c = omega (arith, rises_below c.args.rows.now 0 c.args.count c.loop-row.row-index c.requires.1 c.loop-row-test.true, c.requires.0)

pub returns-then-held-row-ne0 : goal.returns-then-held-row-ne0
returns-then-held-row-ne0 c = mark_found c.args.held.now c.args.rows.now c.loop-row.row-index c.loop-row.invariant c.loop-row-test.true c.if-held-row-ne0.true

pub loop-row-preserved : goal.loop-row-preserved
loop-row-preserved c = mark_more c.args.held.now c.args.rows.now c.loop-row.row-index c.loop-row.invariant c.loop-row-test.true c.if-held-row-ne0.false

pub returns : goal.returns
returns c = mark_none c.args.held.now c.args.rows.now c.loop-row.row-index c.loop-row.invariant c.loop-row-test.false
