use borrow.Author.Rules.{rules}
use native.Mathlib.Omega.{arith}
use lib.ListN.{length-append}
use Rattle.std.proofs.lemmas.Slice.Zip.{zip_turn, zip_end}
use Rattle.builder.proofs.BuilderLaws.{rises_below, count_few, holds_more, holds_all, holding_is}
use Rattle.builder.proofs.ResultBuilder.hold.Goals as goal

pub bounds-self-row : goal.bounds-self-row
bounds-self-row c =
    let turn = zip_turn c.args.rows.now c.args.values.now c.loop-row.yielded _ c.loop-row.row-iterator c.next.new.self c.next.result (search rules) (search rules) c.loop-row.yielded_by _ c.in-Some.is c.next.ensures.steps in
    omega (arith, turn.2 0, rises_below c.args.rows.now 0 c.args.count _ c.requires.1 turn.0, count_few c.args.self.now c.args.count c.requires.0)

pub bounds-self-row-in-loop-row : goal.bounds-self-row-in-loop-row
bounds-self-row-in-loop-row = bounds-self-row

pub loop-row-preserved : goal.loop-row-preserved
loop-row-preserved c =
    let turn = zip_turn c.args.rows.now c.args.values.now c.loop-row.yielded _ c.loop-row.row-iterator c.next.new.self c.next.result (search rules) (search rules) c.loop-row.yielded_by _ c.in-Some.is c.next.ensures.steps in
    (c.loop-row.invariant.0, holds_more c.loop-row.invariant.1 turn.0 c.requires.2 (length-append c.loop-row.yielded _) (turn.2 0) (turn.3 0))

pub returns : goal.returns
returns c =
    let ends = zip_end c.args.rows.now c.args.values.now c.loop-row.yielded _ c.loop-row.row-iterator c.next.new.self c.next.result (search rules) (search rules) c.loop-row.yielded_by c.in-None.is c.next.ensures.steps in
    holding_is c.args.self.now c.loop-row.self c.args.rows.now c.args.values.now c.loop-row.invariant.0.0 c.loop-row.invariant.0.1 c.loop-row.invariant.0.2 (holds_all c.loop-row.invariant.1 (omega (arith, ends, c.requires.2)))
