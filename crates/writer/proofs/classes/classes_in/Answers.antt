use mathlib.Core.Path.{ap, ◌∙◌}
use Prim.Native.Nat.{max}
use native.Mathlib.Omega.{arith}
use lib.ListN.{length-take}
use lib.Seq.{get_or-take}
use Rattle.writer.proofs.FitLaws.{most_more, most_tells}
use Rattle.writer.proofs.classes.classes_in.Goals as goal

pub loop-class-preserved : goal.loop-class-preserved
loop-class-preserved c =
    let h = c.loop-class-test.true in
    let item = get_or-take c.args.rows c.args.classes.now c.loop-class.class-index 0 (omega (arith, h, length-take c.args.rows c.args.classes.now)) in
    most_more c.loop-class.invariant (c.max-most.ensures ∙ ap (max c.loop-class.most) item)

pub returns : goal.returns
returns c = most_tells c.loop-class.invariant (omega (arith, c.requires, c.loop-class-test.false, c.loop-class.auto.class-index-end, length-take c.args.rows c.args.classes.now))
