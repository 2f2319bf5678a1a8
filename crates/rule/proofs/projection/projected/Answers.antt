use mathlib.Core.Path.{refl}
use mathlib.Core.Logic.{inl, inr}
use native.Mathlib.Omega.{arith}
use Rattle.rule.proofs.ProjectionLaws.{projecting_none, projecting_room, projecting_goes, projecting_ends}
use Rattle.rule.proofs.projection.projected.Goals as goal
use Rattle.rule.proofs.projection.projected.Goals.{then-seen-i-ne0, else-seen-i-ne0}

pub loop-i-init : goal.loop-i-init
loop-i-init c = projecting_none c.args.seen.marks

pub bounds-columns-count : goal.bounds-columns-count
bounds-columns-count c = projecting_room c.args.seen.marks c.loop-i.i c.loop-i.count c.loop-i.columns c.loop-i.invariant (omega arith)

pub overflow_add-count : goal.overflow_add-count
overflow_add-count c = let r = projecting_room c.args.seen.marks c.loop-i.i c.loop-i.count c.loop-i.columns c.loop-i.invariant (omega arith) in omega arith

pub loop-i-preserved : goal.loop-i-preserved
loop-i-preserved c = projecting_goes c.args.seen.marks c.loop-i.i c.loop-i.count c.loop-i.columns c.loop-i.invariant (omega arith) (elim c.if-seen-i-ne0.branch [ then-seen-i-ne0 w ↦ inl (w.if-seen-i-ne0.true, w.columns-is, w.count-is) | else-seen-i-ne0 w ↦ inr (w.if-seen-i-ne0.false, w.columns-is, w.count-is) ])

pub returns : goal.returns
returns c = λ cols s. projecting_ends c.args.seen.marks cols c.args.seen c.loop-i.i c.loop-i.count c.loop-i.columns refl s c.loop-i.invariant (omega arith)
