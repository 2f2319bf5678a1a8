-- `copy_slots` puts the next frame's values in the slots of its listed rows. The loop's invariant: so far it is there.
use Rattle.std.proofs.Common.{◌≡◌, ℕ}
use Rattle.case.proofs.RowsLaws.{FilledFromSoFar}
use Rattle.case.specs.Frame.{next_slot}
use Rattle.scalar.specs.declared.value.Value.{Value}
use Rattle.case.proofs.taking.copy_slots.Given as goal

abbrev pub invariant-loop-i : goal.invariant-loop-i
invariant-loop-i l = FilledFromSoFar 6656 (λ (r : ℕ) (v : Value). v ≡ next_slot l.initial.work r) l.initial.work l.m l.i l.work
