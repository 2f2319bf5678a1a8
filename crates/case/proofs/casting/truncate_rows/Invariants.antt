-- `truncate_rows` casts the floats of the first rows. The loop's invariant: so far they are cast.
use Rattle.std.proofs.Common.{ℕ}
use Rattle.scalar.specs.declared.value.Value.{Value}
use Rattle.scalar.specs.Value.{Gives}
use Rattle.case.specs.Frame.{slot_at, operation_of}
use Rattle.case.specs.Casting.{cast_to, integer_type}
use Rattle.case.proofs.RowsLaws.{FilledSoFar}
use Rattle.case.proofs.casting.truncate_rows.Given as goal

abbrev pub invariant-loop-i : goal.invariant-loop-i
invariant-loop-i l = FilledSoFar (λ (r : ℕ) (x : Value). Gives (operation_of (cast_to l.tried (integer_type l.short))) (slot_at l.initial.work r) x) l.initial.work l.n l.i l.work
