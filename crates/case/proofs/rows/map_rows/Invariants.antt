-- `map_rows` puts the values in the slots of the rows of a list. The loop's invariant: so far they are there.
use Rattle.std.proofs.Common.{ℕ}
use Rattle.scalar.specs.declared.value.Value.{Value}
use Rattle.case.specs.Frame.{slot_at}
use Rattle.case.proofs.RowsLaws.{FilledFromSoFar}
use Rattle.case.proofs.rows.map_rows.Given as goal

abbrev pub invariant-loop-i : goal.invariant-loop-i
invariant-loop-i g l = FilledFromSoFar l.at (λ (r : ℕ) (x : Value). goal.F-post g l.value (slot_at l.initial.work r) r x) l.initial.work l.n l.i l.work
