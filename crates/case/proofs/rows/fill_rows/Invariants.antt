-- `fill_rows` puts the values in the slots of the listed rows. The loop's invariant: so far they are there.
use Rattle.std.proofs.Common.{ℕ}
use Rattle.scalar.specs.declared.value.Value.{Value}
use Rattle.case.proofs.RowsLaws.{FilledSoFar}
use Rattle.case.proofs.rows.fill_rows.Given as goal

abbrev pub invariant-loop-i : goal.invariant-loop-i
invariant-loop-i g l = FilledSoFar (λ (r : ℕ) (x : Value). goal.F-post g l.value r x) l.initial.work l.n l.i l.work
