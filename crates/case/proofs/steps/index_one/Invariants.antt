-- `index_one` gives each row its index. The loop's invariant: the first rows have theirs.
use Rattle.std.proofs.Common.{◌≡◌, ℕ}
use Rattle.case.specs.Steps.{one_span, RowsIndexed}
use Rattle.case.proofs.steps.index_one.Given as goal

abbrev pub invariant-loop-i : goal.invariant-loop-i
invariant-loop-i l = RowsIndexed (λ (r c : ℕ). c ≡ one_span l.numbers l.validity l.low l.high r) l.work l.at l.i l.indices
