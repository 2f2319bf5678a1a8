-- `index_rows` gives each row its index. The loop's invariant: the first rows have theirs.
use Rattle.std.proofs.Common.{◌≡◌, ℕ}
use Rattle.case.specs.Steps.{row_span, RowsIndexed}
use Rattle.case.proofs.steps.Spans.index_rows.Given as goal

abbrev pub invariant-loop-i : goal.invariant-loop-i
invariant-loop-i l = RowsIndexed (λ (r c : ℕ). c ≡ row_span l.numbers l.validity l.self.lows l.self.highs l.self.count r) l.work l.at l.i l.indices
