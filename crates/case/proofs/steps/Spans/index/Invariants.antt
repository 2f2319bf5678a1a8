-- `index` returns at the first span that the number lies in. The loop's invariant: what is left gives the answer.
use Rattle.std.proofs.Common.{ℕ, ◌+◌, get_or}
use Rattle.case.specs.Steps.{in_span}
use Rattle.case.proofs.LookUpLaws.{Searching}
use Rattle.case.proofs.steps.Spans.index.Given as goal

abbrev pub invariant-loop-span : goal.invariant-loop-span
invariant-loop-span l = Searching (λ (i : ℕ). in_span (get_or l.self.lows i 0) (get_or l.self.highs i 0) l.x) (λ (i : ℕ). i + 1) l.self.count (l.self.count + 1) l.span
