-- `compare`: the place rises to the end of the bytes by at least one a record, and the count stays below it.
use Rattle.std.proofs.Common.{length, ◌-◌, ◌≤◌}
use Rattle.rule_cases.proofs.record.compare.Given as goal

abbrev pub invariant-loop-at : goal.invariant-loop-at
invariant-loop-at l = (l.at ≤ length l.s) × (l.count ≤ l.at)

abbrev pub decreases-loop-at : goal.decreases-loop-at
decreases-loop-at l = length l.s - l.at
