-- `may_class` looks at THEN by THEN, and promises nothing. The loop's invariant: the index is not 0.
use Rattle.std.proofs.Common.{◌≤◌}
use Rattle.case.proofs.nested.may_class.Given as goal

abbrev pub invariant-loop-k : goal.invariant-loop-k
invariant-loop-k l = 1 ≤ l.k
