-- `literal_results` looks at THEN by THEN, and promises nothing.
use Rattle.case.proofs.nested.literal_results.Given as goal

abbrev pub invariant-loop-k : goal.invariant-loop-k
invariant-loop-k l = Unit {0}
