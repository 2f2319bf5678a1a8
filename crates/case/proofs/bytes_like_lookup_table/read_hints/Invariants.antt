-- `read_hints` goes key by key. The loop's invariant: the keys passed have left their hints.
use Rattle.std.proofs.Common.{ℕ}
use Rattle.scalar.specs.Value.{meaning}
use Rattle.case.specs.LookUpTables.{value_at}
use Rattle.case.specs.LookUpColumns.{outcome_hint, Hinted}
use Rattle.case.proofs.bytes_like_lookup_table.read_hints.Given as goal

abbrev pub invariant-loop-k : goal.invariant-loop-k
invariant-loop-k l = Hinted (λ (j : ℕ). outcome_hint (meaning l.rule l.table (value_at l.whens.kinds l.whens.keys j))) l.k l.hints
