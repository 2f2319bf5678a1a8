-- `int64_keys` gives each row its number: the sign is turned. The loop's invariant: the first rows have theirs.
use Rattle.scalar.specs.declared.types.DataType.TheVariants.{Int64}
use Rattle.case.specs.Steps.{KeysAt}
use Rattle.case.proofs.keys.int64_keys.Given as goal

abbrev pub invariant-loop-i : goal.invariant-loop-i
invariant-loop-i l = KeysAt Int64 l.values l.i l.keys
