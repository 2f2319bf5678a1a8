-- `int32_keys` gives each row its number: the sign is turned. The loop's invariant: the first rows have theirs.
use Rattle.scalar.specs.declared.types.DataType.TheVariants.{Int32}
use Rattle.case.specs.Steps.{KeysAt}
use Rattle.case.proofs.keys.int32_keys.Given as goal

abbrev pub invariant-loop-i : goal.invariant-loop-i
invariant-loop-i l = KeysAt Int32 l.values l.i l.keys
