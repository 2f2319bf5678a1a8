-- `cut_keys` gives each row its number. The loop's invariant: the first rows have theirs.
use Rattle.case.specs.Steps.{KeysAt}
use Rattle.case.proofs.keys.cut_keys.Given as goal

abbrev pub invariant-loop-i : goal.invariant-loop-i
invariant-loop-i l = KeysAt l.kind l.values l.i l.keys
