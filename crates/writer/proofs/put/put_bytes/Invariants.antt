-- `put_bytes` copies the bytes to their place. The loop's invariant: so far they are copied.
use Rattle.writer.proofs.WroteLaws.{PastedSoFar}
use Rattle.writer.proofs.put.put_bytes.Given as goal

abbrev pub invariant-loop-i : goal.invariant-loop-i
invariant-loop-i l = PastedSoFar l.initial.output l.at l.bytes l.i l.output
