-- `some_of_kind` finds a row of a kind. The loop's invariant: there was none so far.
use lib.Dec.{eqb}
use Rattle.scalar.specs.Value.{kind_of}
use Rattle.writer.specs.Slots.{slot_at}
use Rattle.writer.proofs.RowKindLaws.{NoneSoFar}
use Rattle.writer.proofs.write.some_of_kind.Given as goal

abbrev pub invariant-loop-i : goal.invariant-loop-i
invariant-loop-i l = NoneSoFar (λ r. eqb (kind_of (slot_at l.rows.work.now r)) l.k) l.rows.count l.i
