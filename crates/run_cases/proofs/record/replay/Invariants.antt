-- `replay`: what is left of the bytes falls by at least one a case, and the buffers keep their lengths.
use Rattle.std.proofs.Common.{length, ◌+◌, ◌≡◌, ◌≤◌}
use Rattle.run_cases.proofs.record.replay.Given as goal

abbrev pub invariant-loop-rest : goal.invariant-loop-rest
invariant-loop-rest l =
    (l.t.total + length l.rest ≤ length l.s) × (l.t.agree ≤ l.t.total)
    × (length l.work ≡ length l.initial.work) × (length l.output ≡ length l.initial.output) × (length l.lines ≡ length l.initial.lines)

abbrev pub decreases-loop-rest : goal.decreases-loop-rest
decreases-loop-rest l = length l.rest
