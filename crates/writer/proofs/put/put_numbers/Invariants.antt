-- `put_numbers` puts the rows' numbers. The loop's invariant: so far they are there, whatever numbers the calls give.
use mathlib.Core.Path.{◌≡◌}
use Prim.Native.Nat.{ℕ, ◌+◌, ◌*◌}
use Rattle.writer.specs.Writing.{Gives, width_of, plain_numbers}
use Rattle.writer.proofs.WroteLaws.{SoFar}
use Rattle.writer.proofs.put.put_numbers.Given as goal

abbrev pub invariant-loop-i : goal.invariant-loop-i
invariant-loop-i g l =
    (l.p ≡ l.at + width_of l.wide * l.i)
    × ((numbers : ℕ → ℕ) → Gives (λ i r. goal.F-post g l.number i r) numbers l.rows → SoFar (plain_numbers l.wide numbers) l.initial.output l.at l.rows l.i l.p l.output)
