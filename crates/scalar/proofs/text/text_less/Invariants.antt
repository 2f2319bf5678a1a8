-- `text_less` says whether a text is less. The loop's invariant: what is left of both from `i` on decides. Assumes nothing.
use Rattle.std.proofs.Common.{◌≡◌, ◌≤◌, length, drop}
use Rattle.scalar.specs.Text.{text_less}
use Rattle.scalar.proofs.text.text_less.Given as goal

abbrev pub invariant-loop-i : goal.invariant-loop-i
invariant-loop-i l = (l.i ≤ length l.b) × (text_less l.a l.b ≡ text_less (drop l.i l.a) (drop l.i l.b))
