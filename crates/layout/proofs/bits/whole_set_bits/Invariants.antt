-- `whole_set_bits` counts words, then the bytes behind them. Assumes nothing.
use mathlib.Core.Path.{◌≡◌}
use Prim.Native.Nat.{◌*◌, ◌≤◌}
use Rattle.layout.specs.Bytes.{set_bits}
use Rattle.layout.proofs.bits.whole_set_bits.Given as goal

abbrev pub invariant-loop-i : goal.invariant-loop-i
invariant-loop-i l = (l.sum ≡ set_bits l.map (8 * l.i)) × (l.sum ≤ 8 * l.i)
