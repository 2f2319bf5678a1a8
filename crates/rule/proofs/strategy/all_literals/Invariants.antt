-- `all_literals` goes from field to field. The loop's invariant: the fields that are left are all literals if all are.
use mathlib.Core.Path.{◌≡◌}
use Prim.Native.Nat.{◌-◌}
use Rattle.rule.specs.WalkedStrategy.{literals_there}
use Rattle.rule.proofs.strategy.all_literals.Given as goal

abbrev pub invariant-loop : goal.invariant-loop
invariant-loop l = literals_there l.rule l.place (l.count - l.counter) ≡ literals_there l.rule l.at l.count
