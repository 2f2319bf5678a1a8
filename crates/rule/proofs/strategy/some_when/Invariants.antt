-- `some_when` goes from branch to branch. The loop's invariant: some WHEN of the branches that are left isn't null if one of all isn't.
use mathlib.Core.Path.{◌≡◌}
use Prim.Native.Nat.{◌-◌}
use Rattle.rule.specs.WalkedStrategy.{when_there}
use Rattle.rule.proofs.strategy.some_when.Given as goal

abbrev pub invariant-loop : goal.invariant-loop
invariant-loop l = when_there l.rule l.place (l.count - l.counter) ≡ when_there l.rule l.at l.count
