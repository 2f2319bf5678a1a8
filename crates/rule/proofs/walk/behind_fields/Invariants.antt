-- `behind_fields` goes on field by field. The loop's invariant: what stands behind the fields that are left is the result.
use mathlib.Core.Path.{◌≡◌}
use Prim.Native.Nat.{◌-◌}
use Rattle.rule.specs.Walked.{behind_fields}
use Rattle.rule.proofs.walk.behind_fields.Given as goal

abbrev pub invariant-loop : goal.invariant-loop
invariant-loop l = behind_fields l.rule l.place (l.count - l.counter) ≡ behind_fields l.rule l.at l.count
