use Rattle.std.proofs.Common.{ℕ, refl, arith}
use Rattle.scalar.specs.Value.{meaning}
use Rattle.case.specs.LookUpTables.{value_at}
use Rattle.case.specs.LookUpColumns.{outcome_hint}
use Rattle.case.proofs.LookUpColumnLaws.{hints_none, hints_all}
use Rattle.case.proofs.LookUpTrees.{zeros}
use Rattle.case.proofs.bytes_like_lookup_table.read_hints.Goals as goal

pub loop-k-init : goal.loop-k-init
loop-k-init c = hints_none {hint = λ (j : ℕ). outcome_hint (meaning c.args.rule.now c.args.table.now (value_at c.args.whens.now.kinds c.args.whens.now.keys j))} refl (zeros 256)

pub returns : goal.returns
returns c = hints_all (omega arith) (omega arith) c.loop-k.invariant
