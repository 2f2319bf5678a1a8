-- The greatest second byte, by the first.
use native.Mathlib.Omega.{arith}
use Rattle.utf8.proofs.SequenceLaws.{greatest-ED, greatest-F4, greatest_other}
use Rattle.utf8.proofs.sequence.second_greatest.Goals as goal

pub returns-in-237 : goal.returns-in-237
returns-in-237 c = greatest-ED c.args.first c.in-237.is

pub returns-in-244 : goal.returns-in-244
returns-in-244 c = greatest-F4 c.args.first c.in-244.is

pub returns-in_default : goal.returns-in_default
returns-in_default c = greatest_other c.args.first ((tt, λ e. omega arith), λ e. omega arith)
