-- The least second byte, by the first.
use native.Mathlib.Omega.{arith}
use Rattle.utf8.proofs.SequenceLaws.{least-E0, least-F0, least_other}
use Rattle.utf8.proofs.sequence.second_least.Goals as goal

pub returns-in-224 : goal.returns-in-224
returns-in-224 c = least-E0 c.args.first c.in-224.is

pub returns-in-240 : goal.returns-in-240
returns-in-240 c = least-F0 c.args.first c.in-240.is

pub returns-in_default : goal.returns-in_default
returns-in_default c = least_other c.args.first ((tt, λ e. omega arith), λ e. omega arith)
