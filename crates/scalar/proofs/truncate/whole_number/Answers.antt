-- `whole_number` by the sign and the magnitude.
use Rattle.std.proofs.Common.{sym, arith, pow-suc}
use Rattle.scalar.proofs.TruncateLaws.{plain_fits, signed_none, signed_fits, shifted_one}
use Rattle.scalar.proofs.truncate.whole_number.Goals as goal

pub returns-then-m-limit-clause-means : goal.returns-then-m-limit-clause-means
returns-then-m-limit-clause-means c made = sym (plain_fits c.args.below made c.args.bits c.requires _ c.magnitude-m.ensures (omega arith) (omega (arith, shifted_one c.args.below c.requires)))

pub returns-then-m-eq0-clause-means : goal.returns-then-m-eq0-clause-means
returns-then-m-eq0-clause-means c made = sym (signed_none c.args.below made c.args.bits c.requires _ c.magnitude-m.ensures (omega arith) (omega arith))

pub returns-clause-means : goal.returns-clause-means
returns-clause-means c made =
    let limit = shifted_one c.args.below c.requires in
    let twice = pow-suc 2 c.args.below in
    sym (signed_fits c.args.below made c.args.bits c.requires _ _ c.magnitude-m.ensures (omega arith) (omega arith) (omega (arith, limit)) (omega (arith, limit, twice)))
