-- The value of a kind and a payload, arm by arm.
use borrow.Author.Rules.{rules}
use Rattle.std.proofs.Common.{sym}
use Rattle.scalar.specs.Value.{value_of}
use Rattle.scalar.proofs.ValueLaws.{other_kind}
use Rattle.scalar.proofs.value.value_of.Goals as goal

pub returns-in-0 : goal.returns-in-0
unfolding value_of
returns-in-0 c = rw c.in-0.is

pub returns-in-1 : goal.returns-in-1
unfolding value_of
returns-in-1 c = rw c.in-1.is

pub returns-in-2 : goal.returns-in-2
unfolding value_of
returns-in-2 c = rw c.in-2.is

pub returns-in-3 : goal.returns-in-3
unfolding value_of
returns-in-3 c = rw c.in-3.is

pub returns-in-4 : goal.returns-in-4
unfolding value_of
returns-in-4 c = rw c.in-4.is c.float_value.ensures

pub returns-in-5 : goal.returns-in-5
unfolding value_of
returns-in-5 c = rw c.in-5.is

pub returns-in-6 : goal.returns-in-6
unfolding value_of
returns-in-6 c = rw c.in-6.is

pub returns-in_default : goal.returns-in_default
returns-in_default c = sym (other_kind c.args.kind c.args.payload (search rules))
