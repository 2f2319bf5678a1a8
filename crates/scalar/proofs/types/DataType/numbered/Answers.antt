-- `type_numbered` gives the type of a number, or that it has none, arm by arm.
use borrow.Author.Rules.{rules}
use Rattle.scalar.specs.declared.types.DataType.TheVariants.{Boolean, Int32, Int64, Float64, Utf8}
use Rattle.scalar.proofs.TypeLaws.{has_type, no_type}
use Rattle.scalar.proofs.types.DataType.numbered.Goals as goal

pub returns-in-1 : goal.returns-in-1
returns-in-1 c = has_type c.args.number Boolean c.in-1.is

pub returns-in-2 : goal.returns-in-2
returns-in-2 c = has_type c.args.number Int32 c.in-2.is

pub returns-in-3 : goal.returns-in-3
returns-in-3 c = has_type c.args.number Int64 c.in-3.is

pub returns-in-4 : goal.returns-in-4
returns-in-4 c = has_type c.args.number Float64 c.in-4.is

pub returns-in-5 : goal.returns-in-5
returns-in-5 c = has_type c.args.number Utf8 c.in-5.is

pub returns-in_default : goal.returns-in_default
returns-in_default c = no_type c.args.number (search rules)
