-- `show`, arm by arm.
use Rattle.listing.proofs.ShownLaws.{shows_null, shows_truth, shows_int32, shows_int64, shows_float, shows_nan, shows_rule, shows_table, shows_failed}
use Rattle.listing.proofs.shown.show.Goals as goal

pub returns-in-Null : goal.returns-in-Null
returns-in-Null c = shows_null c.in-Null.is

pub returns-in-Boolean : goal.returns-in-Boolean
returns-in-Boolean c = shows_truth c.in-Boolean.is

pub returns-in-Int32 : goal.returns-in-Int32
returns-in-Int32 c = shows_int32 c.in-Int32.is c.widened.ensures c.show_integer.ensures

pub returns-in-Int64 : goal.returns-in-Int64
returns-in-Int64 c = shows_int64 c.in-Int64.is c.show_integer-in-Int64.ensures

pub returns-in-Float64 : goal.returns-in-Float64
returns-in-Float64 c = shows_float c.in-Float64.is c.float_bits.ensures

pub returns-in-Nan : goal.returns-in-Nan
returns-in-Nan c = shows_nan c.in-Nan.is

pub returns-in-RuleText : goal.returns-in-RuleText
returns-in-RuleText c = shows_rule c.in-RuleText.is

pub returns-in-TableText : goal.returns-in-TableText
returns-in-TableText c = shows_table c.in-TableText.is

pub returns-in-Failed : goal.returns-in-Failed
returns-in-Failed c = shows_failed c.in-Failed.is
