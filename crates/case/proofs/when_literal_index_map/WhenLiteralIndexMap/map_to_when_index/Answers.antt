-- `map_to_when_index` searches a number by kind and payload and a text by its bytes; null has the ELSE index, a failure the one behind it.
use Rattle.std.proofs.Common.{rules}
use Rattle.case.proofs.LookUpLaws.{null_index, rule_text_index, table_text_index, failed_index, number_index_lem}
use Rattle.case.proofs.when_literal_index_map.WhenLiteralIndexMap.map_to_when_index.Goals as goal

pub returns-in-Null : goal.returns-in-Null
returns-in-Null c = null_index c.args.rule.now c.args.table.now c.args.self.now.whens c.in-Null.is

pub returns-in-RuleText : goal.returns-in-RuleText
returns-in-RuleText c = rule_text_index c.args.rule.now c.args.table.now c.args.self.now.whens c.in-RuleText.is c.place_text.ensures c.find_text.ensures

pub returns-in-TableText : goal.returns-in-TableText
returns-in-TableText c = table_text_index c.args.rule.now c.args.table.now c.args.self.now.whens c.in-TableText.is c.place_text-in-TableText.ensures c.find_text-in-TableText.ensures

pub returns-in-Failed : goal.returns-in-Failed
returns-in-Failed c = failed_index c.args.rule.now c.args.table.now c.args.self.now.whens c.in-Failed.is

pub returns-in_default : goal.returns-in_default
returns-in_default c = number_index_lem c.args.rule.now c.args.table.now c.args.self.now.whens c.args.v (search rules) c.kind.ensures c.payload.ensures c.find_number.ensures
