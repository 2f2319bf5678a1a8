-- The keys, or none.
use Rattle.case.proofs.CaseValueLaws.{list_rows, keys_found, keys_missed}
use Rattle.rule.proofs.WalkLaws.{end_gives}
use Rattle.case.proofs.case_values.case_keys.Goals as goal

pub lookup_values-requires : goal.lookup_values-requires
lookup_values-requires c = record { rows = list_rows c.requires; table_len_bound = c.requires.short }

pub returns-then-lookup_values : goal.returns-then-lookup_values
returns-then-lookup_values c = keys_found c.lookup_values.ensures c.if-lookup_values.true (end_gives c.field_end.ensures)

pub returns : goal.returns
returns c = keys_missed
