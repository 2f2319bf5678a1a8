-- The literals are read and the keys of the WHENs, and each row has its index by its column; or no row has one.
use Rattle.std.proofs.Common.{ap}
use Rattle.scalar.specs.Types.{type_number}
use Rattle.case.proofs.FrameLaws.{rows_small}
use Rattle.case.proofs.LookUpTrees.{based_by}
use Rattle.case.proofs.LookUpColumnLaws.{number_type_lem}
use Rattle.case.proofs.column_lookup.base_values.Goals as goal

pub text_column-requires : goal.text_column-requires
text_column-requires c = record { each_once = c.read.ensures.read.whens.each_once; rows = (rows_small c.requires.rows.1 c.requires.rows.0, c.requires.rows.2, ap type_number c.in-Utf8.is) }

pub returns-in-Utf8 : goal.returns-in-Utf8
returns-in-Utf8 c = based_by c.args.table.now c.read.ensures.read.literals c.read.ensures.read.whens c.args.place c.read.ensures.else_index c.text_column.ensures

pub number_column-requires : goal.number_column-requires
number_column-requires c = record { each_once = (c.args.rule.now, c.read.ensures.read.whens.each_once); rows = (c.requires.rows.0, c.requires.rows.1, c.requires.rows.2, number_type_lem c.args.place.data_type c.in_default.not-Utf8) }

pub returns-in_default : goal.returns-in_default
returns-in_default c = based_by c.args.table.now c.read.ensures.read.literals c.read.ensures.read.whens c.args.place c.read.ensures.else_index (c.number_column.ensures c.args.rule.now)
