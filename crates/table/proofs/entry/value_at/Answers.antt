-- A row's value, type by type.
use Rattle.table.proofs.EntryLaws.{boolean_value, int32_value, int64_value, float_value_lem}
use Rattle.table.proofs.entry.value_at.Goals as goal

pub returns-in-Boolean : goal.returns-in-Boolean
returns-in-Boolean c = boolean_value c.args.bytes.now c.args.place c.args.row c.args.place.data_type c.part_of-values.result.now c.part_of-values.ensures c.bit_at.result c.in-Boolean.is c.bit_at.ensures

pub returns-in-Int32 : goal.returns-in-Int32
returns-in-Int32 c = int32_value c.args.bytes.now c.args.place c.args.row c.args.place.data_type c.part_of-values.result.now c.part_of-values.ensures c.row_u32.result c.in-Int32.is c.row_u32.ensures

pub returns-in-Int64 : goal.returns-in-Int64
returns-in-Int64 c = int64_value c.args.bytes.now c.args.place c.args.row c.args.place.data_type c.part_of-values.result.now c.part_of-values.ensures c.row_u64.result c.in-Int64.is c.row_u64.ensures

pub returns-in-Float64 : goal.returns-in-Float64
returns-in-Float64 c = float_value_lem c.args.bytes.now c.args.place c.args.row c.args.place.data_type c.part_of-values.result.now c.part_of-values.ensures c.row_u64-in-Float64.result c.float_value.result c.in-Float64.is c.row_u64-in-Float64.ensures c.float_value.ensures
