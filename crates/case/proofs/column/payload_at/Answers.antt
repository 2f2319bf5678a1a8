-- `payload_at` goes by the type.
use Rattle.std.proofs.Common.{◌∙◌}
use Rattle.scalar.proofs.TypeLaws.{boolean_mark}
use Rattle.case.proofs.ColumnSlotLaws.{boolean_payload, int32_payload, int64_payload, float64_payload}
use Rattle.case.proofs.column.payload_at.Goals as goal

pub returns-in-Boolean : goal.returns-in-Boolean
returns-in-Boolean c = boolean_payload c.args.kind c.args.values.now c.args.row c.from.result c.bit_at.result c.in-Boolean.is c.bit_at.ensures (c.from.ensures ∙ boolean_mark c.bit_at.result)

pub returns-in-Int32 : goal.returns-in-Int32
returns-in-Int32 c = int32_payload c.args.kind c.args.values.now c.args.row c.row_u32.result c.in-Int32.is c.row_u32.ensures c.row_u32.type_inv

pub returns-in-Int64 : goal.returns-in-Int64
returns-in-Int64 c = int64_payload c.args.kind c.args.values.now c.args.row c.row_u64.result c.in-Int64.is c.row_u64.ensures

pub returns-in-Float64 : goal.returns-in-Float64
returns-in-Float64 c = float64_payload c.args.kind c.args.values.now c.args.row c.row_u64-in-Float64.result c.in-Float64.is c.row_u64-in-Float64.ensures c.row_u64-in-Float64.type_inv
