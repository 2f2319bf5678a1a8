-- A row's number, type by type.
use Rattle.std.proofs.Common.{sym, ap}
use Rattle.scalar.specs.Types.{mark_number}
use Rattle.case.proofs.KeyLaws.{key_boolean, key_int32, key_int64, key_float64}
use Rattle.case.proofs.keys.key_at.Goals as goal

pub returns-then-bit_at : goal.returns-then-bit_at
returns-then-bit_at c = key_boolean c.in-Boolean.is c.bit_at.ensures (ap mark_number (sym c.if-bit_at.true))

pub returns-else-bit_at : goal.returns-else-bit_at
returns-else-bit_at c = key_boolean c.in-Boolean.is c.bit_at.ensures (ap mark_number (sym c.if-bit_at.false))

pub returns-in-Int32 : goal.returns-in-Int32
returns-in-Int32 c = key_int32 c.in-Int32.is c.row_u32.ensures c.row_u32.type_inv c.int32_key.ensures

pub returns-in-Int64 : goal.returns-in-Int64
returns-in-Int64 c = key_int64 c.in-Int64.is c.row_u64.ensures c.row_u64.type_inv c.sign_turned.ensures

pub returns-in-Float64 : goal.returns-in-Float64
returns-in-Float64 c = key_float64 c.in-Float64.is c.row_u64-in-Float64.ensures c.row_u64-in-Float64.type_inv c.float_key.ensures
