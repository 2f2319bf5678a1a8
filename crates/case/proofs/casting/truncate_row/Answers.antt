-- `truncate_row` casts a float, keeps a null, and ends at any other value.
use Rattle.std.proofs.Common.{refl, arith}
use Rattle.scalar.proofs.FloatLaws.{float_stores}
use Rattle.case.proofs.CastingLaws.{float_row, other_row}
use Rattle.case.proofs.casting.truncate_row.Goals as goal

pub returns-then-kind-eq4 : goal.returns-then-kind-eq4
returns-then-kind-eq4 c = float_row c.args.short c.args.tried c.if-kind-eq4.true c.long-bits.ensures c.truncated.ensures c.put_slot.ensures

pub returns : goal.returns
returns c = other_row c.args.short c.args.tried refl

pub put_slot-requires : goal.put_slot-requires
put_slot-requires c = record { row_bound = c.requires; storable = c.truncated.ensures.stores (float_stores _ (omega arith)) }
