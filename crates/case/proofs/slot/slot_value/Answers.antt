-- `slot_value` reads a kind and a payload.
use Rattle.case.proofs.SlotLaws.{slot_got}
use Rattle.case.proofs.slot.slot_value.Goals as goal

pub returns : goal.returns
returns c = slot_got c.args.work.now c.args.at c.long-payload.result c.value_of.result c.long-payload.ensures c.long-payload.type_inv c.value_of.ensures
