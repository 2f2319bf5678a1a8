-- `put_slot` stores a value by its kind and its payload, which keep it.
use Rattle.case.proofs.SlotLaws.{slot_put}
use Rattle.case.proofs.slot.put_slot.Goals as goal

pub returns : goal.returns
returns c = slot_put c.requires.storable c.kind.ensures c.payload.ensures c.put_parts.ensures
