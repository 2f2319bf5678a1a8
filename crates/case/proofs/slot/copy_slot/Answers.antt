-- `copy_slot` stores the next frame's kind and payload.
use Rattle.std.proofs.Common.{refl}
use Rattle.case.proofs.SlotLaws.{slot_copied}
use Rattle.case.proofs.slot.copy_slot.Goals as goal

pub returns : goal.returns
returns c = slot_copied refl c.long-payload.ensures c.put_parts.ensures
