-- Kind and payload keep a value that can be stored.
use Rattle.std.proofs.Common.{arith}
use Rattle.case.proofs.SlotLaws.{stored_is}
use Rattle.case.proofs.slot.stored.Goals as goal

pub returns : goal.returns
returns c = stored_is c.args.v c.kind.ensures c.payload.ensures c.value_of.ensures (omega arith)
