use Rattle.std.proofs.Common.{arith, refl, ◌∙◌}
use Rattle.case.proofs.KeyLaws.{key_int64, turned_wraps, keys_more}
use Rattle.case.proofs.keys.int64_keys.Goals as goal

pub loop-i-preserved : goal.loop-i-preserved
loop-i-preserved c = keys_more c.loop-i.invariant (omega arith) (omega arith) c.requires.0 (key_int64 refl c.long.ensures c.long.type_inv (c.wrapping_add_u64.ensures.value ∙ turned_wraps 63 c.long.result c.long.type_inv))
