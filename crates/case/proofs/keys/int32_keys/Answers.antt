use Rattle.std.proofs.Common.{arith, refl}
use Rattle.case.proofs.KeyLaws.{key_int32, turned_wraps, keys_more}
use Rattle.case.proofs.keys.int32_keys.Goals as goal

pub loop-i-preserved : goal.loop-i-preserved
loop-i-preserved c = keys_more c.loop-i.invariant (omega arith) (omega arith) c.requires.0 (key_int32 refl c.word.ensures.0 c.word.ensures.1 (turned_wraps 31 c.word.result c.word.ensures.1))
