-- `write_byte` stores one byte.
use native.Mathlib.Omega.{arith}
use mathlib.Core.Path.{refl}
use mathlib.Core.List.{[], ◌∷◌}
use Rattle.layout.proofs.PutLaws.{wrote_sets}
use Rattle.listing.proofs.put.write_byte.Goals as goal

pub returns : goal.returns
returns c = wrote_sets (c.args.b ∷ []) (omega arith) refl refl
