-- `write_u32` puts the number's bytes into the part at the place.
use mathlib.Core.Path.{ap, ◌∙◌}
use lib.ListN.{length}
use Rattle.layout.proofs.NumberLaws.{bytes_lowest}
use Rattle.layout.proofs.PartLaws.{number_written}
use Rattle.layout.proofs.number.write_u32.Goals as goal

pub returns : goal.returns
returns c = number_written 4 {n = c.args.n} (c.to_le_bytes.ensures ∙ bytes_lowest 4 c.args.n) (ap length c.to_le_bytes.ensures) c.put_part.ensures
