-- The number of eight bytes has no highest bit of one set where all eight are ASCII.
use mathlib.Core.Path.{◌∙◌}
use Rattle.utf8.proofs.AsciiLaws.{ascii_word, part_of_eight}
use Rattle.utf8.proofs.ascii.ascii_word.Goals as goal

pub returns : goal.returns
returns c = ascii_word c.args.bytes.now c.args.at c.read_u64.result (λ i. (c.type_inv.bytes i).fits) c.requires (c.read_u64.ensures ∙ part_of_eight c.args.bytes.now c.args.at)
