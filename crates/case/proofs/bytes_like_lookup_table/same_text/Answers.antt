-- By the sizes, or by the bytes.
use Rattle.std.proofs.Common.{sym}
use Rattle.scalar.proofs.TextLaws.{same_length}
use Rattle.case.proofs.bytes_like_lookup_table.same_text.Goals as goal

pub returns-then-there-text : goal.returns-then-there-text
returns-then-there-text c = sym (same_length c.args.text.now c.args.there.now (λ e. c.if-there-text.true (sym e)))
