-- `put_hex` writes hex digits where they fit.
use mathlib.Core.Path.{sym}
use Rattle.std.proofs.lemmas.Bool.{not_from_false}
use Rattle.listing.specs.Listing.{digits}
use Rattle.listing.proofs.DigitLaws.{length_digits}
use Rattle.listing.proofs.LineLaws.{no_room}
use Rattle.listing.proofs.digits.put_hex.Goals as goal

pub returns-then-not-room : goal.returns-then-not-room
returns-then-not-room c = no_room (digits 16 c.args.k c.args.n) c.room.ensures (not_from_false _ c.if-not-room.true) (sym (length_digits 16 c.args.k c.args.n))
