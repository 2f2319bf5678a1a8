-- `put_decimal` writes a decimal where it fits.
use Rattle.std.proofs.lemmas.Bool.{not_from_false}
use Rattle.listing.specs.Listing.{decimal}
use Rattle.listing.proofs.ShownLaws.{as_decimal}
use Rattle.listing.proofs.LineLaws.{no_room}
use Rattle.listing.proofs.digits.put_decimal.Goals as goal

pub returns-then-not-room : goal.returns-then-not-room
returns-then-not-room c = no_room (decimal c.args.n) c.room.ensures (not_from_false _ c.if-not-room.true) (as_decimal c.args.n c.decimal_places-k.ensures.0)
