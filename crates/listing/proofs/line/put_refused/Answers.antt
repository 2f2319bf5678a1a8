-- `put_refused` writes the line where it fits.
use Rattle.std.proofs.Common.{sym}
use Rattle.std.proofs.lemmas.Bool.{not_from_false, not_from_true}
use Rattle.listing.specs.Listing.{refused_line}
use Rattle.listing.proofs.LineLaws.{no_room, decimal_room, length_refused}
use Rattle.listing.proofs.line.put_refused.Goals as goal

pub returns-then-not-room : goal.returns-then-not-room
returns-then-not-room c = rw (sym c.number-n.ensures) (no_room (refused_line c.number-n.result) c.room.ensures (not_from_false _ c.if-not-room.true) (length_refused c.number-n.result c.decimal_places-k.ensures.0))

pub write_refused-requires : goal.write_refused-requires
write_refused-requires c = decimal_room c.number-n.result c.args.at 9 c.decimal_places-k.ensures.0 c.room.ensures (not_from_true _ c.if-not-room.false)
