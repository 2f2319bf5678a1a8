-- `put_column` writes the refusal's line, or the column's lines where they fit.
use Rattle.table.proofs.StandLaws.{alone_read}
use native.Mathlib.Omega.{arith}
use Rattle.std.proofs.lemmas.Bool.{not_from_false}
use Rattle.listing.specs.Listing.{column_lines}
use Rattle.table.specs.Places.{column_in}
use Rattle.listing.proofs.LineLaws.{no_room}
use Rattle.listing.proofs.WriteLaws.{put_fits}
use Rattle.listing.proofs.WholeLaws.{listing_refused, listing_ok, lines_short, put_as}
use Rattle.listing.proofs.whole.put_column.Goals as goal

pub returns-in-Err : goal.returns-in-Err
returns-in-Err c = put_as (listing_refused (alone_read c.read_alone.ensures) c.in-Err.is) c.put_refused.ensures

pub lines_size-size-requires : goal.lines_size-size-requires
lines_size-size-requires c = lines_short (alone_read c.read_alone.ensures) c.in-Ok.is (λ i. omega (arith, c.type_inv.bytes i))

pub returns-then-not-room : goal.returns-then-not-room
returns-then-not-room c = put_as (listing_ok (alone_read c.read_alone.ensures) c.in-Ok.is) (no_room (column_lines (column_in c.args.bytes.now c.in-Ok.place) c.args.rows) c.room.ensures (not_from_false _ c.if-not-room.true) c.lines_size-size.ensures)

pub returns : goal.returns
returns c = put_as (listing_ok (alone_read c.read_alone.ensures) c.in-Ok.is) (put_fits c.write_lines.ensures)
