-- `put_listing` puts the refusal's line, or the listing of the answer at the front of the output.
use Rattle.std.proofs.Common.{◌∙◌, sym}
use Rattle.table.proofs.StandLaws.{table_read}
use Rattle.listing.proofs.RunListingLaws.{table_there, listed_refused, listed_answered}
use Rattle.listing.proofs.whole.put_listing.Goals as goal

pub unwrap-places-requires : goal.unwrap-places-requires
unwrap-places-requires c = table_there c.evaluate.ensures c.in-Ok.is c.read.ensures

pub returns-in-Ok : goal.returns-in-Ok
returns-in-Ok c = listed_answered c.evaluate.ensures c.in-Ok.is (table_read (sym c.unwrap-places.ensures ∙ c.read.ensures)) c.part_of.ensures c.put_column.ensures

pub returns-in-Err : goal.returns-in-Err
returns-in-Err c = listed_refused c.evaluate.ensures c.in-Err.is c.put_refused.ensures
