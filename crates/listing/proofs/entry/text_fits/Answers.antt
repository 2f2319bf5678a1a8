-- `text_fits`: a byte, and two for each byte of the text.
use Rattle.listing.proofs.FitLaws.{hex_fits}
use Rattle.listing.proofs.entry.text_fits.Goals as goal

pub returns : goal.returns
returns c = hex_fits c.args.text.now c.args.room c.if-room-eq0.false
