-- `index_fits` gives no where the column is missing, and else what its place gives.
use Rattle.case.proofs.FitsLaws.{index_missing, index_there}
use Rattle.case.proofs.fits.index_fits.Goals as goal

pub returns-in-None : goal.returns-in-None
returns-in-None c = index_missing c.args.t c.args.mark c.args.index c.in-None.ensures

pub returns-in-Some : goal.returns-in-Some
returns-in-Some c = index_there c.args.t c.args.mark c.args.index c.in-Some.ensures c.column_fits.result c.column_fits.ensures
