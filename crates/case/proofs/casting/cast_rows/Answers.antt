-- `cast_rows` casts the first rows' floats by their bits, and the rows behind them by the values.
use Rattle.case.specs.Casting.{cast_to}
use Rattle.case.proofs.CastingLaws.{behind_fillable, behind_done}
use Rattle.case.proofs.casting.cast_rows.Goals as goal

pub returns : goal.returns
returns c = behind_done (cast_to c.args.tried c.args.to) c.requires c.truncate_floats-done.ensures.0 c.truncate_floats-done.ensures.1 c.cast_list.ensures

pub cast_list-requires : goal.cast_list-requires
cast_list-requires c = behind_fillable (cast_to c.args.tried c.args.to) c.requires c.truncate_floats-done.ensures.0 c.truncate_floats-done.ensures.1
