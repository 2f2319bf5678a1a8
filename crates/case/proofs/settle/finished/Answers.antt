-- `finished` gives the values of the builder's end.
use Rattle.std.proofs.Common.{rules}
use Rattle.case.proofs.SettleLaws.{finished_at}
use Rattle.case.proofs.settle.finished.Goals as goal

pub returns : goal.returns
returns c = finished_at c.args.b c.finish.result (search rules) (search rules) c.finish.ensures c.requires
