use Rattle.builder.proofs.BuilderLaws.{finish_is, finished_none}
use borrow.Author.Rules.{rules}
use Rattle.builder.proofs.ResultBuilder.finish.Goals as goal

pub loop-i-init : goal.loop-i-init
loop-i-init c = finished_none c.args.self.now.held c.args.self.now.values

pub returns : goal.returns
returns c = finish_is c.args.self.now (search rules) (search rules) c.count_of-count.result c.loop-i.i c.loop-i.out c.count_of-count.ensures c.loop-i.invariant (search rules)
