use Rattle.std.proofs.Common.{◌+◌, ◌==◌, drop, take, sym, ◌∙◌, arith, rules, tests}
use Rattle.std.proofs.lemmas.Iterator.{YieldsList-from_slice}
use Rattle.std.proofs.lemmas.Iterator.Search.{all_from_yields_List}
use Rattle.case.proofs.NestedLaws.{kinds_all}
use Rattle.case.proofs.results.Results.all_of_kind.Goals as goal

pub returns : goal.returns
returns c =
    all_from_yields_List (λ k. k == c.args.kind) _ _ _ c.all.ensures.ran (YieldsList-from_slice (take c.args.count (drop (c.args.from + 1) c.args.self.now.kinds)) (search rules)) (λ x b q k. search (rules, tests))
    ∙ sym (kinds_all c.args.self.now.kinds c.args.kind c.args.from c.args.count (omega arith))
