use Rattle.std.proofs.Common.{◌-◌, ◌==◌, ◌≤◌, length, drop, take, ap, ◌∙◌, arith, rules, tests, length-drop}
use Rattle.std.specs.List.{list_all}
use Rattle.std.proofs.lemmas.List.{take_all}
use Rattle.std.proofs.lemmas.Iterator.{YieldsList-from_slice}
use Rattle.std.proofs.lemmas.Iterator.Search.{all_from_yields_List}
use Rattle.case.proofs.fits.none_beyond.Goals as goal

pub returns : goal.returns
returns c =
    let size = length c.args.marks.now - 16 in
    let rest = drop 16 c.args.marks.now in
    let whole : length rest ≤ size = omega (arith, length-drop 16 c.args.marks.now) in
    all_from_yields_List (λ m. m == 0) _ _ _ c.all.ensures.ran (YieldsList-from_slice (take size rest) (search rules)) (λ x b q k. search (rules, tests))
    ∙ ap (list_all (λ m. m == 0)) (take_all size rest whole)
