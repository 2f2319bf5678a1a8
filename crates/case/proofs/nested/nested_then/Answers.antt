-- `nested_then` picks the rows of the class to the next frame, where its literal is not of the kind, and classes them there.
use Rattle.std.proofs.Common.{sym, ◌∙◌, arith}
use Rattle.case.proofs.TakeLaws.{picked_asks}
use Rattle.case.proofs.NestedLaws.{then_same, then_case}
use Rattle.case.proofs.nested.nested_then.Goals as goal

pub returns-then-results-class : goal.returns-then-results-class
returns-then-results-class c = then_same (c.if-results-class.true ∙ c.number.ensures)

pub returns : goal.returns
returns c = then_case (λ e. c.if-results-class.false (e ∙ sym c.number.ensures)) c.pick-m.ensures c.nested_case.ensures

pub nested_case-requires : goal.nested_case-requires
nested_case-requires c = picked_asks {depth = 1} c.args.classes.now c.requires.framed (omega arith) c.pick-m.ensures
