-- A rule of at most 4,096 bytes is its root, with no byte after it.
use mathlib.Core.Logic.{inl, inr}
use Rattle.rule.proofs.SeenLaws.{seen_none}
use Rattle.rule.proofs.StepLaws.{none_there, some_there}
use Rattle.layout.proofs.AnswerLaws.{passed_on}
use Rattle.rule.proofs.CycleLaws.{tree_empty, tree_long, tree_refused, tree_left, tree_gives}
use Rattle.rule.proofs.read.read_tree.Goals as goal

pub returns-then-is_empty : goal.returns-then-is_empty
returns-then-is_empty c = elim c.then-is_empty.either [ inl e ↦ tree_empty c.args.rule.now (none_there _ c.is_empty.ensures e) | inr h ↦ tree_long c.args.rule.now (some_there _ c.is_empty.ensures h.0) h.1 ]

pub returns-in_err-r : goal.returns-in_err-r
returns-in_err-r c = rw (passed_on c.from_residual.result c.from_residual.ensures.1) (tree_refused c.args.rule.now (some_there _ c.is_empty.ensures c.if-is_empty.false) c.if-rule-gt-MOST_BYTES.false _ (c.read_root.ensures seen_none) c.in_err-r.was)

pub returns-then-r-rule : goal.returns-then-r-rule
returns-then-r-rule c = tree_left c.args.rule.now (some_there _ c.is_empty.ensures c.if-is_empty.false) c.if-rule-gt-MOST_BYTES.false _ (c.read_root.ensures seen_none) c.in_ok-r.r c.in_ok-r.was c.if-r-rule.true

pub returns : goal.returns
returns c = tree_gives c.args.rule.now (some_there _ c.is_empty.ensures c.if-is_empty.false) c.if-rule-gt-MOST_BYTES.false _ (c.read_root.ensures seen_none) c.in_ok-r.r c.in_ok-r.was c.if-r-rule.false
