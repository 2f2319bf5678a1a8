-- A mark at the column's index that is not its own is refused; else the column's is set.
use mathlib.Core.Path.{refl}
use mathlib.Core.Logic.{inl, inr}
use Rattle.rule.proofs.LeafLaws.{meet_unmarked, meet_unlike, meet_like}
use borrow.Author.Rules.{rules}
use Rattle.rule.proofs.leaf.meet_column.Goals as goal

pub returns-then-mark-gt1 : goal.returns-then-mark-gt1
returns-then-mark-gt1 c = λ cols outer s. meet_unmarked c.args.index c.args.data_type c.args.mark cols outer c.args.end c.if-mark-gt1.true

pub returns-then-old-new : goal.returns-then-old-new
returns-then-old-new c = λ cols outer s. meet_unlike c.args.index c.args.data_type c.args.mark cols outer c.args.end c.args.marks.now s c.if-mark-gt1.false _ c.number.ensures c.if-old-ne0.true c.if-old-new.true

pub returns : goal.returns
returns c = λ cols outer s. meet_like c.args.index c.args.data_type c.args.mark cols outer c.args.end c.args.marks.now s c.if-mark-gt1.false _ c.number.ensures (search rules) (elim c.else-old-ne0.either [ inl w ↦ λ n. w.1 | inr w ↦ λ n. absurd (n w) ]) refl
