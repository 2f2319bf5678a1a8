-- Rows that have no bit set are null; without bits none is.
use mathlib.Core.Path.{sym, ◌∙◌}
use mathlib.Core.Bool.{false≢true}
use native.Mathlib.Omega.{arith}
use borrow.Author.Tests.{eqb-true, eq-eqb}
use Rattle.table.proofs.NullLaws.{count_none, count_bits}
use Rattle.table.proofs.nulls.null_count.Goals as goal

pub returns-then-is_empty : goal.returns-then-is_empty
returns-then-is_empty c = (count_none c.args.validity.now c.args.rows (eqb-true _ _ (sym c.if-is_empty.ensures)), omega arith)

pub returns : goal.returns
returns c =
    let all = count_bits c.args.validity.now c.args.rows (λ e. false≢true (c.if-is_empty.ensures ∙ eq-eqb _ _ e)) in
    (omega (arith, all, c.set_bits.ensures.0), omega arith)
