-- A table: the tests of its length, its tag 1 and its row count, then its columns.
use mathlib.Core.Path.{sym, ◌∙◌}
use mathlib.Core.Bool.{false≢true}
use borrow.Author.Tests.{eqb-true, eq-eqb}
use Rattle.layout.proofs.AnswerLaws.{passed_on}
use Rattle.table.proofs.ReadLaws.{read_none, read_long, read_refused, read_rows, read_columns_lem}
use Rattle.table.proofs.read.read.Goals as goal

pub returns-then-is_empty : goal.returns-then-is_empty
returns-then-is_empty c = read_none c.args.bytes.now (eqb-true _ _ (sym c.if-is_empty.ensures))

pub returns-then-bytes-gt-BYTES_MOST : goal.returns-then-bytes-gt-BYTES_MOST
returns-then-bytes-gt-BYTES_MOST c = read_long c.args.bytes.now (λ e. false≢true (c.if-is_empty.ensures ∙ eq-eqb _ _ e)) c.if-bytes-gt-BYTES_MOST.true

pub returns-in_err-first : goal.returns-in_err-first
returns-in_err-first c = rw (passed_on c.from_residual.result c.from_residual.ensures.1) (read_refused c.args.bytes.now (λ e. false≢true (c.if-is_empty.ensures ∙ eq-eqb _ _ e)) c.if-bytes-gt-BYTES_MOST.false c.in_err-first.ensures)

pub returns-then-rows-gt-ROWS_MOST : goal.returns-then-rows-gt-ROWS_MOST
returns-then-rows-gt-ROWS_MOST c = read_rows c.args.bytes.now (λ e. false≢true (c.if-is_empty.ensures ∙ eq-eqb _ _ e)) c.if-bytes-gt-BYTES_MOST.false c.in_ok-first.ensures c.read_u16-rows.ensures c.if-rows-gt-ROWS_MOST.true

pub returns : goal.returns
returns c = read_columns_lem c.args.bytes.now (λ e. false≢true (c.if-is_empty.ensures ∙ eq-eqb _ _ e)) c.if-bytes-gt-BYTES_MOST.false c.in_ok-first.ensures c.read_u16-rows.ensures c.if-rows-gt-ROWS_MOST.false c.columns_from.result c.columns_from.ensures
