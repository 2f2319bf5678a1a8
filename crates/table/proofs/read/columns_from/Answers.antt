use Rattle.layout.proofs.AnswerLaws.{passed_on}
use Rattle.table.proofs.ReadLaws.{columns_none, columns_all, columns_many, columns_refused, columns_more}
use Rattle.table.proofs.read.columns_from.Goals as goal

pub loop-at-init : goal.loop-at-init
loop-at-init c = columns_none c.args.bytes.now c.args.rows c.args.first c.no_place-columns.ensures

pub returns-then-count-eq-COLUMNS_MOST : goal.returns-then-count-eq-COLUMNS_MOST
returns-then-count-eq-COLUMNS_MOST c = columns_many c.args.bytes.now c.args.rows c.args.first c.loop-at.columns c.loop-at.count c.loop-at.at c.loop-at.invariant c.loop-at-test.true c.if-count-eq-COLUMNS_MOST.true c.one_more.result c.one_more.ensures

pub returns-in_err-column : goal.returns-in_err-column
returns-in_err-column c = rw (passed_on c.from_residual.result c.from_residual.ensures.1) (columns_refused c.args.bytes.now c.args.rows c.args.first c.loop-at.columns c.loop-at.count c.loop-at.at c.loop-at.invariant c.loop-at-test.true c.if-count-eq-COLUMNS_MOST.false c.in_err-column.ensures)

pub loop-at-preserved : goal.loop-at-preserved
loop-at-preserved c = columns_more c.args.bytes.now c.args.rows c.args.first c.loop-at.columns c.loop-at.count c.loop-at.at c.loop-at.invariant c.loop-at-test.true c.if-count-eq-COLUMNS_MOST.false c.in_ok-column.ensures

pub returns : goal.returns
returns c = columns_all c.args.bytes.now c.args.rows c.args.first c.loop-at.columns c.loop-at.count c.loop-at.at c.loop-at.invariant c.loop-at-test.false
