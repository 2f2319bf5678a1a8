-- 13 and 14 touch nothing; behind them the rows have the outcomes, which are written, and the work buffer is cleared.
use Rattle.std.proofs.Common.{ap, arith}
use mathlib.Core.Bool.{not}
use Rattle.case.proofs.EvaluateLaws.{not_fitting, too_short, answer_asks, evaluated}
use Rattle.case.proofs.evaluate.evaluate_read.Goals as goal

pub returns-then-not-fits : goal.returns-then-not-fits
returns-then-not-fits c = not_fitting (λ i. omega (arith, c.type_inv.rule i)) (λ i. omega (arith, c.type_inv.table i)) c.requires c.fits_table-fits.ensures (ap not c.if-not-fits.true)

pub returns-then-work-lt-WORK_LEAST : goal.returns-then-work-lt-WORK_LEAST
returns-then-work-lt-WORK_LEAST c = too_short (λ i. omega (arith, c.type_inv.rule i)) (λ i. omega (arith, c.type_inv.table i)) c.requires c.fits_table-fits.ensures (ap not c.if-not-fits.false) (omega arith)

pub returns : goal.returns
returns c = evaluated (λ i. omega (arith, c.type_inv.rule i)) (λ i. omega (arith, c.type_inv.table i)) c.requires c.fits_table-fits.ensures (ap not c.if-not-fits.false) c.answer_rows-answer.ensures.right c.answer_rows-answer.ensures.wrote (omega arith) c.answer_rows-answer.ensures.long c.clear.ensures

pub answer_rows-answer-requires : goal.answer_rows-answer-requires
answer_rows-answer-requires c = answer_asks (λ i. omega (arith, c.type_inv.rule i)) (λ i. omega (arith, c.type_inv.table i)) c.requires c.fits_table-fits.ensures (ap not c.if-not-fits.false) (omega arith)
