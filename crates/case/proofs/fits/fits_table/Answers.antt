use Rattle.std.proofs.Common.{sym, ◌∙◌, inl, inr, arith, ◌≡◌, length}
use Rattle.case.proofs.FitsLaws.{fitted_more, table_misfits, beyond_fits}
use Rattle.case.proofs.fits.fits_table.Goals as goal
use Rattle.case.proofs.fits.fits_table.Goals.{then-mark-ne0+else-not-index_fits, else-mark-ne0}

pub returns-then-not-index_fits : goal.returns-then-not-index_fits
returns-then-not-index_fits c = table_misfits c.args.seen c.args.t c.loop-i.i c.if-mark-ne0.true (λ bytes. sym c.if-not-index_fits.true ∙ c.index_fits.ensures bytes)

pub loop-i-preserved : goal.loop-i-preserved
loop-i-preserved c = fitted_more c.loop-i.invariant c.loop-i-test.true (elim c.if-mark-ne0.branch [ then-mark-ne0+else-not-index_fits w ↦ inr (λ bytes. sym w.if-not-index_fits.false ∙ w.index_fits.ensures bytes) | else-mark-ne0 w ↦ inl w.if-mark-ne0.false ])

pub returns : goal.returns
returns c =
    let long : length c.args.t.columns ≡ 16 = omega arith in
    beyond_fits c.args.seen c.args.t long c.loop-i.invariant c.loop-i-test.false _ c.none_beyond.ensures
