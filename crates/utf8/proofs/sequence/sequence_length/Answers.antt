-- The first byte says how many follow and which the second may be; bytes behind the end read as 0.
use mathlib.Core.Path.{refl, sym, ap, ◌∙◌}
use mathlib.Core.List.{[], ◌∷◌}
use Rattle.layout.specs.Bytes.{byte}
use Rattle.utf8.specs.Answers.{some_length}
use Rattle.utf8.proofs.SequenceLaws.{of_ascii, of_lone, of_high, second_unfit, of_two, third_unfit, of_three, of_four, fourth_unfit, none_of, of_bytes}
use Rattle.utf8.proofs.sequence.sequence_length.Goals as goal

pub returns-then-bytes-eq0 : goal.returns-then-bytes-eq0
returns-then-bytes-eq0 c = ap some_length (none_of c.args.bytes.now c.if-bytes-eq0.true)

pub returns-then-first-lt128 : goal.returns-then-first-lt128
returns-then-first-lt128 c = ap some_length (sym (of_ascii (byte c.args.bytes.now 0) ((byte c.args.bytes.now 1) ∷ (byte c.args.bytes.now 2) ∷ (byte c.args.bytes.now 3) ∷ []) c.if-first-lt128.true) ∙ of_bytes c.args.bytes.now (byte c.args.bytes.now 0) (byte c.args.bytes.now 1) (byte c.args.bytes.now 2) (byte c.args.bytes.now 3) refl refl refl refl c.if-bytes-eq0.false)

pub returns-then-first-lt194 : goal.returns-then-first-lt194
returns-then-first-lt194 c = ap some_length (of_lone (byte c.args.bytes.now 0) ((byte c.args.bytes.now 1) ∷ (byte c.args.bytes.now 2) ∷ (byte c.args.bytes.now 3) ∷ []) c.if-first-lt128.false c.if-first-lt194.true ∙ of_bytes c.args.bytes.now (byte c.args.bytes.now 0) (byte c.args.bytes.now 1) (byte c.args.bytes.now 2) (byte c.args.bytes.now 3) refl refl refl refl c.if-bytes-eq0.false)

pub returns-then-first-gt244 : goal.returns-then-first-gt244
returns-then-first-gt244 c = ap some_length (of_high (byte c.args.bytes.now 0) ((byte c.args.bytes.now 1) ∷ (byte c.args.bytes.now 2) ∷ (byte c.args.bytes.now 3) ∷ []) c.if-first-gt244.true ∙ of_bytes c.args.bytes.now (byte c.args.bytes.now 0) (byte c.args.bytes.now 1) (byte c.args.bytes.now 2) (byte c.args.bytes.now 3) refl refl refl refl c.if-bytes-eq0.false)

pub returns-then-not-second_fits : goal.returns-then-not-second_fits
returns-then-not-second_fits c = ap some_length (second_unfit (byte c.args.bytes.now 0) c.byte_at.result (byte c.args.bytes.now 2) (byte c.args.bytes.now 3) c.if-first-lt194.false c.if-first-gt244.false (sym c.second_fits.ensures ∙ c.if-not-second_fits.true) ∙ of_bytes c.args.bytes.now (byte c.args.bytes.now 0) c.byte_at.result (byte c.args.bytes.now 2) (byte c.args.bytes.now 3) refl c.byte_at.ensures refl refl c.if-bytes-eq0.false)

pub returns-then-first-lt224 : goal.returns-then-first-lt224
returns-then-first-lt224 c = ap some_length (of_two (byte c.args.bytes.now 0) c.byte_at.result (byte c.args.bytes.now 2) (byte c.args.bytes.now 3) c.if-first-lt194.false c.if-first-gt244.false (sym c.second_fits.ensures ∙ c.if-not-second_fits.false) c.if-first-lt224.true ∙ of_bytes c.args.bytes.now (byte c.args.bytes.now 0) c.byte_at.result (byte c.args.bytes.now 2) (byte c.args.bytes.now 3) refl c.byte_at.ensures refl refl c.if-bytes-eq0.false)

pub returns-then-not-trails : goal.returns-then-not-trails
returns-then-not-trails c = ap some_length (third_unfit (byte c.args.bytes.now 0) c.byte_at.result c.byte_at-2.result (byte c.args.bytes.now 3) c.if-first-lt194.false c.if-first-gt244.false (sym c.second_fits.ensures ∙ c.if-not-second_fits.false) c.if-first-lt224.false (sym c.trails.ensures ∙ c.if-not-trails.true) ∙ of_bytes c.args.bytes.now (byte c.args.bytes.now 0) c.byte_at.result c.byte_at-2.result (byte c.args.bytes.now 3) refl c.byte_at.ensures c.byte_at-2.ensures refl c.if-bytes-eq0.false)

pub returns-then-first-lt240 : goal.returns-then-first-lt240
returns-then-first-lt240 c = ap some_length (of_three (byte c.args.bytes.now 0) c.byte_at.result c.byte_at-2.result (byte c.args.bytes.now 3) c.if-first-lt194.false c.if-first-gt244.false (sym c.second_fits.ensures ∙ c.if-not-second_fits.false) c.if-first-lt224.false c.if-first-lt240.true (sym c.trails.ensures ∙ c.if-not-trails.false) ∙ of_bytes c.args.bytes.now (byte c.args.bytes.now 0) c.byte_at.result c.byte_at-2.result (byte c.args.bytes.now 3) refl c.byte_at.ensures c.byte_at-2.ensures refl c.if-bytes-eq0.false)

pub returns-then-trails : goal.returns-then-trails
returns-then-trails c = ap some_length (of_four (byte c.args.bytes.now 0) c.byte_at.result c.byte_at-2.result c.byte_at-3.result c.if-first-lt194.false c.if-first-gt244.false (sym c.second_fits.ensures ∙ c.if-not-second_fits.false) c.if-first-lt240.false (sym c.trails.ensures ∙ c.if-not-trails.false) (sym c.trails-2.ensures ∙ c.if-trails.true) ∙ of_bytes c.args.bytes.now (byte c.args.bytes.now 0) c.byte_at.result c.byte_at-2.result c.byte_at-3.result refl c.byte_at.ensures c.byte_at-2.ensures c.byte_at-3.ensures c.if-bytes-eq0.false)

pub returns-else-trails : goal.returns-else-trails
returns-else-trails c = ap some_length (fourth_unfit (byte c.args.bytes.now 0) c.byte_at.result c.byte_at-2.result c.byte_at-3.result c.if-first-lt194.false c.if-first-gt244.false (sym c.second_fits.ensures ∙ c.if-not-second_fits.false) c.if-first-lt240.false (sym c.trails.ensures ∙ c.if-not-trails.false) (sym c.trails-2.ensures ∙ c.if-trails.false) ∙ of_bytes c.args.bytes.now (byte c.args.bytes.now 0) c.byte_at.result c.byte_at-2.result c.byte_at-3.result refl c.byte_at.ensures c.byte_at-2.ensures c.byte_at-3.ensures c.if-bytes-eq0.false)
