-- The value is tested as its type and its null mark want it.
use mathlib.Core.Path.{refl}
use mathlib.Core.Logic.{inl, inr}
use native.Mathlib.Omega.{arith}
use Rattle.scalar.specs.Entry.{int32, int64, float64}
use Rattle.rule.specs.Reading.{literal_value}
use Rattle.rule.proofs.LeafLaws.{value_unmarked, value_null, value_plain, boolean_sized, boolean_fits, number_fits, text_fits}
use Rattle.rule.proofs.leaf.value_fits.Goals as goal

pub returns-then-mark-gt1 : goal.returns-then-mark-gt1
unfolding literal_value
returns-then-mark-gt1 c = value_unmarked c.args.data_type c.args.mark c.args.content.now c.if-mark-gt1.true

pub returns-then-mark-eq1 : goal.returns-then-mark-eq1
unfolding literal_value
returns-then-mark-eq1 c = value_null c.args.data_type c.args.mark c.args.content.now c.if-mark-eq1.true

pub returns-then-size-ne3 : goal.returns-then-size-ne3
unfolding literal_value
returns-then-size-ne3 c = value_plain c.args.data_type c.args.mark c.args.content.now c.if-mark-gt1.false c.if-mark-eq1.false _ (rw c.in-Boolean.is (boolean_sized c.args.content.now c.if-size-ne3.true))

pub returns-else-size-ne3 : goal.returns-else-size-ne3
unfolding literal_value
returns-else-size-ne3 c = value_plain c.args.data_type c.args.mark c.args.content.now c.if-mark-gt1.false c.if-mark-eq1.false _ (rw c.in-Boolean.is (boolean_fits c.args.content.now _ c.if-size-ne3.false c.byte_at.ensures))

pub returns-in-Int32 : goal.returns-in-Int32
unfolding literal_value
returns-in-Int32 c = value_plain c.args.data_type c.args.mark c.args.content.now c.if-mark-gt1.false c.if-mark-eq1.false _ (rw c.in-Int32.is (number_fits int32 4 c.args.content.now (omega arith) (λ n. refl)))

pub returns-in-Int64 : goal.returns-in-Int64
unfolding literal_value
returns-in-Int64 c = elim c.in-Int64.is [ inl is ↦ value_plain c.args.data_type c.args.mark c.args.content.now c.if-mark-gt1.false c.if-mark-eq1.false _ (rw is (number_fits int64 8 c.args.content.now (omega arith) (λ n. refl))) | inr is ↦ value_plain c.args.data_type c.args.mark c.args.content.now c.if-mark-gt1.false c.if-mark-eq1.false _ (rw is (number_fits float64 8 c.args.content.now (omega arith) (λ n. refl))) ]

pub returns-in-Utf8 : goal.returns-in-Utf8
unfolding literal_value
returns-in-Utf8 c = value_plain c.args.data_type c.args.mark c.args.content.now c.if-mark-gt1.false c.if-mark-eq1.false _ (rw c.in-Utf8.is (text_fits c.args.content.now))
