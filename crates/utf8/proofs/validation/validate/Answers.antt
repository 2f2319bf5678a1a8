use mathlib.Core.Path.{refl, ap, ◌∙◌}
use native.Mathlib.Omega.{arith}
use lib.ListN.{drop}
use Rattle.utf8.specs.WellFormed.{sequence_length}
use Rattle.utf8.specs.Answers.{some_length}
use Rattle.utf8.proofs.ValidationLaws.{from_here, from_sequence, from_size, found_ill, found_none, rest_of, length_there, length_missing}
use Rattle.utf8.proofs.AsciiLaws.{end_rises}
use Rattle.utf8.proofs.validation.validate.Goals as goal

pub loop-at-smaller-then-text-at-lt128 : goal.loop-at-smaller-then-text-at-lt128
loop-at-smaller-then-text-at-lt128 c = omega (arith, end_rises c.args.text.now c.loop-at.at _ c.loop-at-test.true c.if-text-at-lt128.true c.ascii_end-at.ensures)

pub loop-at-preserved-then-text-at-lt128 : goal.loop-at-preserved-then-text-at-lt128
loop-at-preserved-then-text-at-lt128 c = from_here c.args.text.now c.loop-at.at _ c.loop-at.invariant.0 c.loop-at.invariant.1 c.ascii_end-at.ensures

pub returns-in_default : goal.returns-in_default
returns-in_default c =
    let none = length_missing (sequence_length (drop c.loop-at.at c.args.text.now)) (c.sequence_length.ensures ∙ ap some_length (rest_of c.args.text.now c.loop-at.at)) c.in_default.is in
    found_ill c.args.text.now c.loop-at.at 0 c.loop-at.invariant.0 c.loop-at-test.true none refl

pub overflow_add-at : goal.overflow_add-at
overflow_add-at c =
    let there = length_there (sequence_length (drop c.loop-at.at c.args.text.now)) (c.sequence_length.ensures ∙ ap some_length (rest_of c.args.text.now c.loop-at.at)) c.in-Some.is in
    omega (arith, from_size c.args.text.now c.loop-at.at c.in-Some.size c.loop-at.invariant.1 there.0)

pub loop-at-smaller : goal.loop-at-smaller
loop-at-smaller c =
    let there = length_there (sequence_length (drop c.loop-at.at c.args.text.now)) (c.sequence_length.ensures ∙ ap some_length (rest_of c.args.text.now c.loop-at.at)) c.in-Some.is in
    omega (arith, there.1, from_size c.args.text.now c.loop-at.at c.in-Some.size c.loop-at.invariant.1 there.0)

pub loop-at-preserved : goal.loop-at-preserved
loop-at-preserved c =
    let there = length_there (sequence_length (drop c.loop-at.at c.args.text.now)) (c.sequence_length.ensures ∙ ap some_length (rest_of c.args.text.now c.loop-at.at)) c.in-Some.is in
    (from_sequence c.args.text.now c.loop-at.at c.in-Some.size c.loop-at.invariant.0 there.0 there.1, from_size c.args.text.now c.loop-at.at c.in-Some.size c.loop-at.invariant.1 there.0)

pub returns : goal.returns
returns c = found_none c.args.text.now c.loop-at.at c.loop-at.invariant.0 c.loop-at-test.false
