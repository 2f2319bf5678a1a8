use Rattle.std.proofs.Common.{ℕ, length, ltb, ◌≡◌, sym, ap, ◌∙◌, arith}
use Rattle.scalar.proofs.TextLaws.{less_short, less_over, less_step, less_differ}
use Rattle.scalar.proofs.text.text_less.Goals as goal

pub returns-then-i-b : goal.returns-then-i-b
returns-then-i-b c = sym (c.loop-i.invariant.1 ∙ less_short c.args.a.now c.args.b.now c.loop-i.i (omega arith) (omega arith))

pub returns-then-a-i : goal.returns-then-a-i
returns-then-a-i c = sym (c.loop-i.invariant.1 ∙ less_differ c.args.a.now c.args.b.now c.loop-i.i (omega arith) (omega arith) c.if-a-i.true)

pub loop-i-preserved : goal.loop-i-preserved
loop-i-preserved c = (omega arith, c.loop-i.invariant.1 ∙ less_step c.args.a.now c.args.b.now c.loop-i.i (omega arith) (omega arith) (omega (arith, c.if-a-i.false)) (omega (arith, c.if-a-i.false)))

pub returns : goal.returns
returns c =
    let e : length c.args.a.now ≡ c.loop-i.i = omega arith in
    ap (λ (n : ℕ). ltb n (length c.args.b.now)) e ∙ sym (c.loop-i.invariant.1 ∙ less_over c.args.a.now c.args.b.now c.loop-i.i (omega arith))
