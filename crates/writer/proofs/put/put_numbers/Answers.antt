use mathlib.Core.Path.{ap}
use native.Mathlib.Omega.{arith}
use Rattle.layout.specs.Bytes.{number_bytes}
use Rattle.layout.proofs.PutLaws.{wrote_as}
use Rattle.writer.specs.Writing.{width_of}
use Rattle.writer.proofs.WroteLaws.{so_far_none, so_far_more, so_far_ends, numbers_start, numbers_room, numbers_next, numbers_long}
use Rattle.writer.proofs.put.put_numbers.Goals as goal

pub loop-i-init : goal.loop-i-init
loop-i-init g c = (numbers_start c.args.wide c.args.at, λ numbers gives. so_far_none (omega (arith, numbers_long c.args.wide numbers c.args.rows, c.requires.room)))

pub put_number-p-requires : goal.put_number-p-requires
put_number-p-requires g c = numbers_room c.args.wide c.args.at c.loop-i.i c.args.rows c.loop-i.invariant.0 c.loop-i-test.true (omega (arith, c.requires.room, c.loop-i.auto.output))

pub loop-i-preserved : goal.loop-i-preserved
loop-i-preserved g c = (
  numbers_next c.args.wide c.args.at c.loop-i.i c.number.result c.loop-i.invariant.0 c.put_number-p.ensures,
  λ numbers gives. so_far_more (c.loop-i.invariant.1 numbers gives) c.loop-i-test.true (wrote_as (ap (number_bytes (width_of c.args.wide)) (gives.numbers_are c.loop-i.i c.number.result c.loop-i-test.true c.number.ensures)) c.put_number-p.ensures),
)

pub returns : goal.returns
returns g c = λ numbers gives. so_far_ends (c.loop-i.invariant.1 numbers gives) c.loop-i-test.false
