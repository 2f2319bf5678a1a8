-- `set_bits` counts whole bytes and the lowest bits of the next. Assumes nothing.
use mathlib.Core.Path.{◌∙◌}
use native.Mathlib.Omega.{arith}
use Rattle.layout.proofs.CountLaws.{set_most, set_ended, set_sum}
use Rattle.layout.proofs.bits.set_bits.Goals as goal

pub returns-then-map-whole : goal.returns-then-map-whole
returns-then-map-whole c = let map = c.args.map.now in
    let rows = c.args.rows in
    let is = c.whole_set_bits.ensures.0 ∙ set_ended map rows (omega (arith, c.byte_of_row-whole.ensures)) in
    (is, omega (arith, is, set_most map rows))

pub overflow_add-result : goal.overflow_add-result
overflow_add-result c = let map = c.args.map.now in
    let rows = c.args.rows in
    let is = set_sum map rows c.byte_of_row-whole.result c.bit_of_row.result c.whole_set_bits-2.result c.ones_in.result c.byte_of_row-whole.ensures c.bit_of_row.ensures c.whole_set_bits-2.ensures.0 c.ones_in.ensures.0 in
    record { fits = omega (arith, is, set_most map rows) }

pub returns : goal.returns
returns c = let map = c.args.map.now in
    let rows = c.args.rows in
    let is = set_sum map rows c.byte_of_row-whole.result c.bit_of_row.result c.whole_set_bits-2.result c.ones_in.result c.byte_of_row-whole.ensures c.bit_of_row.ensures c.whole_set_bits-2.ensures.0 c.ones_in.ensures.0 in
    (is, omega (arith, is, set_most map rows))
