-- `read_u16` gives the number of the two bytes at a place. Assumes nothing.
use mathlib.Core.Path.{sym}
use native.Mathlib.Omega.{arith}
use Rattle.layout.proofs.NumberLaws.{number_two, number_behind}
use Rattle.layout.proofs.number.read_u16.Goals as goal

pub returns-then-at-s : goal.returns-then-at-s
returns-then-at-s c = omega (arith, c.from_le_bytes.ensures, c.byte_at-then-at-s.ensures, c.byte_at.ensures, number_two c.args.s.now c.args.at)

pub returns-else-at-s : goal.returns-else-at-s
returns-else-at-s c = sym (number_behind 2 c.args.s.now c.args.at c.if-at-s.false)
