-- `field_at` gives the header at a place: it tests for room before it reads. Assumes nothing.
use mathlib.Core.Path.{sym}
use native.Mathlib.Omega.{arith}
use Rattle.layout.proofs.PlaceLaws.{header_cut, header_found}
use Rattle.layout.proofs.field.field_at.Goals as goal

pub returns-then-s-at : goal.returns-then-s-at
returns-then-s-at c = sym (header_cut c.args.s.now c.args.at (omega arith))

pub returns-then-left-lt3 : goal.returns-then-left-lt3
returns-then-left-lt3 c = sym (header_cut c.args.s.now c.args.at (omega arith))

pub returns-then-left-size : goal.returns-then-left-size
returns-then-left-size c = sym (header_cut c.args.s.now c.args.at (omega (arith, c.read_u16-size.ensures)))

pub returns : goal.returns
returns c = rw c.read_u16-size.ensures (sym (header_found c.args.s.now c.args.at (omega (arith, c.read_u16-size.ensures))))
