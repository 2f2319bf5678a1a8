-- `put_parts` stores a kind's and a payload's nine bytes in the slot of its row.
use Rattle.std.proofs.Common.{rules}
use native.Mathlib.Numerals.{towards_numerals}
use native.Mathlib.Nat.{div-div-eq-div-mul}
use Rattle.layout.specs.Bytes.{number_bytes}
use Rattle.case.proofs.SlotLaws.{parts_put}
use Rattle.case.proofs.slot.put_parts.Goals as goal

pub returns : goal.returns
unfolding number_bytes
returns c = parts_put c.args.work.now c.args.row c.args.kind c.args.payload c.requires.0 c.requires.1 (search rules) _ (simp (towards_numerals, div-div-eq-div-mul))
