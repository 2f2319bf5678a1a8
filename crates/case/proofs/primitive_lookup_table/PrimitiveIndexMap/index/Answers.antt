-- The key that left the hint, none, or the first of all.
use Rattle.std.proofs.Common.{refl}
use Rattle.case.proofs.LookUpColumnLaws.{number_nowhere, number_here}
use Rattle.case.proofs.primitive_lookup_table.PrimitiveIndexMap.index.Goals as goal

pub returns-then-h-eq0 : goal.returns-then-h-eq0
returns-then-h-eq0 c = number_nowhere c.args.x c.args.self.now.numbered c.number_hint.ensures refl c.if-h-eq0.true

pub returns-then-x-self : goal.returns-then-x-self
returns-then-x-self c = number_here c.args.x c.args.self.now.numbered c.number_hint.result refl c.if-h-eq0.false c.if-x-self.true
