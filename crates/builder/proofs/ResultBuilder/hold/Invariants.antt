-- `hold` stores each row's value. The loop's invariant: what is left of the lists, stored into what is held now, gives the result.
use mathlib.Core.Path.{◌≡◌}
use lib.ListN.{length}
use Rattle.builder.proofs.BuilderLaws.{HoldsSoFar}
use Rattle.builder.proofs.ResultBuilder.hold.Given as goal

abbrev pub invariant-loop-row : goal.invariant-loop-row
invariant-loop-row l = ((l.self.rows ≡ l.initial.self.rows) × (l.self.part ≡ l.initial.self.part) × (l.self.whole ≡ l.initial.self.whole)) × HoldsSoFar l.initial.self.held l.initial.self.values l.rows l.values (length l.yielded) l.self.held l.self.values
