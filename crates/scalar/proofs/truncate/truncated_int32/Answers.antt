use Rattle.std.proofs.Common.{sym, ap, ◌∙◌}
use Rattle.scalar.specs.declared.value.Value.TheVariants.{Null}
use Rattle.scalar.specs.Entry.{int32}
use Rattle.scalar.specs.Cast.{cast_entry}
use Rattle.scalar.specs.Casts.{outcome_made}
use Rattle.scalar.specs.Value.{value_saying}
use Rattle.scalar.proofs.truncate.truncated_int32.Goals as goal

pub returns-in-Some : goal.returns-in-Some
unfolding cast_entry
returns-in-Some c = ap (value_saying Null) (sym (c.whole_number.ensures.means int32 ∙ ap (outcome_made int32) c.in-Some.is))

pub returns-in-None : goal.returns-in-None
unfolding cast_entry
returns-in-None c = ap (value_saying Null) (sym (c.whole_number.ensures.means int32 ∙ ap (outcome_made int32) c.in-None.is))
