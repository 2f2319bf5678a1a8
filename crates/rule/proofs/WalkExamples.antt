-- The walks over document 01's example rule, over a rule that is cut, and behind a rule's end (01, A listing). Assumes nothing.
use mathlib.Core.Path.{◌≡◌, refl}
use mathlib.Core.List.{List, [], ◌∷◌}
use Prim.Native.Nat.{ℕ}
use Rattle.layout.specs.Bytes.{number}
use Rattle.layout.specs.Field.{header}
use Rattle.scalar.specs.declared.types.DataType.TheVariants as Of
use Rattle.scalar.specs.declared.value.Value.TheVariants.{Null, Int32}
use Rattle.scalar.specs.Types.{type_numbered}
use Rattle.rule.specs.declared.strategy.Strategy.TheVariants.{NoExpression, ScalarOrScalar}
use Rattle.rule.specs.Walked.{field_end, behind_fields, children_at, type_from, literal_at, first_then, type_within, type_at}
use Rattle.rule.specs.WalkedStrategy.{null_there, else_there, single_at, strategy_at}

-- CASE WHEN column 0 THEN 1 ELSE 0 END, Int32
abbrev example_rule : List ℕ
example_rule =
    25 ∷ 26 ∷ 0 ∷ 2 ∷ 1 ∷ 16 ∷ 3 ∷ 0 ∷ 0 ∷ 1 ∷ 1 ∷ 17 ∷ 6 ∷ 0 ∷ 2 ∷ 0 ∷ 1 ∷ 0 ∷ 0 ∷ 0 ∷ 17 ∷ 6 ∷ 0 ∷ 2 ∷ 0 ∷ 0 ∷ 0 ∷ 0 ∷ 0 ∷ []

-- the root's header, and no byte behind its branch count
abbrev cut_rule : List ℕ
cut_rule = 25 ∷ 26 ∷ 0 ∷ 2 ∷ 1 ∷ []

-- WHEN ends where THEN starts; a cut field ends with the rule; behind the rule's end a place is its own
pub end_example : (field_end example_rule 5 ≡ 11) × (field_end cut_rule 0 ≡ 5) × (field_end example_rule 40 ≡ 40)
unfolding field_end header number
end_example = (refl, refl, refl)

-- the children of the CASE, and of the column
pub children_example : (children_at example_rule 0 ≡ 5) × (children_at example_rule 5 ≡ 11)
unfolding children_at field_end header number
children_example = (refl, refl)

-- ELSE stands behind two fields
pub behind_example : behind_fields example_rule 5 2 ≡ 20
unfolding behind_fields field_end header number
behind_example = refl

-- THEN is 1; nothing stands behind the rule's end
pub literal_example : (literal_at example_rule 11 20 ≡ Int32 1) × (literal_at example_rule 29 29 ≡ Null)
unfolding literal_at type_from type_numbered number
literal_example = (refl, refl)

-- the CASE has its THEN's type; one whose THEN is cut off is Boolean
pub type_example : (type_at example_rule 0 ≡ Of.Int32) × (type_at cut_rule 0 ≡ Of.Boolean)
unfolding type_at type_within first_then behind_fields field_end type_from type_numbered header number
type_example = (refl, refl)

-- one branch, THEN and ELSE literals: 4; where no CASE stands: 1
pub strategy_example : (strategy_at example_rule 0 29 ≡ ScalarOrScalar) × (strategy_at example_rule 5 11 ≡ NoExpression)
unfolding strategy_at single_at else_there null_there behind_fields field_end header number
strategy_example = (refl, refl)
