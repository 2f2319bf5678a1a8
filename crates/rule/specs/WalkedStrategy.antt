-- The strategy that the bytes of a CASE say, at every place, whatever stands there (01, Strategies).
use Rattle.std.specs.Prelude.{Bool, true, false, cond, not, ◌&&◌, ◌||◌, List, ℕ, zero, suc, ◌+◌, ◌*◌, ◌%◌, eqb, ltb}
use Rattle.layout.specs.Bytes.{byte}
use Rattle.scalar.specs.Types.{same_type}
use Rattle.rule.specs.declared.strategy.Strategy.{Strategy}
use Rattle.rule.specs.declared.strategy.Strategy.TheVariants.{NoExpression, WithExpression, InfallibleExprOrNull, ScalarOrScalar, ExpressionOrExpression, WithExprScalarLookupTable}
use Rattle.rule.specs.Walked.{field_end, behind_fields, type_at}

-- a literal stands at a place
abbrev pub literal_there : List ℕ → ℕ → Bool
literal_there rule at = eqb (byte rule at) 17

-- a literal with the null mark stands at a place
unfoldable pub null_there : List ℕ → ℕ → Bool
null_there rule at = literal_there rule at && eqb (byte rule (at + 4)) 1

-- an ELSE stands at a place before the end, and is no null literal, which is dropped
unfoldable pub else_there : List ℕ → ℕ → ℕ → Bool
else_there rule at end = not (eqb at end) && not (null_there rule at)

-- so many fields are all literals
unfoldable pub literals_there : List ℕ → ℕ → ℕ → Bool
literals_there rule at zero = true
literals_there rule at (suc n) = literal_there rule at && literals_there rule (field_end rule at) n

-- some WHEN of so many branches isn't null
unfoldable pub when_there : List ℕ → ℕ → ℕ → Bool
when_there rule at zero = false
when_there rule at (suc n) = not (null_there rule at) || when_there rule (behind_fields rule at 2) n

-- ELSE is absent or a literal of the result's type, that of the THEN at a place
unfoldable pub else_serves_at : List ℕ → ℕ → ℕ → ℕ → Bool
else_serves_at rule at end then = not (else_there rule at end) || (literal_there rule at && same_type (type_at rule at) (type_at rule then))

-- a lookup table serves: at least two branches, all WHENs and THENs literals, some WHEN isn't null, and ELSE is absent or a literal of the result's type
unfoldable pub table_serves_at : List ℕ → ℕ → ℕ → ℕ → Bool
table_serves_at rule at end count =
    ltb 1 count && literals_there rule at (2 * count) && when_there rule at count && else_serves_at rule (behind_fields rule at (2 * count)) end (field_end rule at)

-- one branch by the places of its THEN and behind it: THEN a column, no ELSE: 3; THEN and ELSE literals: 4; other single branches: 5
abbrev pub single_by : List ℕ → ℕ → ℕ → ℕ → Strategy
single_by rule then els end =
    cond (else_there rule els end) (cond (literal_there rule then && literal_there rule els) ScalarOrScalar ExpressionOrExpression)
    (cond (eqb (byte rule then) 16) InfallibleExprOrNull ExpressionOrExpression)

-- one branch, whose WHEN stands at a place
unfoldable pub single_at : List ℕ → ℕ → ℕ → Strategy
single_at rule at end = single_by rule (field_end rule at) (field_end rule (field_end rule at)) end

-- a CASE with or without a base, by the place of its first WHEN and its branch count: with a base 6 if a table serves, else 2; without, one branch, else 1
abbrev pub branches_at : Bool → List ℕ → ℕ → ℕ → ℕ → Strategy
branches_at true rule at end count = cond (table_serves_at rule at end count) WithExprScalarLookupTable WithExpression
branches_at false rule at end count = cond (eqb count 1) (single_at rule at end) NoExpression

-- how many bases the flags of the CASE at a place say, 1 or none
abbrev pub base_count : List ℕ → ℕ → ℕ
base_count rule start = byte rule (start + 3) % 2

-- the strategy of the CASE at a place; where no CASE stands, 1
unfoldable pub strategy_at : List ℕ → ℕ → ℕ → Strategy
strategy_at rule start end =
    cond (eqb (byte rule start) 25) (branches_at (eqb (base_count rule start) 1) rule (behind_fields rule (start + 5) (base_count rule start)) end (byte rule (start + 4)))
    NoExpression
