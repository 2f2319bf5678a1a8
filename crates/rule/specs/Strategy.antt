-- Strategies, with their numbers (01, Strategies).
use Rattle.std.specs.Prelude.{Bool, true, false, cond, not, ◌&&◌, ◌||◌, ℕ, ltb}
use Rattle.scalar.specs.declared.types.DataType.{DataType}
use Rattle.scalar.specs.Types.{same_type}
use Rattle.rule.specs.declared.strategy.Strategy.{Strategy}
use Rattle.rule.specs.declared.strategy.Strategy.TheVariants.{NoExpression, WithExpression, InfallibleExprOrNull, ScalarOrScalar, ExpressionOrExpression, WithExprScalarLookupTable}
use Rattle.rule.specs.Tree.{Expr, column, literal, negation, negative, is_not_null, cast, try_cast, equal, less, case_when, Branches, no_more, branch, Optional, absent, present, branch_count, is_null_literal}
use Rattle.rule.specs.Typing.{type_of, result_type}

-- the number of a strategy
abbrev pub strategy_number : Strategy → ℕ
strategy_number NoExpression = 1
strategy_number WithExpression = 2
strategy_number InfallibleExprOrNull = 3
strategy_number ScalarOrScalar = 4
strategy_number ExpressionOrExpression = 5
strategy_number WithExprScalarLookupTable = 6

-- a column (tag 16)
abbrev pub is_column : Expr → Bool
is_column (column c) = true
is_column (literal t v) = false
is_column (negation e) = false
is_column (negative e) = false
is_column (is_not_null e) = false
is_column (cast t e) = false
is_column (try_cast t e) = false
is_column (equal a b) = false
is_column (less a b) = false
is_column (case_when b bs e) = false

-- a literal (tag 17)
abbrev pub is_literal : Expr → Bool
is_literal (column c) = false
is_literal (literal t v) = true
is_literal (negation e) = false
is_literal (negative e) = false
is_literal (is_not_null e) = false
is_literal (cast t e) = false
is_literal (try_cast t e) = false
is_literal (equal a b) = false
is_literal (less a b) = false
is_literal (case_when b bs e) = false

-- a null literal ELSE is dropped (01, Bytes of a rule: Types)
abbrev pub drop_null : Optional → Optional
drop_null absent = absent
drop_null (present e) = cond (is_null_literal e) absent (present e)

-- all WHENs and THENs are literals
unfoldable pub all_literals : Branches → Bool
all_literals no_more = true
all_literals (branch w t bs) = is_literal w && is_literal t && all_literals bs

-- some WHEN isn't null
unfoldable pub some_when_value : Branches → Bool
some_when_value no_more = false
some_when_value (branch w t bs) = not (is_null_literal w) || some_when_value bs

-- ELSE is absent or a literal of the result's type
abbrev pub else_serves : DataType → Optional → Bool
else_serves result absent = true
else_serves result (present e) = is_literal e && same_type (type_of e) result

-- a lookup table serves: at least two branches, all WHENs and THENs literals, some WHEN isn't null, and ELSE is absent or a literal of the result's type
unfoldable pub table_serves : Branches → Optional → Bool
table_serves bs els = ltb 1 (branch_count bs) && all_literals bs && some_when_value bs && else_serves (result_type bs) els

-- one branch, THEN a column, no ELSE: 3; THEN and ELSE literals: 4; other single branches: 5
abbrev pub single_branch : Expr → Optional → Strategy
single_branch t absent = cond (is_column t) InfallibleExprOrNull ExpressionOrExpression
single_branch t (present e) = cond (is_literal t && is_literal e) ScalarOrScalar ExpressionOrExpression

-- without a base
abbrev pub without_base : Branches → Optional → Strategy
without_base no_more els = NoExpression
without_base (branch w t no_more) els = single_branch t els
without_base (branch w t (branch v u bs)) els = NoExpression

-- with a base 6 if a table serves, else 2
unfoldable pub strategy_of : Optional → Branches → Optional → Strategy
strategy_of absent bs els = without_base bs (drop_null els)
strategy_of (present b) bs els = cond (table_serves bs (drop_null els)) WithExprScalarLookupTable WithExpression

-- the root CASE's strategy
unfoldable pub strategy : Expr → Strategy
strategy (column c) = NoExpression
strategy (literal t v) = NoExpression
strategy (negation e) = NoExpression
strategy (negative e) = NoExpression
strategy (is_not_null e) = NoExpression
strategy (cast t e) = NoExpression
strategy (try_cast t e) = NoExpression
strategy (equal a b) = NoExpression
strategy (less a b) = NoExpression
strategy (case_when b bs e) = strategy_of b bs e
