-- The public answers about a rule, from its reading: the refusal, or what was asked.
use Rattle.std.specs.Prelude.{Bool, List, [], ◌∷◌, ◌++◌, reverse, ℕ, zero, suc, ◌-◌, length, replicate, Result as RustResult}
use Rattle.layout.specs.declared.refusal.Refusal.{Refusal}
use Rattle.layout.specs.Result.{Result, answered}
use Rattle.scalar.specs.declared.types.DataType.{DataType}
use Rattle.rule.specs.declared.read.RuleReading.{RuleReading}
use Rattle.rule.specs.declared.projection.Projection.{Projection}
use Rattle.rule.specs.declared.strategy.Strategy.{Strategy}
use Rattle.rule.specs.Tree.{Column, Expr}
use Rattle.rule.specs.Constant.{columns_of}
use Rattle.rule.specs.Seen.{mark_at}
use Rattle.rule.specs.Typing.{type_of}
use Rattle.rule.specs.Strategy.{strategy}
use Rattle.rule.specs.Projection.{projection}
use Rattle.rule.specs.Nullable.{nullable}

-- accepted, with the result's type
abbrev pub rule_answer : Result Expr → RustResult DataType Refusal
rule_answer = answered type_of

-- the root CASE's strategy number is a public answer
abbrev pub strategy_answer : Result Expr → RustResult Strategy Refusal
strategy_answer = answered strategy

-- the nullability answer (01, Strategies)
abbrev pub nullable_answer : Result Expr → RustResult Bool Refusal
nullable_answer = answered nullable

-- the marks of so many indexes from one on
unfoldable pub marks_from : List Column → ℕ → ℕ → List ℕ
marks_from columns from zero = []
marks_from columns from (suc n) = mark_at columns from ∷ marks_from columns (suc from) n

-- the marks of the columns that a rule names: for each of the 256 indexes that of the column met there, and 0 where none was
abbrev pub marks_of : Expr → List ℕ
marks_of e = marks_from (reverse (columns_of e)) 0 256

-- what an evaluation takes from a rule: the result's type, the nullability answer and the columns named
abbrev pub rule_reading : Result Expr → RustResult RuleReading Refusal
rule_reading = answered (λ e. record { result = type_of e; nullable = nullable e; seen = record { marks = marks_of e } })

-- a list of columns in 256 bytes, those behind it zero
abbrev pub columns_in256 : List ℕ → List ℕ
columns_in256 l = l ++ replicate (256 - length l) 0

-- the projection is a public answer
abbrev pub projection_answer : Result Expr → RustResult Projection Refusal
projection_answer = answered (λ e. record { count = length (projection e); columns = columns_in256 (projection e) })
