-- One row (01, One row): what an expression is, given what each column has there.
use Rattle.std.specs.Prelude.{Bool, cond, ℕ}
use Rattle.scalar.specs.declared.types.DataType.{DataType}
use Rattle.scalar.specs.Entry.{Entry, null, is_null, is_true_entry, Outcome, entry, unfit, on_entry, on_entries}
use Rattle.scalar.specs.Not.{not_entry}
use Rattle.scalar.specs.Negative.{negative_entry}
use Rattle.scalar.specs.IsNotNull.{is_not_null_entry}
use Rattle.scalar.specs.Cast.{cast_entry}
use Rattle.scalar.specs.TryCast.{try_cast_entry}
use Rattle.scalar.specs.Compare.{equal_entry, less_entry}
use Rattle.rule.specs.Tree.{Expr, column, literal, negation, negative, is_not_null, cast, try_cast, equal, less, case_when, Branches, no_more, branch, Optional, absent, present}
use Rattle.rule.specs.Typing.{result_type}

-- what each column has; a column that can't be read is as a cast that doesn't fit
abbrev pub Row : Type 0
Row = ℕ → Outcome

-- what a WHEN is asked: without a base to be true, with one to equal it
pub data Test : Type 0 where
  is_true_test : Test
  equals_test : Entry → Test

-- a WHEN passes if it is true, or equals the base
abbrev pub passes : Test → Entry → Bool
passes is_true_test v = is_true_entry v
passes (equals_test b) v = is_true_entry (equal_entry b v)

-- branches are tried in order until a WHEN passes: then its THEN, else what the later branches give
abbrev pub chosen : Test → Outcome → Outcome → Outcome → Outcome
chosen test (entry v) then later = cond (passes test v) then later
chosen test unfit then later = unfit

-- base null: the row goes to ELSE and no WHEN is read
abbrev pub with_base : Outcome → (Test → Outcome) → Outcome → Outcome
with_base (entry v) branches els = cond (is_null v) els (branches (equals_test v))
with_base unfit branches els = unfit

unfoldable mutual
  -- the answer of a CASE is its THEN, else ELSE, else null
  pub eval : Expr → Row → Outcome
  eval (column c) row = row c.index
  eval (literal t v) row = entry v
  eval (negation e) row = on_entry (λ v. entry (not_entry v)) (eval e row)
  eval (negative e) row = on_entry (λ v. entry (negative_entry v)) (eval e row)
  eval (is_not_null e) row = on_entry (λ v. entry (is_not_null_entry v)) (eval e row)
  eval (cast t e) row = on_entry (cast_entry t) (eval e row)
  eval (try_cast t e) row = on_entry (λ v. entry (try_cast_entry t v)) (eval e row)
  eval (equal a b) row = on_entries equal_entry (eval a row) (eval b row)
  eval (less a b) row = on_entries less_entry (eval a row) (eval b row)
  eval (case_when b bs e) row =
      eval_base b row (λ test. eval_branches bs row test (eval_else e row (result_type bs))) (eval_else e row (result_type bs))

  -- with a base a WHEN has to equal it, without one to be true
  pub eval_base : Optional → Row → (Test → Outcome) → Outcome → Outcome
  eval_base absent row branches els = branches is_true_test
  eval_base (present b) row branches els = with_base (eval b row) branches els

  -- branches are tried in order
  pub eval_branches : Branches → Row → Test → Outcome → Outcome
  eval_branches no_more row test els = els
  eval_branches (branch w t bs) row test els = chosen test (eval w row) (eval t row) (eval_branches bs row test els)

  -- ELSE, try-cast to the result's type, else null
  pub eval_else : Optional → Row → DataType → Outcome
  eval_else absent row result = entry null
  eval_else (present e) row result = on_entry (λ v. entry (try_cast_entry result v)) (eval e row)
