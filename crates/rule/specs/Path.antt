-- The row's path: what the one-row definition reads, in order (01, One row).
use Rattle.std.specs.Prelude.{Bool, true, false, cond, ◌||◌, List, [], ◌∷◌, ◌++◌, ℕ}
use Rattle.scalar.specs.declared.types.DataType.{DataType}
use Rattle.scalar.specs.Entry.{Entry, is_null, Outcome, entry, unfit}
use Rattle.scalar.specs.Cast.{cast_entry, is_unfit}
use Rattle.rule.specs.Tree.{Expr, column, literal, negation, negative, is_not_null, cast, try_cast, equal, less, case_when, Branches, no_more, branch, Optional, absent, present}
use Rattle.rule.specs.Row.{Row, Test, is_true_test, equals_test, passes, eval}

-- a path reads columns, and casts values (tag 21)
pub data Step : Type 0 where
  reads : ℕ → Step
  casts : DataType → Entry → Step

-- a cast of a value that doesn't fit
abbrev pub is_misfit : Step → Bool
is_misfit (reads c) = false
is_misfit (casts t v) = is_unfit (cast_entry t v)

-- the path holds a cast that doesn't fit
unfoldable pub holds_misfit : List Step → Bool
holds_misfit [] = false
holds_misfit (s ∷ p) = is_misfit s || holds_misfit p

-- a path ends at a cast that doesn't fit; else it goes on
unfoldable pub followed_by : List Step → List Step → List Step
followed_by p q = cond (holds_misfit p) p (p ++ q)

-- the step of a cast: none where its child has failed
abbrev pub cast_step : DataType → Outcome → List Step
cast_step t (entry v) = casts t v ∷ []
cast_step t unfit = []

-- behind a WHEN: its THEN if it passes, else the later branches
abbrev pub chosen_path : Test → Outcome → List Step → List Step → List Step
chosen_path test (entry v) then later = cond (passes test v) then later
chosen_path test unfit then later = []

-- behind a base: ELSE if it is null, else the branches
abbrev pub base_path : Outcome → (Test → List Step) → List Step → List Step
base_path (entry v) branches els = cond (is_null v) els (branches (equals_test v))
base_path unfit branches els = []

unfoldable mutual
  -- base, WHENs up to the first that passes, the result taken, both sides of a comparison, and so on inside nested CASEs
  pub path : Expr → Row → List Step
  path (column c) row = reads c.index ∷ []
  path (literal t v) row = []
  path (negation e) row = path e row
  path (negative e) row = path e row
  path (is_not_null e) row = path e row
  path (cast t e) row = followed_by (path e row) (cast_step t (eval e row))
  path (try_cast t e) row = path e row
  path (equal a b) row = followed_by (path a row) (path b row)
  path (less a b) row = followed_by (path a row) (path b row)
  path (case_when b bs e) row = path_base b row (λ test. path_branches bs row test (path_else e row)) (path_else e row)

  -- the base, if there is one, and what is read behind it
  pub path_base : Optional → Row → (Test → List Step) → List Step → List Step
  path_base absent row branches els = branches is_true_test
  path_base (present b) row branches els = followed_by (path b row) (base_path (eval b row) branches els)

  -- WHENs up to the first that passes, and its THEN
  pub path_branches : Branches → Row → Test → List Step → List Step
  path_branches no_more row test els = els
  path_branches (branch w t bs) row test els =
      followed_by (path w row) (chosen_path test (eval w row) (path t row) (path_branches bs row test els))

  -- ELSE, if there is one
  pub path_else : Optional → Row → List Step
  path_else absent row = []
  path_else (present e) row = path e row

-- the path reads a column
unfoldable pub reads_column : List Step → Bool
reads_column [] = false
reads_column (reads c ∷ p) = true
reads_column (casts t v ∷ p) = reads_column p

-- the columns that a path reads
unfoldable pub columns_read : List Step → List ℕ
columns_read [] = []
columns_read (reads c ∷ p) = c ∷ columns_read p
columns_read (casts t v ∷ p) = columns_read p
