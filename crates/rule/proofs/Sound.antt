-- A well-formed tree has its type at every row whose columns have theirs. Assumes nothing.
use mathlib.Core.Bool.{Bool, true, false, cond, ◌&&◌}
use mathlib.Core.Path.{◌≡◌, refl}
use mathlib.Core.List.Memᴰ
use mathlib.Core.List.{List, ◌++◌, Memᴰ}
use Rattle.scalar.specs.declared.types.DataType.{DataType}
use Rattle.scalar.specs.declared.types.DataType.TheVariants.{Boolean}
use Rattle.scalar.specs.Types.{same_type}
use Rattle.scalar.specs.Entry.{Entry, is_null, Outcome, entry, unfit, on_entry, on_entries, of_type, outcome_of_type}
use Rattle.scalar.specs.Not.{not_entry}
use Rattle.scalar.specs.Negative.{negative_entry}
use Rattle.scalar.specs.IsNotNull.{is_not_null_entry}
use Rattle.scalar.specs.Cast.{cast_entry}
use Rattle.scalar.specs.TryCast.{try_cast_entry}
use Rattle.scalar.specs.Compare.{equal_entry, less_entry}
use Rattle.scalar.proofs.TypeLaws.{same_type_eq, not_typed, is_not_null_typed, negative_typed, cast_typed, try_cast_typed, equal_typed, less_typed}
use Rattle.rule.specs.Tree.{Column, Expr, column, literal, negation, negative, is_not_null, cast, try_cast, equal, less, case_when, Branches, no_more, branch, Optional, absent, present}
use Rattle.rule.specs.Typing.{type_of, result_type, when_type, branches_typed, else_typed, node_typed}
use Rattle.rule.specs.WellFormed.{count_fits, well_formed, well_formed_branches, well_formed_optional}
use Rattle.rule.specs.Row.{Row, Test, equals_test, is_true_test, passes, chosen, with_base, eval, eval_base, eval_branches, eval_else}
use Rattle.rule.specs.Constant.{columns_of, branches_columns, optional_columns}
use Rattle.layout.proofs.TestLaws.{both_hold}

-- what a row has in each of these columns is of its type
abbrev pub ColumnsTyped : List Column → Row → Type 0
ColumnsTyped cs row = (c : Column) → Memᴰ c cs → outcome_of_type c.type (row c.index) ≡ true

-- a row's columns are of the types that a tree says
abbrev pub RowTyped : Expr → Row → Type 0
RowTyped e row = ColumnsTyped (columns_of e) row

-- columns of a list are typed if those of a longer one are
first : (row : Row) (a b : List Column) → ColumnsTyped (a ++ b) row → ColumnsTyped a row
first row a b h c m = h c (Memᴰ.append_left b m)

later : (row : Row) (a b : List Column) → ColumnsTyped (a ++ b) row → ColumnsTyped b row
later row a b h c m = h c (Memᴰ.append_right a m)

-- an operation that takes a type to a type does so on outcomes
on_entry_typed : (s t : DataType) (f : Entry → Outcome) → ((v : Entry) → of_type s v ≡ true → outcome_of_type t (f v) ≡ true)
    → (o : Outcome) → outcome_of_type s o ≡ true → outcome_of_type t (on_entry f o) ≡ true
on_entry_typed s t f h (entry v) p = h v p
on_entry_typed s t f h unfit p = refl

-- and so does one of two entries
on_entries_typed : (t : DataType) (f : Entry → Entry → Entry) → ((a b : Entry) → of_type t (f a b) ≡ true)
    → (a b : Outcome) → outcome_of_type t (on_entries f a b) ≡ true
on_entries_typed t f h (entry a) (entry b) = h a b
on_entries_typed t f h (entry a) unfit = refl
on_entries_typed t f h unfit (entry b) = refl
on_entries_typed t f h unfit unfit = refl

-- one of two outcomes of a type
cond_typed : (t : DataType) (b : Bool) (x y : Outcome) → outcome_of_type t x ≡ true → outcome_of_type t y ≡ true → outcome_of_type t (cond b x y) ≡ true
cond_typed t true x y p q = p
cond_typed t false x y p q = q

-- a THEN or what the later branches give
chosen_typed : (t : DataType) (test : Test) (o then next : Outcome) → outcome_of_type t then ≡ true → outcome_of_type t next ≡ true
    → outcome_of_type t (chosen test o then next) ≡ true
chosen_typed t test (entry v) then next p q = cond_typed t (passes test v) then next p q
chosen_typed t test unfit then next p q = refl

-- branches or ELSE, whatever the base
base_typed : (t : DataType) (b : Optional) (row : Row) (branches : Test → Outcome) (els : Outcome)
    → ((test : Test) → outcome_of_type t (branches test) ≡ true) → outcome_of_type t els ≡ true → outcome_of_type t (eval_base b row branches els) ≡ true
unfolding eval
base_typed t absent row branches els p q = p is_true_test
base_typed t (present b) row branches els p q = go (eval b row)
  where
    go : (o : Outcome) → outcome_of_type t (with_base o branches els) ≡ true
    go (entry v) = cond_typed t (is_null v) els (branches (equals_test v)) q (p (equals_test v))
    go unfit = refl

-- a tree has its type; branches and ELSE have the result's
mutual
  unfolding eval type_of columns_of well_formed node_typed branches_typed of_type

  pub tree_sound : (e : Expr) (row : Row) → well_formed e ≡ true → RowTyped e row → outcome_of_type (type_of e) (eval e row) ≡ true
  tree_sound (column c) row w h = h c (Memᴰ.head refl)
  tree_sound (literal t v) row w h = w
  tree_sound (negation e) row w h =
      on_entry_typed (type_of e) Boolean (λ v. entry (not_entry v)) (λ v p. not_typed v) (eval e row) (tree_sound e row (both_hold (node_typed (negation e)) (well_formed e) w).1 h)
  tree_sound (negative e) row w h =
      on_entry_typed (type_of e) (type_of e) (λ v. entry (negative_entry v)) (negative_typed (type_of e)) (eval e row) (tree_sound e row (both_hold (node_typed (negative e)) (well_formed e) w).1 h)
  tree_sound (is_not_null e) row w h =
      on_entry_typed (type_of e) Boolean (λ v. entry (is_not_null_entry v)) (λ v p. is_not_null_typed v) (eval e row) (tree_sound e row w h)
  tree_sound (cast t e) row w h =
      on_entry_typed (type_of e) t (cast_entry t) (λ v p. cast_typed t v (type_of e) p) (eval e row) (tree_sound e row (both_hold (node_typed (cast t e)) (well_formed e) w).1 h)
  tree_sound (try_cast t e) row w h =
      on_entry_typed (type_of e) t (λ v. entry (try_cast_entry t v)) (λ v p. try_cast_typed t v (type_of e) p) (eval e row) (tree_sound e row (both_hold (node_typed (try_cast t e)) (well_formed e) w).1 h)
  tree_sound (equal a b) row w h = on_entries_typed Boolean equal_entry equal_typed (eval a row) (eval b row)
  tree_sound (less a b) row w h = on_entries_typed Boolean less_entry less_typed (eval a row) (eval b row)
  tree_sound (case_when b bs e) row w h =
      let counted = both_hold (count_fits bs) (node_typed (case_when b bs e) && (well_formed_optional b && (well_formed_branches bs && well_formed_optional e))) w in
      let node = both_hold (node_typed (case_when b bs e)) (well_formed_optional b && (well_formed_branches bs && well_formed_optional e)) counted.1 in
      let parts = both_hold (well_formed_branches bs) (well_formed_optional e) (both_hold (well_formed_optional b) (well_formed_branches bs && well_formed_optional e) node.1).1 in
      let typed = (both_hold (branches_typed (when_type b) (result_type bs) bs) (else_typed (result_type bs) e) node.0).0 in
      let behind = later row (optional_columns b) (branches_columns bs ++ optional_columns e) h in
      let els = else_sound e row (result_type bs) parts.1 (later row (branches_columns bs) (optional_columns e) behind) in
      base_typed (result_type bs) b row _ _
      (λ test. branches_sound bs row test (eval_else e row (result_type bs)) (when_type b) (result_type bs) parts.0 typed (first row (branches_columns bs) (optional_columns e) behind) els) els

  branches_sound : (bs : Branches) (row : Row) (test : Test) (els : Outcome) (when result : DataType) → well_formed_branches bs ≡ true → branches_typed when result bs ≡ true
      → ColumnsTyped (branches_columns bs) row → outcome_of_type result els ≡ true → outcome_of_type result (eval_branches bs row test els) ≡ true
  branches_sound no_more row test els when result w b h p = p
  branches_sound (branch v t bs) row test els when result w b h p =
      let parts = both_hold (well_formed t) (well_formed_branches bs) (both_hold (well_formed v) (well_formed t && well_formed_branches bs) w).1 in
      let typed = both_hold (same_type (type_of v) when && same_type (type_of t) result) (branches_typed when result bs) b in
      let same = same_type_eq (type_of t) result (both_hold (same_type (type_of v) when) (same_type (type_of t) result) typed.0).1 in
      let behind = later row (columns_of v) (columns_of t ++ branches_columns bs) h in
      let then = tree_sound t row parts.0 (first row (columns_of t) (branches_columns bs) behind) in
      chosen_typed result test (eval v row) (eval t row) (eval_branches bs row test els) (rw same at then)
      (branches_sound bs row test els when result parts.1 typed.1 (later row (columns_of t) (branches_columns bs) behind) p)

  else_sound : (e : Optional) (row : Row) (result : DataType) → well_formed_optional e ≡ true → ColumnsTyped (optional_columns e) row
      → outcome_of_type result (eval_else e row result) ≡ true
  else_sound absent row result w h = refl
  else_sound (present e) row result w h =
      on_entry_typed (type_of e) result (λ v. entry (try_cast_entry result v)) (λ v p. try_cast_typed result v (type_of e) p) (eval e row) (tree_sound e row w h)
