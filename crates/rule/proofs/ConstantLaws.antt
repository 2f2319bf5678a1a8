-- What is worked out without reading a column, with the parts that equal some bytes as null. Assumes nothing.
use mathlib.Core.Path.{◌≡◌, refl, ap, ap₂, sym, ◌∙◌}
use mathlib.Core.Bool.{Bool, true, false, cond}
use mathlib.Core.List.{List, []}
use Prim.Native.Nat.{ℕ}
use Rattle.layout.specs.Field.{field_bytes}
use Rattle.scalar.specs.declared.types.DataType.{DataType}
use Rattle.scalar.specs.Entry.{Entry, null, boolean, int32, int64, float64, utf8, Outcome, entry, unfit}
use Rattle.scalar.specs.Text.{same_bytes}
use Rattle.scalar.specs.Pair.{pair_of}
use Rattle.rule.specs.Tree.{Expr, column, literal, negation, negative, is_not_null, cast, try_cast, equal, less, case_when, Branches, no_more, branch, Optional, absent, present}
use Rattle.rule.specs.TreeBytes.{bytes_of}
use Rattle.rule.specs.Typing.{type_of, result_type}
use Rattle.rule.specs.Row.{Row, is_true_test, equals_test, passes, chosen, with_base, eval, eval_base, eval_branches, eval_else}
use Rattle.rule.specs.Constant.{unread}
use Rattle.rule.specs.Nullable.{replaced_by, replaced, replaced_branches, replaced_optional}
use Rattle.rule.specs.ConstantWalks.{within, base_outcome}

-- a tree is replaced whole, or within
replaced_by_lem : (e : Expr) (bytes : List ℕ) → replaced e bytes ≡ replaced_by bytes e (within e bytes)
unfolding replaced
replaced_by_lem (column c) bytes = refl
replaced_by_lem (literal t v) bytes = refl
replaced_by_lem (negation e) bytes = refl
replaced_by_lem (negative e) bytes = refl
replaced_by_lem (is_not_null e) bytes = refl
replaced_by_lem (cast t e) bytes = refl
replaced_by_lem (try_cast t e) bytes = refl
replaced_by_lem (equal a b) bytes = refl
replaced_by_lem (less a b) bytes = refl
replaced_by_lem (case_when b bs e) bytes = refl

-- one that equals the bytes is null
pub whole_null : (e : Expr) (bytes : List ℕ) (row : Row) → same_bytes (bytes_of e) bytes ≡ true → entry null ≡ eval (replaced e bytes) row
unfolding eval
whole_null e bytes row same = rw (replaced_by_lem e bytes, same)

-- one that doesn't has its own parts replaced
pub not_whole : (e : Expr) (bytes : List ℕ) → same_bytes (bytes_of e) bytes ≡ false → replaced e bytes ≡ within e bytes
not_whole e bytes other = rw (replaced_by_lem e bytes, other)

-- no tree has no bytes
mutual
  unfolding replaced bytes_of field_bytes same_bytes

  pub replaced_none : (e : Expr) → replaced e [] ≡ e
  replaced_none (column c) = refl
  replaced_none (literal t v) = refl
  replaced_none (negation e) = ap negation (replaced_none e)
  replaced_none (negative e) = ap negative (replaced_none e)
  replaced_none (is_not_null e) = ap is_not_null (replaced_none e)
  replaced_none (cast t e) = ap (cast t) (replaced_none e)
  replaced_none (try_cast t e) = ap (try_cast t) (replaced_none e)
  replaced_none (equal a b) = ap₂ equal (replaced_none a) (replaced_none b)
  replaced_none (less a b) = ap₂ less (replaced_none a) (replaced_none b)
  replaced_none (case_when b bs e) = λ i. case_when (optional_none b i) (branches_none bs i) (optional_none e i)

  branches_none : (bs : Branches) → replaced_branches bs [] ≡ bs
  branches_none no_more = refl
  branches_none (branch w t bs) = λ i. branch (replaced_none w i) (replaced_none t i) (branches_none bs i)

  optional_none : (o : Optional) → replaced_optional o [] ≡ o
  optional_none absent = refl
  optional_none (present e) = ap present (replaced_none e)

-- a tree keeps its type
whole_type : (b : Bool) (e f : Expr) → type_of f ≡ type_of e → type_of (cond b (literal (type_of e) null) f) ≡ type_of e
unfolding type_of
whole_type true e f p = refl
whole_type false e f p = p

mutual
  unfolding replaced type_of

  replaced_type : (e : Expr) (bytes : List ℕ) → type_of (replaced e bytes) ≡ type_of e
  replaced_type (column c) bytes = whole_type (same_bytes (bytes_of (column c)) bytes) (column c) (column c) refl
  replaced_type (literal t v) bytes = whole_type (same_bytes (bytes_of (literal t v)) bytes) (literal t v) (literal t v) refl
  replaced_type (negation e) bytes = whole_type (same_bytes (bytes_of (negation e)) bytes) (negation e) (negation (replaced e bytes)) refl
  replaced_type (negative e) bytes = whole_type (same_bytes (bytes_of (negative e)) bytes) (negative e) (negative (replaced e bytes)) (replaced_type e bytes)
  replaced_type (is_not_null e) bytes = whole_type (same_bytes (bytes_of (is_not_null e)) bytes) (is_not_null e) (is_not_null (replaced e bytes)) refl
  replaced_type (cast t e) bytes = whole_type (same_bytes (bytes_of (cast t e)) bytes) (cast t e) (cast t (replaced e bytes)) refl
  replaced_type (try_cast t e) bytes = whole_type (same_bytes (bytes_of (try_cast t e)) bytes) (try_cast t e) (try_cast t (replaced e bytes)) refl
  replaced_type (equal a b) bytes = whole_type (same_bytes (bytes_of (equal a b)) bytes) (equal a b) (equal (replaced a bytes) (replaced b bytes)) refl
  replaced_type (less a b) bytes = whole_type (same_bytes (bytes_of (less a b)) bytes) (less a b) (less (replaced a bytes) (replaced b bytes)) refl
  replaced_type (case_when b bs e) bytes =
      whole_type (same_bytes (bytes_of (case_when b bs e)) bytes) (case_when b bs e) (case_when (replaced_optional b bytes) (replaced_branches bs bytes) (replaced_optional e bytes)) (branches_type bs bytes)

  branches_type : (bs : Branches) (bytes : List ℕ) → result_type (replaced_branches bs bytes) ≡ result_type bs
  branches_type no_more bytes = refl
  branches_type (branch w t bs) bytes = replaced_type t bytes

-- a WHEN without a base is asked to equal true
passes_true : (v : Entry) → passes is_true_test v ≡ passes (equals_test (boolean true)) v
unfolding pair_of
passes_true null = refl
passes_true (boolean true) = refl
passes_true (boolean false) = refl
passes_true (int32 n) = refl
passes_true (int64 n) = refl
passes_true (float64 n) = refl
passes_true (utf8 t) = refl

chosen_true : (o then later : Outcome) → chosen is_true_test o then later ≡ chosen (equals_test (boolean true)) o then later
chosen_true (entry v) then later = ap (λ (b : Bool). cond b then later) (passes_true v)
chosen_true unfit then later = refl

branches_true : (bs : Branches) (row : Row) (els : Outcome) → eval_branches bs row is_true_test els ≡ eval_branches bs row (equals_test (boolean true)) els
unfolding eval
branches_true no_more row els = refl
branches_true (branch w t bs) row els = rw (branches_true bs row els) (chosen_true (eval w row) (eval t row) (eval_branches bs row (equals_test (boolean true)) els))

-- so a CASE goes by its base, true where there is none
base_outcome_lem : (b : Optional) (bs : Branches) (els : Outcome)
    → with_base (base_outcome b) (λ test. eval_branches bs unread test els) els ≡ eval_base b unread (λ test. eval_branches bs unread test els) els
unfolding eval
base_outcome_lem absent bs els = sym (branches_true bs unread els)
base_outcome_lem (present b) bs els = refl

-- a CASE whose parts are replaced
pub case_outcome : (b : Optional) (bs : Branches) (e : Optional) (bytes : List ℕ) (to : DataType) → to ≡ type_of (case_when b bs e)
    → with_base (base_outcome (replaced_optional b bytes))
    (λ test. eval_branches (replaced_branches bs bytes) unread test (eval_else (replaced_optional e bytes) unread to))
    (eval_else (replaced_optional e bytes) unread to)
    ≡ eval (within (case_when b bs e) bytes) unread
unfolding eval type_of
case_outcome b bs e bytes to p =
    rw (p ∙ sym (branches_type bs bytes))
    (base_outcome_lem (replaced_optional b bytes) (replaced_branches bs bytes) (eval_else (replaced_optional e bytes) unread (result_type (replaced_branches bs bytes))))
