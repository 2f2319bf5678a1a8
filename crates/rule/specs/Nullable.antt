-- Nullability follows `CaseExpr::nullable` (01, Strategies), and takes ELSE's try-cast in (02, Change 5).
use Rattle.std.specs.Prelude.{Bool, true, false, cond, ◌&&◌, ◌||◌, List, ℕ}
use Rattle.scalar.specs.declared.types.DataType.{DataType}
use Rattle.scalar.specs.Entry.{null, is_null, is_true_entry, Outcome, entry, unfit}
use Rattle.scalar.specs.Text.{same_bytes}
use Rattle.scalar.specs.Cast.{can_fail_to_fit}
use Rattle.rule.specs.Tree.{Expr, column, literal, negation, negative, is_not_null, cast, try_cast, equal, less, case_when, Branches, no_more, branch, Optional, absent, present}
use Rattle.rule.specs.TreeBytes.{bytes_of, is_present}
use Rattle.rule.specs.Typing.{type_of, result_type}
use Rattle.rule.specs.Row.{eval}
use Rattle.rule.specs.Constant.{unread}

-- the THEN, stripped of NOT, negative and cast
unfoldable pub stripped : Expr → Expr
stripped (column c) = column c
stripped (literal t v) = literal t v
stripped (negation e) = stripped e
stripped (negative e) = stripped e
stripped (is_not_null e) = is_not_null e
stripped (cast t e) = stripped e
stripped (try_cast t e) = try_cast t e
stripped (equal a b) = equal a b
stripped (less a b) = less a b
stripped (case_when b bs e) = case_when b bs e

-- a part that equals the bytes is replaced by a null of its type; any other has its own parts replaced
abbrev pub replaced_by : List ℕ → Expr → Expr → Expr
replaced_by bytes e within = cond (same_bytes (bytes_of e) bytes) (literal (type_of e) null) within

unfoldable mutual
  -- every part that equals the bytes, whole fields, replaced by a null of its type
  pub replaced : Expr → List ℕ → Expr
  replaced (column c) bytes = replaced_by bytes (column c) (column c)
  replaced (literal t v) bytes = replaced_by bytes (literal t v) (literal t v)
  replaced (negation e) bytes = replaced_by bytes (negation e) (negation (replaced e bytes))
  replaced (negative e) bytes = replaced_by bytes (negative e) (negative (replaced e bytes))
  replaced (is_not_null e) bytes = replaced_by bytes (is_not_null e) (is_not_null (replaced e bytes))
  replaced (cast t e) bytes = replaced_by bytes (cast t e) (cast t (replaced e bytes))
  replaced (try_cast t e) bytes = replaced_by bytes (try_cast t e) (try_cast t (replaced e bytes))
  replaced (equal a b) bytes = replaced_by bytes (equal a b) (equal (replaced a bytes) (replaced b bytes))
  replaced (less a b) bytes = replaced_by bytes (less a b) (less (replaced a bytes) (replaced b bytes))
  replaced (case_when b bs e) bytes =
      replaced_by bytes (case_when b bs e) (case_when (replaced_optional b bytes) (replaced_branches bs bytes) (replaced_optional e bytes))

  -- the same in branches
  pub replaced_branches : Branches → List ℕ → Branches
  replaced_branches no_more bytes = no_more
  replaced_branches (branch w t bs) bytes = branch (replaced w bytes) (replaced t bytes) (replaced_branches bs bytes)

  -- the same in a part that may be absent
  pub replaced_optional : Optional → List ℕ → Optional
  replaced_optional absent bytes = absent
  replaced_optional (present e) bytes = present (replaced e bytes)

-- a WHEN that is true, or can't be worked out without reading a column or failing
abbrev pub may_pass : Outcome → Bool
may_pass (entry v) = is_true_entry v
may_pass unfit = true

-- a branch whose THEN may be null when it is taken
unfoldable pub reachable : Expr → Expr → Bool
reachable when then = may_pass (eval (replaced when (bytes_of (stripped then))) unread)

unfoldable mutual
  -- a column goes by the rule's mark, a literal is nullable if null, a comparison if either side is; NOT, negative and cast go as their child, IS NOT NULL never is,
  -- try-cast always; a CASE if a THEN is, otherwise ELSE's answer
  pub nullable : Expr → Bool
  nullable (column c) = c.nullable
  nullable (literal t v) = is_null v
  nullable (negation e) = nullable e
  nullable (negative e) = nullable e
  nullable (is_not_null e) = false
  nullable (cast t e) = nullable e
  nullable (try_cast t e) = true
  nullable (equal a b) = nullable a || nullable b
  nullable (less a b) = nullable a || nullable b
  nullable (case_when b bs e) = nullable_then bs (is_present b) || nullable_else e (result_type bs)

  -- with a base any nullable THEN; without, a nullable THEN that is reachable
  pub nullable_then : Branches → Bool → Bool
  nullable_then no_more base = false
  nullable_then (branch w t bs) base = (nullable t && (base || reachable w t)) || nullable_then bs base

  -- ELSE's answer, true without ELSE (a null literal ELSE, which is dropped, is nullable itself); ELSE counts as nullable also where it is try-cast from Int64 to
  -- Int32, or from Float64 to an integer (02, Change 5), by the types alone
  pub nullable_else : Optional → DataType → Bool
  nullable_else absent result = true
  nullable_else (present e) result = nullable e || can_fail_to_fit (type_of e) result
