-- Nullability of small rules, from their bytes, by computation: an ELSE whose try-cast can fail to fit (02, Change 5). Assumes nothing.
use mathlib.Core.Path.{◌≡◌, refl}
use mathlib.Core.Bool.{Bool, true, false}
use mathlib.Core.List.{List, [], ◌∷◌, ◌++◌}
use Prim.Native.Nat.{ℕ, ◌+◌}
use lib.ListN.{length}
use Rattle.layout.specs.Bytes.{number}
use Rattle.layout.specs.Field.{header, field_bytes}
use Rattle.scalar.specs.Text.{same_bytes}
use Rattle.scalar.specs.Types.{type_numbered, mark_numbered}
use Rattle.rule.specs.Tree.{branch_count}
use Rattle.rule.specs.TreeBytes.{bytes_of}
use Rattle.rule.specs.Typing.{type_of, branches_typed, node_typed}
use Rattle.rule.specs.Row.{eval}
use Rattle.rule.specs.Constant.{columns_of, constant_fails}
use Rattle.rule.specs.Reading.{kind_among, unlike_earlier, read_column, literal_value, marked_value, read_literal, close_node, read_unary, read_cast, read_binary, read_branches, read_optional, read_parts, read_case, read_limited_case, read_kind, read_field, read_root, read_tree, read_rule}
use Rattle.rule.specs.Nullable.{stripped, replaced, reachable, nullable}
use Rattle.rule.specs.Answers.{nullable_answer}
use Rattle.std.specs.Prelude.{Ok}

-- column 0, a nullable Boolean
abbrev c0 : List ℕ
c0 = 16 ∷ 3 ∷ 0 ∷ 0 ∷ 1 ∷ 1 ∷ []

-- the Booleans
abbrev no : List ℕ
no = 17 ∷ 3 ∷ 0 ∷ 1 ∷ 0 ∷ 0 ∷ []

abbrev yes : List ℕ
yes = 17 ∷ 3 ∷ 0 ∷ 1 ∷ 0 ∷ 1 ∷ []

-- 1 and 5, Int32
abbrev one : List ℕ
one = 17 ∷ 6 ∷ 0 ∷ 2 ∷ 0 ∷ 1 ∷ 0 ∷ 0 ∷ 0 ∷ []

abbrev five32 : List ℕ
five32 = 17 ∷ 6 ∷ 0 ∷ 2 ∷ 0 ∷ 5 ∷ 0 ∷ 0 ∷ 0 ∷ []

-- 5 and 2147483648, Int64
abbrev five64 : List ℕ
five64 = 17 ∷ 10 ∷ 0 ∷ 3 ∷ 0 ∷ 5 ∷ 0 ∷ 0 ∷ 0 ∷ 0 ∷ 0 ∷ 0 ∷ 0 ∷ []

abbrev large : List ℕ
large = 17 ∷ 10 ∷ 0 ∷ 3 ∷ 0 ∷ 0 ∷ 0 ∷ 0 ∷ 128 ∷ 0 ∷ 0 ∷ 0 ∷ 0 ∷ []

-- 2.0
abbrev two : List ℕ
two = 17 ∷ 10 ∷ 0 ∷ 4 ∷ 0 ∷ 0 ∷ 0 ∷ 0 ∷ 0 ∷ 0 ∷ 0 ∷ 0 ∷ 64 ∷ []

-- a null of Int64
abbrev null64 : List ℕ
null64 = 17 ∷ 2 ∷ 0 ∷ 3 ∷ 1 ∷ []

-- IS NOT NULL, and a try-cast to Int32
abbrev is_there : List ℕ → List ℕ
is_there e = 20 ∷ length e ∷ 0 ∷ e

abbrev tried_int32 : List ℕ → List ℕ
tried_int32 e = 22 ∷ (1 + length e) ∷ 0 ∷ 2 ∷ e

-- CASE WHEN w THEN t ELSE e END, and CASE b WHEN w THEN t ELSE e END, each of fewer than 256 bytes
abbrev case_of : (w t e : List ℕ) → List ℕ
case_of w t e = let l = w ++ t ++ e in 25 ∷ (2 + length l) ∷ 0 ∷ 2 ∷ 1 ∷ l

abbrev base_case_of : (b w t e : List ℕ) → List ℕ
base_case_of b w t e = let l = b ++ w ++ t ++ e in 25 ∷ (2 + length l) ∷ 0 ∷ 3 ∷ 1 ∷ l

-- what is answered of a rule
abbrev Says : List ℕ → Bool → Type 0
Says rule b = nullable_answer (read_rule rule) ≡ Ok b

-- an ELSE that may turn null, and one that never does
pub record ElseExamples : Type 0 where
  -- a value too large for the result, and one that fits: the types alone decide
  pub too_large : Says (case_of c0 one large) true
  pub fits_too : Says (case_of c0 one five64) true
  pub float_to_int32 : Says (case_of c0 one two) true
  pub float_to_int64 : Says (case_of c0 five64 two) true
  -- against a base
  pub with_base_lem : Says (base_case_of c0 yes one five64) true
  -- in a CASE that is a THEN, and in one that is an ELSE
  pub in_then : Says (case_of c0 (case_of c0 one five64) one) true
  pub in_else : Says (case_of c0 one (case_of c0 one five64)) true
  -- a null literal is dropped, and nullable itself; a try-cast is nullable as before
  pub dropped : Says (case_of c0 one null64) true
  pub tried : Says (case_of c0 one (tried_int32 five64)) true
  -- casts that always fit: Int64 to Float64, Int32 to Int64, Boolean to Int32, Int64 to Boolean; none at all
  pub int64_to_float : Says (case_of c0 two five64) false
  pub int32_to_int64 : Says (case_of c0 five64 five32) false
  pub boolean_to_int32 : Says (case_of c0 one yes) false
  pub int64_to_boolean : Says (case_of c0 yes five64) false
  pub float_to_float : Says (case_of c0 two two) false
  pub int64_to_int64 : Says (case_of c0 five64 large) false
  -- where the CASE stands below IS NOT NULL, in a THEN that is never taken, or in a WHEN
  pub below_is_not_null : Says (case_of c0 (is_there (case_of c0 one five64)) no) false
  pub never_taken : Says (case_of no (case_of c0 one five64) one) false
  pub in_when : Says (case_of (is_there (case_of c0 one five64)) one five32) false

pub else_examples : ElseExamples
unfolding number header field_bytes same_bytes type_numbered mark_numbered branch_count bytes_of type_of branches_typed node_typed eval columns_of constant_fails kind_among unlike_earlier read_column literal_value marked_value read_literal close_node read_unary read_cast read_binary read_branches read_optional read_parts read_case read_limited_case read_kind read_field read_root read_tree read_rule stripped replaced reachable nullable
else_examples = record {
  too_large = refl;
  fits_too = refl;
  float_to_int32 = refl;
  float_to_int64 = refl;
  with_base_lem = refl;
  in_then = refl;
  in_else = refl;
  dropped = refl;
  tried = refl;
  int64_to_float = refl;
  int32_to_int64 = refl;
  boolean_to_int32 = refl;
  int64_to_boolean = refl;
  float_to_float = refl;
  int64_to_int64 = refl;
  below_is_not_null = refl;
  never_taken = refl;
  in_when = refl;
}
