-- A rule is refused with one of 1 to 8. Assumes nothing.
use mathlib.Core.Path.{◌≡◌, refl}
use mathlib.Core.Bool.{Bool, true, false, not, ◌&&◌}
use mathlib.Core.List.{List, [], ◌∷◌}
use Prim.Native.Nat.{ℕ, zero, suc}
use lib.Dec.{eqb, leb, ltb}
use lib.ListN.{length, drop}
use Rattle.layout.specs.Result.{refused}
use Rattle.layout.specs.Refusals.{rule_refusals, among}
use Rattle.layout.specs.Bytes.{byte}
use Rattle.layout.specs.Field.{Field}
use Rattle.layout.proofs.ResultLaws.{RefusedAmong, ok_among, refused_among, bind_among, require_among_then, cond_among}
use Rattle.layout.proofs.FieldLaws.{header_among}
use Rattle.scalar.specs.declared.types.DataType.{DataType}
use Rattle.scalar.specs.declared.types.DataType.TheVariants.{Boolean, Int32, Int64, Float64, Utf8}
use Rattle.scalar.specs.Entry.{Entry, int32, int64, float64, utf8}
use Rattle.scalar.proofs.TypeLaws.{type_numbered_among, mark_numbered_among}
use Rattle.rule.specs.Tree.{Column, Expr, negation, negative, is_not_null, cast, try_cast, equal, less}
use Rattle.rule.specs.Typing.{node_typed}
use Rattle.rule.specs.Constant.{is_empty, constant_fails}
use Rattle.rule.specs.Reading.{Reader, Kind, a_column, a_literal, a_not, a_negative, an_is_not_null, a_cast, a_try_cast, an_equal, a_less, a_case, tag_of, kinds, kind_among, first_byte, unlike_earlier, read_column, number_of, literal_value, marked_value, read_literal, close_node, read_unary, read_cast, read_binary, read_branches, read_optional, has_base, has_else, read_parts, read_case, read_limited_case, read_kind, read_field, depth_most, cases_most, read_root, read_tree, read_rule}

-- a reader of fields refuses with one of the numbers
abbrev Small : Reader Expr → Type 0
Small child = (bytes : List ℕ) (seen : List Column) → RefusedAmong rule_refusals (child bytes seen)

-- a kind is refused with one of the numbers
kind_among_among : (ks : List Kind) (tag : ℕ) → RefusedAmong rule_refusals (kind_among ks tag)
unfolding kind_among
kind_among_among [] tag = refused_among rule_refusals 3 refl
kind_among_among (k ∷ ks) tag = cond_among rule_refusals (eqb tag (tag_of k)) _ _ (ok_among rule_refusals k) (kind_among_among ks tag)

-- the byte at the start of a content is refused with one of the numbers
first_byte_among : (l : List ℕ) → RefusedAmong rule_refusals (first_byte l)
first_byte_among [] = refused_among rule_refusals 3 refl
first_byte_among (b ∷ l) = ok_among rule_refusals b

-- a column field is refused with one of the numbers
column_among : (f : Field) (seen : List Column) → RefusedAmong rule_refusals (read_column f seen)
unfolding read_column
column_among f seen =
    require_among_then rule_refusals (eqb (length f.content) 3) 3 _ refl (λ _.
    bind_among rule_refusals _ _ (type_numbered_among rule_refusals 3 (byte f.content 1) refl) (λ t.
    bind_among rule_refusals _ _ (mark_numbered_among rule_refusals 3 (byte f.content 2) refl) (λ n.
    require_among_then rule_refusals (not (unlike_earlier (record { index = byte f.content 0; type = t; nullable = n }) seen)) 7 _ refl (λ _. ok_among rule_refusals _))))

-- a number is refused with one of the numbers
number_of_among : (make : ℕ → Entry) (k : ℕ) (value : List ℕ) → RefusedAmong rule_refusals (number_of make k value)
number_of_among make k value = require_among_then rule_refusals (eqb (length value) k) 3 _ refl (λ _. ok_among rule_refusals _)

-- a value of a type is refused with one of the numbers
literal_value_among : (t : DataType) (value : List ℕ) → RefusedAmong rule_refusals (literal_value t value)
unfolding literal_value
literal_value_among Boolean value =
    require_among_then rule_refusals (eqb (length value) 1) 3 _ refl (λ _.
    bind_among rule_refusals _ _ (mark_numbered_among rule_refusals 3 (byte value 0) refl) (λ b. ok_among rule_refusals _))
literal_value_among Int32 value = number_of_among int32 4 value
literal_value_among Int64 value = number_of_among int64 8 value
literal_value_among Float64 value = number_of_among float64 8 value
literal_value_among Utf8 value = ok_among rule_refusals (utf8 value)

-- and so is one behind its null mark
marked_value_among : (m : Bool) (t : DataType) (value : List ℕ) → RefusedAmong rule_refusals (marked_value m t value)
unfolding marked_value
marked_value_among true t value = require_among_then rule_refusals (is_empty value) 3 _ refl (λ _. ok_among rule_refusals _)
marked_value_among false t value = literal_value_among t value

-- a literal field is refused with one of the numbers
literal_among : (f : Field) (seen : List Column) → RefusedAmong rule_refusals (read_literal f seen)
unfolding read_literal
literal_among f seen =
    bind_among rule_refusals _ _ (first_byte_among f.content) (λ a.
    bind_among rule_refusals _ _ (type_numbered_among rule_refusals 3 a refl) (λ t.
    bind_among rule_refusals _ _ (first_byte_among (drop 1 f.content)) (λ b.
    bind_among rule_refusals _ _ (mark_numbered_among rule_refusals 3 b refl) (λ m.
    bind_among rule_refusals _ _ (marked_value_among m t (drop 2 f.content)) (λ v. ok_among rule_refusals _)))))

-- behind its last child a node is refused with one of the numbers
close_among : (e : Expr) (seen : List Column) (left rest : List ℕ) → RefusedAmong rule_refusals (close_node e seen left rest)
unfolding close_node
close_among e seen left rest =
    require_among_then rule_refusals (is_empty left) 3 _ refl (λ _. require_among_then rule_refusals (node_typed e) 7 _ refl (λ _. ok_among rule_refusals _))

-- a node of one child is refused with one of the numbers if the child is
unary_among : (node : Expr → Expr) (child : Reader Expr) (content : List ℕ) (seen : List Column) (rest : List ℕ) → Small child
    → RefusedAmong rule_refusals (read_unary node child content seen rest)
unfolding read_unary
unary_among node child content seen rest small = bind_among rule_refusals _ _ (small content seen) (λ a. close_among _ _ _ rest)

-- and so is a cast
cast_among : (node : DataType → Expr → Expr) (child : Reader Expr) (content : List ℕ) (seen : List Column) (rest : List ℕ) → Small child
    → RefusedAmong rule_refusals (read_cast node child content seen rest)
unfolding read_cast
cast_among node child content seen rest small =
    bind_among rule_refusals _ _ (first_byte_among content) (λ b.
    bind_among rule_refusals _ _ (type_numbered_among rule_refusals 3 b refl) (λ t. unary_among (node t) child (drop 1 content) seen rest small))

-- and so is a node of two children
binary_among : (node : Expr → Expr → Expr) (child : Reader Expr) (content : List ℕ) (seen : List Column) (rest : List ℕ) → Small child
    → RefusedAmong rule_refusals (read_binary node child content seen rest)
unfolding read_binary
binary_among node child content seen rest small =
    bind_among rule_refusals _ _ (small content seen) (λ a. bind_among rule_refusals _ _ (small a.rest a.seen) (λ b. close_among _ _ _ rest))

-- and so are a CASE's branches
branches_among : (child : Reader Expr) (n : ℕ) (bytes : List ℕ) (seen : List Column) → Small child → RefusedAmong rule_refusals (read_branches child n bytes seen)
unfolding read_branches
branches_among child zero bytes seen small = ok_among rule_refusals _
branches_among child (suc n) bytes seen small =
    bind_among rule_refusals _ _ (small bytes seen) (λ w.
    bind_among rule_refusals _ _ (small w.rest w.seen) (λ t.
    bind_among rule_refusals _ _ (branches_among child n t.rest t.seen small) (λ bs. ok_among rule_refusals _)))

-- and so is its base or its ELSE
optional_among : (there : Bool) (child : Reader Expr) (bytes : List ℕ) (seen : List Column) → Small child
    → RefusedAmong rule_refusals (read_optional there child bytes seen)
unfolding read_optional
optional_among false child bytes seen small = ok_among rule_refusals _
optional_among true child bytes seen small = bind_among rule_refusals _ _ (small bytes seen) (λ e. ok_among rule_refusals _)

-- and so are its parts together
parts_among : (child : Reader Expr) (flags count : ℕ) (bytes : List ℕ) (seen : List Column) (rest : List ℕ) → Small child
    → RefusedAmong rule_refusals (read_parts child flags count bytes seen rest)
unfolding read_parts
parts_among child flags count bytes seen rest small =
    bind_among rule_refusals _ _ (optional_among (has_base flags) child bytes seen small) (λ b.
    bind_among rule_refusals _ _ (branches_among child count b.rest b.seen small) (λ bs.
    bind_among rule_refusals _ _ (optional_among (has_else flags) child bs.rest bs.seen small) (λ e. close_among _ _ _ rest)))

-- and so is the CASE
case_among : (child : Reader Expr) (content : List ℕ) (seen : List Column) (rest : List ℕ) → Small child → RefusedAmong rule_refusals (read_case child content seen rest)
unfolding read_case
case_among child content seen rest small =
    bind_among rule_refusals _ _ (first_byte_among content) (λ flags.
    bind_among rule_refusals _ _ (first_byte_among (drop 1 content)) (λ count.
    require_among_then rule_refusals (leb flags 3) 3 _ refl (λ _.
    require_among_then rule_refusals (ltb 0 count) 5 _ refl (λ _.
    require_among_then rule_refusals (leb count 32) 6 _ refl
    (λ _. parts_among child flags count (drop 2 content) seen rest small)))))

-- and so is a CASE that may not stand on the path
limited_case_among : (child : ℕ → Reader Expr) (cases : ℕ) (content : List ℕ) (seen : List Column) (rest : List ℕ) → ((c : ℕ) → Small (child c))
    → RefusedAmong rule_refusals (read_limited_case child cases content seen rest)
unfolding read_limited_case
limited_case_among child zero content seen rest small = refused_among rule_refusals 4 refl
limited_case_among child (suc cases) content seen rest small = case_among (child cases) content seen rest (small cases)

-- a field of any kind is refused with one of the numbers if its children are
kind_among_lem : (child : ℕ → Reader Expr) (cases : ℕ) (k : Kind) (f : Field) (seen : List Column) → ((c : ℕ) → Small (child c))
    → RefusedAmong rule_refusals (read_kind child cases k f seen)
unfolding read_kind
kind_among_lem child cases a_column f seen small = column_among f seen
kind_among_lem child cases a_literal f seen small = literal_among f seen
kind_among_lem child cases a_not f seen small = unary_among negation (child cases) f.content seen f.rest (small cases)
kind_among_lem child cases a_negative f seen small = unary_among negative (child cases) f.content seen f.rest (small cases)
kind_among_lem child cases an_is_not_null f seen small = unary_among is_not_null (child cases) f.content seen f.rest (small cases)
kind_among_lem child cases a_cast f seen small = cast_among cast (child cases) f.content seen f.rest (small cases)
kind_among_lem child cases a_try_cast f seen small = cast_among try_cast (child cases) f.content seen f.rest (small cases)
kind_among_lem child cases an_equal f seen small = binary_among equal (child cases) f.content seen f.rest (small cases)
kind_among_lem child cases a_less f seen small = binary_among less (child cases) f.content seen f.rest (small cases)
kind_among_lem child cases a_case f seen small = limited_case_among child cases f.content seen f.rest small

-- a field is refused with one of the numbers, whatever depth is left
field_among : (depth cases : ℕ) → Small (read_field depth cases)
unfolding read_field
field_among zero cases bytes seen =
    bind_among rule_refusals _ _ (header_among rule_refusals 2 bytes refl) (λ f. bind_among rule_refusals _ _ (kind_among_among kinds f.tag) (λ k. refused_among rule_refusals 4 refl))
field_among (suc depth) cases bytes seen =
    bind_among rule_refusals _ _ (header_among rule_refusals 2 bytes refl) (λ f.
    bind_among rule_refusals _ _ (kind_among_among kinds f.tag) (λ k. kind_among_lem (read_field depth) cases k f seen (field_among depth)))

-- the root is refused with one of the numbers
root_among : (bytes : List ℕ) → RefusedAmong rule_refusals (read_root bytes)
unfolding read_root
root_among bytes =
    bind_among rule_refusals _ _ (header_among rule_refusals 2 bytes refl) (λ f.
    require_among_then rule_refusals (eqb f.tag (tag_of a_case)) 3 _ refl (λ _.
    field_among depth_most cases_most bytes []))

-- a tree is refused with one of the numbers
tree_among : (bytes : List ℕ) → RefusedAmong rule_refusals (read_tree bytes)
unfolding read_tree
tree_among bytes =
    require_among_then rule_refusals (ltb 0 (length bytes) && leb (length bytes) 4096) 1 _ refl (λ _.
    bind_among rule_refusals _ _ (root_among bytes) (λ r.
    require_among_then rule_refusals (is_empty r.rest) 3 _ refl (λ _. ok_among rule_refusals r)))

-- a rule is refused with one of the numbers
rule_among : (rule : List ℕ) → RefusedAmong rule_refusals (read_rule rule)
unfolding read_rule
rule_among rule =
    bind_among rule_refusals _ _ (tree_among rule) (λ r. require_among_then rule_refusals (not (constant_fails r.tree)) 8 _ refl (λ _. ok_among rule_refusals r.tree))

-- the number that a rule is refused with is one of 1 to 8
pub rule_refusals_lem : (rule : List ℕ) (n : ℕ) → read_rule rule ≡ refused n → among rule_refusals n ≡ true
rule_refusals_lem rule n e = (rule_among rule).one n e
