-- Reading a rule. The order of the tests is document 01's order of numbers (01, Where a call stops): at a field 2, unknown tag
-- or no CASE at the root (3), 4, content (3), for a CASE 5 and 6, children, bytes left over behind the last child (3), 7;
-- bytes behind the root CASE (3) come after its 7 and before 8.
use Rattle.std.specs.Prelude.{Bool, true, false, cond, not, ◌&&◌, ◌||◌, List, [], ◌∷◌, ℕ, zero, suc, ◌%◌, eqb, leb, ltb, length, drop}
use Rattle.layout.specs.Result.{Result, refused, ok, ◌>>=◌, require}
use Rattle.layout.specs.Bytes.{byte, number}
use Rattle.layout.specs.Field.{Field, header}
use Rattle.scalar.specs.declared.types.DataType.{DataType}
use Rattle.scalar.specs.declared.types.DataType.TheVariants.{Boolean, Int32, Int64, Float64, Utf8}
use Rattle.scalar.specs.Types.{same_type, type_numbered, mark_numbered, mark_number}
use Rattle.scalar.specs.Entry.{Entry, null, boolean, int32, int64, float64, utf8}
use Rattle.rule.specs.Tree.{Column, Expr, column, literal, negation, negative, is_not_null, cast, try_cast, equal, less, case_when, Branches, no_more, branch, Optional, absent, present}
use Rattle.rule.specs.Typing.{node_typed}
use Rattle.rule.specs.Constant.{is_empty, constant_fails}

-- what was read: the tree, the column fields met so far, and the bytes behind it
pub record Read (A : Type 0) : Type 0 where
  pub tree : A
  pub seen : List Column
  pub rest : List ℕ

-- from what is left of the parent and the column fields met so far
abbrev pub Reader : Type 0 → Type 0
Reader A = List ℕ → List Column → Result (Read A)

-- tags (decimal) of the fields
pub data Kind : Type 0 where
  a_column a_literal a_not a_negative an_is_not_null a_cast a_try_cast an_equal a_less a_case : Kind

-- 16 column, 17 literal, 18 NOT, 19 negative, 20 IS NOT NULL, 21 cast, 22 try-cast, 23 equal, 24 less, 25 CASE
abbrev pub tag_of : Kind → ℕ
tag_of a_column = 16
tag_of a_literal = 17
tag_of a_not = 18
tag_of a_negative = 19
tag_of an_is_not_null = 20
tag_of a_cast = 21
tag_of a_try_cast = 22
tag_of an_equal = 23
tag_of a_less = 24
tag_of a_case = 25

-- the fields that a rule may have
abbrev pub kinds : List Kind
kinds = a_column ∷ a_literal ∷ a_not ∷ a_negative ∷ an_is_not_null ∷ a_cast ∷ a_try_cast ∷ an_equal ∷ a_less ∷ a_case ∷ []

-- the field of a tag among some, or 3
unfoldable pub kind_among : List Kind → ℕ → Result Kind
kind_among [] tag = refused 3
kind_among (k ∷ ks) tag = cond (eqb tag (tag_of k)) (ok k) (kind_among ks tag)

-- tag unknown: 3
abbrev pub kind_of : ℕ → Result Kind
kind_of tag = kind_among kinds tag

-- the byte at the start of a content; content bytes not as listed: 3
abbrev pub first_byte : List ℕ → Result ℕ
first_byte [] = refused 3
first_byte (b ∷ l) = ok b

-- a column field unlike an earlier one of its index: 7
unfoldable pub unlike_earlier : Column → List Column → Bool
unlike_earlier c [] = false
unlike_earlier c (d ∷ seen) =
    (eqb c.index d.index && not (same_type c.type d.type && eqb (mark_number c.nullable) (mark_number d.nullable)))
    || unlike_earlier c seen

-- index, type, nullable, a byte each
unfoldable pub read_column : Field → List Column → Result (Read Expr)
read_column f seen = do
  _ ← require (eqb (length f.content) 3) 3
  t ← type_numbered 3 (byte f.content 1)
  n ← mark_numbered 3 (byte f.content 2)
  let c : Column = record { index = byte f.content 0; type = t; nullable = n }
  _ ← require (not (unlike_earlier c seen)) 7
  ok (record { tree = column c; seen = c ∷ seen; rest = f.rest })

-- a number of k bytes
abbrev pub number_of : (ℕ → Entry) → ℕ → List ℕ → Result Entry
number_of make k value = require (eqb (length value) k) 3 >>= λ _. ok (make (number value))

-- Boolean is a byte 0 or 1, numbers 4 or 8 bytes, text any bytes
unfoldable pub literal_value : DataType → List ℕ → Result Entry
literal_value Boolean value = do
  _ ← require (eqb (length value) 1) 3
  b ← mark_numbered 3 (byte value 0)
  ok (boolean b)
literal_value Int32 value = number_of int32 4 value
literal_value Int64 value = number_of int64 8 value
literal_value Float64 value = number_of float64 8 value
literal_value Utf8 value = ok (utf8 value)

-- no value if null
unfoldable pub marked_value : Bool → DataType → List ℕ → Result Entry
marked_value true t value = require (is_empty value) 3 >>= λ _. ok null
marked_value false t value = literal_value t value

-- type, null mark, value
unfoldable pub read_literal : Field → List Column → Result (Read Expr)
read_literal f seen = do
  a ← first_byte f.content
  t ← type_numbered 3 a
  b ← first_byte (drop 1 f.content)
  m ← mark_numbered 3 b
  v ← marked_value m t (drop 2 f.content)
  ok (record { tree = literal t v; seen = seen; rest = f.rest })

-- behind a node's last child: bytes left over (3), then types that don't fit (7)
unfoldable pub close_node : Expr → List Column → List ℕ → List ℕ → Result (Read Expr)
close_node e seen left rest = do
  _ ← require (is_empty left) 3
  _ ← require (node_typed e) 7
  ok (record { tree = e; seen = seen; rest = rest })

-- one child
unfoldable pub read_unary : (Expr → Expr) → Reader Expr → List ℕ → List Column → List ℕ → Result (Read Expr)
read_unary node child content seen rest = do
  a ← child content seen
  close_node (node a.tree) a.seen a.rest rest

-- target type byte, one child
unfoldable pub read_cast : (DataType → Expr → Expr) → Reader Expr → List ℕ → List Column → List ℕ → Result (Read Expr)
read_cast node child content seen rest = do
  b ← first_byte content
  t ← type_numbered 3 b
  read_unary (node t) child (drop 1 content) seen rest

-- two children
unfoldable pub read_binary : (Expr → Expr → Expr) → Reader Expr → List ℕ → List Column → List ℕ → Result (Read Expr)
read_binary node child content seen rest = do
  a ← child content seen
  b ← child a.rest a.seen
  close_node (node a.tree b.tree) b.seen b.rest rest

-- WHEN and THEN in turn, so many times
unfoldable pub read_branches : Reader Expr → ℕ → Reader Branches
read_branches child zero bytes seen = ok (record { tree = no_more; seen = seen; rest = bytes })
read_branches child (suc n) bytes seen = do
  w ← child bytes seen
  t ← child w.rest w.seen
  bs ← read_branches child n t.rest t.seen
  ok (record { tree = branch w.tree t.tree bs.tree; seen = bs.seen; rest = bs.rest })

-- a base or an ELSE, if the flags say that it is present
unfoldable pub read_optional : Bool → Reader Expr → Reader Optional
read_optional false child bytes seen = ok (record { tree = absent; seen = seen; rest = bytes })
read_optional true child bytes seen = do
  e ← child bytes seen
  ok (record { tree = present e.tree; seen = e.seen; rest = e.rest })

-- flags 1 and 3: base present
abbrev pub has_base : ℕ → Bool
has_base flags = eqb (flags % 2) 1

-- flags 2 and 3: ELSE present
abbrev pub has_else : ℕ → Bool
has_else flags = leb 2 flags

-- base, WHEN and THEN in turn, ELSE
unfoldable pub read_parts : Reader Expr → ℕ → ℕ → List ℕ → List Column → List ℕ → Result (Read Expr)
read_parts child flags count bytes seen rest = do
  b ← read_optional (has_base flags) child bytes seen
  bs ← read_branches child count b.rest b.seen
  e ← read_optional (has_else flags) child bs.rest bs.seen
  close_node (case_when b.tree bs.tree e.tree) e.seen e.rest rest

-- flags and branch count (3), no branch (5), more than 32 (6), then the children
unfoldable pub read_case : Reader Expr → List ℕ → List Column → List ℕ → Result (Read Expr)
read_case child content seen rest = do
  flags ← first_byte content
  count ← first_byte (drop 1 content)
  _ ← require (leb flags 3) 3
  _ ← require (ltb 0 count) 5
  _ ← require (leb count 32) 6
  read_parts child flags count (drop 2 content) seen rest

-- at most 3 CASEs on a path: with none left a CASE is 4
unfoldable pub read_limited_case : (ℕ → Reader Expr) → ℕ → List ℕ → List Column → List ℕ → Result (Read Expr)
read_limited_case child zero content seen rest = refused 4
read_limited_case child (suc cases) content seen rest = read_case (child cases) content seen rest

-- a field by its kind; `child cases` reads a child on whose path so many more CASEs may stand
unfoldable pub read_kind : (ℕ → Reader Expr) → ℕ → Kind → Field → List Column → Result (Read Expr)
read_kind child cases a_column f seen = read_column f seen
read_kind child cases a_literal f seen = read_literal f seen
read_kind child cases a_not f seen = read_unary negation (child cases) f.content seen f.rest
read_kind child cases a_negative f seen = read_unary negative (child cases) f.content seen f.rest
read_kind child cases an_is_not_null f seen = read_unary is_not_null (child cases) f.content seen f.rest
read_kind child cases a_cast f seen = read_cast cast (child cases) f.content seen f.rest
read_kind child cases a_try_cast f seen = read_cast try_cast (child cases) f.content seen f.rest
read_kind child cases an_equal f seen = read_binary equal (child cases) f.content seen f.rest
read_kind child cases a_less f seen = read_binary less (child cases) f.content seen f.rest
read_kind child cases a_case f seen = read_limited_case child cases f.content seen f.rest

-- the field at the start of the bytes; so much depth and so many CASEs are left on the path: 2, unknown tag (3), depth passed (4), the rest
unfoldable pub read_field : ℕ → ℕ → Reader Expr
read_field zero cases bytes seen = do
  f ← header 2 bytes
  k ← kind_of f.tag
  refused 4
read_field (suc depth) cases bytes seen = do
  f ← header 2 bytes
  k ← kind_of f.tag
  read_kind (read_field depth) cases k f seen

-- the root has depth 1; depth is at most 8
abbrev pub depth_most : ℕ
depth_most = 8

-- at most 3 CASEs stand on a path
abbrev pub cases_most : ℕ
cases_most = 3

-- the root is a CASE field
unfoldable pub read_root : List ℕ → Result (Read Expr)
read_root bytes = do
  f ← header 2 bytes
  _ ← require (eqb f.tag (tag_of a_case)) 3
  read_field depth_most cases_most bytes []

-- a rule is one CASE field with no byte after it, of at most 4,096 bytes
unfoldable pub read_tree : List ℕ → Result (Read Expr)
read_tree bytes = do
  _ ← require (ltb 0 (length bytes) && leb (length bytes) 4096) 1
  r ← read_root bytes
  _ ← require (is_empty r.rest) 3
  ok r

-- after the whole rule: no cast without a column under it fails
unfoldable pub read_rule : List ℕ → Result Expr
read_rule bytes = do
  r ← read_tree bytes
  _ ← require (not (constant_fails r.tree)) 8
  ok r.tree
