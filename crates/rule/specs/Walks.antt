-- Walks over the bytes of an accepted rule: trees that stand one behind the other at a place, what a node's bytes are before its children,
-- and what the steps from place to place mean for whatever tree stands there.
use Rattle.std.specs.Prelude.{◌≡◌, Bool, true, ◌&&◌, List, [], ◌∷◌, ◌++◌, ℕ, ◌-◌, ◌<◌, ◌≤◌, max, length}
use Rattle.layout.specs.Bytes.{Bytes, part}
use Rattle.scalar.specs.Types.{type_number, mark_number}
use Rattle.scalar.specs.declared.types.DataType.{DataType}
use Rattle.scalar.specs.declared.value.Value.{Value}
use Rattle.scalar.specs.Entry.{Entry, is_null, entry}
use Rattle.scalar.specs.Value.{meaning, Storable}
use Rattle.rule.specs.Tree.{Expr, column, literal, negation, negative, is_not_null, cast, try_cast, equal, less, case_when, Branches, no_more, branch, Optional, absent, present, branch_count}
use Rattle.rule.specs.TreeBytes.{value_bytes, flags_of, bytes_of}
use Rattle.rule.specs.WellFormed.{well_formed}
use Rattle.rule.specs.Typing.{type_of}
use Rattle.rule.specs.Node.{NodeAt, depth_of}

-- the trees of branches, WHEN and THEN in turn
abbrev pub branch_trees : Branches → List Expr
branch_trees no_more = []
branch_trees (branch w t bs) = w ∷ t ∷ branch_trees bs

-- the tree of a part that may be absent
abbrev pub optional_trees : Optional → List Expr
optional_trees absent = []
optional_trees (present e) = e ∷ []

-- the trees directly below a node, in the order of the bytes
abbrev pub children_of : Expr → List Expr
children_of (column c) = []
children_of (literal t v) = []
children_of (negation e) = e ∷ []
children_of (negative e) = e ∷ []
children_of (is_not_null e) = e ∷ []
children_of (cast t e) = e ∷ []
children_of (try_cast t e) = e ∷ []
children_of (equal a b) = a ∷ b ∷ []
children_of (less a b) = a ∷ b ∷ []
children_of (case_when b bs e) = optional_trees b ++ (branch_trees bs ++ optional_trees e)

-- the tag of a node
abbrev pub node_tag : Expr → ℕ
node_tag (column c) = 16
node_tag (literal t v) = 17
node_tag (negation e) = 18
node_tag (negative e) = 19
node_tag (is_not_null e) = 20
node_tag (cast t e) = 21
node_tag (try_cast t e) = 22
node_tag (equal a b) = 23
node_tag (less a b) = 24
node_tag (case_when b bs e) = 25

-- the bytes of a node between its header and its children
abbrev pub head_bytes : Expr → List ℕ
head_bytes (column c) = c.index ∷ type_number c.type ∷ mark_number c.nullable ∷ []
head_bytes (literal t v) = type_number t ∷ mark_number (is_null v) ∷ value_bytes v
head_bytes (negation e) = []
head_bytes (negative e) = []
head_bytes (is_not_null e) = []
head_bytes (cast t e) = type_number t ∷ []
head_bytes (try_cast t e) = type_number t ∷ []
head_bytes (equal a b) = []
head_bytes (less a b) = []
head_bytes (case_when b bs e) = flags_of b e ∷ branch_count bs ∷ []

-- the bytes of trees one behind the other
unfoldable pub trees_bytes : List Expr → List ℕ
trees_bytes [] = []
trees_bytes (e ∷ es) = bytes_of e ++ trees_bytes es

-- how deep such trees nest
unfoldable pub trees_depth : List Expr → ℕ
trees_depth [] = 0
trees_depth (e ∷ es) = max (depth_of e) (trees_depth es)

-- such trees are all well-formed
unfoldable pub trees_formed : List Expr → Bool
trees_formed [] = true
trees_formed (e ∷ es) = well_formed e && trees_formed es

-- bytes that stand at a place of a rule
pub record HeldAt (rule : List ℕ) (start end : ℕ) (bytes : List ℕ) : Type 0 where
  pub all_bytes : Bytes rule
  pub few : length rule ≤ 4096
  pub ordered : start ≤ end
  pub inside : end ≤ length rule
  pub is : part rule start end ≡ bytes

-- trees that stand one behind the other at a place of a rule, and nest at most so deep
pub record TreesAt (rule : List ℕ) (start end : ℕ) (es : List Expr) (depth : ℕ) : Type 0 where
  pub held : HeldAt rule start end (trees_bytes es)
  pub deep : trees_depth es ≤ depth
  pub formed : trees_formed es ≡ true

-- the end of the field at a place: of whatever node stands there; always onward
pub record EndGives (rule : List ℕ) (at r : ℕ) : Type 0 where
  pub ends : (end : ℕ) (e : Expr) (depth : ℕ) → NodeAt rule at end e depth → r ≡ end
  pub onward : at ≤ r
  pub farther : at < length rule → at < r

-- where the children of whatever node stands at a place stand; always onward
pub record ChildrenGives (rule : List ℕ) (at r : ℕ) : Type 0 where
  pub stand : (end : ℕ) (e : Expr) (depth : ℕ) → NodeAt rule at end e depth → TreesAt rule r end (children_of e) (depth - 1)
  pub onward : at ≤ r
  pub farther : at < length rule → at < r

-- what stands behind so many trees
pub record BehindGives (rule : List ℕ) (at count r : ℕ) : Type 0 where
  pub stand : (end : ℕ) (es rest : List Expr) (depth : ℕ) → length es ≡ count → TreesAt rule at end (es ++ rest) depth → TreesAt rule r end rest depth
  pub onward : at ≤ r

-- the value of whatever literal stands at a place
abbrev pub LiteralGives : List ℕ → ℕ → ℕ → Value → Type 0
LiteralGives rule start end r =
    (t : DataType) (v : Entry) (depth : ℕ) → NodeAt rule start end (literal t v) depth → ((table : List ℕ) → meaning rule table r ≡ entry v) × Storable r

-- the type of a number
abbrev pub NumberedGives : ℕ → DataType → Type 0
NumberedGives n r = (t : DataType) → n ≡ type_number t → r ≡ t

-- the type of whatever node stands at a place
abbrev pub TypeGives : List ℕ → ℕ → DataType → Type 0
TypeGives rule start r = (end : ℕ) (e : Expr) (depth : ℕ) → NodeAt rule start end e depth → r ≡ type_of e
