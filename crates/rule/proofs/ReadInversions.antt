-- The reader of a rule, taken backwards: what bytes that are read have gone through. Assumes nothing.
use mathlib.Core.Path.{◌≡◌, refl, ap, ap₂, sym, ◌∙◌}
use mathlib.Core.Bool.{Bool, true, false, cond}
use mathlib.Core.List.{List, [], ◌∷◌}
use Prim.Native.Nat.{ℕ, zero, suc, ◌<◌, ◌≤◌}
use native.Mathlib.Omega.{arith}
use lib.Dec.{eqb, leb, ltb}
use lib.ListN.{length, drop}
use borrow.Author.Tests.{eqb-true, leb-true, ltb-true, not-true}
use Rattle.layout.specs.Result.{refused, ok, ◌>>=◌}
use Rattle.layout.specs.Bytes.{byte, number}
use Rattle.layout.specs.Field.{Field, header}
use Rattle.layout.proofs.TestLaws.{both_hold}
use Rattle.layout.proofs.ResultLaws.{refused_not_ok, ok_injective, bind_ok, require_then}
use Rattle.scalar.specs.declared.types.DataType.{DataType}
use Rattle.scalar.specs.Types.{type_number, type_numbered, mark_number, mark_numbered}
use Rattle.scalar.specs.Entry.{Entry}
use Rattle.scalar.proofs.TypeLaws.{type_numbered_ok, mark_numbered_ok}
use Rattle.rule.specs.Tree.{Column, Expr, column, literal, case_when, Branches, branch, Optional, present, branch_count}
use Rattle.rule.specs.Typing.{node_typed}
use Rattle.rule.specs.Constant.{is_empty, constant_fails}
use Rattle.rule.specs.Reading.{Read, Reader, Kind, a_case, tag_of, kinds, kind_among, kind_of, first_byte, unlike_earlier, read_column, number_of, marked_value, read_literal, close_node, read_unary, read_cast, read_binary, read_branches, read_optional, has_base, has_else, read_parts, read_case, read_limited_case, read_kind, read_field, depth_most, cases_most, read_root, read_tree, read_rule}

-- nothing is left over
pub is_empty_true : {A : Type 0} (l : List A) → is_empty l ≡ true → l ≡ []
is_empty_true [] e = refl
is_empty_true (a ∷ l) e = cc

-- the byte at the start of a content is its first
pub first_byte_inv : (l : List ℕ) (b : ℕ) → first_byte l ≡ ok b → l ≡ b ∷ drop 1 l
first_byte_inv [] b e = absurd (refused_not_ok 3 b e)
first_byte_inv (a ∷ l) b e = ap (λ (x : ℕ). x ∷ l) (ok_injective e)

-- and so are the first two
pub first_bytes_inv : (l : List ℕ) (a b : ℕ) → first_byte l ≡ ok a → first_byte (drop 1 l) ≡ ok b → l ≡ a ∷ b ∷ drop 2 l
first_bytes_inv [] a b p q = absurd (refused_not_ok 3 a p)
first_bytes_inv (c ∷ l) a b p q = ap₂ (λ (x : ℕ) (m : List ℕ). x ∷ m) (ok_injective p) (first_byte_inv l b q)

-- three bytes are those at 0, 1 and 2
three_bytes : (l : List ℕ) → length l ≡ 3 → l ≡ byte l 0 ∷ byte l 1 ∷ byte l 2 ∷ []
three_bytes [] e = absurd (omega arith)
three_bytes (a ∷ []) e = absurd (omega arith)
three_bytes (a ∷ b ∷ []) e = absurd (omega arith)
three_bytes (a ∷ b ∷ c ∷ []) e = refl
three_bytes (a ∷ b ∷ c ∷ d ∷ l) e = absurd (omega arith)

-- a kind is the one of its tag
kind_among_inv : (ks : List Kind) (tag : ℕ) (k : Kind) → kind_among ks tag ≡ ok k → tag ≡ tag_of k
unfolding kind_among
kind_among_inv [] tag k e = absurd (refused_not_ok 3 k e)
kind_among_inv (j ∷ ks) tag k e = go (eqb tag (tag_of j)) refl e (kind_among_inv ks tag k)
  where
    go : (t : Bool) → eqb tag (tag_of j) ≡ t → cond t (ok j) (kind_among ks tag) ≡ ok k → (kind_among ks tag ≡ ok k → tag ≡ tag_of k) → tag ≡ tag_of k
    go true q e later = eqb-true tag (tag_of j) q ∙ ap tag_of (ok_injective e)
    go false q e later = later e

-- a column field is index, type, nullable, and unlike no earlier one
pub column_inv : (f : Field) (seen : List Column) (r : Read Expr) → read_column f seen ≡ ok r
    → (c : Column) × (f.content ≡ c.index ∷ type_number c.type ∷ mark_number c.nullable ∷ []) × (unlike_earlier c seen ≡ false)
    × (r ≡ record { tree = column c; seen = c ∷ seen; rest = f.rest })
unfolding read_column
column_inv f seen r p =
    let i = require_then _ _ _ r p in
    let t = bind_ok (type_numbered 3 (byte f.content 1)) _ r i.1 in
    let n = bind_ok (mark_numbered 3 (byte f.content 2)) _ r t.2 in
    let u = require_then _ _ _ r n.2 in
    let type = type_numbered_ok 3 (byte f.content 1) t.0 t.1 in
    let mark = mark_numbered_ok 3 (byte f.content 2) n.0 n.1 in
    let is = three_bytes f.content (eqb-true _ _ i.0) ∙ ap₂ (λ (x y : ℕ). byte f.content 0 ∷ x ∷ y ∷ []) type mark in
    (record { index = byte f.content 0; type = t.0; nullable = n.0 }, is, not-true _ u.0, sym (ok_injective u.1))

-- a number has its bytes and no more
pub number_of_inv : (make : ℕ → Entry) (k : ℕ) (value : List ℕ) (v : Entry) → number_of make k value ≡ ok v
    → (length value ≡ k) × (v ≡ make (number value))
number_of_inv make k value v p =
    let i = require_then (eqb (length value) k) 3 (λ _. ok (make (number value))) v p in
    (eqb-true _ _ i.0, sym (ok_injective i.1))

-- a literal field is type, null mark, value
pub literal_inv : (f : Field) (seen : List Column) (r : Read Expr) → read_literal f seen ≡ ok r
    → (t : DataType) × (m : Bool) × (v : Entry) × (f.content ≡ type_number t ∷ mark_number m ∷ drop 2 f.content)
    × (marked_value m t (drop 2 f.content) ≡ ok v) × (r ≡ record { tree = literal t v; seen = seen; rest = f.rest })
unfolding read_literal
literal_inv f seen r p =
    let a = bind_ok _ _ r p in
    let t = bind_ok _ _ r a.2 in
    let b = bind_ok _ _ r t.2 in
    let m = bind_ok _ _ r b.2 in
    let v = bind_ok _ _ r m.2 in
    let is = ap₂ (λ (x y : ℕ). x ∷ y ∷ drop 2 f.content) (type_numbered_ok 3 a.0 t.0 t.1) (mark_numbered_ok 3 b.0 m.0 m.1) in
    (t.0, m.0, v.0, first_bytes_inv f.content a.0 b.0 a.1 b.1 ∙ is, v.1, sym (ok_injective v.2))

-- a node that closes has nothing left over, and children whose types fit
pub close_inv : (e : Expr) (seen : List Column) (left rest : List ℕ) (r : Read Expr) → close_node e seen left rest ≡ ok r
    → (left ≡ []) × (node_typed e ≡ true) × (r ≡ record { tree = e; seen = seen; rest = rest })
unfolding close_node
close_inv e seen left rest r p =
    let i = require_then _ _ _ r p in
    let j = require_then _ _ _ r i.1 in
    (is_empty_true left i.0, j.0, sym (ok_injective j.1))

-- a node of one child is that child, with nothing left over
pub unary_inv : (node : Expr → Expr) (child : Reader Expr) (content : List ℕ) (seen : List Column) (rest : List ℕ) (r : Read Expr)
    → read_unary node child content seen rest ≡ ok r
    → (a : Read Expr) × (child content seen ≡ ok a) × (a.rest ≡ []) × (node_typed (node a.tree) ≡ true)
    × (r ≡ record { tree = node a.tree; seen = a.seen; rest = rest })
unfolding read_unary
unary_inv node child content seen rest r p =
    let a = bind_ok _ _ r p in
    let c = close_inv _ _ _ rest r a.2 in
    (a.0, a.1, c.0, c.1, c.2)

-- a cast is its target's type byte and a node of one child
pub cast_inv : (node : DataType → Expr → Expr) (child : Reader Expr) (content : List ℕ) (seen : List Column) (rest : List ℕ) (r : Read Expr)
    → read_cast node child content seen rest ≡ ok r
    → (t : DataType) × (content ≡ type_number t ∷ drop 1 content) × (read_unary (node t) child (drop 1 content) seen rest ≡ ok r)
unfolding read_cast
cast_inv node child content seen rest r p =
    let b = bind_ok _ _ r p in
    let t = bind_ok _ _ r b.2 in
    (t.0, first_byte_inv content b.0 b.1 ∙ ap (λ (x : ℕ). x ∷ drop 1 content) (type_numbered_ok 3 b.0 t.0 t.1), t.2)

-- a node of two children is the one behind the other, with nothing left over
pub binary_inv : (node : Expr → Expr → Expr) (child : Reader Expr) (content : List ℕ) (seen : List Column) (rest : List ℕ) (r : Read Expr)
    → read_binary node child content seen rest ≡ ok r
    → (a : Read Expr) × (b : Read Expr) × (child content seen ≡ ok a) × (child a.rest a.seen ≡ ok b) × (b.rest ≡ [])
    × (node_typed (node a.tree b.tree) ≡ true) × (r ≡ record { tree = node a.tree b.tree; seen = b.seen; rest = rest })
unfolding read_binary
binary_inv node child content seen rest r p =
    let a = bind_ok _ _ r p in
    let b = bind_ok _ _ r a.2 in
    let c = close_inv _ _ _ rest r b.2 in
    (a.0, b.0, a.1, b.1, c.0, c.1, c.2)

-- one more branch is WHEN, THEN and the later ones
pub branches_inv : (child : Reader Expr) (n : ℕ) (bytes : List ℕ) (seen : List Column) (r : Read Branches)
    → read_branches child (suc n) bytes seen ≡ ok r
    → (w : Read Expr) × (t : Read Expr) × (bs : Read Branches) × (child bytes seen ≡ ok w) × (child w.rest w.seen ≡ ok t)
    × (read_branches child n t.rest t.seen ≡ ok bs)
    × (r ≡ record { tree = branch w.tree t.tree bs.tree; seen = bs.seen; rest = bs.rest })
unfolding read_branches
branches_inv child n bytes seen r p =
    let w = bind_ok _ _ r p in
    let t = bind_ok _ _ r w.2 in
    let bs = bind_ok _ _ r t.2 in
    (w.0, t.0, bs.0, w.1, t.1, bs.1, sym (ok_injective bs.2))

-- as many branches as were asked for
pub branches_count : (child : Reader Expr) (n : ℕ) (bytes : List ℕ) (seen : List Column) (r : Read Branches) → read_branches child n bytes seen ≡ ok r
    → branch_count r.tree ≡ n
unfolding read_branches branch_count
branches_count child zero bytes seen r p = ap (λ (x : Read Branches). branch_count x.tree) (sym (ok_injective p))
branches_count child (suc n) bytes seen r p =
    let i = branches_inv child n bytes seen r p in
    ap (λ (x : Read Branches). branch_count x.tree) i.6 ∙ ap suc (branches_count child n i.1.rest i.1.seen i.2 i.5)

-- a part that is there is a field
pub optional_inv : (child : Reader Expr) (bytes : List ℕ) (seen : List Column) (r : Read Optional) → read_optional true child bytes seen ≡ ok r
    → (e : Read Expr) × (child bytes seen ≡ ok e) × (r ≡ record { tree = present e.tree; seen = e.seen; rest = e.rest })
unfolding read_optional
optional_inv child bytes seen r p = let e = bind_ok _ _ r p in (e.0, e.1, sym (ok_injective e.2))

-- a CASE's parts are base, branches and ELSE, with nothing left over
pub parts_inv : (child : Reader Expr) (flags count : ℕ) (bytes : List ℕ) (seen : List Column) (rest : List ℕ) (r : Read Expr)
    → read_parts child flags count bytes seen rest ≡ ok r
    → (b : Read Optional) × (bs : Read Branches) × (e : Read Optional) × (read_optional (has_base flags) child bytes seen ≡ ok b)
    × (read_branches child count b.rest b.seen ≡ ok bs) × (read_optional (has_else flags) child bs.rest bs.seen ≡ ok e)
    × (e.rest ≡ []) × (node_typed (case_when b.tree bs.tree e.tree) ≡ true)
    × (r ≡ record { tree = case_when b.tree bs.tree e.tree; seen = e.seen; rest = rest })
unfolding read_parts
parts_inv child flags count bytes seen rest r p =
    let b = bind_ok _ _ r p in
    let bs = bind_ok _ _ r b.2 in
    let e = bind_ok _ _ r bs.2 in
    let c = close_inv _ _ _ rest r e.2 in
    (b.0, bs.0, e.0, b.1, bs.1, e.1, c.0, c.1, c.2)

-- a CASE is flags and branch count, each as it may be, and its parts
pub case_inv : (child : Reader Expr) (content : List ℕ) (seen : List Column) (rest : List ℕ) (r : Read Expr) → read_case child content seen rest ≡ ok r
    → (flags : ℕ) × (count : ℕ) × (content ≡ flags ∷ count ∷ drop 2 content) × (flags ≤ 3) × (0 < count) × (count ≤ 32)
    × (read_parts child flags count (drop 2 content) seen rest ≡ ok r)
unfolding read_case
case_inv child content seen rest r p =
    let f = bind_ok _ _ r p in
    let c = bind_ok _ _ r f.2 in
    let a = require_then _ _ _ r c.2 in
    let b = require_then _ _ _ r a.1 in
    let d = require_then _ _ _ r b.1 in
    (f.0, c.0, first_bytes_inv content f.0 c.0 f.1 c.1, leb-true _ _ a.0, ltb-true _ _ b.0, leb-true _ _ d.0, d.1)

-- one more CASE may stand on the path
pub limited_case_inv : (child : ℕ → Reader Expr) (cases : ℕ) (content : List ℕ) (seen : List Column) (rest : List ℕ) (r : Read Expr)
    → read_limited_case child cases content seen rest ≡ ok r → (n : ℕ) × (cases ≡ suc n) × (read_case (child n) content seen rest ≡ ok r)
unfolding read_limited_case
limited_case_inv child zero content seen rest r p = absurd (refused_not_ok 4 r p)
limited_case_inv child (suc n) content seen rest r p = (n, refl, p)

-- a field has depth left, a header and a known tag
pub field_inv : (depth cases : ℕ) (bytes : List ℕ) (seen : List Column) (r : Read Expr) → read_field depth cases bytes seen ≡ ok r
    → (d : ℕ) × (f : Field) × (k : Kind) × (depth ≡ suc d) × (header 2 bytes ≡ ok f) × (f.tag ≡ tag_of k)
    × (read_kind (read_field d) cases k f seen ≡ ok r)
unfolding read_field
field_inv zero cases bytes seen r p =
    let f = bind_ok (header 2 bytes) (λ f. kind_of f.tag >>= λ _. refused 4) r p in
    let k = bind_ok (kind_of f.0.tag) (λ _. refused 4) r f.2 in
    absurd (refused_not_ok 4 r k.2)
field_inv (suc d) cases bytes seen r p =
    let f = bind_ok _ _ r p in
    let k = bind_ok _ _ r f.2 in
    (d, f.0, k.0, refl, f.1, kind_among_inv kinds f.0.tag k.0 k.1, k.2)

-- the root is a CASE
pub root_inv : (bytes : List ℕ) (r : Read Expr) → read_root bytes ≡ ok r
    → (f : Field) × (header 2 bytes ≡ ok f) × (f.tag ≡ tag_of a_case) × (read_field depth_most cases_most bytes [] ≡ ok r)
unfolding read_root
root_inv bytes r p =
    let f = bind_ok _ _ r p in
    let t = require_then _ _ _ r f.2 in
    (f.0, f.1, eqb-true _ _ t.0, t.1)

-- a rule that is read whole, but for its constant casts
pub tree_inv : (bytes : List ℕ) (r : Read Expr) → read_tree bytes ≡ ok r
    → (0 < length bytes) × (length bytes ≤ 4096) × (read_root bytes ≡ ok r) × (r.rest ≡ [])
unfolding read_tree
tree_inv bytes r p =
    let l = require_then _ _ _ r p in
    let both = both_hold (ltb 0 (length bytes)) (leb (length bytes) 4096) l.0 in
    let s = bind_ok _ _ r l.1 in
    let q = require_then _ _ _ r s.2 in
    let same : s.0 ≡ r = ok_injective q.1 in
    (ltb-true _ _ both.0, leb-true _ _ both.1, s.1 ∙ ap ok same, sym (ap (λ (x : Read Expr). x.rest) same) ∙ is_empty_true s.0.rest q.0)

-- an accepted rule
pub rule_inv : (bytes : List ℕ) (e : Expr) → read_rule bytes ≡ ok e
    → (r : Read Expr) × (0 < length bytes) × (length bytes ≤ 4096) × (read_root bytes ≡ ok r) × (r.rest ≡ []) × (constant_fails r.tree ≡ false)
    × (e ≡ r.tree)
unfolding read_rule
rule_inv bytes e p =
    let r = bind_ok _ _ e p in
    let c = require_then _ _ _ e r.2 in
    let t = tree_inv bytes r.0 r.1 in
    (r.0, t.0, t.1, t.2, t.3, not-true _ c.0, sym (ok_injective c.1))
