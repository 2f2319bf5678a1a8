-- What stands where in a node of an accepted rule. Assumes nothing.
use mathlib.Core.Path.{◌≡◌, refl, ap, ap₂, sym, subst, ◌∙◌}
use mathlib.Core.Bool.{Bool, true, ◌&&◌}
use mathlib.Core.List.{List, [], ◌∷◌, ◌++◌, append-nil, append_assoc}
use Prim.Native.Nat.{ℕ, suc, ◌+◌, ◌-◌, ◌<◌, ◌≤◌, max}
use native.Mathlib.Omega.{arith}
use lib.Dec.{leb, ltb}
use lib.ListN.{length, take, drop, length-append, length-drop, take-append-drop, get_or-append}
use lib.Seq.{length-take-le, drop-drop, take_at, drop_at, get_or-drop}
use borrow.Author.Tests.{ltb-true, leb-true}
use Rattle.layout.specs.declared.field.FieldPlace.{FieldPlace}
use Rattle.std.specs.Prelude.{Some, None}
use Rattle.layout.specs.Bytes.{Bytes, byte, part, number_bytes}
use Rattle.layout.specs.Field.{header, field_bytes}
use Rattle.layout.specs.Place.{header_of, header_at}
use Rattle.layout.proofs.TestLaws.{both_hold}
use Rattle.layout.proofs.FieldLaws.{header_field}
use Rattle.scalar.specs.declared.types.DataType.{DataType}
use Rattle.scalar.specs.Types.{type_number, mark_number}
use Rattle.scalar.specs.Entry.{Entry, is_null}
use Rattle.rule.specs.Tree.{Column, Expr, column, literal, negation, negative, is_not_null, cast, try_cast, equal, less, case_when, Branches, no_more, branch, Optional, absent, present, branch_count}
use Rattle.rule.specs.TreeBytes.{value_bytes, flags_of, bytes_of, branches_bytes, optional_bytes}
use Rattle.rule.specs.Typing.{node_typed}
use Rattle.rule.specs.WellFormed.{count_fits, well_formed, well_formed_branches, well_formed_optional}
use Rattle.rule.specs.Node.{NodeAt, depth_of, branches_depth, optional_depth}
use Rattle.rule.specs.Walks.{branch_trees, optional_trees, children_of, node_tag, head_bytes, trees_bytes, trees_depth, trees_formed, HeldAt, TreesAt, ChildrenGives}

-- a tree by its tag
pub data Tagged : ℕ → Expr → Type 0 where
  of_column : (c : Column) → Tagged 16 (column c)
  of_literal : (t : DataType) (v : Entry) → Tagged 17 (literal t v)
  of_negation : (e : Expr) → Tagged 18 (negation e)
  of_negative : (e : Expr) → Tagged 19 (negative e)
  of_is_not_null : (e : Expr) → Tagged 20 (is_not_null e)
  of_cast : (t : DataType) (e : Expr) → Tagged 21 (cast t e)
  of_try_cast : (t : DataType) (e : Expr) → Tagged 22 (try_cast t e)
  of_equal : (a b : Expr) → Tagged 23 (equal a b)
  of_less : (a b : Expr) → Tagged 24 (less a b)
  of_case : (b : Optional) (bs : Branches) (e : Optional) → Tagged 25 (case_when b bs e)

-- every tree is of its tag
tagged : (e : Expr) → Tagged (node_tag e) e
tagged (column c) = of_column c
tagged (literal t v) = of_literal t v
tagged (negation e) = of_negation e
tagged (negative e) = of_negative e
tagged (is_not_null e) = of_is_not_null e
tagged (cast t e) = of_cast t e
tagged (try_cast t e) = of_try_cast t e
tagged (equal a b) = of_equal a b
tagged (less a b) = of_less a b
tagged (case_when b bs e) = of_case b bs e

-- by a tag that it has
pub tagged_by : (e : Expr) (tag : ℕ) → tag ≡ node_tag e → Tagged tag e
tagged_by e tag p = subst (λ (n : ℕ). Tagged n e) (sym p) (tagged e)

-- bytes that are held take their room
held_size : {rule bytes : List ℕ} {start end : ℕ} → HeldAt rule start end bytes → start + length bytes ≡ end
held_size {rule} {bytes} {start} {end} h =
    let n : length (part rule start end) ≡ end - start = length-take-le (end - start) (drop start rule) (simp length-drop (omega (arith, h.inside))) in
    let same = ap length h.is in
    omega (arith, h.ordered)

-- behind them stands what is behind their end
pub held_behind : {rule bytes : List ℕ} {start end : ℕ} → HeldAt rule start end bytes → drop start rule ≡ bytes ++ drop end rule
held_behind {rule} {bytes} {start} {end} h =
    let e : start + (end - start) ≡ end = omega (arith, h.ordered) in
    sym (take-append-drop (end - start) (drop start rule))
    ∙ ap₂ (λ (x y : List ℕ). x ++ y) h.is (drop-drop (end - start) start rule ∙ ap (λ (n : ℕ). drop n rule) e)

-- bytes that stand before others are held
held_before : {rule bytes : List ℕ} (rest : List ℕ) {start end : ℕ} → Bytes rule → length rule ≤ 4096 → start + length bytes ≡ end → end ≤ length rule
    → drop start rule ≡ bytes ++ rest → HeldAt rule start end bytes
held_before {rule} {bytes} rest {start} {end} b few size inside p =
    let n : length bytes ≡ end - start = omega arith in
    record { all_bytes = b; few = few; ordered = omega arith; inside = inside; is = ap (take (end - start)) p ∙ take_at bytes rest (end - start) n }

-- of two parts, the one behind the other
held_split : {rule : List ℕ} (a b : List ℕ) {start end : ℕ} (m : ℕ) → m ≡ start + length a → HeldAt rule start end (a ++ b)
    → HeldAt rule start m a × HeldAt rule m end b
held_split {rule} a b {start} {end} m e h =
    let size = held_size h in
    let sum = length-append a b in
    let behind : drop start rule ≡ a ++ (b ++ drop end rule) = held_behind h ∙ append_assoc a b (drop end rule) in
    let later : drop m rule ≡ b ++ drop end rule = ap (λ (n : ℕ). drop n rule) e ∙ sym (drop-drop (length a) start rule) ∙ ap (drop (length a)) behind ∙ drop_at a (b ++ drop end rule) (length a) refl in (
      held_before (b ++ drop end rule) h.all_bytes h.few (sym e) (omega (arith, h.inside)) behind,
      held_before (drop end rule) h.all_bytes h.few (omega arith) h.inside later,
    )

-- a byte of what is held
pub held_byte : {rule bytes : List ℕ} {start end : ℕ} (i at : ℕ) → HeldAt rule start end bytes → i < length bytes → at ≡ start + i → byte rule at ≡ byte bytes i
held_byte {rule} {bytes} {start} {end} i at h k e =
    ap (byte rule) e ∙ sym (get_or-drop start rule i 0) ∙ ap (λ (l : List ℕ). byte l i) (held_behind h) ∙ get_or-append bytes (drop end rule) 0 i k

-- the header of a field that is held
held_header : {rule : List ℕ} (tag : ℕ) (content : List ℕ) {start end : ℕ} → HeldAt rule start end (field_bytes tag content)
    → header_at rule start ≡ Some (record { tag = tag; start = start + 3; end = end })
unfolding field_bytes number_bytes
held_header {rule} tag content {start} {end} h =
    let size = held_size h in
    let few = h.few in
    let inside = h.inside in
    let is = ap (header 2) (held_behind h) ∙ header_field 2 tag content (drop end rule) (omega arith) in
    let e : start + 3 + length content ≡ end = omega arith in
    ap (header_of start) is ∙ ap (λ (n : ℕ). Some (record { tag = tag; start = start + 3; end = n })) e

-- and its content
held_content : {rule : List ℕ} (tag : ℕ) (content : List ℕ) {start end : ℕ} → HeldAt rule start end (field_bytes tag content) → HeldAt rule (start + 3) end content
unfolding field_bytes number_bytes
held_content {rule} tag content {start} h = (held_split (tag ∷ number_bytes 2 (length content)) content (start + 3) refl h).1

-- trees one behind the other
trees_append : (es fs : List Expr) → trees_bytes (es ++ fs) ≡ trees_bytes es ++ trees_bytes fs
unfolding trees_bytes
trees_append [] fs = refl
trees_append (e ∷ es) fs = ap (λ (l : List ℕ). bytes_of e ++ l) (trees_append es fs) ∙ sym (append_assoc (bytes_of e) (trees_bytes es) (trees_bytes fs))

depth_append : (es fs : List Expr) → trees_depth (es ++ fs) ≡ max (trees_depth es) (trees_depth fs)
unfolding trees_depth
depth_append [] fs = omega arith
depth_append (e ∷ es) fs = let k = depth_append es fs in omega arith

formed_append : (es fs : List Expr) → trees_formed es ≡ true → trees_formed fs ≡ true → trees_formed (es ++ fs) ≡ true
unfolding trees_formed
formed_append [] fs p q = q
formed_append (e ∷ es) fs p q =
    let i = both_hold (well_formed e) (trees_formed es) p in
    rw i.0 (formed_append es fs i.1 q)

formed_first : (es fs : List Expr) → trees_formed (es ++ fs) ≡ true → trees_formed es ≡ true
unfolding trees_formed
formed_first [] fs p = refl
formed_first (e ∷ es) fs p =
    let i = both_hold (well_formed e) (trees_formed (es ++ fs)) p in
    rw i.0 (formed_first es fs i.1)

-- the parts of a CASE, as trees
branches_trees : (bs : Branches) → branches_bytes bs ≡ trees_bytes (branch_trees bs)
unfolding bytes_of trees_bytes
branches_trees no_more = refl
branches_trees (branch w t bs) = ap (λ (l : List ℕ). bytes_of w ++ (bytes_of t ++ l)) (branches_trees bs)

optional_trees_lem : (o : Optional) → optional_bytes o ≡ trees_bytes (optional_trees o)
unfolding bytes_of trees_bytes
optional_trees_lem absent = refl
optional_trees_lem (present e) = sym (append-nil (bytes_of e))

branches_depth_lem : (bs : Branches) → branches_depth bs ≡ trees_depth (branch_trees bs)
unfolding depth_of trees_depth
branches_depth_lem no_more = refl
branches_depth_lem (branch w t bs) = let k = branches_depth_lem bs in omega arith

optional_depth_lem : (o : Optional) → optional_depth o ≡ trees_depth (optional_trees o)
unfolding depth_of trees_depth
optional_depth_lem absent = refl
optional_depth_lem (present e) = omega arith

-- a node is its header, the bytes before its children, and its children
node_bytes : (e : Expr) → bytes_of e ≡ field_bytes (node_tag e) (head_bytes e ++ trees_bytes (children_of e))
unfolding bytes_of trees_bytes
node_bytes (column c) = refl
node_bytes (literal t v) = ap (field_bytes 17) (sym (append-nil (head_bytes (literal t v))))
node_bytes (negation e) = ap (field_bytes 18) (sym (append-nil (bytes_of e)))
node_bytes (negative e) = ap (field_bytes 19) (sym (append-nil (bytes_of e)))
node_bytes (is_not_null e) = ap (field_bytes 20) (sym (append-nil (bytes_of e)))
node_bytes (cast t e) = ap (λ (l : List ℕ). field_bytes 21 (type_number t ∷ l)) (sym (append-nil (bytes_of e)))
node_bytes (try_cast t e) = ap (λ (l : List ℕ). field_bytes 22 (type_number t ∷ l)) (sym (append-nil (bytes_of e)))
node_bytes (equal a b) = ap (λ (l : List ℕ). field_bytes 23 (bytes_of a ++ l)) (sym (append-nil (bytes_of b)))
node_bytes (less a b) = ap (λ (l : List ℕ). field_bytes 24 (bytes_of a ++ l)) (sym (append-nil (bytes_of b)))
node_bytes (case_when b bs e) =
    let later = trees_append (branch_trees bs) (optional_trees e) in
    let all = trees_append (optional_trees b) (branch_trees bs ++ optional_trees e) in
    ap (λ (l : List ℕ). field_bytes 25 (flags_of b e ∷ branch_count bs ∷ l))
    (ap₂ (λ (x y : List ℕ). x ++ y) (optional_trees_lem b) (ap₂ (λ (x y : List ℕ). x ++ y) (branches_trees bs) (optional_trees_lem e) ∙ sym later) ∙ sym all)

-- its children nest less deep
children_deep : (e : Expr) → suc (trees_depth (children_of e)) ≤ depth_of e
unfolding depth_of trees_depth
children_deep (column c) = omega arith
children_deep (literal t v) = omega arith
children_deep (negation e) = omega arith
children_deep (negative e) = omega arith
children_deep (is_not_null e) = omega arith
children_deep (cast t e) = omega arith
children_deep (try_cast t e) = omega arith
children_deep (equal a b) = omega arith
children_deep (less a b) = omega arith
children_deep (case_when b bs e) =
    omega
    (arith, depth_append (optional_trees b) (branch_trees bs ++ optional_trees e), depth_append (branch_trees bs) (optional_trees e), optional_depth_lem b, branches_depth_lem bs, optional_depth_lem e)

-- and are well-formed where it is
branches_formed : (bs : Branches) → well_formed_branches bs ≡ true → trees_formed (branch_trees bs) ≡ true
unfolding well_formed trees_formed
branches_formed no_more p = refl
branches_formed (branch w t bs) p =
    let i = both_hold (well_formed w) (well_formed t && well_formed_branches bs) p in
    let j = both_hold (well_formed t) (well_formed_branches bs) i.1 in
    rw (i.0, j.0) (branches_formed bs j.1)

optional_formed : (o : Optional) → well_formed_optional o ≡ true → trees_formed (optional_trees o) ≡ true
unfolding well_formed trees_formed
optional_formed absent p = refl
optional_formed (present e) p = rw p

-- one child, or two, behind a test of the node
one_formed : (t : Bool) (e : Expr) → (t && well_formed e) ≡ true → trees_formed (e ∷ []) ≡ true
unfolding trees_formed
one_formed t e p = rw (both_hold t (well_formed e) p).1

two_formed : (t : Bool) (a b : Expr) → (t && (well_formed a && well_formed b)) ≡ true → trees_formed (a ∷ b ∷ []) ≡ true
unfolding trees_formed
two_formed t a b p =
    let i = both_hold (well_formed a) (well_formed b) (both_hold t (well_formed a && well_formed b) p).1 in
    rw (i.0, i.1)

children_formed : (e : Expr) → well_formed e ≡ true → trees_formed (children_of e) ≡ true
unfolding well_formed
children_formed (column c) p = unfold trees_formed in refl
children_formed (literal t v) p = unfold trees_formed in refl
children_formed (negation e) p = one_formed (node_typed (negation e)) e p
children_formed (negative e) p = one_formed (node_typed (negative e)) e p
children_formed (is_not_null e) p = one_formed (node_typed (is_not_null e)) e p
children_formed (cast t e) p = one_formed (node_typed (cast t e)) e p
children_formed (try_cast t e) p = one_formed (node_typed (try_cast t e)) e p
children_formed (equal a b) p = two_formed (node_typed (equal a b)) a b p
children_formed (less a b) p = two_formed (node_typed (less a b)) a b p
children_formed (case_when b bs e) p =
    let i = both_hold (count_fits bs) (node_typed (case_when b bs e) && (well_formed_optional b && (well_formed_branches bs && well_formed_optional e))) p in
    let j = both_hold (node_typed (case_when b bs e)) (well_formed_optional b && (well_formed_branches bs && well_formed_optional e)) i.1 in
    let k = both_hold (well_formed_optional b) (well_formed_branches bs && well_formed_optional e) j.1 in
    let l = both_hold (well_formed_branches bs) (well_formed_optional e) k.1 in
    formed_append (optional_trees b) (branch_trees bs ++ optional_trees e) (optional_formed b k.0)
    (formed_append (branch_trees bs) (optional_trees e) (branches_formed bs l.0) (optional_formed e l.1))

-- a node as the bytes of a field
node_held : {rule : List ℕ} {start end depth : ℕ} {e : Expr} → NodeAt rule start end e depth → HeldAt rule start end (field_bytes (node_tag e) (head_bytes e ++ trees_bytes (children_of e)))
node_held {rule} {start} {end} {depth} {e} n =
    record { all_bytes = n.all_bytes; few = n.few; ordered = n.ordered; inside = n.inside; is = n.is ∙ node_bytes e }

-- the header at a node's start says its tag and where it ends
pub node_header : {rule : List ℕ} {start end depth : ℕ} {e : Expr} → NodeAt rule start end e depth
    → header_at rule start ≡ Some (record { tag = node_tag e; start = start + 3; end = end })
node_header {e = e} n = held_header (node_tag e) (head_bytes e ++ trees_bytes (children_of e)) (node_held n)

-- behind it stand the bytes before the children, and then the children
node_parts : {rule : List ℕ} {start end depth : ℕ} {e : Expr} (at : ℕ) → at ≡ start + 3 + length (head_bytes e) → NodeAt rule start end e depth
    → HeldAt rule (start + 3) at (head_bytes e) × HeldAt rule at end (trees_bytes (children_of e))
node_parts {e = e} at p n =
    held_split (head_bytes e) (trees_bytes (children_of e)) at p (held_content (node_tag e) (head_bytes e ++ trees_bytes (children_of e)) (node_held n))

-- a byte before the children
pub node_byte : {rule : List ℕ} {start end depth : ℕ} {e : Expr} (i at : ℕ) → NodeAt rule start end e depth → i < length (head_bytes e) → at ≡ start + 3 + i
    → byte rule at ≡ byte (head_bytes e) i
node_byte {start = start} {e = e} i at n k p = held_byte i at (node_parts (start + 3 + length (head_bytes e)) refl n).0 k p

-- the children
pub node_children : {rule : List ℕ} {start end depth : ℕ} {e : Expr} (at : ℕ) → NodeAt rule start end e depth → at ≡ start + 3 + length (head_bytes e)
    → TreesAt rule at end (children_of e) (depth - 1)
node_children {e = e} at n p =
    record { held = (node_parts at p n).1; deep = omega (arith, n.deep, children_deep e); formed = children_formed e n.formed }

-- a node has depth
pub node_deep : {rule : List ℕ} {start end depth : ℕ} {e : Expr} → NodeAt rule start end e depth → 0 < depth
node_deep {e = e} n = omega (arith, n.deep, children_deep e)

-- the first of several trees, and those behind it
pub trees_split : {rule : List ℕ} {start end depth : ℕ} {e : Expr} {es : List Expr} → TreesAt rule start end (e ∷ es) depth
    → (m : ℕ) × NodeAt rule start m e depth × TreesAt rule m end es depth
unfolding trees_bytes trees_depth trees_formed
trees_split {rule} {start} {end} {depth} {e} {es} t =
    let m = start + length (bytes_of e) in
    let h = held_split (bytes_of e) (trees_bytes es) m refl t.held in
    let deep = t.deep in
    let formed = both_hold (well_formed e) (trees_formed es) t.formed in (
      m,
      record {
        all_bytes = h.0.all_bytes;
        few = h.0.few;
        ordered = h.0.ordered;
        inside = h.0.inside;
        is = h.0.is;
        deep = omega arith;
        formed = formed.0;
      },
      record { held = h.1; deep = omega arith; formed = formed.1 },
    )

-- what the header at a node's start says
pub node_found : {rule : List ℕ} {start end depth : ℕ} {e : Expr} {p : FieldPlace} → NodeAt rule start end e depth → header_at rule start ≡ Some p
    → (p.tag ≡ node_tag e) × (p.start ≡ start + 3) × (p.end ≡ end)
node_found {start = start} {end} {e = e} {p} n h =
    let is : record { tag = node_tag e; start = start + 3; end = end } ≡ p = let k = node_header n in cc in
    (ap (λ (q : FieldPlace). q.tag) (sym is), ap (λ (q : FieldPlace). q.start) (sym is), ap (λ (q : FieldPlace). q.end) (sym is))

-- it is there
pub node_not_cut : {rule : List ℕ} {start end depth : ℕ} {e : Expr} → NodeAt rule start end e depth → header_at rule start ≡ None → ⊥
node_not_cut n h = let k = node_header n in let z : ◌≡◌ {A = ℕ} 0 1 = cc in omega arith

-- a node takes at least its header
pub node_size : {rule : List ℕ} {start end depth : ℕ} {e : Expr} → NodeAt rule start end e depth → start + 3 ≤ end
node_size {start = start} {e = e} n = let h = node_parts (start + 3 + length (head_bytes e)) refl n in omega (arith, h.0.ordered, h.1.ordered)

-- a node starts with its tag
pub node_tag_lem : {rule : List ℕ} {start end depth : ℕ} {e : Expr} → NodeAt rule start end e depth → byte rule start ≡ node_tag e
unfolding field_bytes
node_tag_lem {start = start} n = held_byte 0 start (node_held n) (omega arith) (omega arith)

-- a leaf ends behind its bytes
pub node_end : {rule : List ℕ} {start end depth : ℕ} {e : Expr} → NodeAt rule start end e depth → children_of e ≡ [] → start + 3 + length (head_bytes e) ≡ end
unfolding trees_bytes
node_end {start = start} {e = e} n leaf =
    let size = held_size (node_parts (start + 3 + length (head_bytes e)) refl n).1 in
    let none : length (trees_bytes (children_of e)) ≡ 0 = ap (λ (es : List Expr). length (trees_bytes es)) leaf in
    omega arith

-- no tree takes no room, and some take some
pub trees_none : {rule : List ℕ} {start end depth : ℕ} → TreesAt rule start end [] depth → start ≡ end
unfolding trees_bytes
trees_none t = let h = held_size t.held in omega arith

pub trees_some : {rule : List ℕ} {start end depth : ℕ} {e : Expr} {es : List Expr} → TreesAt rule start end (e ∷ es) depth → start < end
trees_some t = let (m, first, later) = trees_split t in omega (arith, node_size first, later.held.ordered)

-- one tree is a node
pub trees_one : {rule : List ℕ} {start end depth : ℕ} {e : Expr} → TreesAt rule start end (e ∷ []) depth → NodeAt rule start end e depth
trees_one {rule} {start} {end} {depth} {e} t =
    let (m, first, later) = trees_split t in
    subst (λ (n : ℕ). NodeAt rule start n e depth) (trees_none later) first

-- a literal's value
pub literal_held : {rule : List ℕ} {start end depth : ℕ} {t : DataType} {v : Entry} (at : ℕ) → at ≡ start + 5 → NodeAt rule start end (literal t v) depth
    → HeldAt rule at end (value_bytes v)
literal_held {rule} {start} {end} {depth} {t} {v} at p n =
    let h = node_parts end (sym (node_end n refl)) n in
    (held_split (type_number t ∷ mark_number (is_null v) ∷ []) (value_bytes v) at (omega arith) h.0).1

-- a CASE has a branch, and at most 32
pub case_counted : {rule : List ℕ} {start end depth : ℕ} {b : Optional} {bs : Branches} {e : Optional} → NodeAt rule start end (case_when b bs e) depth
    → (0 < branch_count bs) × (branch_count bs ≤ 32)
unfolding well_formed
case_counted {b = b} {bs} {e} n =
    let i = both_hold (count_fits bs) (node_typed (case_when b bs e) && (well_formed_optional b && (well_formed_branches bs && well_formed_optional e))) n.formed in
    let j = both_hold (ltb 0 (branch_count bs)) (leb (branch_count bs) 32) i.0 in
    (ltb-true _ _ j.0, leb-true _ _ j.1)

-- what nests at most so deep nests at most deeper
pub node_deeper : {rule : List ℕ} {start end depth : ℕ} {e : Expr} (d : ℕ) → depth ≤ d → NodeAt rule start end e depth → NodeAt rule start end e d
node_deeper d p n = record {
  all_bytes = n.all_bytes;
  few = n.few;
  ordered = n.ordered;
  inside = n.inside;
  is = n.is;
  deep = omega (arith, n.deep);
  formed = n.formed;
}

pub trees_deeper : {rule : List ℕ} {start end depth : ℕ} {es : List Expr} (d : ℕ) → depth ≤ d → TreesAt rule start end es depth → TreesAt rule start end es d
trees_deeper d p t = record { held = t.held; deep = omega (arith, t.deep); formed = t.formed }

-- trees that stand before others
pub trees_before : {rule : List ℕ} {start end m depth : ℕ} (es fs : List Expr) → TreesAt rule start end (es ++ fs) depth → TreesAt rule m end fs depth → TreesAt rule start m es depth
trees_before {rule} {start} {end} {m} {depth} es fs t later =
    let bytes = trees_append es fs in
    let held : HeldAt rule start end (trees_bytes es ++ trees_bytes fs) = subst (λ (l : List ℕ). HeldAt rule start end l) bytes t.held in
    let sum = length-append (trees_bytes es) (trees_bytes fs) in
    let whole = held_size held in
    let rest = held_size later.held in
    let d = depth_append es fs in
    record {
      held = (held_split (trees_bytes es) (trees_bytes fs) m (omega arith) held).0;
      deep = omega (arith, t.deep);
      formed = formed_first es fs t.formed;
    }

-- a node is one tree
pub trees_of_node : {rule : List ℕ} {start end depth : ℕ} {e : Expr} → NodeAt rule start end e depth → TreesAt rule start end (e ∷ []) depth
unfolding trees_bytes trees_depth trees_formed
trees_of_node {e = e} n = record {
  held = record { all_bytes = n.all_bytes; few = n.few; ordered = n.ordered; inside = n.inside; is = n.is ∙ sym (append-nil (bytes_of e)) };
  deep = omega (arith, n.deep);
  formed = rw n.formed;
}

-- trees, and others behind them
trees_join : {rule : List ℕ} {start m end depth : ℕ} (es fs : List Expr) → TreesAt rule start m es depth → TreesAt rule m end fs depth → TreesAt rule start end (es ++ fs) depth
trees_join {rule} {start} {m} {end} {depth} es fs a b =
    let size = held_size a.held in
    let rest = held_size b.held in
    let sum = length-append (trees_bytes es) (trees_bytes fs) in
    let bytes = trees_append es fs in
    let behind : drop start rule ≡ (trees_bytes es ++ trees_bytes fs) ++ drop end rule =
    held_behind a.held ∙ ap (λ (l : List ℕ). trees_bytes es ++ l) (held_behind b.held) ∙ sym (append_assoc (trees_bytes es) (trees_bytes fs) (drop end rule)) in
    record {
      held = subst (λ (l : List ℕ). HeldAt rule start end l) (sym bytes) (held_before (drop end rule) a.held.all_bytes a.held.few (omega arith) b.held.inside behind);
      deep = omega (arith, depth_append es fs, a.deep, b.deep);
      formed = formed_append es fs a.formed b.formed;
    }

-- from the first of several trees into it
pub trees_into : {rule : List ℕ} {at next end depth : ℕ} {e : Expr} {es : List Expr} → ChildrenGives rule at next → TreesAt rule at end (e ∷ es) depth
    → TreesAt rule next end (children_of e ++ es) depth
trees_into {depth = depth} {e} {es} children t =
    let (m, first, later) = trees_split t in
    trees_join (children_of e) es (trees_deeper depth (omega arith) (children.stand m e depth first)) later
