-- Steps from a node to its end, to its children, and over trees that stand one behind the other. Assumes nothing.
use mathlib.Core.Path.{◌≡◌, refl, ap, sym, subst, ◌∙◌}
use mathlib.Core.Bool.{Bool, true, false, cond}
use mathlib.Core.List.{List, [], ◌∷◌, ◌++◌}
use Prim.Native.Nat.{ℕ, zero, suc, ◌+◌, ◌*◌, ◌%◌, ◌<◌, ◌≤◌}
use native.Mathlib.Omega.{arith}
use lib.Dec.{eqb, leb}
use lib.ListN.{length, drop, get_or-eq_default}
use borrow.Author.Tests.{eqb-true, eqb-false, leb-true, leb-false, le-leb, lt-leb}
use Rattle.layout.specs.declared.field.FieldPlace.{FieldPlace}
use Rattle.std.specs.Prelude.{Option, Some, None}
use Rattle.layout.specs.Result.{Result, refused, ok}
use Rattle.layout.specs.Bytes.{byte}
use Rattle.layout.specs.Field.{Field, header}
use Rattle.layout.specs.Place.{header_of, header_at}
use Rattle.rule.specs.Tree.{Expr, column, literal, negation, negative, is_not_null, cast, try_cast, equal, less, case_when, Branches, no_more, branch, Optional, absent, present, branch_count}
use Rattle.rule.specs.TreeBytes.{flags_of}
use Rattle.rule.specs.Node.{NodeAt}
use Rattle.rule.specs.Walks.{branch_trees, optional_trees, children_of, head_bytes, node_tag, TreesAt, EndGives, ChildrenGives, BehindGives}
use Rattle.rule.specs.Walked.{header_end, field_end, behind_fields, leaf_tag, head_size, children_at}
use Rattle.rule.proofs.NodeLaws.{Tagged, tagged_by, node_found, node_not_cut, node_tag_lem, node_children, node_size, node_end, trees_split}

-- a field that is found takes at least its header
found_size : (l : List ℕ) (at : ℕ) (p : FieldPlace) → header_at l at ≡ Some p → at + 3 ≤ p.end
found_size l at p = go (header 2 (drop at l))
  where
    go : (h : Result Field) → header_of at h ≡ Some p → at + 3 ≤ p.end
    go (refused n) e = let z : ◌≡◌ {A = ℕ} 0 1 = cc in absurd (omega arith)
    go (ok f) e =
        let same : record { tag = f.tag; start = at + 3; end = at + 3 + length f.content } ≡ p = cc in
        let k : at + 3 + length f.content ≡ p.end = ap (λ (q : FieldPlace). q.end) same in
        omega arith

-- no node stands behind the end
pub nothing_behind : {rule : List ℕ} {start end depth : ℕ} {e : Expr} → NodeAt rule start end e depth → start < length rule
nothing_behind n = omega (arith, node_size n, n.inside)

-- the tag of a node is the byte that was read
pub node_of_tag : {rule : List ℕ} {start end depth : ℕ} {e : Expr} {tag : ℕ} → NodeAt rule start end e depth → byte rule start ≡ tag → Tagged tag e
node_of_tag {e = e} {tag} n is = tagged_by e tag (sym is ∙ node_tag_lem n)

-- a tag that was read stands before the rule's end
pub tag_inside : (rule : List ℕ) (at : ℕ) {byte-read n : ℕ} → byte-read ≡ byte rule at → byte-read ≡ suc n → at < length rule
tag_inside rule at read is = go (leb (length rule) at) refl
  where
    go : (b : Bool) → leb (length rule) at ≡ b → at < length rule
    go true p = let none : byte rule at ≡ 0 = get_or-eq_default rule 0 (leb-true _ _ p) in absurd (omega arith)
    go false p = leb-false _ _ p

-- the end of a field is that of whatever node stands there, and onward
pub end_gives : {rule : List ℕ} {at r : ℕ} → r ≡ field_end rule at → EndGives rule at r
unfolding field_end
end_gives {rule} {at} is = subst (EndGives rule at) (sym is) (go (leb (length rule) at) refl (header_at rule at) refl)
  where
    go : (b : Bool) → leb (length rule) at ≡ b → (h : Option FieldPlace) → header_at rule at ≡ h → EndGives rule at (cond b at (header_end (length rule) h))
    go true p h q =
        let none : length rule ≤ at = leb-true _ _ p in
        record { ends = λ end e depth n. absurd (let k = nothing_behind n in omega arith); onward = omega arith; farther = λ k. absurd (omega arith) }
    go false p (Some f) q = let size = found_size rule at f q in record { ends = λ end e depth n. (node_found n q).2; onward = omega arith; farther = λ k. omega arith }
    go false p None q =
        let room : at < length rule = leb-false _ _ p in
        record { ends = λ end e depth n. absurd (node_not_cut n q); onward = omega arith; farther = λ k. k }

-- where the children stand, behind the rule's end
children_behind : (rule : List ℕ) {at : ℕ} → length rule ≤ at → at ≡ children_at rule at
unfolding children_at
children_behind rule {at} none = rw (le-leb (length rule) at none)

-- and by the tag
children_by : (rule : List ℕ) {at tag : ℕ} → at < length rule → byte rule at ≡ tag → children_at rule at ≡ cond (leaf_tag tag) (field_end rule at) (at + 3 + head_size tag)
unfolding children_at
children_by rule {at} room is =
    ap (λ (b : Bool). cond b at (cond (leaf_tag (byte rule at)) (field_end rule at) (at + 3 + head_size (byte rule at)))) (lt-leb (length rule) at room)
    ∙ ap (λ (t : ℕ). cond (leaf_tag t) (field_end rule at) (at + 3 + head_size t)) is

-- a tag that is one of two
pub one_of_two : {P : Type 0} (tag n : ℕ) → n ≤ tag → tag < n + 2 → (tag ≡ n → P) → (tag ≡ n + 1 → P) → P
one_of_two {P} tag n low high first second = go (eqb tag n) refl
  where
    go : (b : Bool) → eqb tag n ≡ b → P
    go true e = first (eqb-true tag n e)
    go false e = second (let d = eqb-false tag n e in omega arith)

-- the children stand behind the bytes before them
children_placed : {rule : List ℕ} {at end depth : ℕ} (e : Expr) → NodeAt rule at end e depth → children_at rule at ≡ at + 3 + length (head_bytes e)
children_placed {rule} {at} {end} {depth} e n = children_by rule (nothing_behind n) (node_tag_lem n) ∙ go e n
  where
    leaf : (f : Expr) → NodeAt rule at end f depth → children_of f ≡ [] → field_end rule at ≡ at + 3 + length (head_bytes f)
    leaf f m none = (end_gives refl).ends end f depth m ∙ sym (node_end m none)

    go : (f : Expr) → NodeAt rule at end f depth → cond (leaf_tag (node_tag f)) (field_end rule at) (at + 3 + head_size (node_tag f)) ≡ at + 3 + length (head_bytes f)
    go (column c) m = leaf (column c) m refl
    go (literal t v) m = leaf (literal t v) m refl
    go (negation f) m = refl
    go (negative f) m = refl
    go (is_not_null f) m = refl
    go (cast t f) m = refl
    go (try_cast t f) m = refl
    go (equal a b) m = refl
    go (less a b) m = refl
    go (case_when b bs els) m = refl

children_farther : (rule : List ℕ) {at : ℕ} → at < length rule → at < children_at rule at
children_farther rule {at} room = subst (λ (x : ℕ). at < x) (sym (children_by rule room refl)) (go (leaf_tag (byte rule at)))
  where
    go : (b : Bool) → at < cond b (field_end rule at) (at + 3 + head_size (byte rule at))
    go true = (end_gives refl).farther room
    go false = omega arith

-- the children of whatever node stands there, and onward
pub children_gives : {rule : List ℕ} {at r : ℕ} → r ≡ children_at rule at → ChildrenGives rule at r
children_gives {rule} {at} is = subst (ChildrenGives rule at) (sym is) (record {
  stand = λ end e depth n. node_children (children_at rule at) n (children_placed e n);
  onward = go (leb (length rule) at) refl;
  farther = children_farther rule;
})
  where
    go : (b : Bool) → leb (length rule) at ≡ b → at ≤ children_at rule at
    go true p = let k = children_behind rule {at = at} (leb-true _ _ p) in omega arith
    go false p = let k = children_farther rule {at = at} (leb-false _ _ p) in omega arith

-- the first of several trees up to its end, and those behind it
pub first_tree : {rule : List ℕ} {place next end depth : ℕ} {e : Expr} {es : List Expr} → EndGives rule place next → TreesAt rule place end (e ∷ es) depth
    → NodeAt rule place next e depth × TreesAt rule next end es depth
first_tree {rule} {place} {next} {end} {depth} {e} {es} ends t =
    let (m, first, later) = trees_split t in
    let same : m ≡ next = sym (ends.ends m e depth first) in
    (subst (λ (x : ℕ). NodeAt rule place x e depth) same first, subst (λ (x : ℕ). TreesAt rule x end es depth) same later)

-- the first two
pub first_two : {rule : List ℕ} {place then next end depth : ℕ} {w t : Expr} {es : List Expr} → EndGives rule place then → EndGives rule then next → TreesAt rule place end (w ∷ t ∷ es) depth
    → NodeAt rule place then w depth × NodeAt rule then next t depth × TreesAt rule next end es depth
first_two e f trees =
    let (first, rest) = first_tree e trees in
    let (second, later) = first_tree f rest in
    (first, second, later)

-- what stands behind so many fields, one field on
pub behind_next : (rule : List ℕ) (place : ℕ) {left less next : ℕ} → suc less ≡ left → next ≡ field_end rule place → behind_fields rule next less ≡ behind_fields rule place left
unfolding behind_fields
behind_next rule place {left = zero} some is = absurd (omega arith)
behind_next rule place {left = suc n} {less} {next} some is = let k : less ≡ n = omega arith in ap (behind_fields rule next) k ∙ ap (λ (x : ℕ). behind_fields rule x n) is

-- and behind none
pub behind_none : (rule : List ℕ) {place left : ℕ} → left ≤ 0 → place ≡ behind_fields rule place left
unfolding behind_fields
behind_none rule {left = zero} none = refl
behind_none rule {left = suc n} none = absurd (omega arith)

behind_onward : (rule : List ℕ) (at count : ℕ) → at ≤ behind_fields rule at count
unfolding behind_fields
behind_onward rule at zero = omega arith
behind_onward rule at (suc n) = omega (arith, behind_onward rule (field_end rule at) n, (end_gives {rule = rule} {at = at} refl).onward)

behind_stands : {rule : List ℕ} {at end depth : ℕ} (es rest : List Expr) → TreesAt rule at end (es ++ rest) depth → TreesAt rule (behind_fields rule at (length es)) end rest depth
unfolding behind_fields
behind_stands [] rest t = t
behind_stands {rule = rule} {at = at} (e ∷ es) rest t = behind_stands {at = field_end rule at} es rest (first_tree (end_gives refl) t).1

-- the trees behind so many, whatever they are, and onward
pub behind_gives : {rule : List ℕ} {at count r : ℕ} → r ≡ behind_fields rule at count → BehindGives rule at count r
behind_gives {rule} {at} {count} is = subst (BehindGives rule at count) (sym is) (record {
  stand = λ end es rest depth n t. subst (λ (k : ℕ). TreesAt rule (behind_fields rule at k) end rest depth) n (behind_stands es rest t);
  onward = behind_onward rule at count;
})

-- whether a base is there is the lowest of the flags
pub base_flag : (b e : Optional) → flags_of b e % 2 ≡ length (optional_trees b)
base_flag absent absent = refl
base_flag absent (present e) = refl
base_flag (present b) absent = refl
base_flag (present b) (present e) = refl

-- branches have two trees each
pub branches_length : (bs : Branches) → length (branch_trees bs) ≡ 2 * branch_count bs
unfolding branch_count
branches_length no_more = refl
branches_length (branch w t bs) = let k = branches_length bs in omega arith
