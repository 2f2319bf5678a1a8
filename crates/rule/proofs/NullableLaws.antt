-- Nullability out of a rule's bytes. Assumes nothing.
use mathlib.Core.Path.{◌≡◌, refl, ap, ap₂, sym, subst, ◌∙◌}
use mathlib.Core.Bool.{Bool, true, false, ◌&&◌, ◌||◌, or-false, or-true}
use mathlib.Core.List.{List, [], ◌∷◌, ◌++◌}
use Prim.Native.Nat.{ℕ, suc, ◌+◌, ◌-◌, ◌%◌, ◌<◌, ◌≤◌}
use native.Mathlib.Omega.{arith}
use lib.Dec.{eqb}
use lib.ListN.{length}
use Rattle.layout.specs.Bytes.{byte, part}
use Rattle.scalar.specs.declared.types.DataType.{DataType}
use Rattle.scalar.specs.declared.value.Value.{Value}
use Rattle.scalar.specs.Entry.{is_null}
use Rattle.scalar.specs.Cast.{can_fail_to_fit}
use Rattle.rule.specs.Tree.{Expr, case_when, Branches, no_more, branch, Optional, absent, present, branch_count}
use Rattle.rule.specs.TreeBytes.{bytes_of, is_present}
use Rattle.rule.specs.Row.{eval}
use Rattle.rule.specs.Constant.{unread}
use Rattle.rule.specs.Nullable.{stripped, replaced, may_pass, reachable, nullable, nullable_then, nullable_else}
use Rattle.rule.specs.Typing.{type_of}
use Rattle.rule.specs.Node.{NodeAt}
use Rattle.rule.specs.Walks.{branch_trees, optional_trees, children_of, head_bytes, TreesAt, EndGives, ChildrenGives, BehindGives}
use Rattle.rule.specs.Walked.{type_at}
use Rattle.rule.specs.ConstantWalks.{PassGives, ConstantGives}
use Rattle.rule.specs.AnswerWalks.{any_nullable, StrippedGives, ReachableGives, NullableGives, AnyGives, CaseNullableGives, BranchesNullableGives, BranchNullableGives}
use Rattle.rule.proofs.NodeLaws.{Tagged, of_column, of_literal, of_negation, of_negative, of_is_not_null, of_cast, of_try_cast, of_equal, of_less, of_case, node_byte, node_children, node_deep, node_deeper, trees_one, trees_none, trees_some, trees_deeper}
use Rattle.rule.proofs.WalkLaws.{nothing_behind, node_of_tag, one_of_two, first_tree, first_two, base_flag}
use Rattle.rule.proofs.LiteralLaws.{mark_told}
use Rattle.rule.proofs.TypeOfLaws.{type_gives}

-- a tree that is stripped to the same stands at the place
pub record StrippedLeft (rule : List ℕ) (start at : ℕ) : Type 0 where
  pub stand : (end : ℕ) (e : Expr) (depth : ℕ) → NodeAt rule start end e depth → (f : Expr) × NodeAt rule at end f depth × (stripped f ≡ stripped e)

pub stripped_start : {rule : List ℕ} {start : ℕ} → StrippedLeft rule start start
stripped_start = record { stand = λ end e depth n. (e, n, refl) }

-- a node that is stripped to its one child
abbrev Strips : ℕ → Expr → Type 0
Strips k e = (f : Expr) × (children_of e ≡ f ∷ []) × (length (head_bytes e) ≡ k) × (stripped f ≡ stripped e)

pub not_strips : (e : Expr) → Tagged 18 e → Strips 0 e
unfolding stripped
not_strips e (of_negation f) = (f, refl, refl, refl)

pub negative_strips : (e : Expr) → Tagged 19 e → Strips 0 e
unfolding stripped
negative_strips e (of_negative f) = (f, refl, refl, refl)

pub cast_strips : (e : Expr) → Tagged 21 e → Strips 1 e
unfolding stripped
cast_strips e (of_cast t f) = (f, refl, refl, refl)

module _ {rule : List ℕ} {start at : ℕ} (inv : StrippedLeft rule start at) where
  -- on, to the child
  pub stripped_next : {next : ℕ} (tag k : ℕ) → ((e : Expr) → Tagged tag e → Strips k e) → byte rule at ≡ tag → next ≡ at + 3 + k → StrippedLeft rule start next
  stripped_next {next} tag k strips is place = record {
    stand = λ end e depth n.
        let (f, node, same) = inv.stand end e depth n in
        let (g, only, size, more) = strips f (node_of_tag node is) in
        let trees = subst (λ (es : List Expr). TreesAt rule next end es (depth - 1)) only (node_children next node (omega arith)) in
        (g, node_deeper depth (omega arith) (trees_one trees), more ∙ same);
  }

  pub stripped_plain : 18 ≤ byte rule at → byte rule at < 20 → StrippedLeft rule start (at + 3)
  stripped_plain low high =
      one_of_two (byte rule at) 18 low high (λ e. stripped_next 18 0 not_strips e (omega arith)) (λ e. stripped_next 19 0 negative_strips e (omega arith))

  -- nothing is left to strip
  pub stripped_end : (byte rule at ≡ 18 → ⊥) → (byte rule at ≡ 19 → ⊥) → (byte rule at ≡ 21 → ⊥) → StrippedGives rule start at
  unfolding stripped
  stripped_end no_not no_negative no_cast = record {
    stand = λ end e depth n.
        let (f, k, same) = inv.stand end e depth n in
        subst (λ (x : Expr). NodeAt rule at end x depth) (go (node_of_tag k refl) no_not no_negative no_cast ∙ same) k;
  }
    where
      go : {tag : ℕ} {f : Expr} → Tagged tag f → (tag ≡ 18 → ⊥) → (tag ≡ 19 → ⊥) → (tag ≡ 21 → ⊥) → f ≡ stripped f
      go (of_column d) a b c = refl
      go (of_literal t v) a b c = refl
      go (of_negation f) a b c = absurd (a refl)
      go (of_negative f) a b c = absurd (b refl)
      go (of_is_not_null f) a b c = refl
      go (of_cast t f) a b c = absurd (c refl)
      go (of_try_cast t f) a b c = refl
      go (of_equal x y) a b c = refl
      go (of_less x y) a b c = refl
      go (of_case x bs f) a b c = refl

  pub stripped_behind : length rule ≤ at → StrippedGives rule start at
  stripped_behind none = record { stand = λ end e depth n. let (f, k, same) = inv.stand end e depth n in absurd (let l = nothing_behind k in omega arith) }

-- a WHEN by the bytes of its THEN, stripped
pub reachable_gives : {rule target : List ℕ} {when then end at : ℕ} {v : Value} {r : Bool} → StrippedGives rule then at → target ≡ part rule at end → ConstantGives rule when then target 8 v
    → PassGives v r → ReachableGives rule when then end r
unfolding reachable
reachable_gives {rule} {target} {when} {then} {end} {at} {v} {r} strips is gives passes = record {
  is = λ w t n k.
      let same : target ≡ bytes_of (stripped t) = is ∙ (strips.stand end t 8 k).is in
      passes rule [] ∙ ap may_pass (gives.means w n []) ∙ ap (λ (l : List ℕ). may_pass (eval (replaced w l) unread)) same;
}

-- a node by its tag
module _ {rule : List ℕ} {start end depth : ℕ} where
  pub nullable_none : depth ≤ 0 → NullableGives rule start end depth true
  nullable_none none = record { is = λ e most n. absurd (let k = node_deep n in omega arith) }

  pub nullable_behind : length rule ≤ start → NullableGives rule start end depth true
  nullable_behind none = record { is = λ e most n. absurd (let k = nothing_behind n in omega arith) }

  pub nullable_column : {mark : ℕ} → byte rule start ≡ 16 → mark ≡ byte rule (start + 5) → NullableGives rule start end depth (eqb mark 1)
  unfolding nullable
  nullable_column {mark} is read = record { is = λ e most n. go e (node_of_tag n is) n }
    where
      go : (e : Expr) → Tagged 16 e → NodeAt rule start end e depth → eqb mark 1 ≡ nullable e
      go e (of_column c) n = ap (λ (x : ℕ). eqb x 1) (read ∙ node_byte 2 (start + 5) n (omega arith) (omega arith)) ∙ mark_told c.nullable

  pub nullable_literal : {mark : ℕ} → byte rule start ≡ 17 → mark ≡ byte rule (start + 4) → NullableGives rule start end depth (eqb mark 1)
  unfolding nullable
  nullable_literal {mark} is read = record { is = λ e most n. go e (node_of_tag n is) n }
    where
      go : (e : Expr) → Tagged 17 e → NodeAt rule start end e depth → eqb mark 1 ≡ nullable e
      go e (of_literal t v) n = ap (λ (x : ℕ). eqb x 1) (read ∙ node_byte 1 (start + 4) n (omega arith) (omega arith)) ∙ mark_told (is_null v)

  pub nullable_is_not_null : byte rule start ≡ 20 → NullableGives rule start end depth false
  unfolding nullable
  nullable_is_not_null is = record { is = λ e most n. go e (node_of_tag n is) }
    where
      go : (e : Expr) → Tagged 20 e → false ≡ nullable e
      go e (of_is_not_null f) = refl

  pub nullable_try_cast : byte rule start ≡ 22 → NullableGives rule start end depth true
  unfolding nullable
  nullable_try_cast is = record { is = λ e most n. go e (node_of_tag n is) }
    where
      go : (e : Expr) → Tagged 22 e → true ≡ nullable e
      go e (of_try_cast t f) = refl

  pub nullable_case_lem : {r : Bool} → 0 < depth → byte rule start ≡ 25 → CaseNullableGives rule start end (depth - 1) r → NullableGives rule start end depth r
  nullable_case_lem {r} some is gives = record { is = λ e most n. go e (node_of_tag n is) most n }
    where
      go : (e : Expr) → Tagged 25 e → depth ≤ 8 → NodeAt rule start end e depth → r ≡ nullable e
      go e (of_case b bs els) most n = gives.is b bs els (omega arith) (node_deeper (depth - 1 + 1) (omega arith) n)

  -- the others are if a child is
  pub nullable_children : {at : ℕ} {r : Bool}
      → ((((Unit {0} × (byte rule start ≡ 16 → ⊥)) × (byte rule start ≡ 17 → ⊥)) × (byte rule start ≡ 20 → ⊥)) × (byte rule start ≡ 22 → ⊥)) × (byte rule start ≡ 25 → ⊥)
      → ChildrenGives rule start at → AnyGives rule at end (depth - 1) r → NullableGives rule start end depth r
  unfolding nullable
  nullable_children rest children gives = record {
    is = λ e most n. gives.is (children_of e) (omega arith) (children.stand end e depth n) ∙ go (node_of_tag n refl) rest;
  }
    where
      go : {tag : ℕ} {e : Expr} → Tagged tag e → ((((Unit {0} × (tag ≡ 16 → ⊥)) × (tag ≡ 17 → ⊥)) × (tag ≡ 20 → ⊥)) × (tag ≡ 22 → ⊥)) × (tag ≡ 25 → ⊥) → any_nullable (children_of e) ≡ nullable e
      go (of_column c) p = absurd (p.0.0.0.0.1 refl)
      go (of_literal t v) p = absurd (p.0.0.0.1 refl)
      go (of_negation e) p = or-false (nullable e)
      go (of_negative e) p = or-false (nullable e)
      go (of_is_not_null e) p = absurd (p.0.0.1 refl)
      go (of_cast t e) p = or-false (nullable e)
      go (of_try_cast t e) p = absurd (p.0.1 refl)
      go (of_equal a b) p = ap (λ (x : Bool). nullable a || x) (or-false (nullable b))
      go (of_less a b) p = ap (λ (x : Bool). nullable a || x) (or-false (nullable b))
      go (of_case b bs e) p = absurd (p.1 refl)

-- trees of which one is nullable if one of all is stand at the place
pub record AnyLeft (rule : List ℕ) (start end depth at : ℕ) : Type 0 where
  pub stand : (es : List Expr) → depth ≤ 8 → TreesAt rule start end es depth → (fs : List Expr) × TreesAt rule at end fs depth × (any_nullable es ≡ any_nullable fs)

pub any_start : {rule : List ℕ} {start end depth : ℕ} → AnyLeft rule start end depth start
any_start = record { stand = λ es most t. (es, t, refl) }

pub any_outside : {rule : List ℕ} {start end depth : ℕ} {r : Bool} → length rule < end → AnyGives rule start end depth r
any_outside out = record { is = λ es most t. absurd (omega (arith, t.held.inside)) }

module _ {rule : List ℕ} {start end depth at next : ℕ} {null : Bool} (inv : AnyLeft rule start end depth at) (more : at < end) (ends : EndGives rule at next)
    (given : NullableGives rule at next depth null) where
  -- the first of them
  first_is : {f : Expr} {fs : List Expr} → depth ≤ 8 → TreesAt rule at end (f ∷ fs) depth → (null ≡ nullable f) × TreesAt rule next end fs depth
  first_is {f} most t = let (first, later) = first_tree ends t in (given.is f most first, later)

  pub any_found : null ≡ true → AnyGives rule start end depth true
  any_found is = record { is = λ es most t. let (fs, trees, same) = inv.stand es most t in go fs most trees ∙ sym same }
    where
      go : (fs : List Expr) → depth ≤ 8 → TreesAt rule at end fs depth → true ≡ any_nullable fs
      go [] most t = absurd (let k = trees_none t in omega arith)
      go (f ∷ fs) most t = ap (λ (x : Bool). x || any_nullable fs) (sym is ∙ (first_is most t).0)

  pub any_next : null ≡ false → AnyLeft rule start end depth next
  any_next is = record { stand = λ es most t. let (fs, trees, same) = inv.stand es most t in go fs most trees same }
    where
      go : {b : Bool} (fs : List Expr) → depth ≤ 8 → TreesAt rule at end fs depth → b ≡ any_nullable fs → (gs : List Expr) × TreesAt rule next end gs depth × (b ≡ any_nullable gs)
      go [] most t same = absurd (let k = trees_none t in omega arith)
      go (f ∷ fs) most t same = let (null_is, later) = first_is most t in (fs, later, same ∙ ap (λ (x : Bool). x || any_nullable fs) (sym null_is ∙ is))

pub any_end : {rule : List ℕ} {start end depth at : ℕ} → AnyLeft rule start end depth at → end ≤ at → AnyGives rule start end depth false
any_end {rule} {start} {end} {depth} {at} inv none = record { is = λ es most t. let (fs, trees, same) = inv.stand es most t in go fs trees ∙ sym same }
  where
    go : (fs : List Expr) → TreesAt rule at end fs depth → false ≡ any_nullable fs
    go [] t = refl
    go (f ∷ fs) t = absurd (let k = trees_some t in omega arith)

-- a branch: its THEN isn't nullable, it is and the base lets it, or it goes by the WHEN
module _ {rule : List ℕ} {when then end depth : ℕ} {base null : Bool} (given : NullableGives rule then end depth null) where
  pub branch_never : null ≡ false → BranchNullableGives rule when then end base depth false
  branch_never is = record { is = λ w t most n k. ap (λ (x : Bool). x && (base || reachable w t)) (sym is ∙ given.is t most k) }

  pub branch_base : null ≡ true → base ≡ true → BranchNullableGives rule when then end base depth true
  branch_base is some = record { is = λ w t most n k. ap₂ (λ (x y : Bool). x && (y || reachable w t)) (sym is ∙ given.is t most k) (sym some) }

  pub branch_when : {r : Bool} → null ≡ true → base ≡ false → ReachableGives rule when then end r → BranchNullableGives rule when then end base depth r
  branch_when {r} is none gives = record {
    is = λ w t most n k.
        gives.is w t (node_deeper 8 most n) (node_deeper 8 most k)
        ∙ ap₂ (λ (x y : Bool). x && (y || reachable w t)) (sym is ∙ given.is t most k) (sym none);
  }

-- branches of which one is nullable if one of all is stand at the place, as many as are left
pub record NullableLeft (rule : List ℕ) (at end count : ℕ) (base : Bool) (depth place left : ℕ) : Type 0 where
  pub stand : (bs : Branches) (els : Optional) → depth ≤ 8 → branch_count bs ≡ count → TreesAt rule at end (branch_trees bs ++ optional_trees els) depth
      → (cs : Branches) × (branch_count cs ≡ left) × TreesAt rule place end (branch_trees cs ++ optional_trees els) depth × (nullable_then bs base ≡ nullable_then cs base)

pub thens_start : {rule : List ℕ} {at end count depth : ℕ} {base : Bool} → NullableLeft rule at end count base depth at count
thens_start = record { stand = λ bs els most n t. (bs, n, t, refl) }

module _ {rule : List ℕ} {at end count depth place left then next : ℕ} {base null : Bool} (inv : NullableLeft rule at end count base depth place left) (some : 0 < left)
    (e : EndGives rule place then) (f : EndGives rule then next) (given : BranchNullableGives rule place then next base depth null) where
  -- the first of them
  branch_is : {w t : Expr} {es : List Expr} → depth ≤ 8 → TreesAt rule place end (w ∷ t ∷ es) depth → (null ≡ (nullable t && (base || reachable w t))) × TreesAt rule next end es depth
  branch_is {w} {t} most trees = let (first, second, later) = first_two e f trees in (given.is w t most first second, later)

  pub thens_found : {start : ℕ} → null ≡ true → BranchesNullableGives rule start at end count base depth true
  unfolding nullable branch_count
  thens_found {start} is = record {
    is = λ bs els most n t. let (cs, size, trees, same) = inv.stand bs els most n t in ap (λ (x : Bool). x || nullable_else els (type_at rule start)) (go cs els most size trees ∙ sym same);
  }
    where
      go : (cs : Branches) (els : Optional) → depth ≤ 8 → branch_count cs ≡ left → TreesAt rule place end (branch_trees cs ++ optional_trees els) depth → true ≡ nullable_then cs base
      go no_more els most n t = absurd (omega arith)
      go (branch w u cs) els most n t = ap (λ (x : Bool). x || nullable_then cs base) (sym is ∙ (branch_is most t).0)

  pub thens_next : {less : ℕ} → suc less ≡ left → null ≡ false → NullableLeft rule at end count base depth next less
  unfolding nullable branch_count
  thens_next {less} fewer is = record { stand = λ bs els most n t. let (cs, size, trees, same) = inv.stand bs els most n t in go cs els most size trees same }
    where
      go : {b : Bool} (cs : Branches) (els : Optional) → depth ≤ 8 → branch_count cs ≡ left → TreesAt rule place end (branch_trees cs ++ optional_trees els) depth → b ≡ nullable_then cs base
          → (ds : Branches) × (branch_count ds ≡ less) × TreesAt rule next end (branch_trees ds ++ optional_trees els) depth × (b ≡ nullable_then ds base)
      go no_more els most n t same = absurd (omega arith)
      go (branch w u cs) els most n t same =
          let (null_is, later) = branch_is most t in
          (cs, omega arith, later, same ∙ ap (λ (x : Bool). x || nullable_then cs base) (sym null_is ∙ is))

-- whether the try-cast of an ELSE can fail, by its tree
else_fails : {rule : List ℕ} {place end depth : ℕ} {fails : Bool} {e : Expr} (result : DataType) → fails ≡ can_fail_to_fit (type_at rule place) result → TreesAt rule place end (e ∷ []) depth
    → fails ≡ can_fail_to_fit (type_of e) result
else_fails {end = end} {depth} {e = e} result told t = told ∙ ap (λ (d : DataType). can_fail_to_fit d result) (type_gives refl end e depth (trees_one t))

-- none is left: ELSE
module _ {rule : List ℕ} {start at end count depth place left : ℕ} {base : Bool} (inv : NullableLeft rule at end count base depth place left) (none : left ≤ 0) where
  -- it stands at the place
  else_at : {r : Bool} → ((els : Optional) → depth ≤ 8 → TreesAt rule place end (optional_trees els) depth → r ≡ nullable_else els (type_at rule start))
      → BranchesNullableGives rule start at end count base depth r
  unfolding nullable branch_count
  else_at {r} told = record {
    is = λ bs els most n t.
        let (cs, size, trees, same) = inv.stand bs els most n t in
        go cs els most size trees ∙ ap (λ (x : Bool). x || nullable_else els (type_at rule start)) (sym same);
  }
    where
      go : (cs : Branches) (els : Optional) → depth ≤ 8 → branch_count cs ≡ left → TreesAt rule place end (branch_trees cs ++ optional_trees els) depth
          → r ≡ (nullable_then cs base || nullable_else els (type_at rule start))
      go no_more els most n t = told els most t
      go (branch w u cs) els most n t = absurd (omega arith)

  pub thens_absent : place ≡ end → BranchesNullableGives rule start at end count base depth true
  unfolding nullable
  thens_absent same = else_at go
    where
      go : (els : Optional) → depth ≤ 8 → TreesAt rule place end (optional_trees els) depth → true ≡ nullable_else els (type_at rule start)
      go absent most t = refl
      go (present e) most t = absurd (let k = trees_some t in omega arith)

  -- ELSE is there: nullable where its try-cast can fail, else by its own answer
  module _ {fails : Bool} (differ : place ≡ end → ⊥) (told : fails ≡ can_fail_to_fit (type_at rule place) (type_at rule start)) where
    pub thens_fails : fails ≡ true → BranchesNullableGives rule start at end count base depth true
    unfolding nullable
    thens_fails is = else_at go
      where
        go : (els : Optional) → depth ≤ 8 → TreesAt rule place end (optional_trees els) depth → true ≡ nullable_else els (type_at rule start)
        go absent most t = absurd (differ (trees_none t))
        go (present e) most t = sym (ap (λ (x : Bool). nullable e || x) (sym (else_fails (type_at rule start) told t) ∙ is) ∙ or-true (nullable e))

    pub thens_else : {r : Bool} → fails ≡ false → NullableGives rule place end depth r → BranchesNullableGives rule start at end count base depth r
    unfolding nullable
    thens_else {r} is gives = else_at go
      where
        go : (els : Optional) → depth ≤ 8 → TreesAt rule place end (optional_trees els) depth → r ≡ nullable_else els (type_at rule start)
        go absent most t = absurd (differ (trees_none t))
        go (present e) most t = gives.is e most (trees_one t) ∙ sym (ap (λ (x : Bool). nullable e || x) (sym (else_fails (type_at rule start) told t) ∙ is) ∙ or-false (nullable e))

-- a CASE
present_flag : (b : Optional) → eqb (length (optional_trees b)) 1 ≡ is_present b
present_flag absent = refl
present_flag (present e) = refl

pub case_nullable : {rule : List ℕ} {start end at flags count depth : ℕ} {r : Bool} → flags ≡ byte rule (start + 3) → count ≡ byte rule (start + 4) → BehindGives rule (start + 5) (flags % 2) at
    → BranchesNullableGives rule start at end count (eqb (flags % 2) 1) depth r → CaseNullableGives rule start end depth r
unfolding nullable type_of
case_nullable {rule} {start} {end} {at} {flags} {count} {depth} {r} flags-is count_is behind gives = record {
  is = λ b bs els most n.
      let flag = node_byte 0 (start + 3) n (omega arith) (omega arith) in
      let counted = node_byte 1 (start + 4) n (omega arith) (omega arith) in
      let base : flags % 2 ≡ length (optional_trees b) = let k = base_flag b els in omega arith in
      let trees = trees_deeper depth (omega arith) (node_children (start + 5) n (omega arith)) in
      let later = behind.stand end (optional_trees b) (branch_trees bs ++ optional_trees els) depth (sym base) trees in
      gives.is bs els most (omega arith) later
      ∙ ap₂ (λ (x : Bool) (t : DataType). nullable_then bs x || nullable_else els t) (ap (λ (x : ℕ). eqb x 1) base ∙ present_flag b) (type_gives refl end (case_when b bs els) (depth + 1) n);
}

pub case_outside : {rule : List ℕ} {start end depth : ℕ} {r : Bool} → length rule ≤ start → CaseNullableGives rule start end depth r
case_outside none = record { is = λ b bs els most n. absurd (let k = nothing_behind n in omega arith) }
