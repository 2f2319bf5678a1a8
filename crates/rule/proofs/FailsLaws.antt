-- Walks over all the nodes of a rule: columns, and constant casts that fail. Assumes nothing.
use mathlib.Core.Path.{◌≡◌, refl, ap, ap₂, sym, subst, ◌∙◌}
use mathlib.Core.Bool.{Bool, true, false, not, ◌&&◌, ◌||◌, or_assoc, or-false}
use mathlib.Core.List.{List, [], ◌∷◌, ◌++◌, append-nil, append_assoc}
use Prim.Native.Nat.{ℕ, ◌<◌, ◌≤◌}
use native.Mathlib.Omega.{arith}
use lib.Dec.{eqb}
use lib.ListN.{length}
use borrow.Author.Tests.{not-true, not-false}
use Rattle.layout.specs.Bytes.{byte}
use Rattle.scalar.specs.declared.value.Value.{Value}
use Rattle.scalar.specs.Cast.{is_unfit}
use Rattle.scalar.specs.Value.{kind_of}
use Rattle.rule.specs.Tree.{Column, Expr, column, literal, negation, negative, is_not_null, cast, try_cast, equal, less, case_when, Branches, no_more, branch, Optional, absent, present}
use Rattle.rule.specs.Row.{eval}
use Rattle.rule.specs.Constant.{columns_of, branches_columns, optional_columns, is_empty, unread, fails_alone, constant_fails, branches_fail, optional_fails}
use Rattle.rule.specs.Nullable.{replaced}
use Rattle.rule.specs.Node.{NodeAt}
use Rattle.rule.specs.Walks.{branch_trees, optional_trees, children_of, TreesAt, EndGives, ChildrenGives}
use Rattle.rule.specs.ConstantWalks.{fails_here, ConstantGives, ColumnGives, FailsHereGives, FailsGives}
use Rattle.rule.proofs.NodeLaws.{Tagged, of_column, of_literal, of_negation, of_negative, of_is_not_null, of_cast, of_try_cast, of_equal, of_less, of_case, trees_split, trees_none, trees_some, trees_of_node, trees_into}
use Rattle.rule.proofs.WalkLaws.{node_of_tag}
use Rattle.rule.proofs.ConstantLaws.{replaced_none}
use Rattle.rule.proofs.ConstantCase.{kind_means, kind_unfit}

-- the columns of trees one behind the other
abbrev trees_columns : List Expr → List Column
trees_columns [] = []
trees_columns (e ∷ es) = columns_of e ++ trees_columns es

columns_append : (es fs : List Expr) → trees_columns (es ++ fs) ≡ trees_columns es ++ trees_columns fs
columns_append [] fs = refl
columns_append (e ∷ es) fs = ap (λ (l : List Column). columns_of e ++ l) (columns_append es fs) ∙ sym (append_assoc (columns_of e) (trees_columns es) (trees_columns fs))

branches_columns_lem : (bs : Branches) → branches_columns bs ≡ trees_columns (branch_trees bs)
unfolding columns_of
branches_columns_lem no_more = refl
branches_columns_lem (branch w t bs) = ap (λ (l : List Column). columns_of w ++ (columns_of t ++ l)) (branches_columns_lem bs)

optional_columns_lem : (o : Optional) → optional_columns o ≡ trees_columns (optional_trees o)
unfolding columns_of
optional_columns_lem absent = refl
optional_columns_lem (present e) = sym (append-nil (columns_of e))

-- a node that is no column names its children's
children_columns : {tag : ℕ} {e : Expr} → Tagged tag e → (tag ≡ 16 → ⊥) → columns_of e ≡ trees_columns (children_of e)
unfolding columns_of
children_columns (of_column c) p = absurd (p refl)
children_columns (of_literal t v) p = refl
children_columns (of_negation e) p = sym (append-nil (columns_of e))
children_columns (of_negative e) p = sym (append-nil (columns_of e))
children_columns (of_is_not_null e) p = sym (append-nil (columns_of e))
children_columns (of_cast t e) p = sym (append-nil (columns_of e))
children_columns (of_try_cast t e) p = sym (append-nil (columns_of e))
children_columns (of_equal a b) p = ap (λ (l : List Column). columns_of a ++ l) (sym (append-nil (columns_of b)))
children_columns (of_less a b) p = ap (λ (l : List Column). columns_of a ++ l) (sym (append-nil (columns_of b)))
children_columns (of_case b bs e) p =
    ap₂ (λ (x y : List Column). x ++ y) (optional_columns_lem b) (ap₂ (λ (x y : List Column). x ++ y) (branches_columns_lem bs) (optional_columns_lem e) ∙ sym (columns_append (branch_trees bs) (optional_trees e)))
    ∙ sym (columns_append (optional_trees b) (branch_trees bs ++ optional_trees e))

-- trees that name the same columns stand at the place
pub record ColumnsLeft (rule : List ℕ) (start end at : ℕ) : Type 0 where
  pub stand : (e : Expr) (depth : ℕ) → NodeAt rule start end e depth → (es : List Expr) × TreesAt rule at end es depth × (columns_of e ≡ trees_columns es)

pub columns_start : {rule : List ℕ} {start end : ℕ} → ColumnsLeft rule start end start
columns_start = record { stand = λ e depth n. (e ∷ [], trees_of_node n, sym (append-nil (columns_of e))) }

module _ {rule : List ℕ} {start end at : ℕ} (inv : ColumnsLeft rule start end at) where
  -- a column is found
  pub columns_found : at < end → byte rule at ≡ 16 → ColumnGives rule start end true
  unfolding columns_of
  columns_found more is = record { is = λ e depth n. let (es, t, same) = inv.stand e depth n in go es t ∙ ap (λ (l : List Column). not (is_empty l)) (sym same) }
    where
      told : (f : Expr) (fs : List Expr) → Tagged 16 f → true ≡ not (is_empty (trees_columns (f ∷ fs)))
      told f fs (of_column c) = refl

      go : {depth : ℕ} (es : List Expr) → TreesAt rule at end es depth → true ≡ not (is_empty (trees_columns es))
      go [] t = absurd (let k = trees_none t in omega arith)
      go (f ∷ fs) t = told f fs (node_of_tag (trees_split t).1 is)

  -- on, to the children of the first
  pub columns_next : {next : ℕ} → at < end → (byte rule at ≡ 16 → ⊥) → ChildrenGives rule at next → ColumnsLeft rule start end next
  columns_next {next} more is children = record { stand = λ e depth n. let (es, t, same) = inv.stand e depth n in go es t same }
    where
      go : {depth : ℕ} {l : List Column} (es : List Expr) → TreesAt rule at end es depth → l ≡ trees_columns es → (fs : List Expr) × TreesAt rule next end fs depth × (l ≡ trees_columns fs)
      go [] t same = absurd (let k = trees_none t in omega arith)
      go (f ∷ fs) t same =
          (children_of f ++ fs, trees_into children t, same ∙ ap (λ (l : List Column). l ++ trees_columns fs) (children_columns (node_of_tag (trees_split t).1 refl) is) ∙ sym (columns_append (children_of f) fs))

  -- none is left
  pub columns_end_lem : end ≤ at → ColumnGives rule start end false
  columns_end_lem none = record { is = λ e depth n. let (es, t, same) = inv.stand e depth n in go es t ∙ ap (λ (l : List Column). not (is_empty l)) (sym same) }
    where
      go : {depth : ℕ} (es : List Expr) → TreesAt rule at end es depth → false ≡ not (is_empty (trees_columns es))
      go [] t = refl
      go (f ∷ fs) t = absurd (let k = trees_some t in omega arith)

-- one of trees one behind the other holds a constant cast that fails
abbrev trees_fail : List Expr → Bool
trees_fail [] = false
trees_fail (e ∷ es) = constant_fails e || trees_fail es

fail_append : (es fs : List Expr) → trees_fail (es ++ fs) ≡ (trees_fail es || trees_fail fs)
fail_append [] fs = refl
fail_append (e ∷ es) fs = ap (λ (b : Bool). constant_fails e || b) (fail_append es fs) ∙ sym (or_assoc (constant_fails e) (trees_fail es) (trees_fail fs))

branches_fail_lem : (bs : Branches) → branches_fail bs ≡ trees_fail (branch_trees bs)
unfolding constant_fails
branches_fail_lem no_more = refl
branches_fail_lem (branch w t bs) = rw (branches_fail_lem bs) (or_assoc (constant_fails w) (constant_fails t) (trees_fail (branch_trees bs)))

optional_fails_lem : (o : Optional) → optional_fails o ≡ trees_fail (optional_trees o)
unfolding constant_fails
optional_fails_lem absent = refl
optional_fails_lem (present e) = sym (or-false (constant_fails e))

-- a node holds one if it is one, or a child holds one
children_fail : (e : Expr) → constant_fails e ≡ (fails_here e || trees_fail (children_of e))
unfolding constant_fails
children_fail (column c) = refl
children_fail (literal t v) = refl
children_fail (negation e) = sym (or-false (constant_fails e))
children_fail (negative e) = sym (or-false (constant_fails e))
children_fail (is_not_null e) = sym (or-false (constant_fails e))
children_fail (cast t e) = ap (λ (b : Bool). fails_alone (cast t e) || b) (sym (or-false (constant_fails e)))
children_fail (try_cast t e) = sym (or-false (constant_fails e))
children_fail (equal a b) = ap (λ (x : Bool). constant_fails a || x) (sym (or-false (constant_fails b)))
children_fail (less a b) = ap (λ (x : Bool). constant_fails a || x) (sym (or-false (constant_fails b)))
children_fail (case_when b bs e) =
    ap₂ (λ (x y : Bool). x || y) (ap₂ (λ (x y : Bool). x || y) (optional_fails_lem b) (branches_fail_lem bs)) (optional_fails_lem e)
    ∙ or_assoc (trees_fail (optional_trees b)) (trees_fail (branch_trees bs)) (trees_fail (optional_trees e))
    ∙ ap (λ (x : Bool). trees_fail (optional_trees b) || x) (sym (fail_append (branch_trees bs) (optional_trees e)))
    ∙ sym (fail_append (optional_trees b) (branch_trees bs ++ optional_trees e))

-- trees that hold one if the rule does stand at the place
pub record FailsLeft (rule : List ℕ) (at : ℕ) : Type 0 where
  pub stand : (e : Expr) → NodeAt rule 0 (length rule) e 8 → (es : List Expr) × TreesAt rule at (length rule) es 8 × (constant_fails e ≡ trees_fail es)

pub fails_start : {rule : List ℕ} → FailsLeft rule 0
fails_start = record { stand = λ e n. (e ∷ [], trees_of_node n, sym (or-false (constant_fails e))) }

module _ {rule : List ℕ} {at : ℕ} (inv : FailsLeft rule at) where
  -- the first is one
  pub fails_found : {here : Bool} → at < length rule → FailsHereGives rule at here → here ≡ true → FailsGives rule true
  fails_found more gives is = record { is = λ e n. let (es, t, same) = inv.stand e n in go es t ∙ sym same }
    where
      go : (es : List Expr) → TreesAt rule at (length rule) es 8 → true ≡ trees_fail es
      go [] t = absurd (let k = trees_none t in omega arith)
      go (f ∷ fs) t =
          let told : true ≡ fails_here f = let (m, first, later) = trees_split t in sym is ∙ gives.is m f first in
          ap (λ (b : Bool). b || trees_fail fs) (ap (λ (b : Bool). b || trees_fail (children_of f)) told ∙ sym (children_fail f))

  -- on, to the children of the first
  pub fails_next : {here : Bool} {next : ℕ} → at < length rule → FailsHereGives rule at here → here ≡ false → ChildrenGives rule at next → FailsLeft rule next
  fails_next {here} {next} more gives is children = record { stand = λ e n. let (es, t, same) = inv.stand e n in go es t same }
    where
      go : {b : Bool} (es : List Expr) → TreesAt rule at (length rule) es 8 → b ≡ trees_fail es → (fs : List Expr) × TreesAt rule next (length rule) fs 8 × (b ≡ trees_fail fs)
      go [] t same = absurd (let k = trees_none t in omega arith)
      go (f ∷ fs) t same =
          let told : fails_here f ≡ false = let (m, first, later) = trees_split t in sym (gives.is m f first) ∙ is in
          let own = children_fail f ∙ ap (λ (x : Bool). x || trees_fail (children_of f)) told in
          (children_of f ++ fs, trees_into children t, same ∙ ap (λ (x : Bool). x || trees_fail fs) own ∙ sym (fail_append (children_of f) fs))

  -- none is left
  pub fails_end : length rule ≤ at → FailsGives rule false
  fails_end none = record { is = λ e n. let (es, t, same) = inv.stand e n in go es t ∙ sym same }
    where
      go : (es : List Expr) → TreesAt rule at (length rule) es 8 → false ≡ trees_fail es
      go [] t = refl
      go (f ∷ fs) t = absurd (let k = trees_some t in omega arith)

-- a node that is no cast is none
pub here_other : {rule : List ℕ} {start : ℕ} → (byte rule start ≡ 21 → ⊥) → FailsHereGives rule start false
here_other {rule} {start} is = record { is = λ end e n. go (node_of_tag n refl) is }
  where
    go : {tag : ℕ} {e : Expr} → Tagged tag e → (tag ≡ 21 → ⊥) → false ≡ fails_here e
    go (of_column c) p = refl
    go (of_literal t v) p = refl
    go (of_negation e) p = refl
    go (of_negative e) p = refl
    go (of_is_not_null e) p = refl
    go (of_cast t e) p = absurd (p refl)
    go (of_try_cast t e) p = refl
    go (of_equal a b) p = refl
    go (of_less a b) p = refl
    go (of_case b bs e) p = refl

-- a cast is by itself what it is alone
cast_alone : (e : Expr) → Tagged 21 e → fails_here e ≡ fails_alone e
cast_alone e (of_cast t f) = refl

module _ {rule : List ℕ} {start end : ℕ} {named : Bool} (is : byte rule start ≡ 21) (ends : EndGives rule start end) (columns : ColumnGives rule start end named) where
  -- the cast, up to its end
  here : {m : ℕ} {e : Expr} → NodeAt rule start m e 8 → NodeAt rule start end e 8
  here {m} {e} n = subst (λ (x : ℕ). NodeAt rule start x e 8) (sym (ends.ends m e 8 n)) n

  pub here_named : named ≡ true → FailsHereGives rule start false
  here_named some = record {
    is = λ m e n.
        let empty : is_empty (columns_of e) ≡ false = let k = columns.is e 8 (here n) in not-true _ (sym k ∙ some) in
        ap (λ (x : Bool). x && is_unfit (eval e unread)) (sym empty) ∙ sym (cast_alone e (node_of_tag n is));
  }

  pub here_alone : {v : Value} {k : ℕ} {target : List ℕ} → named ≡ false → target ≡ [] → ConstantGives rule start end target 8 v → k ≡ kind_of v → FailsHereGives rule start (eqb k 7)
  here_alone {v} none nothing gives kind_is = record {
    is = λ m e n.
        let empty : is_empty (columns_of e) ≡ true = let k = columns.is e 8 (here n) in not-false _ (sym k ∙ none) in
        let unfit-is = kind_unfit (kind_means v rule [] kind_is (gives.means e (here n) [] ∙ ap (λ (x : Expr). eval x unread) (ap (replaced e) nothing ∙ replaced_none e))) in
        unfit-is ∙ ap (λ (x : Bool). x && is_unfit (eval e unread)) (sym empty) ∙ sym (cast_alone e (node_of_tag n is));
  }
