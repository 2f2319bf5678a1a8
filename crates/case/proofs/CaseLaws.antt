-- A CASE over a list of rows, by its strategy. Assumes nothing.
use Rattle.std.proofs.Common.{◌≡◌, ℕ, suc, ◌+◌, ◌<◌, ◌≤◌, Bool, true, false, cond, ◌&&◌, List, ◌++◌, length, sym, refl, ap, ◌∙◌, subst, ap₂, arith}
use mathlib.Core.Bool.{false≢true}
use mathlib.Core.Option.{some}
use Rattle.layout.specs.Bytes.{byte}
use Rattle.layout.proofs.TestLaws.{both_hold}
use Rattle.scalar.specs.declared.value.Value.{Value}
use Rattle.scalar.specs.declared.types.DataType.{DataType}
use Rattle.scalar.specs.declared.types.DataType.TheVariants.{Boolean, Int32, Int64, Float64, Utf8}
use Rattle.scalar.specs.Entry.{Entry, null, boolean, int32, int64, float64, utf8, is_null, Outcome, entry, unfit, on_entry}
use Rattle.scalar.specs.Value.{meaning}
use Rattle.scalar.specs.Cast.{cast_entry}
use Rattle.scalar.specs.TryCast.{try_cast_entry}
use Rattle.rule.specs.declared.strategy.Strategy.{Strategy}
use Rattle.rule.specs.declared.strategy.Strategy.TheVariants.{NoExpression, WithExpression, InfallibleExprOrNull, ScalarOrScalar, ExpressionOrExpression, WithExprScalarLookupTable}
use Rattle.rule.specs.Tree.{Column, Expr, column, literal, negation, negative, is_not_null, cast, try_cast, equal, less, case_when, Branches, no_more, branch, Optional, absent, present, branch_count, is_null_literal}
use Rattle.rule.specs.Typing.{type_of}
use Rattle.rule.specs.Row.{Row, is_true_test, equals_test, chosen, with_base, eval, eval_branches, eval_else}
use Rattle.rule.specs.Strategy.{strategy_number, is_column, is_literal, drop_null, table_serves, single_branch, without_base, strategy_of, strategy}
use Rattle.rule.specs.Node.{NodeAt}
use Rattle.rule.specs.Walks.{branch_trees, optional_trees, TreesAt, EndGives, ChildrenGives, TypeGives}
use Rattle.rule.specs.AnswerWalks.{StrategyGives}
use Rattle.rule.proofs.NodeLaws.{node_byte, node_deep, node_children, case_counted, trees_split, trees_deeper}
use Rattle.rule.proofs.WalkLaws.{nothing_behind, first_tree}
use Rattle.table.specs.declared.places.Table.{Table}
use Rattle.builder.specs.declared.ResultBuilder.{ResultBuilder}
use Rattle.case.specs.declared.settle.Leave.TheVariants.{NullBase, TrueWhen, EqualWhen}
use Rattle.case.specs.declared.settle.Settled.{Settled}
use Rattle.case.specs.Frame.{slot_at, Rows, Listed, Filled, Copied}
use Rattle.case.specs.Choosing.{leaving, null_outcome, class_at, held_by, Settles}
use Rattle.case.specs.LookUp.{LookedUp}
use Rattle.case.specs.Evaluation.{Done, row_in, ExprRight, CaseRight, any_case, without_base_case, with_base_case, column_case, scalar_case, single_case, table_case, result_at, TakeRight, MergedRight, BasedRight, ScalarsRight, CellsRight}
use Rattle.case.specs.Steps.{StepsGive}
use Rattle.case.proofs.FrameLaws.{kept_slot, listed_to, listed_below, done_filled, done_done, done_none}
use Rattle.case.proofs.ExprLaws.{children_below}

-- ---- which shape a strategy takes

numbers_apart : {a b : Strategy} → a ≡ b → (strategy_number a ≡ strategy_number b → ⊥) → ⊥
numbers_apart e n = n (ap strategy_number e)

single_not : (t : Expr) (els : Optional) (s : Strategy) → (strategy_number s ≡ 3 → ⊥) → (strategy_number s ≡ 4 → ⊥) → (strategy_number s ≡ 5 → ⊥) → s ≡ single_branch t els → ⊥
single_not t absent s a b c e = go (is_column t) e
  where
    go : (x : Bool) → s ≡ cond x InfallibleExprOrNull ExpressionOrExpression → ⊥
    go true p = a (ap strategy_number p)
    go false p = c (ap strategy_number p)
single_not t (present x) s a b c e = go (is_literal t && is_literal x) e
  where
    go : (x : Bool) → s ≡ cond x ScalarOrScalar ExpressionOrExpression → ⊥
    go true p = b (ap strategy_number p)
    go false p = c (ap strategy_number p)

-- with a base the number is 2 or 6
with_base_numbers : (x : Expr) (bs : Branches) (els : Optional) (s : Strategy) → (strategy_number s ≡ 2 → ⊥) → (strategy_number s ≡ 6 → ⊥) → s ≡ strategy_of (present x) bs els → ⊥
unfolding strategy_of
with_base_numbers x bs els s a b e = go (table_serves bs (drop_null els)) e
  where
    go : (y : Bool) → s ≡ cond y WithExprScalarLookupTable WithExpression → ⊥
    go true p = b (ap strategy_number p)
    go false p = a (ap strategy_number p)

-- without one it is neither
without_base_numbers : (bs : Branches) (els : Optional) (s : Strategy) → (strategy_number s ≡ 1 → ⊥) → (strategy_number s ≡ 3 → ⊥) → (strategy_number s ≡ 4 → ⊥) → (strategy_number s ≡ 5 → ⊥)
    → s ≡ without_base bs els → ⊥
without_base_numbers no_more els s a b c d e = a (ap strategy_number e)
without_base_numbers (branch w t no_more) els s a b c d e = single_not t els s b c d e
without_base_numbers (branch w t (branch v u bs)) els s a b c d e = a (ap strategy_number e)

pub shape_1 : (b : Optional) (bs : Branches) (els : Optional) → NoExpression ≡ strategy_of b bs els → without_base_case b bs els
shape_1 absent bs els e = refl
shape_1 (present x) bs els e = absurd (with_base_numbers x bs els NoExpression (λ p. omega arith) (λ p. omega arith) e)

pub shape_2 : (b : Optional) (bs : Branches) (els : Optional) → WithExpression ≡ strategy_of b bs els → with_base_case b bs els
unfolding strategy_of
shape_2 absent bs els e = absurd (without_base_numbers bs (drop_null els) WithExpression (λ p. omega arith) (λ p. omega arith) (λ p. omega arith) (λ p. omega arith) e)
shape_2 (present x) bs els e = (x, refl)

pub shape_6 : (b : Optional) (bs : Branches) (els : Optional) → WithExprScalarLookupTable ≡ strategy_of b bs els → table_case b bs els
unfolding strategy_of
shape_6 absent bs els e = absurd (without_base_numbers bs (drop_null els) WithExprScalarLookupTable (λ p. omega arith) (λ p. omega arith) (λ p. omega arith) (λ p. omega arith) e)
shape_6 (present x) bs els e = (x, refl, go (table_serves bs (drop_null els)) e)
  where
    go : (y : Bool) → WithExprScalarLookupTable ≡ cond y WithExprScalarLookupTable WithExpression → y ≡ true
    go true p = refl
    go false p = absurd (numbers_apart p (λ q. omega arith))

-- one branch and no base
module _ (s : Strategy) (not-1 : strategy_number s ≡ 1 → ⊥) (not-2 : strategy_number s ≡ 2 → ⊥) (not-6 : strategy_number s ≡ 6 → ⊥) where
  single : (b : Optional) (bs : Branches) (els : Optional) → s ≡ strategy_of b bs els
      → (w : Expr) × (t : Expr) × (b ≡ absent) × (bs ≡ branch w t no_more) × (s ≡ single_branch t (drop_null els))
  unfolding strategy_of
  single (present x) bs els e = absurd (with_base_numbers x bs els s not-2 not-6 e)
  single absent no_more els e = absurd (not-1 (ap strategy_number e))
  single absent (branch w t no_more) els e = (w, t, refl, refl, e)
  single absent (branch w t (branch v u bs)) els e = absurd (not-1 (ap strategy_number e))

pub shape_3 : (b : Optional) (bs : Branches) (els : Optional) → InfallibleExprOrNull ≡ strategy_of b bs els → column_case b bs els
shape_3 b bs els e =
    let (w, t, p, q, r) = single InfallibleExprOrNull (λ p. omega arith) (λ p. omega arith) (λ p. omega arith) b bs els e in
    let (c, d) = go t (drop_null els) r in
    (w, t, p, q, c, d)
  where
    go : (t : Expr) (o : Optional) → InfallibleExprOrNull ≡ single_branch t o → (is_column t ≡ true) × (o ≡ absent)
    go t absent p = (by (is_column t) p, refl)
      where
        by : (x : Bool) → InfallibleExprOrNull ≡ cond x InfallibleExprOrNull ExpressionOrExpression → x ≡ true
        by true q = refl
        by false q = absurd (numbers_apart q (λ k. omega arith))
    go t (present y) p = absurd (by (is_literal t && is_literal y) p)
      where
        by : (x : Bool) → InfallibleExprOrNull ≡ cond x ScalarOrScalar ExpressionOrExpression → ⊥
        by true q = numbers_apart q (λ k. omega arith)
        by false q = numbers_apart q (λ k. omega arith)

-- an ELSE that is not dropped is there
kept_else : (els : Optional) (e : Expr) → drop_null els ≡ present e → els ≡ present e
kept_else absent e p = p
kept_else (present x) e p = go (is_null_literal x) p
  where
    no : absent ≡ present e → ⊥
    no q = let z : ◌≡◌ {A = ℕ} 0 1 = cc in omega arith

    go : (y : Bool) → cond y absent (present x) ≡ present e → present x ≡ present e
    go true q = absurd (no q)
    go false q = q

pub shape_4 : (b : Optional) (bs : Branches) (els : Optional) → ScalarOrScalar ≡ strategy_of b bs els → scalar_case b bs els
shape_4 b bs els e =
    let (w, t, p, q, r) = single ScalarOrScalar (λ p. omega arith) (λ p. omega arith) (λ p. omega arith) b bs els e in
    let (x, i, c, d) = go t (drop_null els) r in
    (w, t, x, p, q, c, kept_else els x i, d)
  where
    go : (t : Expr) (o : Optional) → ScalarOrScalar ≡ single_branch t o → (x : Expr) × (o ≡ present x) × (is_literal t ≡ true) × (is_literal x ≡ true)
    go t absent p = absurd (by (is_column t) p)
      where
        by : (x : Bool) → ScalarOrScalar ≡ cond x InfallibleExprOrNull ExpressionOrExpression → ⊥
        by true q = numbers_apart q (λ k. omega arith)
        by false q = numbers_apart q (λ k. omega arith)
    go t (present y) p = let (c, d) = both_hold (is_literal t) (is_literal y) (by (is_literal t && is_literal y) p) in (y, refl, c, d)
      where
        by : (x : Bool) → ScalarOrScalar ≡ cond x ScalarOrScalar ExpressionOrExpression → x ≡ true
        by true q = refl
        by false q = absurd (numbers_apart q (λ k. omega arith))

pub shape_5 : (b : Optional) (bs : Branches) (els : Optional) → ExpressionOrExpression ≡ strategy_of b bs els → single_case b bs els
shape_5 b bs els e =
    let (w, t, p, q, r) = single ExpressionOrExpression (λ p. omega arith) (λ p. omega arith) (λ p. omega arith) b bs els e in
    (w, t, p, q)

-- ---- a CASE by its strategy

-- a CASE is deeper than its children
case_deep : {rule : List ℕ} {start end depth : ℕ} {b : Optional} {bs : Branches} {els : Optional} → NodeAt rule start end (case_when b bs els) (depth + 1) → 0 < depth
unfolding branch_count
case_deep {rule} {start} {end} {depth} {b} {bs} {els} node = go b bs (case_counted node).0 (trees_deeper depth (omega arith) (node_children (start + 5) node (omega arith)))
  where
    go : (b : Optional) (bs : Branches) → 0 < branch_count bs → TreesAt rule (start + 5) end (optional_trees b ++ (branch_trees bs ++ optional_trees els)) depth → 0 < depth
    go b no_more c trees = absurd (omega arith)
    go absent (branch w t bs) c trees = node_deep (trees_split trees).1
    go (present x) (branch w t bs) c trees = node_deep (trees_split trees).1

module _ {rule : List ℕ} {start end : ℕ} {table : List ℕ} {t : Table} {depth : ℕ} {w : List ℕ} {n : ℕ} where
  pub case_none : depth ≡ 0 → Done (CaseRight any_case rule start end table t depth) w n w
  case_none h = done_none (λ r. record { is = λ b bs els node s. absurd (let k = case_deep node in omega arith) })

  pub case_behind : {served : Optional → Branches → Optional → Type 0} → length rule ≤ start → Done (CaseRight served rule start end table t depth) w n w
  case_behind h = done_none (λ r. record { is = λ b bs els node s. absurd (let k = nothing_behind node in omega arith) })

  -- what its strategy gives is what is right
  pub case_by : {g s : Strategy} {served : Optional → Branches → Optional → Type 0} {w' : List ℕ} → n ≤ 512 → StrategyGives rule start end g → g ≡ s
      → ((b : Optional) (bs : Branches) (els : Optional) → s ≡ strategy_of b bs els → served b bs els)
      → Done (CaseRight served rule start end table t depth) w n w' → Done (CaseRight any_case rule start end table t depth) w n w'
  unfolding strategy
  case_by few gives same shape d =
      done_done few refl (λ j h. refl) d
      (λ r v l right. record { is = λ b bs els node s. right.is b bs els node (shape b bs els (sym same ∙ gives.is (case_when b bs els) (depth + 1) node)) })

-- ---- strategies 3, 4 and 6: the slots have the WHEN or the base

pub is_literal_lem : (e : Expr) → is_literal e ≡ true → (d : DataType) × (x : Entry) × (e ≡ literal d x)
is_literal_lem (column c) p = absurd (false≢true p)
is_literal_lem (literal d x) p = (d, x, refl)
is_literal_lem (negation e) p = absurd (false≢true p)
is_literal_lem (negative e) p = absurd (false≢true p)
is_literal_lem (is_not_null e) p = absurd (false≢true p)
is_literal_lem (cast t e) p = absurd (false≢true p)
is_literal_lem (try_cast t e) p = absurd (false≢true p)
is_literal_lem (equal a b) p = absurd (false≢true p)
is_literal_lem (less a b) p = absurd (false≢true p)
is_literal_lem (case_when b bs e) p = absurd (false≢true p)

is_column_lem : (e : Expr) → is_column e ≡ true → (c : Column) × (e ≡ column c)
is_column_lem (column c) p = (c, refl)
is_column_lem (literal d x) p = absurd (false≢true p)
is_column_lem (negation e) p = absurd (false≢true p)
is_column_lem (negative e) p = absurd (false≢true p)
is_column_lem (is_not_null e) p = absurd (false≢true p)
is_column_lem (cast t e) p = absurd (false≢true p)
is_column_lem (try_cast t e) p = absurd (false≢true p)
is_column_lem (equal a b) p = absurd (false≢true p)
is_column_lem (less a b) p = absurd (false≢true p)
is_column_lem (case_when b bs e) p = absurd (false≢true p)

is_null_lem : (v : Entry) → is_null v ≡ true → v ≡ null
is_null_lem null p = refl
is_null_lem (boolean b) p = absurd (false≢true p)
is_null_lem (int32 n) p = absurd (false≢true p)
is_null_lem (int64 n) p = absurd (false≢true p)
is_null_lem (float64 n) p = absurd (false≢true p)
is_null_lem (utf8 l) p = absurd (false≢true p)

null_literal : (e : Expr) → is_null_literal e ≡ true → (d : DataType) × (e ≡ literal d null)
null_literal (column c) p = absurd (false≢true p)
null_literal (literal d x) p = (d, ap (literal d) (is_null_lem x p))
null_literal (negation e) p = absurd (false≢true p)
null_literal (negative e) p = absurd (false≢true p)
null_literal (is_not_null e) p = absurd (false≢true p)
null_literal (cast t e) p = absurd (false≢true p)
null_literal (try_cast t e) p = absurd (false≢true p)
null_literal (equal a b) p = absurd (false≢true p)
null_literal (less a b) p = absurd (false≢true p)
null_literal (case_when b bs e) p = absurd (false≢true p)

-- null try-casts to null
try_null : (to : DataType) → try_cast_entry to null ≡ null
unfolding cast_entry
try_null Boolean = refl
try_null Int32 = refl
try_null Int64 = refl
try_null Float64 = refl
try_null Utf8 = refl

-- an ELSE that is dropped is null
else_dropped : (els : Optional) (row : Row) (to : DataType) → drop_null els ≡ absent → eval_else els row to ≡ entry null
unfolding eval
else_dropped absent row to p = refl
else_dropped (present x) row to p = go (is_null_literal x) refl p
  where
    no : present x ≡ absent → ⊥
    no q = let z : ◌≡◌ {A = ℕ} 0 1 = cc in omega arith

    go : (y : Bool) → is_null_literal x ≡ y → cond y absent (present x) ≡ absent → on_entry (λ v. entry (try_cast_entry to v)) (eval x row) ≡ entry null
    go true i q =
        let (d, e) = null_literal x i in
        ap (λ (z : Expr). on_entry (λ v. entry (try_cast_entry to v)) (eval z row)) e ∙ ap entry (try_null to)
    go false i q = absurd (no q)

module _ {rule : List ℕ} {start at then end : ℕ} {table : List ℕ} {t : Table} {depth : ℕ} {w w₁ w₂ : List ℕ} {n : ℕ} (few : n ≤ 512)
    (children : ChildrenGives rule start at) (ends : EndGives rule at then) (first : Done (ExprRight rule at then table t depth) w n w₁) where
  pub scalar_gives : Filled (ScalarsRight rule then end w₁) w₁ n w₂ → Done (CaseRight scalar_case rule start end table t depth) w n w₂
  unfolding eval type_of
  scalar_gives d = done_filled few first.long first.low d (λ r v l g. record { is = go r v (first.here r l) g })
    where
      go : (r : ℕ) (v : Value) → ExprRight rule at then table t depth r (slot_at w₁ r) → ScalarsRight rule then end w₁ r v → (b : Optional) (bs : Branches) (els : Optional)
          → NodeAt rule start end (case_when b bs els) (depth + 1) → scalar_case b bs els → meaning rule table v ≡ eval (case_when b bs els) (row_in table t r)
      go r v when g b bs els node (x, y, z, p, q, i, o, j) =
          let (d, u, k) = is_literal_lem y i in
          let (f, s, m) = is_literal_lem z j in
          by b bs els d f u s p (q ∙ ap (λ (e : Expr). branch x e no_more) k) (o ∙ ap present m) node
        where
          by : (b : Optional) (bs : Branches) (els : Optional) (d f : DataType) (u s : Entry) → b ≡ absent → bs ≡ branch x (literal d u) no_more → els ≡ present (literal f s)
              → NodeAt rule start end (case_when b bs els) (depth + 1) → meaning rule table v ≡ eval (case_when b bs els) (row_in table t r)
          by b bs els d f u s p q o node =
              let same : case_when b bs els ≡ case_when absent (branch x (literal d u) no_more) (present (literal f s)) = cc in
              let node' = subst (λ (e : Expr). NodeAt rule start end e (depth + 1)) same node in
              let (test, rest) = first_tree ends (children_below children node') in
              g.is d f u s depth rest table
              ∙ ap (λ (o : Outcome). chosen is_true_test o (entry u) (entry (try_cast_entry d s))) (when.is x test)
              ∙ ap (λ (e : Expr). eval e (row_in table t r)) (sym same)

  pub column_gives : Filled (CellsRight rule then table t w₁) w₁ n w₂ → Done (CaseRight column_case rule start end table t depth) w n w₂
  unfolding eval type_of
  column_gives d = done_filled few first.long first.low d (λ r v l g. record { is = go r v (first.here r l) g })
    where
      go : (r : ℕ) (v : Value) → ExprRight rule at then table t depth r (slot_at w₁ r) → CellsRight rule then table t w₁ r v → (b : Optional) (bs : Branches) (els : Optional)
          → NodeAt rule start end (case_when b bs els) (depth + 1) → column_case b bs els → meaning rule table v ≡ eval (case_when b bs els) (row_in table t r)
      go r v when g b bs els node (x, y, p, q, i, o) =
          let (c, k) = is_column_lem y i in
          by b bs c p (q ∙ ap (λ (e : Expr). branch x e no_more) k) node
        where
          by : (b : Optional) (bs : Branches) (c : Column) → b ≡ absent → bs ≡ branch x (column c) no_more
              → NodeAt rule start end (case_when b bs els) (depth + 1) → meaning rule table v ≡ eval (case_when b bs els) (row_in table t r)
          by b bs c p q node =
              let same : case_when b bs els ≡ case_when absent (branch x (column c) no_more) els = cc in
              let node' = subst (λ (e : Expr). NodeAt rule start end e (depth + 1)) same node in
              let (test, rest) = first_tree ends (children_below children node') in
              let (m, taken, later) = trees_split rest in
              g.is m depth c taken
              ∙ ap₂ (λ (o e : Outcome). chosen is_true_test o (row_in table t r c.index) e) (when.is x test) (sym (else_dropped els (row_in table t r) c.type o))
              ∙ ap (λ (e : Expr). eval e (row_in table t r)) (sym same)

  pub lookup_gives : {count : ℕ} {to : DataType} → count ≡ byte rule (start + 4) → TypeGives rule start to → Filled (LookedUp rule then end count to table w₁) w₁ n w₂
      → Done (CaseRight table_case rule start end table t depth) w n w₂
  unfolding eval type_of
  lookup_gives {count} {to} counted types d = done_filled few first.long first.low d (λ r v l g. record { is = go r v (first.here r l) g })
    where
      go : (r : ℕ) (v : Value) → ExprRight rule at then table t depth r (slot_at w₁ r) → LookedUp rule then end count to table w₁ r v → (b : Optional) (bs : Branches) (els : Optional)
          → NodeAt rule start end (case_when b bs els) (depth + 1) → table_case b bs els → meaning rule table v ≡ eval (case_when b bs els) (row_in table t r)
      go r v base g b bs els node (x, p, s) =
          let same : case_when b bs els ≡ case_when (present x) bs els = ap (λ (o : Optional). case_when o bs els) p in
          let node' = subst (λ (e : Expr). NodeAt rule start end e (depth + 1)) same node in
          let (test, rest) = first_tree ends (children_below children node') in
          let count_is = counted ∙ node_byte 1 (start + 4) node' (omega arith) (omega arith) in
          let type_is = types end (case_when (present x) bs els) (depth + 1) node' in
          g bs els depth (row_in table t r) rest (sym count_is) (omega (arith, count_is, (case_counted node').1)) s (sym type_is)
          ∙ ap₂ (λ (o : Outcome) (f : DataType). with_base o (λ test. eval_branches bs (row_in table t r) test (eval_else els (row_in table t r) f)) (eval_else els (row_in table t r) f)) (base.is x test) type_is
          ∙ ap (λ (e : Expr). eval e (row_in table t r)) (sym same)

-- ---- strategies 1, 2 and 5: branches over the open list

-- the index behind the branches is ELSE's, and the one behind that failed
pub result_else : (bs : Branches) (row : Row) (els : Outcome) → result_at bs row els (branch_count bs) ≡ els
unfolding result_at branch_count
result_else no_more row els = refl
result_else (branch w t bs) row els = result_else bs row els

pub result_failed : (bs : Branches) (row : Row) (els : Outcome) → result_at bs row els (suc (branch_count bs)) ≡ unfit
unfolding result_at branch_count
result_failed no_more row els = refl
result_failed (branch w t bs) row els = result_failed bs row els

-- a CASE without a base is what its branches give
without_base_lem : {rule : List ℕ} {start at end : ℕ} (table : List ℕ) (t : Table) {depth count : ℕ} {to : DataType} (r : ℕ) (v : Value) → ChildrenGives rule start at → TypeGives rule start to
    → ((bs : Branches) (els : Optional) → TreesAt rule at end (branch_trees bs ++ optional_trees els) depth → branch_count bs ≡ count
    → meaning rule table v ≡ eval_branches bs (row_in table t r) is_true_test (eval_else els (row_in table t r) to))
    → (b : Optional) (bs : Branches) (els : Optional) → NodeAt rule start end (case_when b bs els) (depth + 1) → (b ≡ absent) × (branch_count bs ≡ count)
    → meaning rule table v ≡ eval (case_when b bs els) (row_in table t r)
unfolding eval type_of
without_base_lem {rule} {start} {end = end} table t {depth} r v children types g b bs els node (p, c) =
    let same : case_when b bs els ≡ case_when absent bs els = ap (λ (o : Optional). case_when o bs els) p in
    let node' = subst (λ (e : Expr). NodeAt rule start end e (depth + 1)) same node in
    let type_is = types end (case_when absent bs els) (depth + 1) node' in
    g bs els (children_below children node') c
    ∙ ap (λ (f : DataType). eval_branches bs (row_in table t r) is_true_test (eval_else els (row_in table t r) f)) type_is
    ∙ ap (λ (e : Expr). eval e (row_in table t r)) (sym same)

-- what the shapes without a base are
abbrev Shaped : (Optional → Branches → Optional → Type 0) → List ℕ → ℕ → ℕ → ℕ → ℕ → Type 0
Shaped served rule start end depth count =
    (b : Optional) (bs : Branches) (els : Optional) → NodeAt rule start end (case_when b bs els) (depth + 1) → served b bs els → (b ≡ absent) × (branch_count bs ≡ count)

no_expr_shaped : {rule : List ℕ} {start end : ℕ} (depth : ℕ) {count : ℕ} → count ≡ byte rule (start + 4) → Shaped without_base_case rule start end depth count
no_expr_shaped {start = start} depth counted b bs els node s = (s, sym (counted ∙ node_byte 1 (start + 4) node (omega arith) (omega arith)))

single_shaped : {rule : List ℕ} {start end : ℕ} (depth : ℕ) {count : ℕ} → count ≡ 1 → Shaped single_case rule start end depth count
unfolding branch_count
single_shaped depth one b bs els node s = (s.2, ap branch_count s.3 ∙ sym one)

scalar_shaped : {rule : List ℕ} {start end : ℕ} (depth : ℕ) {count : ℕ} → count ≡ 1 → Shaped scalar_case rule start end depth count
unfolding branch_count
scalar_shaped depth one b bs els node s = (s.3, ap branch_count s.4 ∙ sym one)

-- the open list is the whole list
module _ {rule : List ℕ} {start at end : ℕ} {table : List ℕ} {t : Table} {depth : ℕ} {w w₁ w₂ : List ℕ} {n count : ℕ} {to : DataType} {b : ResultBuilder} (few : n ≤ 512)
    (children : ChildrenGives rule start at) (types : TypeGives rule start to) (copied : Copied w n 0 5632 w₁)
    (d : Done (MergedRight rule at end table t depth TrueWhen count to w₁ n b) w₁ n w₂) where
  whole_gives : (served : Optional → Branches → Optional → Type 0) → Shaped served rule start end depth count → Done (CaseRight served rule start end table t depth) w n w₂
  whole_gives served shape =
      done_done few copied.long (λ j h. copied.before j (omega arith)) d
      (λ r v l g. record {
        is = λ b bs els node s.
            without_base_lem table t r v children types (λ bs els trees c. (g.of_open (listed_to w w₁ 0 5632 n copied.rows_copied r l)).is bs els is_true_test trees c refl) b bs els node (shape b bs els node s);
      })

  pub no_expr_gives : count ≡ byte rule (start + 4) → Done (CaseRight without_base_case rule start end table t depth) w n w₂
  no_expr_gives counted = whole_gives without_base_case (no_expr_shaped depth counted)

  pub single_gives : count ≡ 1 → Done (CaseRight single_case rule start end table t depth) w n w₂
  single_gives one = whole_gives single_case (single_shaped depth one)

-- the rows' indices are found by steps
module _ {rule : List ℕ} {start at end : ℕ} {table : List ℕ} {t : Table} {depth : ℕ} {w w₁ : List ℕ} {n count : ℕ} {to : DataType} {served : Bool} (values : List ℕ) (few : n ≤ 512)
    (children : ChildrenGives rule start at) (types : TypeGives rule start to) (steps : StepsGive rule at table t count w n served values) (all : served ≡ true)
    (d : Done (TakeRight rule at end table t depth count to values) w n w₁) where
  steps_give : (shape : Optional → Branches → Optional → Type 0) → Shaped shape rule start end depth count → Done (CaseRight shape rule start end table t depth) w n w₁
  steps_give shape shaped =
      done_done few refl (λ j h. refl) d
      (λ r v l g. record {
        is = λ b bs els node s.
            without_base_lem table t r v children types
            (λ bs els trees c.
            let i = steps.each all r l in
            g.is bs els trees c (let h = i.few in omega arith) ∙ sym (i.is bs (optional_trees els) end depth (eval_else els (row_in table t r) to) trees c))
            b bs els node (shaped b bs els node s);
      })

  pub no_expr_steps : count ≡ byte rule (start + 4) → Done (CaseRight without_base_case rule start end table t depth) w n w₁
  no_expr_steps counted = steps_give without_base_case (no_expr_shaped depth counted)

  pub single_steps : count ≡ 1 → Done (CaseRight single_case rule start end table t depth) w n w₁
  single_steps one = steps_give single_case (single_shaped depth one)

  pub scalar_steps : count ≡ 1 → Done (CaseRight scalar_case rule start end table t depth) w n w₁
  scalar_steps one = steps_give scalar_case (scalar_shaped depth one)

-- with a base: it is in the slots
pub with_expr_gives : {rule : List ℕ} {start at first end : ℕ} {table : List ℕ} {t : Table} {depth count : ℕ} {to : DataType} {w w₁ w₂ : List ℕ} {n : ℕ} → n ≤ 512
    → count ≡ byte rule (start + 4) → ChildrenGives rule start at → EndGives rule at first → TypeGives rule start to
    → Done (ExprRight rule at first table t depth) w n w₁ → Done (BasedRight rule first end table t depth count to w₁) w₁ n w₂
    → Done (CaseRight with_base_case rule start end table t depth) w n w₂
unfolding eval type_of
with_expr_gives {rule} {start} {at} {first} {end} {table} {t} {depth} {count} {to} {w} {w₁} {w₂} {n} few counted children ends types base d =
    done_done few base.long base.low d (λ r v l g. record { is = go r v (base.here r l) g })
  where
    go : (r : ℕ) (v : Value) → ExprRight rule at first table t depth r (slot_at w₁ r) → BasedRight rule first end table t depth count to w₁ r v → (b : Optional) (bs : Branches) (els : Optional)
        → NodeAt rule start end (case_when b bs els) (depth + 1) → with_base_case b bs els → meaning rule table v ≡ eval (case_when b bs els) (row_in table t r)
    go r v c g b bs els node (x, p) =
        let same : case_when b bs els ≡ case_when (present x) bs els = ap (λ (o : Optional). case_when o bs els) p in
        let node' = subst (λ (e : Expr). NodeAt rule start end e (depth + 1)) same node in
        let (test, rest) = first_tree ends (children_below children node') in
        let count_is = counted ∙ node_byte 1 (start + 4) node' (omega arith) (omega arith) in
        let type_is = types end (case_when (present x) bs els) (depth + 1) node' in
        g.is bs els rest (sym count_is)
        ∙ ap₂ (λ (o : Outcome) (f : DataType). with_base o (λ test. eval_branches bs (row_in table t r) test (eval_else els (row_in table t r) f)) (eval_else els (row_in table t r) f)) (c.is x test) type_is
        ∙ ap (λ (e : Expr). eval e (row_in table t r)) (sym same)

-- one row behind its base
module _ {rule : List ℕ} {at end : ℕ} {table : List ℕ} {t : Table} {depth count : ℕ} {to : DataType} {w w₁ w₂ : List ℕ} {n rows : ℕ} {b : ResultBuilder} {s : Settled}
    (copied : Copied w n 0 5632 w₁) (settles : Settles (class_at NullBase rule table w₁ (count + 1) (count + 1 + 1)) w₁ n rows b s w₂)
    (r : ℕ) (v : Value) (l : Listed w₁ 5632 n r) (small : r < 512) (g : MergedRight rule at end table t depth EqualWhen count to w₂ s.left s.builder r v)
    (bs : Branches) (els : Optional) (trees : TreesAt rule at end (branch_trees bs ++ optional_trees els) depth) (c : branch_count bs ≡ count) where
  slot_1 : meaning rule table (slot_at w₁ r) ≡ meaning rule table (slot_at w r)
  slot_1 = ap (meaning rule table) (kept_slot w w₁ (λ j h. copied.before j h) r small)

  slot_2 : meaning rule table (slot_at w₂ r) ≡ meaning rule table (slot_at w r)
  slot_2 = ap (meaning rule table) (kept_slot w₁ w₂ settles.low r small) ∙ slot_1

  class_is : (o : Outcome) → meaning rule table (slot_at w r) ≡ o → class_at NullBase rule table w₁ (count + 1) (count + 1 + 1) r ≡ leaving null_outcome (count + 1) (count + 1 + 1) o
  class_is o p = ap (leaving null_outcome (count + 1) (count + 1 + 1)) (slot_1 ∙ p)

  held : (k : ℕ) → class_at NullBase rule table w₁ (count + 1) (count + 1 + 1) r ≡ suc k → k < count + 2 → meaning rule table v ≡ result_at bs (row_in table t r) (eval_else els (row_in table t r) to) k
  held k e small-k =
      let h : held_by s.builder r ≡ some (suc k) = settles.gone r l (λ z. omega arith) ∙ ap some e in
      g.of_held (suc k) h (omega arith) bs els trees c

  value : (x : Entry) → meaning rule table (slot_at w r) ≡ entry x → (y : Bool) → is_null x ≡ y
      → meaning rule table v ≡ cond y (eval_else els (row_in table t r) to) (eval_branches bs (row_in table t r) (equals_test x) (eval_else els (row_in table t r) to))
  value x p true i =
      let n_1 : count + 1 ≡ suc count = omega arith in
      held count (class_is (entry x) p ∙ ap (λ (y : Bool). cond y (count + 1) 0) i ∙ n_1) (omega arith)
      ∙ ap (result_at bs (row_in table t r) (eval_else els (row_in table t r) to)) (sym c) ∙ result_else bs (row_in table t r) (eval_else els (row_in table t r) to)
  value x p false i =
      let z : class_at NullBase rule table w₁ (count + 1) (count + 1 + 1) r ≡ 0 = class_is (entry x) p ∙ ap (λ (y : Bool). cond y (count + 1) 0) i in
      (g.of_open (settles.kept r l z)).is bs els (equals_test x) trees c (x, slot_2 ∙ p, refl)

  by_base_row : (o : Outcome) → meaning rule table (slot_at w r) ≡ o → meaning rule table v
      ≡ with_base (meaning rule table (slot_at w r)) (λ test. eval_branches bs (row_in table t r) test (eval_else els (row_in table t r) to)) (eval_else els (row_in table t r) to)
  by_base_row unfit p =
      let n_2 : count + 1 + 1 ≡ suc (suc count) = omega arith in
      held (suc count) (class_is unfit p ∙ n_2) (omega arith)
      ∙ ap (λ (k : ℕ). result_at bs (row_in table t r) (eval_else els (row_in table t r) to) (suc k)) (sym c) ∙ result_failed bs (row_in table t r) (eval_else els (row_in table t r) to)
      ∙ ap (λ (o : Outcome). with_base o (λ test. eval_branches bs (row_in table t r) test (eval_else els (row_in table t r) to)) (eval_else els (row_in table t r) to)) (sym p)
  by_base_row (entry x) p = value x p (is_null x) refl ∙ ap (λ (o : Outcome). with_base o (λ test. eval_branches bs (row_in table t r) test (eval_else els (row_in table t r) to)) (eval_else els (row_in table t r) to)) (sym p)

-- null bases leave for ELSE, those that failed are failed, the others go through the branches
pub by_base_gives : {rule : List ℕ} {at end : ℕ} {table : List ℕ} {t : Table} {depth count : ℕ} {to : DataType} {w w₁ w₂ w₃ : List ℕ} {n rows : ℕ} {b : ResultBuilder} {s : Settled} → n ≤ 512
    → Rows w 0 n 512 → Copied w n 0 5632 w₁ → Settles (class_at NullBase rule table w₁ (count + 1) (count + 1 + 1)) w₁ n rows b s w₂
    → Done (MergedRight rule at end table t depth EqualWhen count to w₂ s.left s.builder) w₂ n w₃
    → Done (BasedRight rule at end table t depth count to w) w n w₃
by_base_gives {rule} {at} {end} {table} {t} {depth} {count} {to} {w} {w₁} {w₂} {w₃} {n} {rows} {b} {s} few ok copied settles d =
    done_done few (settles.long ∙ copied.long) (λ j h. settles.low j (omega arith) ∙ copied.before j (omega arith)) d
    (λ r v l g. record {
      is = λ bs els trees c.
          by_base_row copied settles r v (listed_to w w₁ 0 5632 n copied.rows_copied r l) (listed_below ok r l) g bs els trees c (meaning rule table (slot_at w r)) refl;
    })
