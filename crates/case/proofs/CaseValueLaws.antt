-- The rows of a CASE by index, from columns: the outcome of a row is the result of its index. Assumes nothing.
use Rattle.std.proofs.Common.{◌≡◌, ℕ, ◌+◌, ◌*◌, ◌≤◌, Bool, true, List, ◌∷◌, ◌++◌, length, get_or, Option, Some, None, sym, refl, ap, ◌∙◌, subst, arith}
use Rattle.layout.specs.Bytes.{byte}
use Rattle.scalar.specs.declared.types.DataType.{DataType}
use Rattle.rule.specs.declared.strategy.Strategy.{Strategy}
use Rattle.rule.specs.declared.strategy.Strategy.TheVariants.{WithExprScalarLookupTable}
use Rattle.rule.specs.Tree.{Expr, case_when, Branches, Optional, absent, present, branch_count}
use Rattle.rule.specs.Typing.{type_of}
use Rattle.rule.specs.Row.{is_true_test, with_base, eval, eval_branches, eval_else}
use Rattle.rule.specs.Strategy.{strategy, strategy_of}
use Rattle.rule.specs.Node.{NodeAt}
use Rattle.rule.specs.Walks.{branch_trees, optional_trees, TreesAt, EndGives, ChildrenGives}
use Rattle.rule.specs.AnswerWalks.{StrategyGives}
use Rattle.rule.proofs.NodeLaws.{Tagged, of_case, node_byte}
use Rattle.rule.proofs.WalkLaws.{node_of_tag, first_tree}
use Rattle.table.specs.declared.places.Table.{Table}
use Rattle.case.specs.Frame.{Rows, Listed}
use Rattle.case.specs.Evaluation.{Framed, row_in}
use Rattle.case.specs.LookUp.{KeyedGive}
use Rattle.case.specs.Steps.{StepsGive}
use Rattle.case.specs.Classes.{CaseTree, CaseIndex, CaseSteps, CaseKeys, CaseValues}
use Rattle.case.proofs.FrameLaws.{rows_small}
use Rattle.case.proofs.ExprLaws.{children_below}
use Rattle.case.proofs.CaseLaws.{shape_6}

-- ---- the list

module _ {table : List ℕ} {t : Table} {w : List ℕ} {n : ℕ} (f : Framed table t w n 1) where
  pub list_small : Rows w 0 n 512 × (2 * n ≤ length w)
  list_small = (rows_small f.small f.list_ok, omega (arith, f.list_ok.few, f.room))

  pub list_rows : Rows w 0 n t.rows × (t.rows ≤ 512) × (2 * n ≤ length w)
  list_rows = (f.list_ok, f.small, omega (arith, f.list_ok.few, f.room))

-- ---- the index of each row

module _ {rule table : List ℕ} {t : Table} {w : List ℕ} {n : ℕ} {values : List ℕ} where
  -- the steps that were read, or none
  pub steps_found : {at count : ℕ} {served : Bool} → StepsGive rule at table t count w n served values → served ≡ true → CaseSteps rule at count table t w n values (Some at)
  steps_found {at} {count} steps all = record { steps = (refl, subst (λ (b : Bool). StepsGive rule at table t count w n b values) all steps) }

  pub steps_missed : {at count : ℕ} → CaseSteps rule at count table t w n values None
  steps_missed = record { steps = tt }

  -- the keys that were found, or none
  pub keys_found : {at end count place : ℕ} {served : Bool} → KeyedGive rule at end table t count w n served values → served ≡ true → EndGives rule at place → CaseKeys rule at end count table t w n values (Some place)
  keys_found {at} {end} {count} keys all ends = record { keys = (ends, subst (λ (b : Bool). KeyedGive rule at end table t count w n b values) all keys) }

  pub keys_missed : {at end count : ℕ} → CaseKeys rule at end count table t w n values None
  keys_missed = record { keys = tt }

module _ {rule : List ℕ} {start end : ℕ} {table : List ℕ} {t : Table} {w : List ℕ} {n : ℕ} {values : List ℕ} where
  pub values_none : CaseValues rule start end table t w n values None
  values_none = record { each = tt }

  -- by steps, of a CASE without a base
  pub by_steps : {at count : ℕ} {found : Option ℕ} {g s : Strategy} {served : Optional → Branches → Optional → Type 0} → byte rule start ≡ 25 → count ≡ byte rule (start + 4) → StrategyGives rule start end g → g ≡ s
      → ((b : Optional) (bs : Branches) (els : Optional) → s ≡ strategy_of b bs els → served b bs els) → ((b : Optional) (bs : Branches) (els : Optional) → served b bs els → b ≡ absent)
      → ChildrenGives rule start at → CaseSteps rule at count table t w n values found → CaseValues rule start end table t w n values found
  unfolding eval type_of strategy
  by_steps {found = None} tag counted gives is shape without children steps = record { each = tt }
  by_steps {at} {count} {found = Some place} tag counted gives is shape without children steps = record {
    each = λ q l.
        let x = steps.steps.1.each refl q l in
        subst (λ (y : ℕ). CaseIndex rule start end table t y q (get_or values q 0)) (sym steps.steps.0)
        (record { some = x.some; few = omega (arith, x.few, counted); is = λ e depth node. go q l e depth node (node_of_tag node tag) });
  }
    where
      go : (q : ℕ) → Listed w 0 n q → (e : Expr) (depth : ℕ) → NodeAt rule start end e (depth + 1) → Tagged 25 e → CaseTree rule start end table t at depth q (get_or values q 0) e
      go q l e depth node (of_case b bs els) =
          let row = row_in table t q in
          let none : b ≡ absent = without b bs els (shape b bs els (sym is ∙ gives.is (case_when b bs els) (depth + 1) node)) in
          let same : case_when b bs els ≡ case_when absent bs els = ap (λ (o : Optional). case_when o bs els) none in
          let node' = subst (λ (x : Expr). NodeAt rule start end x (depth + 1)) same node in
          let trees : TreesAt rule at end (branch_trees bs ++ optional_trees els) depth = children_below children node' in
          let count_is : branch_count bs ≡ byte rule (start + 4) = sym (node_byte 1 (start + 4) node (omega arith) (omega arith)) in
          record {
            bs = bs;
            els = els;
            trees = trees;
            counted = count_is;
            outcome = λ to types.
                ap (λ (x : Expr). eval x row) same
                ∙ ap (λ (f : DataType). eval_branches bs row is_true_test (eval_else els row f)) (sym (types end (case_when absent bs els) (depth + 1) node'))
                ∙ (steps.steps.1.each refl q l).is bs (optional_trees els) end depth (eval_else els row to) trees (count_is ∙ sym counted);
          }

  -- by a table of keys, of a CASE with a base
  pub by_keys : {at count : ℕ} {found : Option ℕ} {g : Strategy} → byte rule start ≡ 25 → count ≡ byte rule (start + 4) → StrategyGives rule start end g → g ≡ WithExprScalarLookupTable → ChildrenGives rule start at
      → CaseKeys rule at end count table t w n values found → CaseValues rule start end table t w n values found
  unfolding eval type_of strategy
  by_keys {found = None} tag counted gives is children keys = record { each = tt }
  by_keys {at} {count} {found = Some place} tag counted gives is children keys = record {
    each = λ q l.
        let x = keys.keys.1.each refl q l in
        record { some = x.some; few = omega (arith, x.few, counted); is = λ e depth node. go q l e depth node (node_of_tag node tag) };
  }
    where
      go : (q : ℕ) → Listed w 0 n q → (e : Expr) (depth : ℕ) → NodeAt rule start end e (depth + 1) → Tagged 25 e → CaseTree rule start end table t place depth q (get_or values q 0) e
      go q l e depth node (of_case b bs els) =
          let row = row_in table t q in
          let (x, base, serves) = shape_6 b bs els (sym is ∙ gives.is (case_when b bs els) (depth + 1) node) in
          let same : case_when b bs els ≡ case_when (present x) bs els = ap (λ (o : Optional). case_when o bs els) base in
          let node' = subst (λ (y : Expr). NodeAt rule start end y (depth + 1)) same node in
          let trees : TreesAt rule at end (x ∷ (branch_trees bs ++ optional_trees els)) depth = children_below children node' in
          let count_is : branch_count bs ≡ byte rule (start + 4) = sym (node_byte 1 (start + 4) node (omega arith) (omega arith)) in
          record {
            bs = bs;
            els = els;
            trees = (first_tree keys.keys.0 trees).1;
            counted = count_is;
            outcome = λ to types.
                ap (λ (y : Expr). eval y row) same
                ∙ ap (λ (f : DataType). with_base (eval x row) (λ test. eval_branches bs row test (eval_else els row f)) (eval_else els row f)) (sym (types end (case_when (present x) bs els) (depth + 1) node'))
                ∙ (keys.keys.1.each refl q l).is x bs els depth (eval_else els row to) trees (count_is ∙ sym counted) serves;
          }
