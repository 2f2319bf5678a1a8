-- A CASE on a column whose rows have their indices by a lookup table: the literal of each row's index is its one-row outcome. Assumes nothing.
use Rattle.std.proofs.Common.{◌≡◌, ℕ, ◌+◌, ◌≤◌, Bool, true, List, get_or, sym, refl, ap, ◌∙◌, subst, arith}
use Rattle.layout.specs.Bytes.{byte}
use Rattle.scalar.specs.declared.types.DataType.{DataType}
use Rattle.scalar.specs.declared.value.Value.{Value}
use Rattle.scalar.specs.Value.{meaning}
use Rattle.rule.specs.Tree.{Expr, case_when, Branches, Optional, present}
use Rattle.rule.specs.Typing.{type_of}
use Rattle.rule.specs.Row.{with_base, eval, eval_branches, eval_else}
use Rattle.rule.specs.Node.{NodeAt}
use Rattle.rule.specs.Walks.{EndGives, ChildrenGives, TypeGives}
use Rattle.rule.proofs.NodeLaws.{node_byte}
use Rattle.rule.proofs.WalkLaws.{first_tree}
use Rattle.table.specs.declared.places.Table.{Table}
use Rattle.case.specs.Frame.{Filled}
use Rattle.case.specs.Evaluation.{Done, row_in, CaseRight, table_case}
use Rattle.case.specs.Results.{StartRight}
use Rattle.case.specs.LookUp.{KeyedIndex, KeyedGive}
use Rattle.case.proofs.FrameLaws.{done_filled}
use Rattle.case.proofs.ExprLaws.{children_below}
use Rattle.case.proofs.LookUpTrees.{served_known}

pub keyed_case : {rule : List ℕ} {start at first end : ℕ} {table : List ℕ} {t : Table} {depth : ℕ} {w w₁ : List ℕ} {n count : ℕ} {to : DataType} {served : Bool} (values : List ℕ) → n ≤ 512
    → ChildrenGives rule start at → EndGives rule at first → count ≡ byte rule (start + 4) → TypeGives rule start to → KeyedGive rule at end table t count w n served values → served ≡ true
    → Filled (StartRight rule first end count to values) w n w₁ → Done (CaseRight table_case rule start end table t depth) w n w₁
unfolding eval type_of
keyed_case {rule} {start} {at} {first} {end} {table} {t} {depth} {w} {w₁} {n} {count} {to} {served} values few children ends counted types give all d =
    done_filled few refl (λ j h. refl) d (λ r v l g. record { is = go r v (give.each all r l) g })
  where
    go : (r : ℕ) (v : Value) → KeyedIndex rule at end table t count r (get_or values r 0) → StartRight rule first end count to values r v → (b : Optional) (bs : Branches) (els : Optional)
        → NodeAt rule start end (case_when b bs els) (depth + 1) → table_case b bs els → meaning rule table v ≡ eval (case_when b bs els) (row_in table t r)
    go r v i g b bs els node (x, p, s) =
        let same : case_when b bs els ≡ case_when (present x) bs els = ap (λ (o : Optional). case_when o bs els) p in
        let node' = subst (λ (e : Expr). NodeAt rule start end e (depth + 1)) same node in
        let trees = children_below children node' in
        let (base, rest) = first_tree ends trees in
        let count_is = counted ∙ node_byte 1 (start + 4) node' (omega arith) (omega arith) in
        let type_is = types end (case_when (present x) bs els) (depth + 1) node' in
        g.is bs els depth (row_in table t r) table rest (sym count_is) (let h = i.few in omega arith) (served_known bs els s (get_or values r 0))
        ∙ sym (i.is x bs els depth (eval_else els (row_in table t r) to) trees (sym count_is) s)
        ∙ ap (λ (f : DataType). with_base (eval x (row_in table t r)) (λ test. eval_branches bs (row_in table t r) test (eval_else els (row_in table t r) f)) (eval_else els (row_in table t r) f)) type_is
        ∙ ap (λ (e : Expr). eval e (row_in table t r)) (sym same)
