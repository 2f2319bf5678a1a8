-- The arms of an expression over a list of rows: what each call asks, and what the calls give together. Assumes nothing.
use Rattle.std.proofs.Common.{◌≡◌, ℕ, ◌+◌, ◌-◌, ◌<◌, ◌≤◌, Bool, true, false, eqb, List, [], ◌∷◌, length, sym, refl, ap, ◌∙◌, ap₂, arith, eq-eqb, ne_eqb}
use mathlib.Core.Bool.{false≢true}
use mathlib.Core.Option.{some}
use Rattle.layout.specs.Bytes.{byte}
use Rattle.scalar.specs.declared.value.Value.{Value}
use Rattle.scalar.specs.declared.types.DataType.{DataType}
use Rattle.scalar.specs.Entry.{Outcome, on_entry, on_entries}
use Rattle.scalar.specs.Value.{meaning, Gives, GivesBoth}
use Rattle.rule.specs.Tree.{Expr, column, literal, negation, negative, is_not_null, cast, try_cast, equal, less, case_when}
use Rattle.rule.specs.Row.{eval}
use Rattle.rule.specs.Node.{NodeAt}
use Rattle.rule.specs.Walks.{children_of, node_tag, TreesAt, EndGives, ChildrenGives, LiteralGives, NumberedGives}
use Rattle.rule.proofs.NodeLaws.{Tagged, of_column, of_literal, of_negation, of_negative, of_is_not_null, of_cast, of_try_cast, of_equal, of_less, of_case, node_byte, node_deep, node_tag_lem, node_deeper, trees_one, trees_deeper}
use Rattle.rule.proofs.WalkLaws.{node_of_tag, nothing_behind, first_tree}
use Rattle.table.specs.declared.places.Table.{Table}
use Rattle.case.specs.declared.rows.Op.{Op}
use Rattle.case.specs.declared.rows.Op.TheVariants.{Not, Negative, IsNotNull, Cast, TryCast}
use Rattle.case.specs.Frame.{slot_at, next_slot, Filled, Fillable, Copied, operation_of}
use Rattle.case.specs.Taking.{comparison}
use Rattle.case.specs.Evaluation.{Framed, Done, row_in, ExprRight, LiteralRight, CellRight, operator_of, OperatorGives, UnaryRight, compares, BinaryRight, AgainstRight, CaseRight, any_case}
use Rattle.case.proofs.FrameLaws.{none_some, Kept, kept_slot, listed_to, rows_to, rows_small, listed_below, framed_fillable, framed_kept, done_filled, done_done, done_none, lent, back, lent_framed, NextDone, next_done}

-- ---- an expression, by its tag

module _ {rule : List ℕ} {start end : ℕ} {table : List ℕ} {t : Table} {depth : ℕ} {w : List ℕ} {n : ℕ} where
  pub expr_none : depth ≡ 0 → Done (ExprRight rule start end table t depth) w n w
  expr_none h = done_none (λ r. record { is = λ e node. absurd (let k = node_deep node in omega arith) })

  pub expr_behind : length rule ≤ start → Done (ExprRight rule start end table t depth) w n w
  expr_behind h = done_none (λ r. record { is = λ e node. absurd (let k = nothing_behind node in omega arith) })

module _ {rule : List ℕ} {start end : ℕ} {table : List ℕ} {t : Table} {depth : ℕ} {w w' : List ℕ} {n : ℕ} (f : Framed table t w n depth) where
  pub expr_column : {index : ℕ} → byte rule start ≡ 16 → index ≡ byte rule (start + 3) → Filled (CellRight table t index) w n w' → Done (ExprRight rule start end table t depth) w n w'
  unfolding eval
  expr_column {index} tag i d = done_filled f.list_ok.few refl (λ j h. refl) d (λ r v l right. record { is = λ e node. go r v right e node (node_of_tag node tag) })
    where
      go : (r : ℕ) (v : Value) → CellRight table t index r v → (e : Expr) → NodeAt rule start end e depth → Tagged 16 e → meaning rule table v ≡ eval e (row_in table t r)
      go r v right e node (of_column c) = right.is rule ∙ ap (row_in table t r) (i ∙ node_byte 0 (start + 3) node (omega arith) (omega arith))

  pub expr_literal : byte rule start ≡ 17 → Filled (LiteralRight rule start end) w n w' → Done (ExprRight rule start end table t depth) w n w'
  unfolding eval
  expr_literal tag d = done_filled f.list_ok.few refl (λ j h. refl) d (λ r v l right. record { is = λ e node. go r v right e node (node_of_tag node tag) })
    where
      go : (r : ℕ) (v : Value) → LiteralRight rule start end r v → (e : Expr) → NodeAt rule start end e depth → Tagged 17 e → meaning rule table v ≡ eval e (row_in table t r)
      go r v right e node (of_literal d x) = right.is d x depth node table

  module _ (deep : 0 < depth) where
    pub expr_case : byte rule start ≡ 25 → Done (CaseRight any_case rule start end table t (depth - 1)) w n w' → Done (ExprRight rule start end table t depth) w n w'
    expr_case tag d = done_done f.list_ok.few refl (λ j h. refl) d (λ r v l right. record { is = λ e node. go r v right e node (node_of_tag node tag) })
      where
        go : (r : ℕ) (v : Value) → CaseRight any_case rule start end table t (depth - 1) r v → (e : Expr) → NodeAt rule start end e depth → Tagged 25 e → meaning rule table v ≡ eval e (row_in table t r)
        go r v right e node (of_case b bs els) = right.is b bs els (node_deeper (depth - 1 + 1) (omega arith) node) tt

    module _ {tag : ℕ} (read : byte rule start ≡ tag) (no_column_lem : tag ≡ 16 → ⊥) (no_literal : tag ≡ 17 → ⊥) (no_case : tag ≡ 25 → ⊥) where
      pub expr_unary : tag < 23 → Done (UnaryRight rule start end table t (depth - 1)) w n w' → Done (ExprRight rule start end table t depth) w n w'
      expr_unary low d = done_done f.list_ok.few refl (λ j h. refl) d (λ r v l right. record { is = λ e node. go r v right e node low no_column_lem no_literal (node_of_tag node read) })
        where
          go : {tag : ℕ} (r : ℕ) (v : Value) → UnaryRight rule start end table t (depth - 1) r v → (e : Expr) → NodeAt rule start end e depth → tag < 23 → (tag ≡ 16 → ⊥) → (tag ≡ 17 → ⊥)
              → Tagged tag e → meaning rule table v ≡ eval e (row_in table t r)
          go r v right e node small p q (of_column c) = absurd (p refl)
          go r v right e node small p q (of_literal d x) = absurd (q refl)
          go r v right e node small p q (of_negation a) = right.is _ Not (node_deeper (depth - 1 + 1) (omega arith) node) refl
          go r v right e node small p q (of_negative a) = right.is _ Negative (node_deeper (depth - 1 + 1) (omega arith) node) refl
          go r v right e node small p q (of_is_not_null a) = right.is _ IsNotNull (node_deeper (depth - 1 + 1) (omega arith) node) refl
          go r v right e node small p q (of_cast d a) = right.is _ (Cast d) (node_deeper (depth - 1 + 1) (omega arith) node) refl
          go r v right e node small p q (of_try_cast d a) = right.is _ (TryCast d) (node_deeper (depth - 1 + 1) (omega arith) node) refl
          go r v right e node small p q (of_equal a b) = absurd (omega arith)
          go r v right e node small p q (of_less a b) = absurd (omega arith)
          go r v right e node small p q (of_case b bs els) = absurd (omega arith)

      pub expr_binary : 23 ≤ tag → Done (BinaryRight rule start end table t (depth - 1)) w n w' → Done (ExprRight rule start end table t depth) w n w'
      expr_binary high d = done_done f.list_ok.few refl (λ j h. refl) d (λ r v l right. record { is = λ e node. go r v right e node high no_case (node_of_tag node read) })
        where
          go : {tag : ℕ} (r : ℕ) (v : Value) → BinaryRight rule start end table t (depth - 1) r v → (e : Expr) → NodeAt rule start end e depth → 23 ≤ tag → (tag ≡ 25 → ⊥)
              → Tagged tag e → meaning rule table v ≡ eval e (row_in table t r)
          go r v right e node high p (of_column c) = absurd (omega arith)
          go r v right e node high p (of_literal d x) = absurd (omega arith)
          go r v right e node high p (of_negation a) = absurd (omega arith)
          go r v right e node high p (of_negative a) = absurd (omega arith)
          go r v right e node high p (of_is_not_null a) = absurd (omega arith)
          go r v right e node high p (of_cast d a) = absurd (omega arith)
          go r v right e node high p (of_try_cast d a) = absurd (omega arith)
          go r v right e node high p (of_equal a b) = right.is _ (node_deeper (depth - 1 + 1) (omega arith) node) refl
          go r v right e node high p (of_less a b) = right.is _ (node_deeper (depth - 1 + 1) (omega arith) node) refl
          go r v right e node high p (of_case b bs els) = absurd (p refl)

-- the children of a node, one level down
pub children_below : {rule : List ℕ} {start at end depth : ℕ} {e : Expr} → ChildrenGives rule start at → NodeAt rule start end e (depth + 1) → TreesAt rule at end (children_of e) depth
children_below {depth = depth} {e} c node = trees_deeper depth (omega arith) (c.stand _ e (depth + 1) node)

-- ---- one child

-- the operation of a node, by its tag
pub operator_behind : {rule : List ℕ} {start : ℕ} {r : Op} → length rule ≤ start → OperatorGives rule start r
operator_behind h = record { is = λ end e depth o node p. absurd (let k = nothing_behind node in omega arith) }

some_same : {o p : Op} → some o ≡ some p → o ≡ p
some_same q = cc

module _ {rule : List ℕ} {start : ℕ} where
  pub operator_negative : byte rule start ≡ 19 → OperatorGives rule start Negative
  operator_negative tag = record { is = λ end e depth o node p. go end e depth o (node_of_tag node tag) p }
    where
      go : (end : ℕ) (e : Expr) (depth : ℕ) (o : Op) → Tagged 19 e → operator_of e ≡ some o → Negative ≡ o
      go end e depth o (of_negative a) q = some_same q

  pub operator_is_not_null : byte rule start ≡ 20 → OperatorGives rule start IsNotNull
  operator_is_not_null tag = record { is = λ end e depth o node p. go end e depth o (node_of_tag node tag) p }
    where
      go : (end : ℕ) (e : Expr) (depth : ℕ) (o : Op) → Tagged 20 e → operator_of e ≡ some o → IsNotNull ≡ o
      go end e depth o (of_is_not_null a) q = some_same q

  pub operator_cast : {number : ℕ} {d : DataType} → byte rule start ≡ 21 → number ≡ byte rule (start + 3) → NumberedGives number d → OperatorGives rule start (Cast d)
  operator_cast {number} {d} tag read numbered = record { is = λ end e depth o node p. go end e depth o node (node_of_tag node tag) p }
    where
      go : (end : ℕ) (e : Expr) (depth : ℕ) (o : Op) → NodeAt rule start end e depth → Tagged 21 e → operator_of e ≡ some o → Cast d ≡ o
      go end e depth o node (of_cast f a) q = ap Cast (numbered f (read ∙ node_byte 0 (start + 3) node (omega arith) (omega arith))) ∙ some_same q

  pub operator_try_cast : {number : ℕ} {d : DataType} → byte rule start ≡ 22 → number ≡ byte rule (start + 3) → NumberedGives number d → OperatorGives rule start (TryCast d)
  operator_try_cast {number} {d} tag read numbered = record { is = λ end e depth o node p. go end e depth o node (node_of_tag node tag) p }
    where
      go : (end : ℕ) (e : Expr) (depth : ℕ) (o : Op) → NodeAt rule start end e depth → Tagged 22 e → operator_of e ≡ some o → TryCast d ≡ o
      go end e depth o node (of_try_cast f a) q = ap TryCast (numbered f (read ∙ node_byte 0 (start + 3) node (omega arith) (omega arith))) ∙ some_same q

  pub operator_not : {tag : ℕ} → byte rule start ≡ tag → (tag ≡ 19 → ⊥) → (tag ≡ 20 → ⊥) → (tag ≡ 21 → ⊥) → (tag ≡ 22 → ⊥) → OperatorGives rule start Not
  operator_not read a b c d = record { is = λ end e depth o node p. go end e depth o (node_of_tag node read) a b c d p }
    where
      go : {tag : ℕ} (end : ℕ) (e : Expr) (depth : ℕ) (o : Op) → Tagged tag e → (tag ≡ 19 → ⊥) → (tag ≡ 20 → ⊥) → (tag ≡ 21 → ⊥) → (tag ≡ 22 → ⊥) → operator_of e ≡ some o → Not ≡ o
      go end e depth o (of_column x) a b c d q = absurd (none_some q)
      go end e depth o (of_literal x y) a b c d q = absurd (none_some q)
      go end e depth o (of_negation x) a b c d q = some_same q
      go end e depth o (of_negative x) a b c d q = absurd (a refl)
      go end e depth o (of_is_not_null x) a b c d q = absurd (b refl)
      go end e depth o (of_cast x y) a b c d q = absurd (c refl)
      go end e depth o (of_try_cast x y) a b c d q = absurd (d refl)
      go end e depth o (of_equal x y) a b c d q = absurd (none_some q)
      go end e depth o (of_less x y) a b c d q = absurd (none_some q)
      go end e depth o (of_case x y z) a b c d q = absurd (none_some q)

-- the child in the slots, and the operation on them
pub unary_gives : {rule : List ℕ} {start at end : ℕ} {table : List ℕ} {t : Table} {depth : ℕ} {w w₁ w₂ : List ℕ} {n : ℕ} {op : Op} → n ≤ 512
    → ChildrenGives rule start at → Done (ExprRight rule at end table t depth) w n w₁ → OperatorGives rule start op
    → Filled (λ r x. Gives (operation_of op) (slot_at w₁ r) x) w₁ n w₂ → Done (UnaryRight rule start end table t depth) w n w₂
unfolding eval
unary_gives {rule} {start} {at} {end} {table} {t} {depth} {w} {w₁} {w₂} {n} {op} few children child operator d =
    done_filled few child.long child.low d (λ r v l g. record { is = go r v (child.here r l) g })
  where
    go : (r : ℕ) (v : Value) → ExprRight rule at end table t depth r (slot_at w₁ r) → Gives (operation_of op) (slot_at w₁ r) v
        → (e : Expr) (o : Op) → NodeAt rule start end e (depth + 1) → operator_of e ≡ some o → meaning rule table v ≡ eval e (row_in table t r)
    go r v c g e o node is = by e (children_below children node) is (g.means rule table ∙ ap (λ (x : Op). on_entry (operation_of x) (meaning rule table (slot_at w₁ r))) (operator.is end e (depth + 1) o node is))
      where
        one : {a : Expr} → TreesAt rule at end (a ∷ []) depth → meaning rule table (slot_at w₁ r) ≡ eval a (row_in table t r)
        one {a} trees = c.is a (trees_one trees)

        by : (e : Expr) → TreesAt rule at end (children_of e) depth → operator_of e ≡ some o → meaning rule table v ≡ on_entry (operation_of o) (meaning rule table (slot_at w₁ r)) → meaning rule table v ≡ eval e (row_in table t r)
        by (column x) trees q m = absurd (none_some q)
        by (literal x y) trees q m = absurd (none_some q)
        by (negation a) trees q m = m ∙ ap₂ (λ (x : Op) (y : Outcome). on_entry (operation_of x) y) (sym (some_same q)) (one trees)
        by (negative a) trees q m = m ∙ ap₂ (λ (x : Op) (y : Outcome). on_entry (operation_of x) y) (sym (some_same q)) (one trees)
        by (is_not_null a) trees q m = m ∙ ap₂ (λ (x : Op) (y : Outcome). on_entry (operation_of x) y) (sym (some_same q)) (one trees)
        by (cast f a) trees q m = m ∙ ap₂ (λ (x : Op) (y : Outcome). on_entry (operation_of x) y) (sym (some_same q)) (one trees)
        by (try_cast f a) trees q m = m ∙ ap₂ (λ (x : Op) (y : Outcome). on_entry (operation_of x) y) (sym (some_same q)) (one trees)
        by (equal a b) trees q m = absurd (none_some q)
        by (less a b) trees q m = absurd (none_some q)
        by (case_when a b c) trees q m = absurd (none_some q)

-- ---- two children

-- the left child in the slots, and the comparison with the right
pub binary_gives : {rule : List ℕ} {start at middle end tag : ℕ} {table : List ℕ} {t : Table} {depth : ℕ} {w w₁ w₂ : List ℕ} {n : ℕ} → n ≤ 512
    → ChildrenGives rule start at → EndGives rule at middle → tag ≡ byte rule start → Done (ExprRight rule at middle table t depth) w n w₁
    → Done (AgainstRight rule middle end table t depth (eqb tag 24) w₁) w₁ n w₂ → Done (BinaryRight rule start end table t depth) w n w₂
unfolding eval
binary_gives {rule} {start} {at} {middle} {end} {tag} {table} {t} {depth} {w} {w₁} {w₂} {n} few children ends read left d =
    done_done few left.long left.low d (λ r v l g. record { is = go r v (left.here r l) g })
  where
    go : (r : ℕ) (v : Value) → ExprRight rule at middle table t depth r (slot_at w₁ r) → AgainstRight rule middle end table t depth (eqb tag 24) w₁ r v
        → (e : Expr) → NodeAt rule start end e (depth + 1) → compares e ≡ true → meaning rule table v ≡ eval e (row_in table t r)
    go r v c g e node is = by e (children_below children node) (read ∙ node_tag_lem node) is
      where
        both : {a b : Expr} → TreesAt rule at end (a ∷ b ∷ []) depth → (k : Bool) → eqb tag 24 ≡ k → meaning rule table v ≡ on_entries (comparison k) (eval a (row_in table t r)) (eval b (row_in table t r))
        both {a} {b} trees k p =
            let (first, rest) = first_tree ends trees in
            g.is b (trees_one rest)
            ∙ ap₂ (λ (x : Bool) (y : Outcome). on_entries (comparison x) y (eval b (row_in table t r))) p (c.is a first)

        by : (e : Expr) → TreesAt rule at end (children_of e) depth → tag ≡ node_tag e → compares e ≡ true → meaning rule table v ≡ eval e (row_in table t r)
        by (column x) trees p q = absurd (false≢true q)
        by (literal x y) trees p q = absurd (false≢true q)
        by (negation a) trees p q = absurd (false≢true q)
        by (negative a) trees p q = absurd (false≢true q)
        by (is_not_null a) trees p q = absurd (false≢true q)
        by (cast f a) trees p q = absurd (false≢true q)
        by (try_cast f a) trees p q = absurd (false≢true q)
        by (equal a b) trees p q = both trees false (ne_eqb tag 24 (λ e. omega arith))
        by (less a b) trees p q = both trees true (eq-eqb tag 24 p)
        by (case_when a b c) trees p q = absurd (false≢true q)

module _ {rule : List ℕ} {start end : ℕ} {table : List ℕ} {t : Table} {depth : ℕ} {below : Bool} {w : List ℕ} {n : ℕ} where
  pub against_none : depth ≡ 0 → Done (AgainstRight rule start end table t depth below w) w n w
  against_none h = done_none (λ r. record { is = λ e node. absurd (let k = node_deep node in omega arith) })

  -- with a literal's value
  pub against_value : {w' : List ℕ} {v : Value} → n ≤ 512 → byte rule start ≡ 17 → LiteralGives rule start end v
      → Filled (λ r x. GivesBoth (comparison below) rule table (slot_at w r) v x) w n w' → Done (AgainstRight rule start end table t depth below w) w n w'
  unfolding eval
  against_value {w'} {v} few tag literal-is d = done_filled few refl (λ j h. refl) d (λ r x l g. record { is = λ e node. go r x g e node (node_of_tag node tag) })
    where
      go : (r : ℕ) (x : Value) → GivesBoth (comparison below) rule table (slot_at w r) v x → (e : Expr) → NodeAt rule start end e depth → Tagged 17 e
          → meaning rule table x ≡ on_entries (comparison below) (meaning rule table (slot_at w r)) (eval e (row_in table t r))
      go r x g e node (of_literal f y) = g.means ∙ ap (on_entries (comparison below) (meaning rule table (slot_at w r))) ((literal-is f y depth node).0 table)

-- with slots of the next frame
module _ {table : List ℕ} {t : Table} {depth : ℕ} {w w₁ : List ℕ} {n : ℕ} (f : Framed table t w n (depth + 1)) (deep : 0 < depth) (copied : Copied w n 0 6656 w₁) where
  pub against_room : 13312 ≤ length w₁
  against_room = let r = f.room in let l = copied.long in omega arith

  pub against_asks : Framed table t (lent w₁) n depth
  against_asks = lent_framed depth (rows_to w w₁ 0 6656 n t.rows copied.rows_copied f.list_ok) f.small (let r = f.room in let l = copied.long in omega arith) f.short

  module _ {rule : List ℕ} {start end : ℕ} {ys : List ℕ} (d : Done (ExprRight rule start end table t depth) (lent w₁) n ys) where
    next : NextDone (ExprRight rule start end table t depth) w₁ n (back w₁ ys)
    next = next_done f.list_ok.few against_room d

    pub back_long : length (back w₁ ys) ≡ length w
    back_long = next.long ∙ copied.long

    back_kept : Kept 6656 w (back w₁ ys)
    back_kept j h = next.low j h ∙ copied.before j h

    pub against_next : Fillable (back w₁ ys) n × (12288 ≤ length (back w₁ ys))
    against_next = (
      framed_fillable (framed_kept f (depth + 1) (omega arith) (back w₁ ys) back_long (λ j h. back_kept j (omega arith))) (omega arith),
      (let r = f.room in let l = back_long in omega arith),
    )

    pub against_rows : {below : Bool} {w₂ : List ℕ} → Filled (λ r x. GivesBoth (comparison below) rule table (slot_at (back w₁ ys) r) (next_slot (back w₁ ys) r) x) (back w₁ ys) n w₂
        → Done (AgainstRight rule start end table t depth below w) w n w₂
    against_rows {below} e =
        done_filled f.list_ok.few back_long (λ j h. back_kept j (omega arith)) e
        (λ r x l g. record {
          is = λ a node.
              let small : r < 512 = listed_below (rows_small f.small f.list_ok) r l in
              g.means
              ∙ ap₂ (on_entries (comparison below)) (ap (meaning rule table) (kept_slot w (back w₁ ys) (λ j h. back_kept j (omega arith)) r small))
              ((next.here r small (listed_to w w₁ 0 6656 n copied.rows_copied r l)).is a node);
        })
