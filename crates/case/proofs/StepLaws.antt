-- WHENs that compare one column with literals: how they are read, and that a row's index by its number is that of its branch. Assumes nothing.
use Rattle.std.proofs.Common.{◌≡◌, ℕ, zero, suc, ◌+◌, ◌-◌, ◌*◌, ◌<◌, ◌≤◌, Bool, true, false, cond, eqb, ltb, ◌⊎◌, List, [], ◌∷◌, ◌++◌, length, get_or, set, Option, Some, None, IfSome, sym, refl, ap, ◌∙◌, subst, ap₂, inl, inr, arith, length-set, get_or-set_other, get_or-set_same}
use mathlib.Core.Bool.{false≢true}
use native.Mathlib.Decide.{ℕ_discrete}
use Rattle.layout.specs.Bytes.{byte}
use Rattle.scalar.specs.declared.types.DataType.{DataType}
use Rattle.scalar.specs.declared.types.DataType.TheVariants as types
use Rattle.scalar.specs.declared.value.Value.{Value}
use Rattle.scalar.specs.declared.order.Key.{Key}
use Rattle.scalar.specs.declared.order.Key.TheVariants as Keys
use Rattle.scalar.specs.Types.{type_number}
use Rattle.scalar.specs.Entry.{Entry, null, boolean, int32, int64, float64, utf8, is_true_entry, Outcome, entry, unfit, on_entries}
use Rattle.scalar.specs.Pair.{pair_of}
use Rattle.scalar.specs.Compare.{equal_entry, less_entry}
use Rattle.scalar.specs.Order.{key_of, Numbered}
use Rattle.scalar.proofs.OrderLaws.{value_numbered}
use Rattle.scalar.proofs.CompareLaws.{numbers_equal, numbers_less}
use Rattle.rule.specs.Tree.{Expr, Branches, no_more, branch, branch_count}
use Rattle.rule.specs.Row.{Row, is_true_test, chosen, eval, eval_branches}
use Rattle.rule.specs.Node.{NodeAt}
use Rattle.rule.specs.Walks.{branch_trees, children_of, TreesAt, EndGives, ChildrenGives, BehindGives, LiteralGives}
use Rattle.rule.proofs.NodeLaws.{Tagged, of_column, of_literal, of_negation, of_negative, of_is_not_null, of_cast, of_try_cast, of_equal, of_less, of_case, node_byte, trees_one}
use Rattle.rule.proofs.WalkLaws.{node_of_tag, first_tree}
use Rattle.table.specs.declared.places.ColumnPlace.{ColumnPlace}
use Rattle.table.specs.declared.places.Table.{Table}
use Rattle.table.specs.Column.{valid_in, value_at, entry_at}
use Rattle.table.specs.Places.{column_in, column_of}
use Rattle.case.specs.declared.steps.Step.{Step}
use Rattle.case.specs.declared.steps.Comparison.{Comparison}
use Rattle.case.specs.Frame.{row_at, Rows, Listed}
use Rattle.case.specs.LookUpTables.{found}
use Rattle.case.specs.Evaluation.{row_in, result_at, indexed}
use Rattle.case.specs.Steps.{StepsGive, comparison_tag, step_of, Sides, SidesGive, step_entry, StepWhen, StepGives, when_at, StepsAt, step_passes, step_index, EntryIndex, KeyAt, RowIndex, RowsIndexed, ColumnGives, WhenIndex, StepRows, WhenGives}
use Rattle.case.proofs.LookUpLaws.{found_none, found_below}
use Rattle.case.proofs.BranchLaws.{branch_at, branch_stands, behind_none, behind_two}
use Rattle.case.proofs.CellLaws.{cell_found}

-- ---- one step

-- a node's tag stands before the end
pub tag_inside : (l : List ℕ) (i b : ℕ) → b ≡ byte l i → b ≡ 16 → i < length l
tag_inside [] i b e h = absurd (omega arith)
tag_inside (x ∷ l) zero b e h = omega arith
tag_inside (x ∷ l) (suc i) b e h = let k = tag_inside l i b e h in omega arith

-- a column beside a literal
pub sides_some : (rule : List ℕ) (comparison : Comparison) (at literal end : ℕ) {c : ℕ} (v : Value) {k : Key} {s : Option Step} → byte rule at ≡ 16 → byte rule literal ≡ 17 → c ≡ byte rule (at + 3)
    → LiteralGives rule literal end v → k ≡ key_of v → s ≡ step_of comparison c k → IfSome s (SidesGive rule (comparison_tag comparison) at literal end)
unfolding eval
sides_some rule comparison at literal end {c} v {k} {s} column_tag literal_tag index gives key_is s-is =
    subst (λ (x : Option Step). IfSome x (SidesGive rule (comparison_tag comparison) at literal end)) (sym s-is) (by k refl)
  where
    go : {kind key behind depth : ℕ} → k ≡ Keys.Number kind key → (a b : Expr) → NodeAt rule at behind a depth → NodeAt rule literal end b depth → Tagged 16 a → Tagged 17 b → Sides c kind key a b
    go {depth = depth} number a b first second (of_column x) (of_literal t y) =
        let (means, stores) = gives t y depth second in
        record {
          value = y;
          numbered = value_numbered rule [] v y stores (means []) (sym key_is ∙ number);
          left = λ row. ap row (sym (index ∙ node_byte 0 (at + 3) first (omega arith) (omega arith)));
          right = λ row. refl;
        }

    by : (l : Key) → k ≡ l → IfSome (step_of comparison c l) (SidesGive rule (comparison_tag comparison) at literal end)
    by Keys.Null e = tt
    by Keys.Failed e = tt
    by (Keys.Number kind key) e = record {
      tag_is = refl;
      is = λ a b behind depth first second. go e a b first second (node_of_tag first column_tag) (node_of_tag second literal_tag);
    }
    by Keys.Text e = tt

-- the literal less than the column, told from the column's side
exchanged : (o : Outcome) (v : Entry) → on_entries less_entry (entry v) o ≡ on_entries (step_entry 26) o (entry v)
exchanged (entry a) v = refl
exchanged unfit v = refl

-- a comparison by its sides, where the column stands first or the literal does
module _ {rule : List ℕ} {start at middle tag : ℕ} (end : ℕ) (read : tag ≡ byte rule start) (children : ChildrenGives rule start at) (ends : EndGives rule at middle) where
  pub step_column : (s : Option Step) → (tag ≡ 23) ⊎ (tag ≡ 24) → IfSome s (SidesGive rule tag at middle end) → IfSome s (StepGives rule start end)
  unfolding eval
  step_column None either sides = tt
  step_column (Some s) either sides = record {
    is = λ e depth node.
        subst (λ (y : ℕ). StepWhen y s.column s.kind s.key e) (sym sides.tag_is)
        (told e either (node_of_tag node (sym read)) (λ a b trees. let (first, rest) = first_tree ends trees in sides.is a b middle (depth - 1) first (trees_one rest)) (children.stand end e depth node));
  }
    where
      told : {tag c kind key depth : ℕ} (e : Expr) → (tag ≡ 23) ⊎ (tag ≡ 24) → Tagged tag e → ((a b : Expr) → TreesAt rule at end (a ∷ b ∷ []) depth → Sides c kind key a b)
          → TreesAt rule at end (children_of e) depth → StepWhen tag c kind key e
      told e (inl p) (of_column x) sides trees = absurd (omega arith)
      told e (inr p) (of_column x) sides trees = absurd (omega arith)
      told e (inl p) (of_literal x y) sides trees = absurd (omega arith)
      told e (inr p) (of_literal x y) sides trees = absurd (omega arith)
      told e (inl p) (of_negation a) sides trees = absurd (omega arith)
      told e (inr p) (of_negation a) sides trees = absurd (omega arith)
      told e (inl p) (of_negative a) sides trees = absurd (omega arith)
      told e (inr p) (of_negative a) sides trees = absurd (omega arith)
      told e (inl p) (of_is_not_null a) sides trees = absurd (omega arith)
      told e (inr p) (of_is_not_null a) sides trees = absurd (omega arith)
      told e (inl p) (of_cast x a) sides trees = absurd (omega arith)
      told e (inr p) (of_cast x a) sides trees = absurd (omega arith)
      told e (inl p) (of_try_cast x a) sides trees = absurd (omega arith)
      told e (inr p) (of_try_cast x a) sides trees = absurd (omega arith)
      told e p (of_equal a b) sides trees =
          let x = sides a b trees in
          record { value = x.value; numbered = x.numbered; is = λ row. ap₂ (on_entries equal_entry) (x.left row) (x.right row) }
      told e p (of_less a b) sides trees =
          let x = sides a b trees in
          record { value = x.value; numbered = x.numbered; is = λ row. ap₂ (on_entries less_entry) (x.left row) (x.right row) }
      told e (inl p) (of_case a b d) sides trees = absurd (omega arith)
      told e (inr p) (of_case a b d) sides trees = absurd (omega arith)

  pub step_literal : (s : Option Step) → tag ≡ 24 → IfSome s (SidesGive rule 26 middle at middle) → IfSome s (StepGives rule start end)
  unfolding eval
  step_literal None is-less sides = tt
  step_literal (Some s) is-less sides = record {
    is = λ e depth node.
        subst (λ (y : ℕ). StepWhen y s.column s.kind s.key e) (sym sides.tag_is)
        (told e (node_of_tag node (sym read ∙ is-less)) (λ a b trees. let (first, rest) = first_tree ends trees in sides.is b a end (depth - 1) (trees_one rest) first) (children.stand end e depth node));
  }
    where
      told : {c kind key depth : ℕ} (e : Expr) → Tagged 24 e → ((a b : Expr) → TreesAt rule at end (a ∷ b ∷ []) depth → Sides c kind key b a) → TreesAt rule at end (children_of e) depth
          → StepWhen 26 c kind key e
      told {c} e (of_less a b) sides trees =
          let x = sides a b trees in
          record { value = x.value; numbered = x.numbered; is = λ row. ap₂ (on_entries less_entry) (x.right row) (x.left row) ∙ exchanged (row c) x.value }

-- ---- the steps of a CASE

-- where the loop stands: i steps are read
pub record StepsSoFar (rule : List ℕ) (at count column kind place i : ℕ) (tags keys : List ℕ) : Type 0 where
  pub few : i ≤ count
  pub small : count ≤ 32
  pub tags_long : length tags ≡ 32
  pub keys_long : length keys ≡ 32
  pub behind : BehindGives rule at (2 * i) place
  pub each : (bs : Branches) (rest : List Expr) (end depth : ℕ) → TreesAt rule at end (branch_trees bs ++ rest) depth → branch_count bs ≡ count
      → (k : ℕ) → k < i → StepWhen (get_or tags k 0) column kind (get_or keys k 0) (when_at bs k)

pub steps_none : {rule : List ℕ} {at count column kind : ℕ} {tags keys : List ℕ} → length tags ≡ 32 → length keys ≡ 32 → count ≤ 32
    → StepsSoFar rule at count column kind at 0 tags keys
steps_none {rule} {at} t k small = record {
  few = omega arith;
  small = small;
  tags_long = t;
  keys_long = k;
  behind = behind_none (2 * 0) refl;
  each = λ bs rest end depth trees n k h. absurd (omega arith);
}

module _ {rule : List ℕ} {at count column kind place i : ℕ} {tags keys : List ℕ} (s : StepsSoFar rule at count column kind place i tags keys) where
  -- one more
  pub steps_more : {then next : ℕ} {x : Step} → i < count → EndGives rule place then → StepGives rule place then x → x.column ≡ column → x.kind ≡ kind
      → EndGives rule then next → StepsSoFar rule at count column kind next (i + 1) (set tags i (comparison_tag x.comparison)) (set keys i x.key)
  steps_more {then} {next} {x} more to-then step column_is kind_is to-next = record {
    few = omega arith;
    small = s.small;
    tags_long = length-set tags i tag ∙ s.tags_long;
    keys_long = length-set keys i x.key ∙ s.keys_long;
    behind = behind_two (2 * i) (2 * (i + 1)) (omega arith) s.behind to-then to-next;
    each = λ bs rest end depth trees n k h. go bs rest end depth trees n k h (ℕ_discrete k i);
  }
    where
      tag : ℕ
      tag = comparison_tag x.comparison

      here : (bs : Branches) (rest : List Expr) (end depth : ℕ) → TreesAt rule at end (branch_trees bs ++ rest) depth → branch_count bs ≡ count → StepWhen tag column kind x.key (when_at bs i)
      here bs rest end depth trees n =
          let b = branch_at i bs (omega arith) in
          let (node, others) = first_tree to-then (branch_stands rest s.behind b trees) in
          subst (StepWhen tag column kind x.key) (sym b.when)
          (subst (λ (y : ℕ). StepWhen tag y kind x.key b.when_is) column_is
          (subst (λ (y : ℕ). StepWhen tag x.column y x.key b.when_is) kind_is (step.is b.when_is depth node)))

      stays : {a b c d : ℕ} {e : Expr} → a ≡ b → c ≡ d → StepWhen a column kind c e → StepWhen b column kind d e
      stays {a} {b} {c} {d} {e} p q h = subst (λ (y : ℕ). StepWhen b column kind y e) q (subst (λ (y : ℕ). StepWhen y column kind c e) p h)

      go : (bs : Branches) (rest : List Expr) (end depth : ℕ) → TreesAt rule at end (branch_trees bs ++ rest) depth → branch_count bs ≡ count
          → (k : ℕ) → k < i + 1 → Dec (k ≡ i) → StepWhen (get_or (set tags i tag) k 0) column kind (get_or (set keys i x.key) k 0) (when_at bs k)
      go bs rest end depth trees n k h (yes e) =
          subst (λ (y : ℕ). StepWhen (get_or (set tags i tag) y 0) column kind (get_or (set keys i x.key) y 0) (when_at bs y)) (sym e)
          (stays (sym (get_or-set_same tags i tag 0 (let l = s.tags_long in let m = s.small in omega arith)))
          (sym (get_or-set_same keys i x.key 0 (let l = s.keys_long in let m = s.small in omega arith))) (here bs rest end depth trees n))
      go bs rest end depth trees n k h (no d) =
          stays (sym (get_or-set_other tags i k tag 0 d)) (sym (get_or-set_other keys i k x.key 0 d)) (s.each bs rest end depth trees n k (omega arith))

  pub steps_all : count ≤ i → StepsAt rule at count column kind tags keys
  steps_all h = record { each = λ bs rest end depth trees n k l. s.each bs rest end depth trees n k (let f = s.few in omega arith) }

-- ---- the index of a row

-- an index is at most ELSE's
index_small : (tags keys : List ℕ) (count x : ℕ) → step_index tags keys count x ≤ count + 1
index_small tags keys count x = found_below (λ k. step_passes (get_or tags k 0) (get_or keys k 0) x) (λ k. k + 1) (count + 1) count 0 (λ i h. omega arith)

-- and is none of no branch
index_some : (tags keys : List ℕ) (count x : ℕ) → 0 < step_index tags keys count x
unfolding found
index_some tags keys count x = go (λ k. step_passes (get_or tags k 0) (get_or keys k 0) x) count 0
  where
    go : (same : ℕ → Bool) (n k : ℕ) → 0 < found same (λ i. i + 1) k n (count + 1)
    go same zero k = omega arith
    go same (suc n) k = by (same k) (go same n (suc k))
      where
        by : (t : Bool) → 0 < found same (λ i. i + 1) (suc k) n (count + 1) → 0 < cond t (k + 1) (found same (λ i. i + 1) (suc k) n (count + 1))
        by true later = omega arith
        by false later = later

-- the index of a null, and of a value
module _ {kind : DataType} {values : List ℕ} {row : ℕ} where
  module _ {validity tags keys : List ℕ} {count : ℕ} {b : Bool} (valid : b ≡ valid_in validity row) where
    pub row_null : {c : ℕ} → b ≡ false → c ≡ count + 1 → RowIndex kind values validity tags keys count row c
    row_null e p = record {
      is = λ h offsets. inl (ap (λ (y : Bool). cond y (value_at kind offsets values row) null) (sym valid ∙ e), p);
    }

    pub row_value : {x c : ℕ} → b ≡ true → KeyAt kind values row x → c ≡ step_index tags keys count x → RowIndex kind values validity tags keys count row c
    row_value {x} e key p = record {
      is = λ h offsets. inr (
        x,
        subst (λ (y : Entry). Numbered (type_number kind) x y) (sym (ap (λ (y : Bool). cond y (value_at kind offsets values row) null) (sym valid ∙ e))) (key.is h offsets),
        p,
      );
    }

-- the index of each row of a list
module _ {right : ℕ → ℕ → Type 0} {w : List ℕ} {at : ℕ} {indices : List ℕ} where
  pub indices_none : RowsIndexed right w at 0 indices
  indices_none = record { each = λ q l. absurd (let h = l.1 in omega arith) }

  pub indices_more : {i n r c : ℕ} → length indices ≡ 512 → RowsIndexed right w at i indices → Rows w at n 512 → i < n → r ≡ row_at w at i → right r c → RowsIndexed right w at (i + 1) (set indices r c)
  indices_more {i} {n} {r} {c} long s rows more is here = record { each = λ q l. go q l (ℕ_discrete q r) }
    where
      room : r < length indices
      room = omega (arith, rows.below i more)

      go : (q : ℕ) → Listed w at (i + 1) q → Dec (q ≡ r) → right q (get_or (set indices r c) q 0)
      go q l (yes e) = subst (λ (y : ℕ). right y (get_or (set indices r c) y 0)) (sym e) (subst (right r) (sym (get_or-set_same indices r c 0 room)) here)
      go q (j, h, p) (no d) = subst (right q) (sym (get_or-set_other indices r q c 0 d)) (s.each q (j, earlier (ℕ_discrete j i), p))
        where
          earlier : Dec (j ≡ i) → j < i
          earlier (yes e) = absurd (d (sym p ∙ ap (row_at w at) e ∙ sym is))
          earlier (no f) = omega arith

  pub indices_all : {i n : ℕ} → RowsIndexed right w at i indices → n ≤ i → RowsIndexed right w at n indices
  indices_all s h = record { each = λ q l. s.each q (l.0, (let k = l.1 in omega arith), l.2) }

-- ---- the branch of an index

-- an outcome is an entry that is true, or one that is not
record Says (o : Outcome) (b : Bool) : Type 0 where
  value : Entry
  is : o ≡ entry value
  truth : is_true_entry value ≡ b

-- the first branch whose WHEN is true, from k on
record FirstTrue (test : ℕ → Bool) (row : Row) (els : Outcome) (bs : Branches) (k otherwise : ℕ) : Type 0 where
  first : ℕ
  index_is : found test (λ i. i + 1) k (branch_count bs) otherwise ≡ suc (k + first)
  result_is : eval_branches bs row is_true_test els ≡ result_at bs row els first

module _ (test : ℕ → Bool) (row : Row) (els : Outcome) (otherwise : ℕ) where
  first_true : (bs : Branches) (k : ℕ) → otherwise ≡ k + branch_count bs + 1 → ((j : ℕ) → j < branch_count bs → Says (eval (when_at bs j) row) (test (k + j))) → FirstTrue test row els bs k otherwise
  unfolding branch_count eval_branches result_at when_at found
  first_true no_more k e says = record { first = 0; index_is = (let z : otherwise ≡ suc (k + 0) = omega arith in z); result_is = refl }
  first_true (branch w t bs) k e says =
      go (first_true bs (suc k) (omega arith) (λ j h. let z : k + suc j ≡ suc k + j = omega arith in subst (λ (i : ℕ). Says (eval (when_at bs j) row) (test i)) z (says (suc j) (omega arith)))) (test k) refl
    where
      here : Says (eval w row) (test k)
      here = let z : k + 0 ≡ k = omega arith in subst (λ (i : ℕ). Says (eval w row) (test i)) z (says 0 (omega arith))

      chosen_is : (b : Bool) → test k ≡ b → eval_branches (branch w t bs) row is_true_test els ≡ cond b (eval t row) (eval_branches bs row is_true_test els)
      chosen_is b p =
          ap (λ (o : Outcome). chosen is_true_test o (eval t row) (eval_branches bs row is_true_test els)) here.is
          ∙ ap (λ (x : Bool). cond x (eval t row) (eval_branches bs row is_true_test els)) (here.truth ∙ p)

      go : FirstTrue test row els bs (suc k) otherwise → (b : Bool) → test k ≡ b → FirstTrue test row els (branch w t bs) k otherwise
      go later true p = record {
        first = 0;
        index_is = ap (λ (x : Bool). cond x (k + 1) (found test (λ i. i + 1) (suc k) (branch_count bs) otherwise)) p ∙ (let z : k + 1 ≡ suc (k + 0) = omega arith in z);
        result_is = chosen_is true p;
      }
      go later false p = record {
        first = suc later.first;
        index_is =
            ap (λ (x : Bool). cond x (k + 1) (found test (λ i. i + 1) (suc k) (branch_count bs) otherwise)) p
            ∙ later.index_is ∙ (let z : suc (suc k + later.first) ≡ suc (k + suc later.first) = omega arith in z);
        result_is = chosen_is false p ∙ later.result_is;
      }

-- null is compared to null
null_not : (e : Entry) → (is_true_entry (less_entry null e) ≡ false) × (is_true_entry (less_entry e null) ≡ false) × (is_true_entry (equal_entry null e) ≡ false)
unfolding pair_of
null_not null = (refl, refl, refl)
null_not (boolean x) = (refl, refl, refl)
null_not (int32 x) = (refl, refl, refl)
null_not (int64 x) = (refl, refl, refl)
null_not (float64 x) = (refl, refl, refl)
null_not (utf8 x) = (refl, refl, refl)

module _ {tag column kind key : ℕ} {w : Expr} (s : StepWhen tag column kind key w) (row : Row) where
  says_null : row column ≡ entry null → Says (eval w row) false
  says_null e = record {
    value = step_entry tag null s.value;
    is = s.is row ∙ ap (λ (o : Outcome). on_entries (step_entry tag) o (entry s.value)) e;
    truth = by (eqb tag 24) (eqb tag 26);
  }
    where
      by : (b d : Bool) → is_true_entry (cond b (less_entry null s.value) (cond d (less_entry s.value null) (equal_entry null s.value))) ≡ false
      by true d = (null_not s.value).0
      by false true = (null_not s.value).1
      by false false = (null_not s.value).2

  says_number : {x : ℕ} (e : Entry) → row column ≡ entry e → Numbered kind x e → Says (eval w row) (step_passes tag key x)
  says_number {x} e p n = record {
    value = boolean (step_passes tag key x);
    is = s.is row ∙ ap (λ (o : Outcome). on_entries (step_entry tag) o (entry s.value)) p ∙ by (eqb tag 24) (eqb tag 26);
    truth = refl;
  }
    where
      by : (b d : Bool) → entry (cond b (less_entry e s.value) (cond d (less_entry s.value e) (equal_entry e s.value))) ≡ entry (boolean (cond b (ltb x key) (cond d (ltb key x) (eqb x key))))
      by true d = numbers_less e s.value n s.numbered
      by false true = numbers_less s.value e s.numbered n
      by false false = numbers_equal e s.value n s.numbered

-- the branches of a CASE whose WHENs are steps
module _ {rule : List ℕ} {at count column kind : ℕ} {tags keys : List ℕ} (steps : StepsAt rule at count column kind tags keys) where
  module _ (bs : Branches) (rest : List Expr) (end depth : ℕ) (row : Row) (els : Outcome) (trees : TreesAt rule at end (branch_trees bs ++ rest) depth) (counted : branch_count bs ≡ count) where
    -- by a test of the WHENs
    tested : (test : ℕ → Bool) → ((j : ℕ) → j < count → Says (eval (when_at bs j) row) (test j))
        → eval_branches bs row is_true_test els ≡ indexed bs row els (found test (λ i. i + 1) 0 count (count + 1))
    tested test says =
        let f = first_true test row els (count + 1) bs 0 (omega arith) (λ j h. let z : j ≡ 0 + j = omega arith in subst (λ (i : ℕ). Says (eval (when_at bs j) row) (test i)) z (says j (omega arith))) in
        let z : suc (0 + f.first) ≡ suc f.first = omega arith in
        let is : found test (λ i. i + 1) 0 count (count + 1) ≡ suc f.first = ap (λ (n : ℕ). found test (λ i. i + 1) 0 n (count + 1)) (sym counted) ∙ f.index_is ∙ z in
        f.result_is ∙ sym (ap (indexed bs row els) is)

    branch_found : (e : Entry) (c : ℕ) → row column ≡ entry e → EntryIndex tags keys count kind e c → eval_branches bs row is_true_test els ≡ indexed bs row els c
    branch_found e c p (inl (null_is, c-is)) =
        tested (λ i. false) (λ j h. says_null (steps.each bs rest end depth trees counted j h) row (p ∙ ap entry null_is))
        ∙ ap (indexed bs row els) (found_none (λ i. false) (λ i. i + 1) (count + 1) count 0 (λ i. refl) ∙ sym c-is)
    branch_found e c p (inr (x, n, c-is)) =
        tested (λ k. step_passes (get_or tags k 0) (get_or keys k 0) x) (λ j h. says_number (steps.each bs rest end depth trees counted j h) row e p n)
        ∙ ap (indexed bs row els) (sym c-is)

  index_few : (e : Entry) (c : ℕ) → EntryIndex tags keys count kind e c → c ≤ count + 1
  index_few e c (inl (null_is, c-is)) = omega arith
  index_few e c (inr (x, n, c-is)) = omega (arith, index_small tags keys count x)

  index_one : (e : Entry) (c : ℕ) → EntryIndex tags keys count kind e c → 0 < c
  index_one e c (inl (null_is, c-is)) = omega arith
  index_one e c (inr (x, n, c-is)) = omega (arith, index_some tags keys count x)

-- ---- a column

module _ {rule : List ℕ} {at : ℕ} {table : List ℕ} {column : ℕ} {place : ColumnPlace} {count : ℕ} {w : List ℕ} {n : ℕ} where
  pub column_refused : {values : List ℕ} → ColumnGives rule at table column place count w n false values
  column_refused = record { each = λ h. absurd (false≢true h) }

  pub column_gives : {code : ℕ} {tags keys indices : List ℕ} → code ≡ type_number place.data_type → code ≤ 4
      → StepsAt rule at count column code tags keys
      → RowsIndexed (RowIndex place.data_type (column_in table place).values (column_in table place).validity tags keys count) w 0 n indices → ColumnGives rule at table column place count w n true indices
  unfolding entry_at
  column_gives {code} {tags} {keys} {indices} code_is small steps rows = record {
    each = λ h q l.
        let right = rows.each q l in
        let index : EntryIndex tags keys count (type_number place.data_type) (entry_at (column_in table place) q) (get_or indices q 0) =
        right.is (omega arith) (column_in table place).offsets in
        let read-steps = subst (λ (y : ℕ). StepsAt rule at count column y tags keys) code_is steps in
        record {
          some = index_one read-steps (entry_at (column_in table place) q) (get_or indices q 0) index;
          few = index_few read-steps (entry_at (column_in table place) q) (get_or indices q 0) index;
          is = λ bs rest end depth row els trees counted p. branch_found read-steps bs rest end depth row els trees counted (entry_at (column_in table place) q) (get_or indices q 0) p index;
        };
  }

-- ---- in a table

module _ {rule : List ℕ} {at : ℕ} {table : List ℕ} {t : Table} {count : ℕ} {w : List ℕ} {n : ℕ} where
  pub table_refused_lem : {values : List ℕ} → StepsGive rule at table t count w n false values
  table_refused_lem = record { each = λ h. absurd (false≢true h) }

  pub table_gives : {c : ℕ} {p : ColumnPlace} {served : Bool} {values : List ℕ} → Some p ≡ column_of t c
      → ColumnGives rule at table c p count w n served values → StepsGive rule at table t count w n served values
  table_gives {c} there g = record {
    each = λ h q l.
        let x = g.each h q l in
        record { some = x.some; few = x.few; is = λ bs rest end depth els trees counted. x.is bs rest end depth (row_in table t q) els trees counted (cell_found table t c there q) };
  }

-- ---- one WHEN

-- the index by one step, at a row that has the entry in the step's column
one_step : {tag column kind key : ℕ} {e : Expr} (tags keys : List ℕ) → StepWhen tag column kind key e → get_or tags 0 0 ≡ tag → get_or keys 0 0 ≡ key → (row : Row) (x : Entry) (c : ℕ) → row column ≡ entry x
    → EntryIndex tags keys 1 kind x c → WhenIndex e row c
unfolding found
one_step tags keys s tag_is key_is row x c p (inl (null_is, c-is)) =
    let y = says_null s row (p ∙ ap entry null_is) in
    record { value = y.value; is = y.is; index = c-is ∙ sym (ap (λ (b : Bool). cond b 1 2) y.truth) }
one_step tags keys s tag_is key_is row x c p (inr (n, numbered, c-is)) =
    let y = says_number s row x p numbered in
    record { value = y.value; is = y.is; index = c-is ∙ ap₂ (λ (a b : ℕ). cond (step_passes a b n) 1 2) tag_is key_is ∙ sym (ap (λ (b : Bool). cond b 1 2) y.truth) }

-- a type that isn't text has a number of at most 4
pub number_low : (t : DataType) {n : ℕ} → n ≡ type_number t → (t ≡ types.Utf8 → ⊥) → n ≤ 4
number_low types.Boolean e other = omega arith
number_low types.Int32 e other = omega arith
number_low types.Int64 e other = omega arith
number_low types.Float64 e other = omega arith
number_low types.Utf8 e other = absurd (other refl)

module _ {s : Step} {table : List ℕ} {place : ColumnPlace} {w : List ℕ} {at n : ℕ} where
  pub step_refused : {values : List ℕ} → StepRows s table place w at n false values
  step_refused = record { each = λ h. absurd (false≢true h) }

  pub step_gives : {code : ℕ} {tags keys indices : List ℕ} → code ≡ type_number place.data_type → code ≤ 4 → s.kind ≡ code → get_or tags 0 0 ≡ comparison_tag s.comparison → get_or keys 0 0 ≡ s.key
      → RowsIndexed (RowIndex place.data_type (column_in table place).values (column_in table place).validity tags keys 1) w at n indices → StepRows s table place w at n true indices
  unfolding entry_at
  step_gives {code} {tags} {keys} {indices} code_is small kind_is tag_is key_is rows = record {
    each = λ h q l.
        let right = rows.each q l in
        let index : EntryIndex tags keys 1 s.kind (entry_at (column_in table place) q) (get_or indices q 0) =
        subst (λ (y : ℕ). EntryIndex tags keys 1 y (entry_at (column_in table place) q) (get_or indices q 0)) (sym (kind_is ∙ code_is)) (right.is (omega arith) (column_in table place).offsets) in
        record { is = λ e row step p. one_step tags keys step tag_is key_is row (entry_at (column_in table place) q) (get_or indices q 0) p index };
  }

module _ {rule : List ℕ} {start end : ℕ} {table : List ℕ} {t : Table} {w : List ℕ} {at n : ℕ} where
  pub when_refused : {asked : Bool} {values : List ℕ} → WhenGives asked rule start end table t w at n false values
  when_refused = record { wanted = λ h. absurd (false≢true h); each = λ h. absurd (false≢true h) }

  pub when_gives : {asked : Bool} {s : Step} {p : ColumnPlace} {served : Bool} {values : List ℕ} → asked ≡ true → StepGives rule start end s
      → Some p ≡ column_of t s.column → StepRows s table p w at n served values → WhenGives asked rule start end table t w at n served values
  when_gives {s = s} yes-asked step there g = record {
    wanted = λ h. yes-asked;
    each = λ h q l e depth node. (g.each h q l).is e (row_in table t q) (step.is e depth node) (cell_found table t s.column there q);
  }
