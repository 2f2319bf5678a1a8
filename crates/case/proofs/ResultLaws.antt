-- The literals among a CASE's THENs and its ELSE: how they are read, and that a row's literal is what its index stands for. Assumes nothing.
use Rattle.std.proofs.Common.{◌≡◌, ℕ, zero, suc, ◌+◌, ◌-◌, ◌*◌, ◌<◌, ◌≤◌, Bool, true, List, ◌++◌, length, get_or, set, sym, refl, ap, ◌∙◌, subst, ap₂, subst₂, inl, inr, ⊎_elim, arith, length-set, get_or-set_other, get_or-set_same}
use native.Mathlib.Decide.{ℕ_discrete, dec_lt}
use lib.ListN.{get_or-eq_default}
use Rattle.layout.specs.Bytes.{byte}
use Rattle.scalar.specs.declared.types.DataType.{DataType}
use Rattle.scalar.specs.declared.value.Value.{Value}
use Rattle.scalar.specs.Entry.{Outcome, entry, on_entry}
use Rattle.scalar.specs.TryCast.{try_cast_entry}
use Rattle.scalar.specs.Value.{meaning, value_of, kind_of, payload_of, Storable, Gives}
use Rattle.scalar.proofs.ValueLaws.{payload_back}
use Rattle.rule.specs.Tree.{Expr, Branches, Optional, absent, present, branch_count}
use Rattle.rule.specs.Row.{Row, eval, eval_else}
use Rattle.rule.specs.Strategy.{is_literal}
use Rattle.rule.specs.Node.{NodeAt}
use Rattle.rule.specs.Walks.{node_tag, branch_trees, optional_trees, TreesAt, EndGives, LiteralGives}
use Rattle.rule.proofs.NodeLaws.{Tagged, of_literal, node_tag_lem, trees_one, trees_none, trees_some}
use Rattle.rule.proofs.WalkLaws.{node_of_tag, first_two, branches_length}
use Rattle.case.specs.Frame.{row_at, Filled, Fillable, SlotPut}
use Rattle.case.specs.LookUpTables.{value_at}
use Rattle.case.specs.Evaluation.{result_at, indexed}
use Rattle.case.specs.Results.{else_known, result_known, index_known, StartRight, Held, ThensRead, ResultsRead, PutBy}
use Rattle.case.proofs.CaseLaws.{is_literal_lem, result_else, result_failed}
use Rattle.case.proofs.RowsLaws.{filled_as}
use Rattle.case.proofs.RowsLaws.{FilledSoFar, next}
use Rattle.case.proofs.BranchLaws.{BranchAt, branch_at, branch_stands, behind_none, behind_two, known_then, known_else}

-- ---- what is known without the row

-- a literal by its tag
module _ {rule : List ℕ} {start end : ℕ} where
  -- a node with that tag is a literal
  pub literal_node : byte rule start ≡ 17 → (e : Expr) {depth : ℕ} → NodeAt rule start end e depth → is_literal e ≡ true
  literal_node tag e node = go e (node_of_tag node tag)
    where
      go : (e : Expr) → Tagged 17 e → is_literal e ≡ true
      go e (of_literal t x) = refl

  -- no literal has another tag
  no_literal : (byte rule start ≡ 17 → ⊥) → (e : Expr) {depth : ℕ} → NodeAt rule start end e depth → is_literal e ≡ true → ⊥
  no_literal other e node p = let (d, x, is) = is_literal_lem e p in other (node_tag_lem node ∙ ap node_tag is)

  -- the value that was read is the literal's, whatever the row
  read_literal_lem : (v : Value) → byte rule start ≡ 17 → LiteralGives rule start end v → (e : Expr) (depth : ℕ) → NodeAt rule start end e depth
      → ((row : Row) (table : List ℕ) → meaning rule table v ≡ eval e row) × Storable v
  unfolding eval
  read_literal_lem v tag gives e depth node =
      let (d, x, is) = is_literal_lem e (literal_node tag e node) in
      let (means, stores) = gives d x depth (subst (λ (y : Expr). NodeAt rule start end y depth) is node) in
      (λ row table. means table ∙ sym (ap (λ (y : Expr). eval y row) is), stores)

-- a value in the arrays
stored_at : (kinds payloads : List ℕ) (k : ℕ) {kind payload : ℕ} (v : Value) → length kinds ≡ 258 → length payloads ≡ 258 → k < 258 → kind ≡ kind_of v → payload ≡ payload_of v → Storable v
    → value_at (set kinds k kind) (set payloads k payload) k ≡ v
stored_at kinds payloads k {kind} {payload} v a b small p q stores =
    ap₂ value_of (get_or-set_same kinds k kind 0 (omega arith) ∙ p) (get_or-set_same payloads k payload 0 (omega arith) ∙ q) ∙ payload_back v stores

-- whether a result is there, said of the same in other words
held_as : {a b : Bool} {x y : ℕ} → b ≡ a → x ≡ y → Held a x → Held b y
held_as p q = ⊎_elim (λ k. inl (p ∙ k)) (λ d. inr (λ z. d (q ∙ z)))

-- ---- the THENs

-- where the loop stands: the THENs of the indices below k are read
pub record ThensSoFar (rule : List ℕ) (at count : ℕ) (kinds payloads : List ℕ) (place k : ℕ) : Type 0 where
  pub first : 1 ≤ k
  pub few : k ≤ count + 1
  pub small : count ≤ 255
  pub read : ThensRead rule at count (k - 1) kinds payloads place

-- nothing is read yet
pub thens_none : {rule : List ℕ} {at count : ℕ} {kinds payloads : List ℕ} → count ≤ 255 → length kinds ≡ 258 → length payloads ≡ 258 → ((i : ℕ) → get_or kinds i 0 ≡ 0) → ThensSoFar rule at count kinds payloads at 1
thens_none small a b zeros = record {
  first = omega arith;
  few = omega arith;
  small = small;
  read = record {
    kinds_long = a;
    payloads_long = b;
    null_first = zeros 0;
    unread = λ j h. zeros j;
    behind = behind_none (2 * (1 - 1)) refl;
    held = λ bs els rest end depth row o table trees n j h. absurd (omega arith);
  };
}

module _ {rule : List ℕ} {at count : ℕ} {kinds payloads : List ℕ} {place k : ℕ} (s : ThensSoFar rule at count kinds payloads place k) where
  module _ (more : k ≤ count) where
    -- the index lies in the arrays
    pub then_in : k < 258
    then_in = let h = s.small in omega arith

    module _ {then next : ℕ} (to-then : EndGives rule place then) (to-next : EndGives rule then next) where
      -- the THEN of the index
      then_here : (bs : Branches) (rest : List Expr) (end depth : ℕ) (x : BranchAt (k - 1) bs) → TreesAt rule at end (branch_trees bs ++ rest) depth → NodeAt rule then next x.then_is depth
      then_here bs rest end depth x trees = (first_two to-then to-next (branch_stands rest s.read.behind x trees)).1

      -- one more, where what the arrays have at its index is right
      then_by : {kinds' payloads' : List ℕ} → length kinds' ≡ 258 → length payloads' ≡ 258 → ((j : ℕ) → (j ≡ k → ⊥) → get_or kinds' j 0 ≡ get_or kinds j 0)
          → ((j : ℕ) → (j ≡ k → ⊥) → get_or payloads' j 0 ≡ get_or payloads j 0)
          → ((e : Expr) (depth : ℕ) (row : Row) (table : List ℕ) → NodeAt rule then next e depth → Held (is_literal e) (get_or kinds' k 0) → meaning rule table (value_at kinds' payloads' k) ≡ eval e row)
          → ThensSoFar rule at count kinds' payloads' next (k + 1)
      then_by {kinds'} {payloads'} a b same same' right = record {
        first = omega arith;
        few = omega arith;
        small = s.small;
        read = record {
          kinds_long = a;
          payloads_long = b;
          null_first = same 0 (λ e. omega (arith, s.first)) ∙ s.read.null_first;
          unread = λ j h. same j (λ e. omega (arith, s.first)) ∙ s.read.unread j (omega (arith, s.first));
          behind = behind_two (2 * (k - 1)) (2 * (k + 1 - 1)) (omega (arith, s.first)) s.read.behind to-then to-next;
          held = λ bs els rest end depth row o table trees n j h known. held_at bs els rest end depth row o table trees n j h known (ℕ_discrete j (k - 1));
        };
      }
        where
          held_at : (bs : Branches) (els : Optional) (rest : List Expr) (end depth : ℕ) (row : Row) (o : Outcome) (table : List ℕ) → TreesAt rule at end (branch_trees bs ++ rest) depth
              → branch_count bs ≡ count → (j : ℕ) → j < k + 1 - 1 → Held (result_known bs els j) (get_or kinds' (suc j) 0) → Dec (j ≡ k - 1)
              → meaning rule table (value_at kinds' payloads' (suc j)) ≡ result_at bs row o j
          held_at bs els rest end depth row o table trees n j h known (yes e) =
              let q = s.first in
              let index_is : suc j ≡ k = omega arith in
              let x = branch_at (k - 1) bs (omega arith) in
              let literal-is = held_as (sym (known_then (k - 1) bs els x.here) ∙ ap (result_known bs els) (sym e)) (ap (λ (i : ℕ). get_or kinds' i 0) index_is) known in
              ap (λ (i : ℕ). meaning rule table (value_at kinds' payloads' i)) index_is
              ∙ right x.then_is depth row table (then_here bs rest end depth x trees) literal-is
              ∙ sym (x.result row o) ∙ ap (result_at bs row o) (sym e)
          held_at bs els rest end depth row o table trees n j h known (no e) =
              let q = s.first in
              let other : suc j ≡ k → ⊥ = λ d. e (omega arith) in
              ap₂ (λ (x y : ℕ). meaning rule table (value_of x y)) (same (suc j) other) (same' (suc j) other)
              ∙ s.read.held bs els rest end depth row o table trees n j (omega arith) (held_as refl (same (suc j) other) known)

      -- a literal
      pub then_literal : {kind payload : ℕ} (v : Value) {ks ps : List ℕ} → byte rule then ≡ 17 → LiteralGives rule then next v → kind ≡ kind_of v → payload ≡ payload_of v
          → ks ≡ set kinds k kind → ps ≡ set payloads k payload → ThensSoFar rule at count ks ps next (k + 1)
      then_literal {kind} {payload} v tag gives a b c d =
          subst₂ (λ (x y : List ℕ). ThensSoFar rule at count x y next (k + 1)) (sym c) (sym d)
          (then_by (length-set kinds k kind ∙ s.read.kinds_long) (length-set payloads k payload ∙ s.read.payloads_long) (λ j n. get_or-set_other kinds k j kind 0 n)
          (λ j n. get_or-set_other payloads k j payload 0 n)
          (λ e depth row table node is.
          let (means, stores) = read_literal_lem v tag gives e depth node in
          ap (meaning rule table) (stored_at kinds payloads k v s.read.kinds_long s.read.payloads_long then_in a b stores) ∙ means row table))

      -- anything else
      pub then_other : {ks ps : List ℕ} → (byte rule then ≡ 17 → ⊥) → ks ≡ kinds → ps ≡ payloads → ThensSoFar rule at count ks ps next (k + 1)
      then_other other c d =
          subst₂ (λ (x y : List ℕ). ThensSoFar rule at count x y next (k + 1)) (sym c) (sym d)
          (then_by s.read.kinds_long s.read.payloads_long (λ j n. refl) (λ j n. refl) (λ e depth row table node is. absurd (⊎_elim (no_literal other e node) (λ d. d (s.read.unread k (omega (arith, s.first)))) is)))

-- ---- ELSE

-- the failure behind ELSE
module _ {rule : List ℕ} {at count : ℕ} {kinds payloads : List ℕ} {place : ℕ} (small : count ≤ 255) (s : ThensRead rule at count count kinds payloads place) where
  pub failed_in : count + 2 < length kinds
  failed_in = let l = s.kinds_long in omega arith

  failed_other : (j : ℕ) → j ≤ count + 1 → get_or (set kinds (count + 2) 7) j 0 ≡ get_or kinds j 0
  failed_other j h = get_or-set_other kinds (count + 2) j 7 0 (λ e. omega arith)

  failed_at : get_or (set kinds (count + 2) 7) (count + 2) 0 ≡ 7
  failed_at = get_or-set_same kinds (count + 2) 7 0 failed_in

  pub failed_long : length (set kinds (count + 2) 7) ≡ 258
  failed_long = length-set kinds (count + 2) 7 ∙ s.kinds_long

module _ {rule : List ℕ} {at end count : ℕ} (to : DataType) {kinds payloads : List ℕ} {place : ℕ} (small : count ≤ 255) (s : ThensRead rule at count count kinds payloads place) where
  -- the THENs, where what the arrays have behind them is right
  else_by : {kinds' payloads' : List ℕ} → length kinds' ≡ 258 → length payloads' ≡ 258 → ((j : ℕ) → j ≤ count → get_or kinds' j 0 ≡ get_or kinds j 0)
      → ((j : ℕ) → j ≤ count → get_or payloads' j 0 ≡ get_or payloads j 0) → get_or kinds' (count + 2) 0 ≡ 7
      → ((els : Optional) (depth : ℕ) (row : Row) (table : List ℕ) → TreesAt rule place end (optional_trees els) depth → Held (else_known els) (get_or kinds' (count + 1) 0)
      → meaning rule table (value_at kinds' payloads' (count + 1)) ≡ eval_else els row to)
      → ResultsRead rule at end count to kinds' payloads'
  else_by {kinds'} {payloads'} a b same same' last right = record {
    kinds_long = a;
    payloads_long = b;
    null_first = same 0 (omega arith) ∙ s.null_first;
    failed = last;
    held = λ bs els depth row table trees n j h known. held_at bs els depth row table trees n j h known (dec_lt j count);
  }
    where
      held_at : (bs : Branches) (els : Optional) (depth : ℕ) (row : Row) (table : List ℕ) → TreesAt rule at end (branch_trees bs ++ optional_trees els) depth → branch_count bs ≡ count
          → (j : ℕ) → j ≤ count → Held (result_known bs els j) (get_or kinds' (suc j) 0) → Dec (j < count) → meaning rule table (value_at kinds' payloads' (suc j)) ≡ result_at bs row (eval_else els row to) j
      held_at bs els depth row table trees n j h known (yes l) =
          ap₂ (λ (x y : ℕ). meaning rule table (value_of x y)) (same (suc j) (omega arith)) (same' (suc j) (omega arith))
          ∙ s.held bs els (optional_trees els) end depth row (eval_else els row to) table trees n j l (held_as refl (same (suc j) (omega arith)) known)
      held_at bs els depth row table trees n j h known (no l) =
          let is : j ≡ branch_count bs = omega arith in
          let index_is : suc j ≡ count + 1 = omega arith in
          let else-trees = s.behind.stand end (branch_trees bs) (optional_trees els) depth (let q = branches_length bs in omega arith) trees in
          ap (λ (i : ℕ). meaning rule table (value_at kinds' payloads' i)) index_is
          ∙ right els depth row table else-trees (held_as (sym (known_else bs els) ∙ ap (result_known bs els) (sym is)) (ap (λ (i : ℕ). get_or kinds' i 0) index_is) known)
          ∙ sym (result_else bs row (eval_else els row to)) ∙ ap (result_at bs row (eval_else els row to)) (sym is)

  -- no ELSE
  pub else_absent : place ≡ end → ResultsRead rule at end count to (set kinds (count + 2) 7) payloads
  unfolding eval_else value_of
  else_absent over = else_by (failed_long small s) s.payloads_long (λ j h. failed_other small s j (omega arith)) (λ j h. refl) (failed_at small s) (λ els depth row table trees known. go els row table trees)
    where
      go : (els : Optional) {depth : ℕ} (row : Row) (table : List ℕ) → TreesAt rule place end (optional_trees els) depth
          → meaning rule table (value_at (set kinds (count + 2) 7) payloads (count + 1)) ≡ eval_else els row to
      go absent row table trees =
          ap (λ (x : ℕ). meaning rule table (value_of x (get_or payloads (count + 1) 0))) (failed_other small s (count + 1) (omega arith) ∙ s.unread (count + 1) (omega arith))
      go (present e) row table trees = absurd (let q = trees_some trees in omega arith)

  module _ (there : place ≡ end → ⊥) where
    -- a literal, cast
    pub else_literal : {kind payload : ℕ} {u : Value} (v : Value) → byte rule place ≡ 17 → LiteralGives rule place end u → Gives (λ e. entry (try_cast_entry to e)) u v → kind ≡ kind_of v
        → payload ≡ payload_of v → ResultsRead rule at end count to (set (set kinds (count + 2) 7) (count + 1) kind) (set payloads (count + 1) payload)
    unfolding eval_else
    else_literal {kind} {payload} {u} v tag gives cast a b =
        else_by (length-set (set kinds (count + 2) 7) (count + 1) kind ∙ failed_long small s) (length-set payloads (count + 1) payload ∙ s.payloads_long)
        (λ j h. get_or-set_other (set kinds (count + 2) 7) (count + 1) j kind 0 (λ e. omega arith) ∙ failed_other small s j (omega arith))
        (λ j h. get_or-set_other payloads (count + 1) j payload 0 (λ e. omega arith))
        (get_or-set_other (set kinds (count + 2) 7) (count + 1) (count + 2) kind 0 (λ e. omega arith) ∙ failed_at small s) (λ els depth row table trees known. go els depth row table trees)
      where
        go : (els : Optional) (depth : ℕ) (row : Row) (table : List ℕ) → TreesAt rule place end (optional_trees els) depth
            → meaning rule table (value_at (set (set kinds (count + 2) 7) (count + 1) kind) (set payloads (count + 1) payload) (count + 1)) ≡ eval_else els row to
        go absent depth row table trees = absurd (there (trees_none trees))
        go (present e) depth row table trees =
            let (means, stores) = read_literal_lem u tag gives e depth (trees_one trees) in
            ap (meaning rule table) (stored_at (set kinds (count + 2) 7) payloads (count + 1) v (failed_long small s) s.payloads_long (omega arith) a b (cast.stores stores))
            ∙ cast.means rule table ∙ ap (on_entry (λ x. entry (try_cast_entry to x))) (means row table)

    -- anything else
    pub else_other : (byte rule place ≡ 17 → ⊥) → ResultsRead rule at end count to (set kinds (count + 2) 7) payloads
    else_other other = else_by (failed_long small s) s.payloads_long (λ j h. failed_other small s j (omega arith)) (λ j h. refl) (failed_at small s) (λ els depth row table trees known. go els row table trees known)
      where
        unread : get_or (set kinds (count + 2) 7) (count + 1) 0 ≡ 0
        unread = failed_other small s (count + 1) (omega arith) ∙ s.unread (count + 1) (omega arith)

        go : (els : Optional) {depth : ℕ} (row : Row) (table : List ℕ) → TreesAt rule place end (optional_trees els) depth → Held (else_known els) (get_or (set kinds (count + 2) 7) (count + 1) 0)
            → meaning rule table (value_at (set kinds (count + 2) 7) payloads (count + 1)) ≡ eval_else els row to
        go absent row table trees known = absurd (there (trees_none trees))
        go (present e) row table trees known = absurd (⊎_elim (no_literal other e (trees_one trees)) (λ d. d unread) known)

-- ---- rows

-- an index behind the arrays has null
put_null : (kinds payloads : List ℕ) {j : ℕ} → length kinds ≡ 258 → length payloads ≡ 258 → 258 ≤ j → value_of 0 0 ≡ value_at kinds payloads j
put_null kinds payloads {j} a b h = ap₂ value_of (sym (get_or-eq_default kinds 0 (omega arith))) (sym (get_or-eq_default payloads 0 (omega arith)))

-- one turn, at the row that is read
module _ (kinds payloads values : List ℕ) {w : List ℕ} {n i : ℕ} {m : List ℕ} (s : FilledSoFar (PutBy kinds payloads values) w n i m) (ok : Fillable w n) (more : i < n) {r : ℕ} (e : r ≡ row_at m 0 i)
    {m' x : List ℕ} where
  pub put_known : SlotPut m r (value_at kinds payloads (get_or values r 0)) m' → x ≡ m' → FilledSoFar (PutBy kinds payloads values) w n (i + 1) x
  put_known put same = subst (FilledSoFar (PutBy kinds payloads values) w n (i + 1)) (sym same) (next s ok more e put refl)

  pub put_behind : length kinds ≡ 258 → length payloads ≡ 258 → 258 ≤ get_or values r 0 → SlotPut m r (value_of 0 0) m' → x ≡ m' → FilledSoFar (PutBy kinds payloads values) w n (i + 1) x
  put_behind a b h put same = subst (FilledSoFar (PutBy kinds payloads values) w n (i + 1)) (sym same) (next s ok more e put (put_null kinds payloads a b h))

-- a row's literal is what its index stands for
pub start_right : {rule : List ℕ} {at end count : ℕ} {to : DataType} {kinds payloads values w w' : List ℕ} {n : ℕ} → ResultsRead rule at end count to kinds payloads
    → Filled (PutBy kinds payloads values) w n w' → Filled (StartRight rule at end count to values) w n w'
unfolding value_of
start_right {rule} {at} {end} {count} {to} {kinds} {payloads} {values} s d = filled_as d (λ r v e. record {
  is = λ bs els depth row table trees n small known. ap (meaning rule table) e ∙ go bs els depth row table trees n (get_or values r 0) small known;
})
  where
    go : (bs : Branches) (els : Optional) (depth : ℕ) (row : Row) (table : List ℕ) → TreesAt rule at end (branch_trees bs ++ optional_trees els) depth → branch_count bs ≡ count
        → (i : ℕ) → i ≤ count + 2 → index_known bs els i ≡ true → meaning rule table (value_at kinds payloads i) ≡ indexed bs row (eval_else els row to) i
    go bs els depth row table trees n zero small known = ap (λ (x : ℕ). meaning rule table (value_of x (get_or payloads 0 0))) s.null_first
    go bs els depth row table trees n (suc j) small known = by (dec_lt count j)
      where
        by : Dec (count < j) → meaning rule table (value_at kinds payloads (suc j)) ≡ result_at bs row (eval_else els row to) j
        by (yes l) =
            let index_is : suc j ≡ count + 2 = omega arith in
            let is : j ≡ suc (branch_count bs) = omega arith in
            ap (λ (i : ℕ). meaning rule table (value_of (get_or kinds i 0) (get_or payloads (suc j) 0))) index_is
            ∙ ap (λ (x : ℕ). meaning rule table (value_of x (get_or payloads (suc j) 0))) s.failed
            ∙ sym (result_failed bs row (eval_else els row to)) ∙ ap (result_at bs row (eval_else els row to)) (sym is)
        by (no l) = s.held bs els depth row table trees n j (omega arith) (inl known)
