-- What a CASE is, worked out without reading a column: its base, its branches in turn, its ELSE. Assumes nothing.
use mathlib.Core.Path.{◌≡◌, refl, ap, ap₂, sym, subst, ◌∙◌}
use mathlib.Core.Bool.{Bool, true, false, cond, false≢true}
use mathlib.Core.List.{List, [], ◌∷◌, ◌++◌}
use Prim.Native.Nat.{ℕ, suc, ◌+◌, ◌-◌, ◌*◌, ◌%◌, ◌<◌, ◌≤◌}
use native.Mathlib.Omega.{arith}
use lib.Dec.{eqb}
use lib.ListN.{length}
use borrow.Author.Tests.{eq-eqb, ne_eqb}
use types.Run.{OneOf, miss}
use denote.Enum.Declared.{tag_of}
use Rattle.scalar.specs.contracts.value.Value.{the_type}
use Rattle.scalar.proofs.OperationLaws.{NotFailed, not_failed as held}
use Rattle.layout.specs.Bytes.{byte}
use Rattle.scalar.specs.declared.types.DataType.{DataType}
use Rattle.scalar.specs.declared.value.Value.{Value}
use Rattle.scalar.specs.declared.value.Value.TheVariants.{Null, Boolean, Int32, Int64, Float64, Nan, RuleText, TableText, Failed}
use Rattle.scalar.specs.Entry.{Entry, null, boolean, int32, int64, float64, is_null, Outcome, entry, unfit, on_entry, on_entries}
use Rattle.scalar.specs.Compare.{equal_entry}
use Rattle.scalar.specs.Cast.{is_unfit}
use Rattle.scalar.specs.TryCast.{try_cast_entry}
use Rattle.scalar.specs.Value.{meaning, kind_of, Gives, GivesBoth}
use Rattle.rule.specs.Tree.{Expr, case_when, Branches, no_more, branch, Optional, absent, present, branch_count}
use Rattle.rule.specs.Row.{equals_test, chosen, with_base, eval}
use Rattle.rule.specs.Constant.{unread}
use Rattle.rule.specs.Nullable.{replaced, replaced_optional, may_pass}
use Rattle.rule.specs.Node.{NodeAt}
use Rattle.rule.specs.Walks.{branch_trees, optional_trees, TreesAt, EndGives, ChildrenGives, BehindGives, TypeGives}
use Rattle.rule.specs.ConstantWalks.{Means, PassGives, ConstantGives, CaseGives, base_outcome, BaseGives, else_outcome, ElseGives, branches_outcome, BranchesGives, WithBaseGives}
use Rattle.rule.proofs.NodeLaws.{node_byte, trees_one, trees_none, trees_some, trees_deeper, trees_before}
use Rattle.rule.proofs.WalkLaws.{nothing_behind, first_two, base_flag, branches_length}
use Rattle.rule.proofs.ConstantLaws.{case_outcome}

-- an outcome by the kind of its value
pub data Kinded : ℕ → Outcome → Type 0 where
  a_null : Kinded 0 (entry null)
  a_failure : Kinded 7 unfit
  a_value : (k : ℕ) (v : Entry) → is_null v ≡ false → (k ≡ 0 → ⊥) → (k ≡ 7 → ⊥) → Kinded k (entry v)

kinded : (v : Value) (rule table : List ℕ) → Kinded (kind_of v) (meaning rule table v)
kinded Null rule table = a_null
kinded (Boolean b) rule table = a_value 1 (boolean b) refl (λ p. omega arith) (λ p. omega arith)
kinded (Int32 n) rule table = a_value 2 (int32 n) refl (λ p. omega arith) (λ p. omega arith)
kinded (Int64 n) rule table = a_value 3 (int64 n) refl (λ p. omega arith) (λ p. omega arith)
kinded (Float64 f) rule table = a_value 4 _ refl (λ p. omega arith) (λ p. omega arith)
kinded (Nan n) rule table = a_value 4 (float64 n) refl (λ p. omega arith) (λ p. omega arith)
kinded (RuleText start size) rule table = a_value 5 _ refl (λ p. omega arith) (λ p. omega arith)
kinded (TableText start size) rule table = a_value 6 _ refl (λ p. omega arith) (λ p. omega arith)
kinded Failed rule table = a_failure

-- the outcome that a value means, by the kind that was told
pub kind_means : (v : Value) {k : ℕ} (rule table : List ℕ) {o : Outcome} → k ≡ kind_of v → meaning rule table v ≡ o → Kinded k o
kind_means v {k} rule table {o} is means =
    subst (λ (x : Outcome). Kinded k x) means (subst (λ (n : ℕ). Kinded n (meaning rule table v)) (sym is) (kinded v rule table))

-- a base: true where no tree stands, else the tree's
pub base_none : {rule target : List ℕ} {at end depth : ℕ} → at ≡ end → BaseGives rule at end target depth (Boolean true)
unfolding replaced
base_none {rule} {target} {at} {end} {depth} same = record { means = go }
  where
    go : (b : Optional) → TreesAt rule at end (optional_trees b) depth → Means rule (Boolean true) (base_outcome (replaced_optional b target))
    go absent t = λ table. refl
    go (present b) t = absurd (let k = trees_some t in omega arith)

pub base_some : {rule target : List ℕ} {at end depth : ℕ} {r : Value} → (at ≡ end → ⊥) → ConstantGives rule at end target depth r → BaseGives rule at end target depth r
unfolding replaced
base_some {rule} {target} {at} {end} {depth} {r} differ gives = record { means = go }
  where
    go : (b : Optional) → TreesAt rule at end (optional_trees b) depth → Means rule r (base_outcome (replaced_optional b target))
    go absent t = absurd (differ (trees_none t))
    go (present b) t = gives.means b (trees_one t)

-- ELSE: null where no tree stands, else the tree's, try-cast
pub else_none : {rule target : List ℕ} {at end depth : ℕ} {to : DataType} → at ≡ end → ElseGives rule at end to target depth Null
unfolding replaced eval
else_none {rule} {target} {at} {end} {depth} {to} same = record { means = go }
  where
    go : (els : Optional) → TreesAt rule at end (optional_trees els) depth → Means rule Null (else_outcome els to target)
    go absent t = λ table. refl
    go (present e) t = absurd (let k = trees_some t in omega arith)

pub else_some : {rule target : List ℕ} {at end depth : ℕ} {to : DataType} {v r : Value} → (at ≡ end → ⊥) → ConstantGives rule at end target depth v
    → Gives (λ e. entry (try_cast_entry to e)) v r → ElseGives rule at end to target depth r
unfolding replaced eval
else_some {rule} {target} {at} {end} {depth} {to} {v} {r} differ gives cast = record { means = go }
  where
    go : (els : Optional) → TreesAt rule at end (optional_trees els) depth → Means rule r (else_outcome els to target)
    go absent t = absurd (differ (trees_none t))
    go (present e) t = λ table. cast.means rule table ∙ ap (on_entry (λ e. entry (try_cast_entry to e))) (gives.means e (trees_one t) table)

-- by a base that failed, that is null, or that is a value
module _ {rule target : List ℕ} {at end count depth : ℕ} {base : Value} {to : DataType} where
  pub with_failed : kind_of base ≡ 7 → WithBaseGives rule at end count base to target depth Failed
  with_failed is = record { means = λ bs els o t n m table. go bs els (kind_means base rule table (sym is) (m table)) }
    where
      go : (bs : Branches) (els : Optional) {o : Outcome} → Kinded 7 o
          → unfit ≡ with_base o (λ test. branches_outcome bs test els to target) (else_outcome els to target)
      go bs els a_failure = refl
      go bs els (a_value k v p a b) = absurd (b refl)

  pub with_null : {place : ℕ} {r : Value} → kind_of base ≡ 0 → BehindGives rule at (2 * count) place → ElseGives rule place end to target depth r
      → WithBaseGives rule at end count base to target depth r
  with_null {place} {r} is behind gives =
      record { means = λ bs els o t n m table. gives.means els (behind.stand end (branch_trees bs) (optional_trees els) depth (branches_length bs ∙ ap (λ (k : ℕ). 2 * k) n) t) table ∙ go bs els (kind_means base rule table (sym is) (m table)) }
    where
      go : (bs : Branches) (els : Optional) {o : Outcome} → Kinded 0 o
          → else_outcome els to target ≡ with_base o (λ test. branches_outcome bs test els to target) (else_outcome els to target)
      go bs els a_null = refl
      go bs els (a_value k v p a b) = absurd (a refl)

  pub with_value : {r : Value} → (kind_of base ≡ 0 → ⊥) → (kind_of base ≡ 7 → ⊥) → BranchesGives rule at end count base to target depth r
      → WithBaseGives rule at end count base to target depth r
  with_value {r} no_null_lem no-failure gives =
      record { means = λ bs els o t n m table. go bs els t n m table (kind_means base rule table refl (m table)) no_null_lem no-failure }
    where
      go : (bs : Branches) (els : Optional) {o : Outcome} → TreesAt rule at end (branch_trees bs ++ optional_trees els) depth → branch_count bs ≡ count → Means rule base o → (table : List ℕ)
          → {k : ℕ} → Kinded k o → (k ≡ 0 → ⊥) → (k ≡ 7 → ⊥)
          → meaning rule table r ≡ with_base o (λ test. branches_outcome bs test els to target) (else_outcome els to target)
      go bs els t n m table a_null a b = absurd (a refl)
      go bs els t n m table a_failure a b = absurd (b refl)
      go bs els t n m table (a_value k v p c d) a b =
          gives.means bs els v t n m table
          ∙ ap (λ (x : Bool). cond x (else_outcome els to target) (branches_outcome bs (equals_test v) els to target)) (sym p)

-- a WHEN that was compared with the base: it doesn't pass, it failed, or it passes
pass_none : (b : Entry) (o then later : Outcome) → may_pass (on_entries equal_entry (entry b) o) ≡ false → chosen (equals_test b) o then later ≡ later
pass_none b (entry v) then later p = rw p
pass_none b unfit then later p = let z : ◌≡◌ {A = ℕ} 0 1 = cc in absurd (omega arith)

pass_failed : (b : Entry) (o then later : Outcome) → on_entries equal_entry (entry b) o ≡ unfit → unfit ≡ chosen (equals_test b) o then later
pass_failed b (entry v) then later p = let z : ◌≡◌ {A = ℕ} 0 1 = cc in absurd (omega arith)
pass_failed b unfit then later p = refl

pass_some : (b : Entry) (o then later : Outcome) → may_pass (on_entries equal_entry (entry b) o) ≡ true → (on_entries equal_entry (entry b) o ≡ unfit → ⊥) → then ≡ chosen (equals_test b) o then later
pass_some b (entry v) then later p q = rw p
pass_some b unfit then later p q = absurd (q refl)

-- a kind that is not 7 is no failure
not_failed : {k : ℕ} {o : Outcome} → Kinded k o → (k ≡ 7 → ⊥) → o ≡ unfit → ⊥
not_failed a_null p q = let z : ◌≡◌ {A = ℕ} 0 1 = cc in omega arith
not_failed a_failure p q = p refl
not_failed (a_value k v a b c) p q = let z : ◌≡◌ {A = ℕ} 0 1 = cc in omega arith

-- it is told by the kind
pub kind_unfit : {k : ℕ} {o : Outcome} → Kinded k o → eqb k 7 ≡ is_unfit o
kind_unfit a_null = refl
kind_unfit a_failure = refl
kind_unfit (a_value k v a b c) = ne_eqb k 7 c

is_failed : {o : Outcome} → Kinded 7 o → o ≡ unfit
is_failed a_failure = refl
is_failed (a_value k v a b c) = absurd (c refl)

-- the branches from the place on give what all do, and there are as many as are left
pub record BranchesLeft (rule : List ℕ) (at end count : ℕ) (base : Value) (to : DataType) (target : List ℕ) (depth place left : ℕ) : Type 0 where
  pub stand : (bs : Branches) (els : Optional) (b : Entry) → TreesAt rule at end (branch_trees bs ++ optional_trees els) depth → branch_count bs ≡ count → Means rule base (entry b)
      → (cs : Branches) × TreesAt rule place end (branch_trees cs ++ optional_trees els) depth × (branch_count cs ≡ left)
      × (branches_outcome cs (equals_test b) els to target ≡ branches_outcome bs (equals_test b) els to target)

pub branches_start : {rule target : List ℕ} {at end count depth : ℕ} {base : Value} {to : DataType} → BranchesLeft rule at end count base to target depth at count
branches_start = record { stand = λ bs els b t n m. (bs, t, n, refl) }

-- a turn: the first of the branches that are left, and the later ones
record Turn (rule : List ℕ) (end : ℕ) (to : DataType) (target : List ℕ) (depth left then next : ℕ) (place : ℕ) (els : Optional) (b : Entry) (o : Outcome) : Type 0 where
  when_tree : Expr
  then_tree : Expr
  more : Branches
  when_at_lem : NodeAt rule place then when_tree depth
  then_at : NodeAt rule then next then_tree depth
  more_at : TreesAt rule next end (branch_trees more ++ optional_trees els) depth
  one_less : branch_count more ≡ left - 1
  gives : chosen (equals_test b) (eval (replaced when_tree target) unread) (eval (replaced then_tree target) unread) (branches_outcome more (equals_test b) els to target) ≡ o

turn : {rule target : List ℕ} {end depth left then next place : ℕ} {to : DataType} (cs : Branches) (els : Optional) (b : Entry)
    → TreesAt rule place end (branch_trees cs ++ optional_trees els) depth → branch_count cs ≡ left → 0 < left → EndGives rule place then → EndGives rule then next
    → Turn rule end to target depth left then next place els b (branches_outcome cs (equals_test b) els to target)
unfolding branch_count replaced eval
turn no_more els b t n some e f = absurd (omega arith)
turn (branch w u cs) els b t n some e f =
    let (first, second, later) = first_two e f t in
    record { when_tree = w; then_tree = u; more = cs; when_at_lem = first; then_at = second; more_at = later; one_less = omega arith; gives = refl }

-- one turn of the loop over the branches: `test` is the base beside the WHEN
module _ {rule target : List ℕ} {at end count depth : ℕ} {base : Value} {to : DataType} {place left then next : ℕ} {when test : Value}
    (inv : BranchesLeft rule at end count base to target depth place left) (some : 0 < left) (e : EndGives rule place then) (f : EndGives rule then next)
    (when_gives : ConstantGives rule place then target depth when) (test-gives : GivesBoth equal_entry rule rule base when test) where
  -- the WHEN's outcome, beside the base's
  tested : {els : Optional} {b : Entry} {o : Outcome} (t : Turn rule end to target depth left then next place els b o) → Means rule base (entry b)
      → meaning rule rule test ≡ on_entries equal_entry (entry b) (eval (replaced t.when_tree target) unread)
  tested t m = test-gives.means ∙ ap₂ (on_entries equal_entry) (m rule) (when_gives.means t.when_tree t.when_at_lem rule)

  -- it doesn't pass: the later branches
  pub branches_next : {less : ℕ} {passed : Bool} → suc less ≡ left → PassGives test passed → passed ≡ false → BranchesLeft rule at end count base to target depth next less
  branches_next {less} fewer pass is = record {
    stand = λ bs els b t n m.
        let (cs, u, k, same) = inv.stand bs els b t n m in
        let v = turn cs els b u k some e f in
        let k : branch_count v.more ≡ less = omega (arith, v.one_less) in
        (v.more, v.more_at, k, sym (pass_none b (eval (replaced v.when_tree target) unread) (eval (replaced v.then_tree target) unread) (branches_outcome v.more (equals_test b) els to target) (ap may_pass (sym (tested v m)) ∙ sym (pass rule rule) ∙ is)) ∙ v.gives ∙ same);
  }

  -- it failed
  pub branches_failed : kind_of test ≡ 7 → BranchesGives rule at end count base to target depth Failed
  branches_failed is = record {
    means = λ bs els b t n m table.
        let (cs, u, k, same) = inv.stand bs els b t n m in
        let v = turn cs els b u k some e f in
        pass_failed b (eval (replaced v.when_tree target) unread) (eval (replaced v.then_tree target) unread) (branches_outcome v.more (equals_test b) els to target) (is_failed (kind_means test rule rule (sym is) (tested v m))) ∙ v.gives ∙ same;
  }

  -- it passes: its THEN
  pub branches_then : {passed : Bool} {r : Value} → PassGives test passed → passed ≡ true → (kind_of test ≡ 7 → ⊥) → ConstantGives rule then next target depth r
      → BranchesGives rule at end count base to target depth r
  branches_then pass is fits gives = record {
    means = λ bs els b t n m table.
        let (cs, u, k, same) = inv.stand bs els b t n m in
        let v = turn cs els b u k some e f in
        gives.means v.then_tree v.then_at table
        ∙ pass_some b (eval (replaced v.when_tree target) unread) (eval (replaced v.then_tree target) unread) (branches_outcome v.more (equals_test b) els to target) (ap may_pass (sym (tested v m)) ∙ sym (pass rule rule) ∙ is) (not_failed (kind_means test rule rule refl (tested v m)) fits)
        ∙ v.gives ∙ same;
  }

-- none is left: ELSE
pub branches_end : {rule target : List ℕ} {at end count depth : ℕ} {base r : Value} {to : DataType} {place left : ℕ} → BranchesLeft rule at end count base to target depth place left
    → left ≤ 0 → ElseGives rule place end to target depth r → BranchesGives rule at end count base to target depth r
unfolding branch_count replaced eval
branches_end {rule} {target} {at} {end} {count} {depth} {base} {r} {to} {place} {left} inv none gives = record {
  means = λ bs els b t n m table. let (cs, u, k, same) = inv.stand bs els b t n m in go cs els b u k table ∙ same;
}
  where
    go : (cs : Branches) (els : Optional) (b : Entry) → TreesAt rule place end (branch_trees cs ++ optional_trees els) depth → branch_count cs ≡ left → (table : List ℕ)
        → meaning rule table r ≡ branches_outcome cs (equals_test b) els to target
    go no_more els b t n table = gives.means els t table
    go (branch w u cs) els b t n table = absurd (omega arith)

-- a CASE: base, branches and ELSE one behind the other
pub case_gives : {rule target : List ℕ} {start end at first flags count depth : ℕ} {base r : Value} {to : DataType} → flags ≡ byte rule (start + 3) → count ≡ byte rule (start + 4)
    → ChildrenGives rule start at → BehindGives rule at (flags % 2) first → BaseGives rule at first target depth base → TypeGives rule start to
    → WithBaseGives rule first end count base to target depth r → CaseGives rule start end target depth r
case_gives {rule} {target} {start} {end} {at} {first} {flags} {count} {depth} {base} {r} {to} flags-is count_is children behind bases types gives = record {
  means = λ b bs els n table.
      let flag = node_byte 0 (start + 3) n (omega arith) (omega arith) in
      let counted = node_byte 1 (start + 4) n (omega arith) (omega arith) in
      let trees = trees_deeper depth (omega arith) (children.stand end (case_when b bs els) (depth + 1) n) in
      let later = behind.stand end (optional_trees b) (branch_trees bs ++ optional_trees els) depth (omega (arith, base_flag b els)) trees in
      let before = trees_before (optional_trees b) (branch_trees bs ++ optional_trees els) trees later in
      gives.means bs els (base_outcome (replaced_optional b target)) later (omega arith) (bases.means b before) table
      ∙ case_outcome b bs els target to (types end (case_when b bs els) (depth + 1) n);
}

pub case_behind : {rule target : List ℕ} {start end depth : ℕ} {r : Value} → length rule ≤ start → CaseGives rule start end target depth r
case_behind none = record { means = λ b bs els n. absurd (let k = nothing_behind n in omega arith) }

-- a value that is neither null nor failed
pub some_value : (v : Value) → OneOf (1 ∷ 2 ∷ 3 ∷ 4 ∷ 5 ∷ 6 ∷ 7 ∷ []) (tag_of the_type v) → (kind_of v ≡ 0 → ⊥) × (kind_of v ≡ 7 → ⊥)
some_value Null h = absurd (miss (1 ∷ 2 ∷ 3 ∷ 4 ∷ 5 ∷ 6 ∷ 7 ∷ []) 0 tt h)
some_value (Boolean b) h = (λ p. omega arith, λ p. omega arith)
some_value (Int32 n) h = (λ p. omega arith, λ p. omega arith)
some_value (Int64 n) h = (λ p. omega arith, λ p. omega arith)
some_value (Float64 f) h = (λ p. omega arith, λ p. omega arith)
some_value (Nan n) h = (λ p. omega arith, λ p. omega arith)
some_value (RuleText start size) h = (λ p. omega arith, λ p. omega arith)
some_value (TableText start size) h = (λ p. omega arith, λ p. omega arith)
some_value Failed h = absurd (miss (1 ∷ 2 ∷ 3 ∷ 4 ∷ 5 ∷ 6 ∷ 7 ∷ []) 8 tt h)

-- one that has not failed
pub fit_value : (v : Value) → NotFailed v → kind_of v ≡ 7 → ⊥
fit_value v h p = false≢true (sym (held v h) ∙ eq-eqb (kind_of v) 7 p)
