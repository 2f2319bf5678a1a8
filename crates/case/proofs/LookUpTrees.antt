-- The literals of a CASE that a lookup table serves: how they are read, and that a row's literal is its one-row outcome. Assumes nothing.
use Rattle.std.proofs.Common.{◌≡◌, ℕ, zero, suc, ◌+◌, ◌-◌, ◌*◌, ◌/◌, ◌<◌, ◌≤◌, Bool, true, false, cond, ◌&&◌, ltb, List, [], ◌∷◌, ◌++◌, length, get_or, set, replicate, sym, refl, ap, ◌∙◌, subst, ap₂, add-zero, arith, length-set, get_or-set_other, get_or-set_same}
use native.Mathlib.Decide.{ℕ_discrete, dec_lt}
use Rattle.layout.proofs.TestLaws.{both_hold}
use Rattle.scalar.specs.declared.types.DataType.{DataType}
use Rattle.scalar.specs.declared.types.DataType.TheVariants as Of
use Rattle.scalar.specs.declared.value.Value.{Value}
use Rattle.scalar.specs.Entry.{Entry, null, boolean, int32, int64, float64, utf8, Outcome, entry, unfit, is_true_entry, of_type}
use Rattle.scalar.specs.Cast.{cast_entry}
use Rattle.scalar.specs.TryCast.{try_cast_entry}
use Rattle.scalar.specs.Compare.{equal_entry}
use Rattle.scalar.specs.Value.{meaning, value_of, kind_of, payload_of, Storable}
use Rattle.scalar.proofs.TypeLaws.{same_type_eq}
use Rattle.scalar.proofs.ValueLaws.{payload_back}
use Rattle.rule.specs.Tree.{Expr, column, literal, negation, negative, is_not_null, cast, try_cast, equal, less, case_when, Branches, no_more, branch, Optional, absent, present, branch_count}
use Rattle.rule.specs.Typing.{type_of, result_type}
use Rattle.rule.specs.WellFormed.{well_formed}
use Rattle.rule.specs.Strategy.{is_literal, drop_null, all_literals, some_when_value, else_serves, table_serves}
use Rattle.rule.specs.Row.{Row, equals_test, with_base, eval, eval_branches, eval_else}
use Rattle.rule.specs.Node.{NodeAt}
use Rattle.rule.specs.Walks.{branch_trees, optional_trees, trees_formed, TreesAt, EndGives, LiteralGives}
use Rattle.rule.specs.AnswerWalks.{trees_literal}
use Rattle.rule.proofs.NodeLaws.{trees_none, trees_some}
use Rattle.rule.proofs.WalkLaws.{first_tree, branches_length}
use Rattle.case.specs.Frame.{slot_at, Filled}
use Rattle.table.specs.declared.places.ColumnPlace.{ColumnPlace}
use Rattle.table.specs.Column as columns
use Rattle.table.specs.Places.{column_in}
use Rattle.case.specs.Evaluation.{result_at, indexed}
use Rattle.case.specs.Results.{else_known, result_known, index_known}
use Rattle.case.specs.LookUp.{LookedUp}
use Rattle.case.specs.LookUpColumns.{KeyedRow, ColumnKeyed, BaseIndex, BaseGives}
use Rattle.case.specs.LookUpTables.{same_key, found, value_at, key_index, when_index, base_index, TableOf, literal_entry, entry_at, LiteralsRead, MappedBy}
use Rattle.case.proofs.CaseLaws.{is_literal_lem, result_else}
use Rattle.case.proofs.LookUpLaws.{never, found_same, found_none, found_below, null_first}

-- ---- literals

-- a tree that is a literal
data Literal : Expr → Type 0 where
  a_literal : (t : DataType) (v : Entry) → Literal (literal t v)

literal_told : (e : Expr) → is_literal e ≡ true → Literal e
literal_told e p = let (d, x, is) = is_literal_lem e p in subst Literal (sym is) (a_literal d x)

-- the entries of literals, one by one
entry_none : (j : ℕ) → entry_at [] j ≡ null
unfolding entry_at
entry_none j = refl

entry_first : (e : Expr) (es : List Expr) → entry_at (e ∷ es) 0 ≡ literal_entry e
unfolding entry_at
entry_first e es = refl

entry_later : (e : Expr) (es : List Expr) (j : ℕ) → entry_at (e ∷ es) (suc j) ≡ entry_at es j
unfolding entry_at
entry_later e es j = refl

-- of those behind others the first
entry_behind : (es fs : List Expr) → entry_at (es ++ fs) (length es) ≡ entry_at fs 0
unfolding entry_at
entry_behind [] fs = refl
entry_behind (e ∷ es) fs = entry_behind es fs

-- a well-formed literal is of its type
formed_literal : (t : DataType) (v : Entry) → well_formed (literal t v) ≡ true → of_type t v ≡ true
unfolding well_formed
formed_literal t v p = p

-- ---- reading

-- what is left of literals from a place on, and what the arrays hold of those before it
pub record Left (rule : List ℕ) (end place i depth : ℕ) (es : List Expr) (kinds payloads : List ℕ) : Type 0 where
  pub rest : List Expr
  pub stand : TreesAt rule place end rest depth
  pub literals : trees_literal rest ≡ true
  pub later : (j : ℕ) → entry_at es (i + j) ≡ entry_at rest j
  pub earlier : (table : List ℕ) (j : ℕ) → j < i → meaning rule table (value_at kinds payloads j) ≡ entry (entry_at es j)

-- where the loop stands: i literals are read
pub record LiteralsSoFar (rule : List ℕ) (at end most place i : ℕ) (kinds payloads : List ℕ) : Type 0 where
  pub few : i ≤ most
  pub small : most < 66
  pub kinds_long : length kinds ≡ 66
  pub payloads_long : length payloads ≡ 66
  pub failed : get_or kinds most 0 ≡ 7
  pub unread : (j : ℕ) → i ≤ j → j < most → get_or kinds j 0 ≡ 0
  pub held : (es : List Expr) (depth : ℕ) → TreesAt rule at end es depth → trees_literal es ≡ true → Left rule end place i depth es kinds payloads

pub literals_none : {rule : List ℕ} {at end most : ℕ} (kinds : List ℕ) {payloads : List ℕ} → length kinds ≡ 66 → length payloads ≡ 66 → most < 66 → ((i : ℕ) → get_or kinds i 0 ≡ 0)
    → LiteralsSoFar rule at end most at 0 (set kinds most 7) payloads
literals_none {most = most} kinds {payloads} a b small zeros = record {
  few = omega arith;
  small = small;
  kinds_long = length-set kinds most 7 ∙ a;
  payloads_long = b;
  failed = get_or-set_same kinds most 7 0 (omega arith);
  unread = λ j h l. get_or-set_other kinds most j 7 0 (λ e. omega arith) ∙ zeros j;
  held = λ es depth t l. record {
    rest = es;
    stand = t;
    literals = l;
    later = λ j. let z : 0 + j ≡ j = omega arith in ap (entry_at es) z;
    earlier = λ table j h. absurd (omega arith);
  };
}

module _ {rule : List ℕ} {at end most place i : ℕ} {kinds payloads : List ℕ} (s : LiteralsSoFar rule at end most place i kinds payloads) where
  -- one more
  pub literals_more : {next kind payload : ℕ} (v : Value) → i < most → place < end → EndGives rule place next → LiteralGives rule place next v → kind ≡ kind_of v → payload ≡ payload_of v
      → LiteralsSoFar rule at end most next (i + 1) (set kinds i kind) (set payloads i payload)
  literals_more {next} {kind} {payload} v more inside ends gives a b = record {
    few = omega arith;
    small = s.small;
    kinds_long = length-set kinds i kind ∙ s.kinds_long;
    payloads_long = length-set payloads i payload ∙ s.payloads_long;
    failed = get_or-set_other kinds i most kind 0 (λ e. omega arith) ∙ s.failed;
    unread = λ j h l. get_or-set_other kinds i j kind 0 (λ e. omega arith) ∙ s.unread j (omega arith) l;
    held = λ es depth t l. let f = s.held es depth t l in go es depth f.rest f.stand f.literals f.later f.earlier;
  }
    where
      kinds' : List ℕ
      kinds' = set kinds i kind

      payloads' : List ℕ
      payloads' = set payloads i payload

      new : Storable v → value_at kinds' payloads' i ≡ v
      new stores =
          ap₂ value_of (get_or-set_same kinds i kind 0 (omega (arith, s.kinds_long, s.small)) ∙ a) (get_or-set_same payloads i payload 0 (omega (arith, s.payloads_long, s.small)) ∙ b)
          ∙ payload_back v stores

      old : (j : ℕ) → (j ≡ i → ⊥) → value_at kinds' payloads' j ≡ value_at kinds payloads j
      old j n = ap₂ value_of (get_or-set_other kinds i j kind 0 n) (get_or-set_other payloads i j payload 0 n)

      held_at : (es : List Expr) (table : List ℕ) (x : Entry) → meaning rule table v ≡ entry x → Storable v → entry_at es i ≡ x
          → ((j : ℕ) → j < i → meaning rule table (value_at kinds payloads j) ≡ entry (entry_at es j)) → (j : ℕ) → j < i + 1 → Dec (j ≡ i)
          → meaning rule table (value_at kinds' payloads' j) ≡ entry (entry_at es j)
      held_at es table x means stores is earlier j h (yes e) =
          subst (λ (k : ℕ). meaning rule table (value_at kinds' payloads' k) ≡ entry (entry_at es k)) (sym e) (ap (meaning rule table) (new stores) ∙ means ∙ ap entry (sym is))
      held_at es table x means stores is earlier j h (no e) = ap (meaning rule table) (old j e) ∙ earlier j (omega arith)

      -- the literal that was read
      told : (es : List Expr) (e : Expr) {depth : ℕ} → Literal e → NodeAt rule place next e depth → entry_at es i ≡ literal_entry e
          → ((table : List ℕ) (j : ℕ) → j < i → meaning rule table (value_at kinds payloads j) ≡ entry (entry_at es j))
          → (table : List ℕ) (j : ℕ) → j < i + 1 → meaning rule table (value_at kinds' payloads' j) ≡ entry (entry_at es j)
      told es e {depth} (a_literal t x) first is earlier table j h =
          held_at es table x ((gives t x depth first).0 table) (gives t x depth first).1 is (earlier table) j h (ℕ_discrete j i)

      go : (es : List Expr) (depth : ℕ) (rest : List Expr) → TreesAt rule place end rest depth → trees_literal rest ≡ true → ((j : ℕ) → entry_at es (i + j) ≡ entry_at rest j)
          → ((table : List ℕ) (j : ℕ) → j < i → meaning rule table (value_at kinds payloads j) ≡ entry (entry_at es j)) → Left rule end next (i + 1) depth es kinds' payloads'
      go es depth [] t l later earlier = absurd (let k = trees_none t in omega arith)
      go es depth (e ∷ rest) t l later earlier =
          let (first, others) = first_tree ends t in
          let (is, all) = both_hold (is_literal e) (trees_literal rest) l in
          record {
            rest = rest;
            stand = others;
            literals = all;
            later = λ j. let k : i + 1 + j ≡ i + suc j = omega arith in ap (entry_at es) k ∙ later (suc j) ∙ entry_later e rest j;
            earlier = told es e (literal_told e is) first (ap (entry_at es) (sym (add-zero i)) ∙ later 0 ∙ entry_first e rest) earlier;
          }

  -- none is left where the place is the end
  pub literals_ended : i < most → end ≤ place → LiteralsRead rule at end most kinds payloads
  unfolding value_of
  literals_ended more over = record {
    kinds_long = s.kinds_long;
    payloads_long = s.payloads_long;
    failed = s.failed;
    held = λ es depth t l table j h. let f = s.held es depth t l in go es depth f.rest f.stand f.later f.earlier table j h (dec_lt j i);
  }
    where
      go : (es : List Expr) (depth : ℕ) (rest : List Expr) → TreesAt rule place end rest depth → ((j : ℕ) → entry_at es (i + j) ≡ entry_at rest j)
          → ((table : List ℕ) (j : ℕ) → j < i → meaning rule table (value_at kinds payloads j) ≡ entry (entry_at es j))
          → (table : List ℕ) (j : ℕ) → j < most → Dec (j < i) → meaning rule table (value_at kinds payloads j) ≡ entry (entry_at es j)
      go es depth (e ∷ rest) t later earlier table j h d = absurd (let k = trees_some t in omega arith)
      go es depth [] t later earlier table j h (yes l) = earlier table j l
      go es depth [] t later earlier table j h (no l) =
          let k : j ≡ i + (j - i) = omega arith in
          ap (λ (x : ℕ). meaning rule table (value_of x (get_or payloads j 0))) (s.unread j (omega arith) h) ∙ ap entry (sym (ap (entry_at es) k ∙ later (j - i) ∙ entry_none (j - i)))

  -- nor where as many are read as may be
  pub literals_all : most ≤ i → LiteralsRead rule at end most kinds payloads
  literals_all over = record {
    kinds_long = s.kinds_long;
    payloads_long = s.payloads_long;
    failed = s.failed;
    held = λ es depth t l table j h. (s.held es depth t l).earlier table j (omega arith);
  }

-- ---- one row

-- a try-cast to an entry's own type keeps it
try_cast_null : (to : DataType) → try_cast_entry to null ≡ null
unfolding cast_entry
try_cast_null Of.Boolean = refl
try_cast_null Of.Int32 = refl
try_cast_null Of.Int64 = refl
try_cast_null Of.Float64 = refl
try_cast_null Of.Utf8 = refl

try_cast_same : (to : DataType) (v : Entry) → of_type to v ≡ true → try_cast_entry to v ≡ v
unfolding cast_entry of_type
try_cast_same to null = λ p. try_cast_null to
try_cast_same to (boolean b) = elim to as (λ (k : DataType). of_type k (boolean b) ≡ true → try_cast_entry k (boolean b) ≡ boolean b) [ Of.Boolean ↦ λ p. refl | Of.Int32 ↦ never | Of.Int64 ↦ never | Of.Float64 ↦ never | Of.Utf8 ↦ never ]
try_cast_same to (int32 n) = elim to as (λ (k : DataType). of_type k (int32 n) ≡ true → try_cast_entry k (int32 n) ≡ int32 n) [ Of.Boolean ↦ never | Of.Int32 ↦ λ p. refl | Of.Int64 ↦ never | Of.Float64 ↦ never | Of.Utf8 ↦ never ]
try_cast_same to (int64 n) = elim to as (λ (k : DataType). of_type k (int64 n) ≡ true → try_cast_entry k (int64 n) ≡ int64 n) [ Of.Boolean ↦ never | Of.Int32 ↦ never | Of.Int64 ↦ λ p. refl | Of.Float64 ↦ never | Of.Utf8 ↦ never ]
try_cast_same to (float64 n) = elim to as (λ (k : DataType). of_type k (float64 n) ≡ true → try_cast_entry k (float64 n) ≡ float64 n) [ Of.Boolean ↦ never | Of.Int32 ↦ never | Of.Int64 ↦ never | Of.Float64 ↦ λ p. refl | Of.Utf8 ↦ never ]
try_cast_same to (utf8 t) = elim to as (λ (k : DataType). of_type k (utf8 t) ≡ true → try_cast_entry k (utf8 t) ≡ utf8 t) [ Of.Boolean ↦ never | Of.Int32 ↦ never | Of.Int64 ↦ never | Of.Float64 ↦ never | Of.Utf8 ↦ λ p. refl ]

-- ELSE is a literal where a table serves
else_literal : (to : DataType) (e : Expr) → else_serves to (drop_null (present e)) ≡ true → is_literal e ≡ true
else_literal to (column c) p = p
else_literal to (literal t v) p = refl
else_literal to (negation e) p = p
else_literal to (negative e) p = p
else_literal to (is_not_null e) p = p
else_literal to (cast t e) p = p
else_literal to (try_cast t e) p = p
else_literal to (equal a b) p = p
else_literal to (less a b) p = p
else_literal to (case_when b bs e) p = p

-- its try-cast to the result's type keeps it
else_kept : (to t : DataType) (v : Entry) → else_serves to (drop_null (present (literal t v))) ≡ true → of_type t v ≡ true → try_cast_entry to v ≡ v
unfolding type_of
else_kept to t null p q = try_cast_null to
else_kept to t (boolean b) p q = try_cast_same to (boolean b) (subst (λ (x : DataType). of_type x (boolean b) ≡ true) (same_type_eq t to p) q)
else_kept to t (int32 n) p q = try_cast_same to (int32 n) (subst (λ (x : DataType). of_type x (int32 n) ≡ true) (same_type_eq t to p) q)
else_kept to t (int64 n) p q = try_cast_same to (int64 n) (subst (λ (x : DataType). of_type x (int64 n) ≡ true) (same_type_eq t to p) q)
else_kept to t (float64 n) p q = try_cast_same to (float64 n) (subst (λ (x : DataType). of_type x (float64 n) ≡ true) (same_type_eq t to p) q)
else_kept to t (utf8 s) p q = try_cast_same to (utf8 s) (subst (λ (x : DataType). of_type x (utf8 s) ≡ true) (same_type_eq t to p) q)

-- the last of well-formed trees is well-formed
last_formed : (es : List Expr) (e : Expr) → trees_formed (es ++ (e ∷ [])) ≡ true → well_formed e ≡ true
unfolding trees_formed
last_formed [] e p = (both_hold (well_formed e) true p).0
last_formed (f ∷ es) e p = last_formed es e (both_hold (well_formed f) (trees_formed (es ++ (e ∷ []))) p).1

-- ELSE's entry
else_is : (es : List Expr) (els : Optional) (row : Row) (to : DataType) → else_serves to (drop_null els) ≡ true → trees_formed (es ++ optional_trees els) ≡ true
    → eval_else els row to ≡ entry (entry_at (es ++ optional_trees els) (length es))
unfolding eval
else_is es absent row to serves formed = sym (ap entry (entry_behind es [] ∙ entry_none 0))
else_is es (present e) row to serves formed = go e (literal_told e (else_literal to e serves)) serves (last_formed es e formed)
  where
    go : (f : Expr) → Literal f → else_serves to (drop_null (present f)) ≡ true → well_formed f ≡ true → eval_else (present f) row to ≡ entry (entry_at (es ++ (f ∷ [])) (length es))
    go f (a_literal t v) p q = ap entry (else_kept to t v p (formed_literal t v q) ∙ sym (entry_behind es (literal t v ∷ []) ∙ entry_first (literal t v) []))

-- branches are tried in order until a WHEN equals the base
branches_found : (bs : Branches) (rest : List Expr) (row : Row) (b : Entry) (els : Outcome) (f : ℕ → Entry) (otherwise k : ℕ) → all_literals bs ≡ true → els ≡ entry (f otherwise)
    → ((j : ℕ) → f (2 * k + j) ≡ entry_at (branch_trees bs ++ rest) j)
    → eval_branches bs row (equals_test b) els ≡ entry (f (found (λ i. is_true_entry (equal_entry b (f (2 * i)))) (λ i. 2 * i + 1) k (branch_count bs) otherwise))
unfolding eval found branch_count all_literals
branches_found no_more rest row b els f otherwise k l e h = e
branches_found (branch w t bs) rest row b els f otherwise k l e h =
    let (both, others) = both_hold (is_literal w && is_literal t) (all_literals bs) l in
    let (first, second) = both_hold (is_literal w) (is_literal t) both in
    go w t (literal_told w first) (literal_told t second)
    (let z : 2 * k ≡ 2 * k + 0 = omega arith in ap f z ∙ h 0 ∙ entry_first w (t ∷ (branch_trees bs ++ rest)))
    (h 1 ∙ entry_later w (t ∷ (branch_trees bs ++ rest)) 0 ∙ entry_first t (branch_trees bs ++ rest))
    (branches_found bs rest row b els f otherwise (suc k) others e
    (λ j. let z : 2 * suc k + j ≡ 2 * k + suc (suc j) = omega arith in ap f z ∙ h (suc (suc j)) ∙ entry_later w (t ∷ (branch_trees bs ++ rest)) (suc j) ∙ entry_later t (branch_trees bs ++ rest) j))
  where
    go : (u s : Expr) → Literal u → Literal s → f (2 * k) ≡ literal_entry u → f (2 * k + 1) ≡ literal_entry s
        → eval_branches bs row (equals_test b) els ≡ entry (f (found (λ i. is_true_entry (equal_entry b (f (2 * i)))) (λ i. 2 * i + 1) (suc k) (branch_count bs) otherwise))
        → eval_branches (branch u s bs) row (equals_test b) els ≡ entry (f (found (λ i. is_true_entry (equal_entry b (f (2 * i)))) (λ i. 2 * i + 1) k (suc (branch_count bs)) otherwise))
    go u s (a_literal tu vu) (a_literal ts vs) p q later = rw p (pick (is_true_entry (equal_entry b vu)))
      where
        pick : (x : Bool) → cond x (entry vs) (eval_branches bs row (equals_test b) els)
            ≡ entry (f (cond x (2 * k + 1) (found (λ i. is_true_entry (equal_entry b (f (2 * i)))) (λ i. 2 * i + 1) (suc k) (branch_count bs) otherwise)))
        pick true = ap entry (sym q)
        pick false = later

-- the branch whose WHEN equals a base: which it is, from k on, and what it gives
record BranchAt (bs : Branches) (row : Row) (b : Entry) (other : Outcome) (f : ℕ → Entry) (otherwise k : ℕ) : Type 0 where
  first : ℕ
  index_is : found (λ i. is_true_entry (equal_entry b (f (2 * i)))) (λ i. 2 * i + 1) k (branch_count bs) otherwise / 2 ≡ k + first
  result_is : eval_branches bs row (equals_test b) other ≡ result_at bs row other first

branch_at : (bs : Branches) (rest : List Expr) (row : Row) (b : Entry) (other : Outcome) (f : ℕ → Entry) (otherwise k : ℕ) → all_literals bs ≡ true → otherwise ≡ 2 * (k + branch_count bs)
    → ((j : ℕ) → f (2 * k + j) ≡ entry_at (branch_trees bs ++ rest) j) → BranchAt bs row b other f otherwise k
unfolding eval found branch_count all_literals result_at
branch_at no_more rest row b other f otherwise k l e h = record { first = 0; index_is = (let z : otherwise / 2 ≡ k + 0 = omega arith in z); result_is = refl }
branch_at (branch w t bs) rest row b other f otherwise k l e h =
    let (both, others) = both_hold (is_literal w && is_literal t) (all_literals bs) l in
    let (first, second) = both_hold (is_literal w) (is_literal t) both in
    go w (literal_told w first)
    (let z : 2 * k ≡ 2 * k + 0 = omega arith in ap f z ∙ h 0 ∙ entry_first w (t ∷ (branch_trees bs ++ rest)))
    (branch_at bs rest row b other f otherwise (suc k) others (omega arith)
    (λ j. let z : 2 * suc k + j ≡ 2 * k + suc (suc j) = omega arith in ap f z ∙ h (suc (suc j)) ∙ entry_later w (t ∷ (branch_trees bs ++ rest)) (suc j) ∙ entry_later t (branch_trees bs ++ rest) j))
  where
    go : (u : Expr) → Literal u → f (2 * k) ≡ literal_entry u → BranchAt bs row b other f otherwise (suc k) → BranchAt (branch u t bs) row b other f otherwise k
    go u (a_literal tu vu) p later = pick (is_true_entry (equal_entry b vu)) refl
      where
        test_is : is_true_entry (equal_entry b (f (2 * k))) ≡ is_true_entry (equal_entry b vu)
        test_is = ap (λ (v : Entry). is_true_entry (equal_entry b v)) p

        pick : (x : Bool) → is_true_entry (equal_entry b vu) ≡ x → BranchAt (branch (literal tu vu) t bs) row b other f otherwise k
        pick true q = record {
          first = 0;
          index_is =
              ap (λ (x : Bool). cond x (2 * k + 1) (found (λ i. is_true_entry (equal_entry b (f (2 * i)))) (λ i. 2 * i + 1) (suc k) (branch_count bs) otherwise) / 2) (test_is ∙ q)
              ∙ (let z : (2 * k + 1) / 2 ≡ k + 0 = omega arith in z);
          result_is = ap (λ (x : Bool). cond x (eval t row) (eval_branches bs row (equals_test b) other)) q;
        }
        pick false q = record {
          first = suc later.first;
          index_is =
              ap (λ (x : Bool). cond x (2 * k + 1) (found (λ i. is_true_entry (equal_entry b (f (2 * i)))) (λ i. 2 * i + 1) (suc k) (branch_count bs) otherwise) / 2) (test_is ∙ q)
              ∙ later.index_is ∙ (let z : suc k + later.first ≡ k + suc later.first = omega arith in z);
          result_is = ap (λ (x : Bool). cond x (eval t row) (eval_branches bs row (equals_test b) other)) q ∙ later.result_is;
        }

-- all that stand there are literals
all_literal : (bs : Branches) (es : List Expr) → all_literals bs ≡ true → trees_literal es ≡ true → trees_literal (branch_trees bs ++ es) ≡ true
unfolding all_literals
all_literal no_more es l e = e
all_literal (branch w t bs) es l e =
    let (both, others) = both_hold (is_literal w && is_literal t) (all_literals bs) l in
    let (first, second) = both_hold (is_literal w) (is_literal t) both in
    rw (first, second) (all_literal bs es others e)

optional_literal : (to : DataType) (els : Optional) → else_serves to (drop_null els) ≡ true → trees_literal (optional_trees els) ≡ true
optional_literal to absent p = refl
optional_literal to (present e) p = rw (else_literal to e p) refl

-- what a table asks of literals
serves_told : (bs : Branches) (els : Optional) → table_serves bs els ≡ true → (all_literals bs ≡ true) × (else_serves (result_type bs) els ≡ true)
unfolding table_serves
serves_told bs els p =
    let (three, else-serves) = both_hold (ltb 1 (branch_count bs) && all_literals bs && some_when_value bs) (else_serves (result_type bs) els) p in
    let (two, some) = both_hold (ltb 1 (branch_count bs) && all_literals bs) (some_when_value bs) three in
    ((both_hold (ltb 1 (branch_count bs)) (all_literals bs) two).1, else-serves)

-- what stands behind each index is known without the row
results_known : (bs : Branches) (els : Optional) → all_literals bs ≡ true → else_known els ≡ true → (k : ℕ) → result_known bs els k ≡ true
unfolding all_literals result_known
results_known no_more els l e zero = e
results_known no_more els l e (suc k) = refl
results_known (branch w t bs) els l e zero = (both_hold (is_literal w) (is_literal t) (both_hold (is_literal w && is_literal t) (all_literals bs) l).0).1
results_known (branch w t bs) els l e (suc k) = results_known bs els (both_hold (is_literal w && is_literal t) (all_literals bs) l).1 e k

else_known_lem : (to : DataType) (els : Optional) → else_serves to (drop_null els) ≡ true → else_known els ≡ true
else_known_lem to absent p = refl
else_known_lem to (present e) p = else_literal to e p

pub served_known : (bs : Branches) (els : Optional) → table_serves bs (drop_null els) ≡ true → (c : ℕ) → index_known bs els c ≡ true
served_known bs els serves zero = refl
served_known bs els serves (suc k) =
    let (all, else-serves) = serves_told bs (drop_null els) serves in
    results_known bs els all (else_known_lem (result_type bs) els else-serves) k

-- the entries of the literals, and a base's index among those of the WHENs
abbrev lits : Branches → Optional → ℕ → Entry
lits bs els i = entry_at (branch_trees bs ++ optional_trees els) i

abbrev index_of : Branches → Optional → ℕ → Entry → ℕ
index_of bs els count b = found (λ i. is_true_entry (equal_entry b (lits bs els (2 * i)))) (λ i. 2 * i + 1) 0 count (2 * count)

-- a row's literal is its one-row outcome
module _ {rule : List ℕ} (table : List ℕ) {kinds payloads : List ℕ} {at end count : ℕ} (read : LiteralsRead rule at end (2 * count + 1) kinds payloads) where
  module _ (bs : Branches) (els : Optional) {depth : ℕ} (row : Row) (to : DataType) (trees : TreesAt rule at end (branch_trees bs ++ optional_trees els) depth) (counted : branch_count bs ≡ count)
      (all : all_literals bs ≡ true) (serves : else_serves to (drop_null els) ≡ true) where
    held_lits : (i : ℕ) → i < 2 * count + 1 → meaning rule table (value_at kinds payloads i) ≡ entry (lits bs els i)
    held_lits = read.held (branch_trees bs ++ optional_trees els) depth trees (all_literal bs (optional_trees els) all (optional_literal to els serves)) table

    else_lit : eval_else els row to ≡ entry (lits bs els (2 * count))
    else_lit =
        let k : length (branch_trees bs) ≡ 2 * count = branches_length bs ∙ ap (λ (x : ℕ). 2 * x) counted in
        else_is (branch_trees bs) els row to serves trees.formed ∙ ap (λ (x : ℕ). entry (lits bs els x)) k

    index_same : (b : Entry) → when_index rule table kinds payloads count (2 * count) (entry b) ≡ index_of bs els count b
    index_same b = found_same (2 * count) count 0 (λ i h. ap (same_key (entry b)) (held_lits (2 * i) (omega arith))) (λ i h. refl)

    index_few : (b : Entry) → index_of bs els count b < 2 * count + 1
    index_few b = omega (arith, found_below (λ i. is_true_entry (equal_entry b (lits bs els (2 * i)))) (λ i. 2 * i + 1) (2 * count) count 0 (λ i h. omega arith))

    value_found : (b : Entry) → eval_branches bs row (equals_test b) (eval_else els row to) ≡ entry (lits bs els (index_of bs els count b))
    value_found b =
        branches_found bs (optional_trees els) row b (eval_else els row to) (lits bs els) (2 * count) 0 all else_lit (λ j. let z : 2 * 0 + j ≡ j = omega arith in ap (lits bs els) z)
        ∙ ap (λ (n : ℕ). entry (lits bs els (found (λ i. is_true_entry (equal_entry b (lits bs els (2 * i)))) (λ i. 2 * i + 1) 0 n (2 * count)))) counted

    null_found : eval_else els row to ≡ entry (lits bs els (index_of bs els count null))
    null_found =
        else_lit
        ∙ ap (λ (x : ℕ). entry (lits bs els x)) (sym (found_none (λ i. is_true_entry (equal_entry null (lits bs els (2 * i)))) (λ i. 2 * i + 1) (2 * count) count 0 (λ i. null_first (entry (lits bs els (2 * i))))))

    base_found : (b : Entry) → entry (lits bs els (index_of bs els count b)) ≡ with_base (entry b) (λ test. eval_branches bs row test (eval_else els row to)) (eval_else els row to)
    base_found null = sym null_found
    base_found (boolean x) = sym (value_found (boolean x))
    base_found (int32 x) = sym (value_found (int32 x))
    base_found (int64 x) = sym (value_found (int64 x))
    base_found (float64 x) = sym (value_found (float64 x))
    base_found (utf8 x) = sym (value_found (utf8 x))

    -- the branch of a base, by half its index
    pub index_found : (b : Entry) (other : Outcome) → with_base (entry b) (λ test. eval_branches bs row test other) other ≡ indexed bs row other (index_of bs els count b / 2 + 1)
    index_found b other = go b (branch_at bs (optional_trees els) row b other (lits bs els) (2 * count) 0 all (omega arith) (λ j. let z : 2 * 0 + j ≡ j = omega arith in ap (lits bs els) z))
      where
        counted_as : (e : Entry) → found (λ i. is_true_entry (equal_entry e (lits bs els (2 * i)))) (λ i. 2 * i + 1) 0 (branch_count bs) (2 * count) ≡ index_of bs els count e
        counted_as e = ap (λ (n : ℕ). found (λ i. is_true_entry (equal_entry e (lits bs els (2 * i)))) (λ i. 2 * i + 1) 0 n (2 * count)) counted

        by : (e : Entry) → BranchAt bs row e other (lits bs els) (2 * count) 0 → eval_branches bs row (equals_test e) other ≡ indexed bs row other (index_of bs els count e / 2 + 1)
        by e r =
            let z : index_of bs els count e / 2 + 1 ≡ suc r.first = omega (arith, r.index_is, counted_as e) in
            r.result_is ∙ sym (ap (indexed bs row other) z)

        go : (e : Entry) → BranchAt bs row e other (lits bs els) (2 * count) 0 → with_base (entry e) (λ test. eval_branches bs row test other) other ≡ indexed bs row other (index_of bs els count e / 2 + 1)
        go null r =
            let n : index_of bs els count null ≡ 2 * count =
            found_none (λ i. is_true_entry (equal_entry null (lits bs els (2 * i)))) (λ i. 2 * i + 1) (2 * count) count 0 (λ i. null_first (entry (lits bs els (2 * i)))) in
            let z : index_of bs els count null / 2 + 1 ≡ suc (branch_count bs) = omega arith in
            sym (ap (indexed bs row other) z ∙ result_else bs row other)
        go (boolean x) r = by (boolean x) r
        go (int32 x) r = by (int32 x) r
        go (int64 x) r = by (int64 x) r
        go (float64 x) r = by (float64 x) r
        go (utf8 x) r = by (utf8 x) r

    pub outcome_found : (o : Outcome) → meaning rule table (value_at kinds payloads (base_index (when_index rule table kinds payloads count (2 * count)) (2 * count) o))
        ≡ with_base o (λ test. eval_branches bs row test (eval_else els row to)) (eval_else els row to)
    unfolding value_of
    outcome_found (entry b) = ap (λ (x : ℕ). meaning rule table (value_at kinds payloads x)) (index_same b) ∙ held_lits (index_of bs els count b) (index_few b) ∙ base_found b
    outcome_found unfit = ap (λ (x : ℕ). meaning rule table (value_of x (get_or payloads (2 * count + 1) 0))) read.failed

  -- by the table
  pub looked_up : {ks ps is : List ℕ} {size otherwise : ℕ} (w : List ℕ) (to : DataType) → TableOf rule table kinds payloads count (2 * count) ks ps is size → otherwise ≡ 2 * count → (r : ℕ) (v : Value)
      → MappedBy rule table kinds payloads (key_index rule table ks ps is size otherwise) otherwise w r v → LookedUp rule at end count to table w r v
  looked_up {ks} {ps} {is} {size} w to t behind r v found bs els depth row trees counted few serves result =
      let mapped = subst (λ (x : ℕ). MappedBy rule table kinds payloads (key_index rule table ks ps is size x) x w r v) behind found in
      let (all, else-serves) = serves_told bs (drop_null els) serves in
      ap (meaning rule table) mapped
      ∙ ap (λ (x : ℕ). meaning rule table (value_at kinds payloads x)) (by_table (meaning rule table (slot_at w r)))
      ∙ outcome_found bs els row to trees counted all (subst (λ (x : DataType). else_serves x (drop_null els) ≡ true) result else-serves) (meaning rule table (slot_at w r))
    where
      by_table : (o : Outcome) → base_index (key_index rule table ks ps is size (2 * count)) (2 * count) o ≡ base_index (when_index rule table kinds payloads count (2 * count)) (2 * count) o
      by_table (entry b) = t.right (entry b)
      by_table unfit = refl

  -- the branch of a row's base, by the table
  module _ {ks ps is : List ℕ} {size : ℕ} (t : TableOf rule table kinds payloads count (2 * count) ks ps is size) (place : ColumnPlace) where
    keyed_base : (q c : ℕ) → KeyedRow rule table place ks ps is size (2 * count) q c → BaseIndex rule at end table place count q c
    keyed_base q c row_is = record {
      some = omega arith;
      few = omega (arith, found_below (λ k. same_key (entry e) (meaning rule table (value_at ks ps k))) (λ k. get_or is k 0) (2 * count) size 0 (λ i l. t.arrays.below i (omega arith)));
      is = λ bs els depth row other trees counted serves.
          let (all, else-serves) = serves_told bs (drop_null els) serves in
          index_found bs els row (result_type bs) trees counted all else-serves e other
          ∙ sym (ap (indexed bs row other) (row_is ∙ ap (λ (x : ℕ). x / 2 + 1) (t.right (entry e) ∙ index_same bs els row (result_type bs) trees counted all else-serves e)));
    }
      where
        e : Entry
        e = columns.entry_at (column_in table place) q

    pub based_by : {w : List ℕ} {n otherwise : ℕ} {served : Bool} {values : List ℕ} → otherwise ≡ 2 * count → ColumnKeyed table place ks ps is size otherwise w n rule served values
        → BaseGives rule at end table place count w n served values
    based_by {values = values} behind g = record {
      each = λ s q l. keyed_base q (get_or values q 0) (subst (λ (x : ℕ). KeyedRow rule table place ks ps is size x q (get_or values q 0)) behind (g.each s q l));
    }

-- arrays that are new
pub zeros : (n i : ℕ) → ◌≡◌ {A = ℕ} (get_or (replicate n 0) i 0) 0
zeros zero i = refl
zeros (suc n) zero = refl
zeros (suc n) (suc i) = zeros n i

-- nothing is done where more branches stand than a table serves
pub not_served : {rule : List ℕ} {at end count : ℕ} {to : DataType} {table w : List ℕ} {n : ℕ} → 32 < count → Filled (LookedUp rule at end count to table w) w n w
not_served h = record { long = refl; here = λ r l bs els depth row trees counted few serves result. absurd (omega arith); others = λ r l no. refl; low = λ j l. refl; high = λ j l. refl }
