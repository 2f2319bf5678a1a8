-- The strategy of a CASE out of its bytes. Assumes nothing.
use mathlib.Core.Path.{◌≡◌, refl, ap, ap₂, sym, ◌∙◌}
use mathlib.Core.Bool.{Bool, true, false, cond, not, ◌&&◌, ◌||◌, and_assoc}
use mathlib.Core.List.{List, [], ◌∷◌, ◌++◌}
use Prim.Native.Nat.{ℕ, zero, suc, ◌+◌, ◌-◌, ◌%◌, ◌<◌, ◌≤◌}
use native.Mathlib.Omega.{arith}
use lib.Dec.{eqb, ltb}
use lib.ListN.{length}
use borrow.Author.Tests.{eq-eqb, ne_eqb}
use Rattle.layout.specs.Bytes.{byte}
use Rattle.scalar.specs.Types.{same_type}
use Rattle.scalar.specs.Entry.{is_null}
use Rattle.rule.specs.declared.strategy.Strategy.{Strategy}
use Rattle.rule.specs.declared.strategy.Strategy.TheVariants.{NoExpression, WithExpression, InfallibleExprOrNull, ScalarOrScalar, ExpressionOrExpression, WithExprScalarLookupTable}
use Rattle.rule.specs.Tree.{Expr, column, literal, negation, negative, is_not_null, cast, try_cast, equal, less, case_when, Branches, no_more, branch, Optional, absent, present, branch_count, is_null_literal}
use Rattle.rule.specs.TreeBytes.{is_present, flags_of}
use Rattle.rule.specs.Typing.{type_of}
use Rattle.rule.specs.Strategy.{is_column, is_literal, drop_null, all_literals, some_when_value, else_serves, table_serves, single_branch, strategy_of, strategy}
use Rattle.rule.specs.Node.{NodeAt}
use Rattle.rule.specs.Walks.{branch_trees, optional_trees, node_tag, TreesAt}
use Rattle.rule.specs.AnswerWalks.{trees_literal, StrategyGives}
use Rattle.rule.specs.Walked.{field_end, behind_fields, type_at}
use Rattle.rule.specs.WalkedStrategy.{literal_there, null_there, else_there, literals_there, when_there, else_serves_at, table_serves_at, single_by, single_at, branches_at, base_count, strategy_at}
use Rattle.rule.proofs.NodeLaws.{Tagged, of_column, of_literal, of_negation, of_negative, of_is_not_null, of_cast, of_try_cast, of_equal, of_less, of_case, node_byte, node_tag_lem, node_children, trees_split, trees_one, trees_none, trees_some}
use Rattle.rule.proofs.WalkLaws.{node_of_tag, end_gives, behind_gives, first_tree, first_two, base_flag, branches_length}
use Rattle.rule.proofs.LiteralLaws.{mark_told}
use Rattle.rule.proofs.TypeOfLaws.{type_gives}

-- a literal is told by its tag
literal_tag : {tag : ℕ} {e : Expr} → Tagged tag e → is_literal e ≡ eqb tag 17
literal_tag (of_column c) = refl
literal_tag (of_literal t v) = refl
literal_tag (of_negation e) = refl
literal_tag (of_negative e) = refl
literal_tag (of_is_not_null e) = refl
literal_tag (of_cast t e) = refl
literal_tag (of_try_cast t e) = refl
literal_tag (of_equal a b) = refl
literal_tag (of_less a b) = refl
literal_tag (of_case b bs e) = refl

-- and so is a column
column_tag : {tag : ℕ} {e : Expr} → Tagged tag e → is_column e ≡ eqb tag 16
column_tag (of_column c) = refl
column_tag (of_literal t v) = refl
column_tag (of_negation e) = refl
column_tag (of_negative e) = refl
column_tag (of_is_not_null e) = refl
column_tag (of_cast t e) = refl
column_tag (of_try_cast t e) = refl
column_tag (of_equal a b) = refl
column_tag (of_less a b) = refl
column_tag (of_case b bs e) = refl

-- by the byte that was read
literal_at_lem : {rule : List ℕ} {at end depth : ℕ} {e : Expr} → NodeAt rule at end e depth → literal_there rule at ≡ is_literal e
literal_at_lem n = sym (literal_tag (node_of_tag n refl))

column_at : {rule : List ℕ} {at end depth : ℕ} {e : Expr} → NodeAt rule at end e depth → eqb (byte rule at) 16 ≡ is_column e
column_at n = sym (column_tag (node_of_tag n refl))

-- whatever node stands at the place
null_at : {rule : List ℕ} {at end depth : ℕ} (e : Expr) → NodeAt rule at end e depth → null_there rule at ≡ is_null_literal e
unfolding null_there
null_at {rule} {at} {end} {depth} e n = ap (λ (tag : ℕ). eqb tag 17 && eqb (byte rule (at + 4)) 1) (node_tag_lem n) ∙ go e n
  where
    go : (f : Expr) → NodeAt rule at end f depth → (eqb (node_tag f) 17 && eqb (byte rule (at + 4)) 1) ≡ is_null_literal f
    go (column c) m = refl
    go (literal t v) m = ap (λ (x : ℕ). eqb x 1) (node_byte 1 (at + 4) m (omega arith) (omega arith)) ∙ mark_told (is_null v)
    go (negation f) m = refl
    go (negative f) m = refl
    go (is_not_null f) m = refl
    go (cast t f) m = refl
    go (try_cast t f) m = refl
    go (equal a b) m = refl
    go (less a b) m = refl
    go (case_when b bs els) m = refl

-- an ELSE that is there
there_none : (rule : List ℕ) {at end : ℕ} → at ≡ end → false ≡ else_there rule at end
unfolding else_there
there_none rule {at} {end} same = rw (eq-eqb at end same)

there_some : (rule : List ℕ) {at end : ℕ} {null : Bool} → (at ≡ end → ⊥) → null ≡ null_there rule at → not null ≡ else_there rule at end
unfolding else_there
there_some rule {at} {end} differ is = rw (ne_eqb at end differ) (ap not is)

-- one that is dropped is not
dropped : (e : Expr) (null : Bool) → is_null_literal e ≡ null → is_present (drop_null (present e)) ≡ not null
dropped e true p = rw p
dropped e false p = rw p

there_at : {rule : List ℕ} {at end depth : ℕ} (els : Optional) → TreesAt rule at end (optional_trees els) depth → else_there rule at end ≡ is_present (drop_null els)
there_at {rule} absent t = sym (there_none rule (trees_none t))
there_at {rule} {at} {end} (present e) t =
    let before = trees_some t in
    sym (dropped e (null_there rule at) (sym (null_at e (trees_one t))) ∙ there_some rule {at = at} {end = end} (λ p. omega arith) refl)

-- literals from the place on, as many as are left
pub literals_found : (rule : List ℕ) (place : ℕ) {left tag : ℕ} {all : Bool} → literals_there rule place left ≡ all → 0 < left → tag ≡ byte rule place → (tag ≡ 17 → ⊥) → false ≡ all
unfolding literals_there
literals_found rule place {left = zero} same some read is = absurd (omega arith)
literals_found rule place {left = suc n} same some read is = let k = ne_eqb (byte rule place) 17 (λ p. is (read ∙ p)) in sym (ap (λ (b : Bool). b && literals_there rule (field_end rule place) n) k) ∙ same

pub literals_next : (rule : List ℕ) (place : ℕ) {left less tag next : ℕ} {all : Bool} → literals_there rule place left ≡ all → suc less ≡ left → tag ≡ byte rule place → tag ≡ 17
    → next ≡ field_end rule place → literals_there rule next less ≡ all
unfolding literals_there
literals_next rule place {left = zero} same some read is ends = absurd (omega arith)
literals_next rule place {left = suc n} {less} same some read is ends =
    let k = eq-eqb (byte rule place) 17 (sym read ∙ is) in
    let one : less ≡ n = omega arith in
    ap₂ (literals_there rule) ends one ∙ sym (ap (λ (b : Bool). b && literals_there rule (field_end rule place) n) k) ∙ same

pub literals_end : (rule : List ℕ) (place : ℕ) {left : ℕ} {all : Bool} → literals_there rule place left ≡ all → left ≤ 0 → true ≡ all
unfolding literals_there
literals_end rule place {left = zero} same none = same
literals_end rule place {left = suc n} same none = absurd (omega arith)

literals_at : {rule : List ℕ} {at end depth : ℕ} (es rest : List Expr) → TreesAt rule at end (es ++ rest) depth → literals_there rule at (length es) ≡ trees_literal es
unfolding literals_there
literals_at [] rest t = refl
literals_at {rule = rule} {at = at} (e ∷ es) rest t = let (first, later) = first_tree (end_gives refl) t in ap₂ ◌&&◌ (literal_at_lem first) (literals_at {at = field_end rule at} es rest later)

-- a WHEN of the branches that are left isn't null
pub whens_found : (rule : List ℕ) (place : ℕ) {left : ℕ} {null some : Bool} → when_there rule place left ≡ some → 0 < left → null ≡ null_there rule place → null ≡ false → true ≡ some
unfolding when_there
whens_found rule place {left = zero} same more read is = absurd (omega arith)
whens_found rule place {left = suc n} same more read is = sym (ap (λ (b : Bool). not b || when_there rule (behind_fields rule place 2) n) (sym read ∙ is)) ∙ same

pub whens_next : (rule : List ℕ) (place : ℕ) {left less next : ℕ} {null some : Bool} → when_there rule place left ≡ some → suc less ≡ left → null ≡ null_there rule place → null ≡ true
    → next ≡ behind_fields rule place 2 → when_there rule next less ≡ some
unfolding when_there
whens_next rule place {left = zero} same more read is behind = absurd (omega arith)
whens_next rule place {left = suc n} {less} same more read is behind =
    let one : less ≡ n = omega arith in
    ap₂ (when_there rule) behind one ∙ sym (ap (λ (b : Bool). not b || when_there rule (behind_fields rule place 2) n) (sym read ∙ is)) ∙ same

pub whens_end : (rule : List ℕ) (place : ℕ) {left : ℕ} {some : Bool} → when_there rule place left ≡ some → left ≤ 0 → false ≡ some
unfolding when_there
whens_end rule place {left = zero} same none = same
whens_end rule place {left = suc n} same none = absurd (omega arith)

whens_at : {rule : List ℕ} {at end depth : ℕ} (bs : Branches) (rest : List Expr) → TreesAt rule at end (branch_trees bs ++ rest) depth → when_there rule at (branch_count bs) ≡ some_when_value bs
unfolding when_there some_when_value branch_count
whens_at no_more rest t = refl
whens_at {rule = rule} {at = at} {end = end} {depth = depth} (branch w u bs) rest t =
    let (m, first, later) = trees_split t in
    let behind = (behind_gives refl).stand end (w ∷ u ∷ []) (branch_trees bs ++ rest) depth refl t in
    ap₂ (λ (a b : Bool). not a || b) (null_at w first) (whens_at {at = behind_fields rule at (length {A = Expr} (w ∷ u ∷ []))} bs rest behind)

serves_at : {rule : List ℕ} {at end depth then m d : ℕ} (els : Optional) {t : Expr} → TreesAt rule at end (optional_trees els) depth → NodeAt rule then m t d
    → else_serves_at rule at end then ≡ else_serves (type_of t) (drop_null els)
unfolding else_serves_at
serves_at {rule} {at} {then = then} absent trees n = ap (λ (b : Bool). not b || (literal_there rule at && same_type (type_at rule at) (type_at rule then))) (there_at absent trees)
serves_at {rule} {at} {end} {depth} {then} {m} {d} (present e) {t} trees n =
    ap (λ (b : Bool). not b || (literal_there rule at && same_type (type_at rule at) (type_at rule then))) (there_at (present e) trees) ∙ go (is_null_literal e)
  where
    same : (literal_there rule at && same_type (type_at rule at) (type_at rule then)) ≡ (is_literal e && same_type (type_of e) (type_of t))
    same = ap₂ ◌&&◌ (literal_at_lem (trees_one trees)) (ap₂ same_type (type_gives refl end e depth (trees_one trees)) (type_gives refl m t d n))

    go : (null : Bool) → (not (is_present (cond null absent (present e))) || (literal_there rule at && same_type (type_at rule at) (type_at rule then))) ≡ else_serves (type_of t) (cond null absent (present e))
    go true = refl
    go false = same

single_else : {rule : List ℕ} {then els end depth : ℕ} {t : Expr} (o : Optional) → NodeAt rule then els t depth → TreesAt rule els end (optional_trees o) depth
    → single_by rule then els end ≡ single_branch t (drop_null o)
single_else {rule} {then} {els} {end} {depth} {t} o n trees = ap chosen (there_at o trees) ∙ go o trees
  where
    chosen : Bool → Strategy
    chosen b = cond b (cond (literal_there rule then && literal_there rule els) ScalarOrScalar ExpressionOrExpression) (cond (eqb (byte rule then) 16) InfallibleExprOrNull ExpressionOrExpression)

    alone : cond (eqb (byte rule then) 16) InfallibleExprOrNull ExpressionOrExpression ≡ cond (is_column t) InfallibleExprOrNull ExpressionOrExpression
    alone = ap (λ (b : Bool). cond b InfallibleExprOrNull ExpressionOrExpression) (column_at n)

    by : (e : Expr) → NodeAt rule els end e depth → (null : Bool) → chosen (is_present (cond null absent (present e))) ≡ single_branch t (cond null absent (present e))
    by e k true = alone
    by e k false = ap₂ (λ (a b : Bool). cond (a && b) ScalarOrScalar ExpressionOrExpression) (literal_at_lem n) (literal_at_lem k)

    go : (o : Optional) → TreesAt rule els end (optional_trees o) depth → chosen (is_present (drop_null o)) ≡ single_branch t (drop_null o)
    go absent r = alone
    go (present e) r = by e (trees_one r) (is_null_literal e)

single_at_lem : {rule : List ℕ} {at end depth : ℕ} {w t : Expr} (els : Optional) → TreesAt rule at end (w ∷ t ∷ optional_trees els) depth → single_at rule at end ≡ single_branch t (drop_null els)
unfolding single_at
single_at_lem els trees = let (first, second, later) = first_two (end_gives refl) (end_gives refl) trees in single_else els second later

-- all branches are literals if all their trees are
literals_trees : (bs : Branches) → trees_literal (branch_trees bs) ≡ all_literals bs
unfolding all_literals
literals_trees no_more = refl
literals_trees (branch w t bs) = rw (literals_trees bs) (sym (and_assoc (is_literal w) (is_literal t) (all_literals bs)))

and_four : (a : Bool) {b b' c c' d d' : Bool} → b ≡ b' → c ≡ c' → d ≡ d' → (a && b && c && d) ≡ (a && b' && c' && d')
and_four a p q r = cc

table_at : {rule : List ℕ} {at end depth : ℕ} (bs : Branches) (els : Optional) → TreesAt rule at end (branch_trees bs ++ optional_trees els) depth
    → table_serves_at rule at end (branch_count bs) ≡ table_serves bs (drop_null els)
unfolding table_serves_at table_serves type_of branch_count
table_at no_more els t = refl
table_at {rule} {at} {end} {depth} (branch w u bs) els t =
    let size = branches_length (branch w u bs) in
    let (m, first, later) = trees_split t in
    let (k, second, rest) = trees_split (first_tree (end_gives refl) t).1 in
    and_four (ltb 1 (suc (branch_count bs)))
    (ap (literals_there rule at) (sym size) ∙ literals_at (branch_trees (branch w u bs)) (optional_trees els) t ∙ literals_trees (branch w u bs))
    (whens_at (branch w u bs) (optional_trees els) t)
    (serves_at els ((behind_gives refl).stand end (branch_trees (branch w u bs)) (optional_trees els) depth size t) second)

-- the strategy at a place: none where it is no CASE
strategy_other : (rule : List ℕ) (start end : ℕ) {tag : ℕ} → tag ≡ byte rule start → (tag ≡ 25 → ⊥) → NoExpression ≡ strategy_at rule start end
unfolding strategy_at
strategy_other rule start end read is = rw (ne_eqb (byte rule start) 25 (λ p. is (read ∙ p)))

-- by the base and the number of branches of a CASE
module _ (rule : List ℕ) (start end : ℕ) {tag flags count at : ℕ} (read : tag ≡ byte rule start) (is : tag ≡ 25) (flag : flags ≡ byte rule (start + 3)) (counted : count ≡ byte rule (start + 4))
    (behind : at ≡ behind_fields rule (start + 5) (flags % 2)) where
  strategy_by : {r : Strategy} (base : Bool) → eqb (flags % 2) 1 ≡ base → r ≡ branches_at base rule at end count → r ≡ strategy_at rule start end
  unfolding strategy_at
  strategy_by base told gives =
      gives
      ∙ sym (ap (λ (b : Bool). cond b (branches_at (eqb (base_count rule start) 1) rule (behind_fields rule (start + 5) (base_count rule start)) end (byte rule (start + 4))) NoExpression)
      (eq-eqb (byte rule start) 25 (sym read ∙ is))
      ∙ ap (λ (b : Bool). branches_at b rule (behind_fields rule (start + 5) (base_count rule start)) end (byte rule (start + 4))) (ap (λ (n : ℕ). eqb (n % 2) 1) (sym flag) ∙ told)
      ∙ ap₂ (λ (x n : ℕ). branches_at base rule x end n) (ap (λ (n : ℕ). behind_fields rule (start + 5) (n % 2)) (sym flag) ∙ sym behind) (sym counted))

-- at a CASE
case_strategy : {rule : List ℕ} {at end depth : ℕ} (b : Optional) (bs : Branches) (els : Optional) → TreesAt rule at end (branch_trees bs ++ optional_trees els) depth
    → branches_at (eqb (length (optional_trees b)) 1) rule at end (branch_count bs) ≡ strategy_of b bs els
unfolding strategy_of branch_count
case_strategy (present b) bs els t = ap (λ (x : Bool). cond x WithExprScalarLookupTable WithExpression) (table_at bs els t)
case_strategy absent no_more els t = refl
case_strategy absent (branch w u no_more) els t = single_at_lem els t
case_strategy {rule} {at} {end} absent (branch w u (branch v x bs)) els t =
    let k : eqb (suc (suc (branch_count bs))) 1 ≡ false = ne_eqb (suc (suc (branch_count bs))) 1 (λ p. omega arith) in
    ap (λ (c : Bool). cond c (single_at rule at end) NoExpression) k

-- at a node that is none
no_case : {rule : List ℕ} {start end depth : ℕ} {e : Expr} → NodeAt rule start end e depth → (node_tag e ≡ 25 → ⊥) → strategy_at rule start end ≡ NoExpression
no_case {rule} {start} {end} n other = sym (strategy_other rule start end (sym (node_tag_lem n)) other)

-- of whatever node stands there
strategy_at_lem : {rule : List ℕ} {start end depth : ℕ} (e : Expr) → NodeAt rule start end e depth → strategy_at rule start end ≡ strategy e
unfolding strategy
strategy_at_lem (column c) n = no_case n (λ p. omega arith)
strategy_at_lem (literal t v) n = no_case n (λ p. omega arith)
strategy_at_lem (negation e) n = no_case n (λ p. omega arith)
strategy_at_lem (negative e) n = no_case n (λ p. omega arith)
strategy_at_lem (is_not_null e) n = no_case n (λ p. omega arith)
strategy_at_lem (cast t e) n = no_case n (λ p. omega arith)
strategy_at_lem (try_cast t e) n = no_case n (λ p. omega arith)
strategy_at_lem (equal a b) n = no_case n (λ p. omega arith)
strategy_at_lem (less a b) n = no_case n (λ p. omega arith)
strategy_at_lem {rule} {start} {end} {depth} (case_when b bs els) n =
    sym (strategy_by rule start end (sym (node_tag_lem n)) refl (sym (node_byte 0 (start + 3) n (omega arith) (omega arith))) (sym (node_byte 1 (start + 4) n (omega arith) (omega arith))) refl
    (eqb (flags_of b els % 2) 1) refl refl)
    ∙ ap (λ (k : ℕ). branches_at (eqb k 1) rule (behind_fields rule (start + 5) k) end (branch_count bs)) (base_flag b els)
    ∙ case_strategy b bs els ((behind_gives refl).stand end (optional_trees b) (branch_trees bs ++ optional_trees els) (depth - 1) refl (node_children (start + 5) n (omega arith)))

pub strategy_gives : {rule : List ℕ} {start end : ℕ} {r : Strategy} → r ≡ strategy_at rule start end → StrategyGives rule start end r
strategy_gives is = record { is = λ e depth n. is ∙ strategy_at_lem e n }
