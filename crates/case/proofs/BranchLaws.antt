-- The branches of a CASE one after the other: the branch behind the first so many, where it stands in the rule, and what is known of its result. Assumes nothing.
use Rattle.std.proofs.Common.{◌≡◌, ℕ, zero, suc, ◌+◌, ◌*◌, ◌<◌, true, List, [], ◌∷◌, ◌++◌, length, refl, ap, ◌∙◌, subst, append_assoc, arith}
use Rattle.scalar.specs.Entry.{Outcome}
use Rattle.rule.specs.Tree.{Expr, Branches, no_more, branch, Optional, branch_count}
use Rattle.rule.specs.Row.{Row, eval}
use Rattle.rule.specs.Strategy.{is_literal}
use Rattle.rule.specs.Walks.{branch_trees, TreesAt, EndGives, BehindGives}
use Rattle.rule.proofs.WalkLaws.{first_two}
use Rattle.case.specs.Evaluation.{result_at}
use Rattle.case.specs.Results.{else_known, result_known}
use Rattle.case.specs.Steps.{when_at}

-- the branches behind the first so many
unfoldable pub drop_branches : ℕ → Branches → Branches
drop_branches zero bs = bs
drop_branches (suc i) no_more = no_more
drop_branches (suc i) (branch w t bs) = drop_branches i bs

pub drop_all : (bs : Branches) → drop_branches (branch_count bs) bs ≡ no_more
unfolding drop_branches branch_count
drop_all no_more = refl
drop_all (branch w t bs) = drop_all bs

-- the branch behind the first i
pub record BranchAt (i : ℕ) (bs : Branches) : Type 0 where
  pub when_is : Expr
  pub then_is : Expr
  pub later : Branches
  pub before : List Expr
  pub here : drop_branches i bs ≡ branch when_is then_is later
  pub when : when_at bs i ≡ when_is
  pub behind : drop_branches (suc i) bs ≡ later
  pub result : (row : Row) (els : Outcome) → result_at bs row els i ≡ eval then_is row
  pub many : length before ≡ 2 * i
  pub trees : branch_trees bs ≡ before ++ (when_is ∷ then_is ∷ branch_trees later)

pub branch_at : (i : ℕ) (bs : Branches) → i < branch_count bs → BranchAt i bs
unfolding drop_branches branch_count result_at when_at
branch_at i no_more h = absurd (omega arith)
branch_at zero (branch w t bs) h = record {
  when_is = w;
  then_is = t;
  later = bs;
  before = [];
  here = refl;
  when = refl;
  behind = drop_none bs;
  result = λ row els. refl;
  many = refl;
  trees = refl;
}
  where
    drop_none : (bs : Branches) → drop_branches zero bs ≡ bs
    drop_none bs = refl
branch_at (suc i) (branch w t bs) h =
    let a = branch_at i bs (omega arith) in
    record {
      when_is = a.when_is;
      then_is = a.then_is;
      later = a.later;
      before = w ∷ t ∷ a.before;
      here = a.here;
      when = a.when;
      behind = a.behind;
      result = a.result;
      many = (let m = a.many in omega arith);
      trees = ap (λ (l : List Expr). w ∷ t ∷ l) a.trees;
    }

-- where it stands
pub branch_stands : {rule : List ℕ} {at end place depth i : ℕ} {bs : Branches} (rest : List Expr) → BehindGives rule at (2 * i) place → (x : BranchAt i bs)
    → TreesAt rule at end (branch_trees bs ++ rest) depth → TreesAt rule place end (x.when_is ∷ x.then_is ∷ (branch_trees x.later ++ rest)) depth
branch_stands {rule} {at} {end} {depth = depth} rest behind x trees =
    behind.stand end x.before (x.when_is ∷ x.then_is ∷ (branch_trees x.later ++ rest)) depth x.many
    (subst (λ (l : List Expr). TreesAt rule at end l depth) (ap (λ (l : List Expr). l ++ rest) x.trees ∙ append_assoc x.before (x.when_is ∷ x.then_is ∷ branch_trees x.later) rest) trees)

-- the last two of a list
last_two : (es : List Expr) (n : ℕ) → length es ≡ n + 2 → (first : List Expr) × (x : Expr) × (y : Expr) × (length first ≡ n) × (es ≡ first ++ (x ∷ y ∷ []))
last_two [] n h = absurd (omega arith)
last_two (x ∷ []) n h = absurd (omega arith)
last_two (x ∷ y ∷ []) zero h = ([], x, y, refl, refl)
last_two (x ∷ y ∷ []) (suc n) h = absurd (omega arith)
last_two (x ∷ y ∷ z ∷ es) zero h = absurd (omega arith)
last_two (x ∷ y ∷ z ∷ es) (suc n) h =
    let (first, u, v, f, g) = last_two (y ∷ z ∷ es) n (omega arith) in
    (x ∷ first, u, v, ap suc f, ap (λ (l : List Expr). x ∷ l) g)

-- from one branch's place to the next
pub behind_none : {rule : List ℕ} {at : ℕ} (n : ℕ) → n ≡ 0 → BehindGives rule at n at
behind_none {rule} {at} n none_left = record { stand = stands; onward = omega arith }
  where
    stands : (end : ℕ) (es rest : List Expr) (depth : ℕ) → length es ≡ n → TreesAt rule at end (es ++ rest) depth → TreesAt rule at end rest depth
    stands end [] rest depth p trees = trees
    stands end (e ∷ es) rest depth p trees = absurd (omega arith)

pub behind_two : {rule : List ℕ} {at place then next : ℕ} (n m : ℕ) → m ≡ n + 2 → BehindGives rule at n place → EndGives rule place then → EndGives rule then next → BehindGives rule at m next
behind_two {rule} {at} {next = next} n m e behind to-then to-next = record {
  stand = stands;
  onward = (let h = behind.onward in let a = to-then.onward in let b = to-next.onward in omega arith);
}
  where
    stands : (end : ℕ) (es rest : List Expr) (depth : ℕ) → length es ≡ m → TreesAt rule at end (es ++ rest) depth → TreesAt rule next end rest depth
    stands end es rest depth p trees =
        let (first, x, y, f, g) = last_two es n (omega arith) in
        let moved = subst (λ (l : List Expr). TreesAt rule at end l depth) (ap (λ (l : List Expr). l ++ rest) g ∙ append_assoc first (x ∷ y ∷ []) rest) trees in
        (first_two to-then to-next (behind.stand end first (x ∷ y ∷ rest) depth f moved)).2

-- whether a result is known: of a THEN whether it is a literal, of ELSE whether it is one or is not there; a failure always is
pub known_then : (i : ℕ) (bs : Branches) (els : Optional) {w t : Expr} {later : Branches} → drop_branches i bs ≡ branch w t later → result_known bs els i ≡ is_literal t
unfolding drop_branches result_known
known_then zero bs els e = ap (λ (b : Branches). result_known b els 0) e
known_then (suc i) no_more els e = absurd (let z : ◌≡◌ {A = ℕ} 0 1 = cc in omega arith)
known_then (suc i) (branch v u bs) els e = known_then i bs els e

pub known_else : (bs : Branches) (els : Optional) → result_known bs els (branch_count bs) ≡ else_known els
unfolding result_known branch_count
known_else no_more els = refl
known_else (branch w t bs) els = known_else bs els

pub known_failed : (bs : Branches) (els : Optional) → result_known bs els (suc (branch_count bs)) ≡ true
unfolding result_known branch_count
known_failed no_more els = refl
known_failed (branch w t bs) els = known_failed bs els
