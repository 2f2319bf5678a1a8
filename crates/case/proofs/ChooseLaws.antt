-- Choosing: the open list through the branches in turn. Assumes nothing.
use Rattle.std.proofs.Common.{◌≡◌, ℕ, zero, suc, ◌+◌, ◌*◌, ◌<◌, ◌≤◌, Bool, true, false, cond, eqb, ◌⊎◌, List, ◌++◌, length, sym, refl, ap, ◌∙◌, subst, ap₂, inl, inr, ⊎_elim, arith}
use mathlib.Core.Bool.{false≢true}
use mathlib.Core.Option.{some}
use Rattle.scalar.specs.Entry.{Entry, is_true_entry, Outcome, entry, unfit, on_entries}
use Rattle.scalar.specs.Compare.{equal_entry}
use Rattle.scalar.specs.Value.{meaning}
use Rattle.rule.specs.Tree.{Expr, Branches, branch_count}
use Rattle.rule.specs.Row.{Row, Test, is_true_test, equals_test, passes, chosen, eval, eval_branches}
use Rattle.rule.specs.Walks.{branch_trees, TreesAt, EndGives, BehindGives}
use Rattle.rule.proofs.WalkLaws.{first_tree}
use Rattle.table.specs.declared.places.Table.{Table}
use Rattle.builder.specs.declared.ResultBuilder.{ResultBuilder}
use Rattle.case.specs.declared.settle.Leave.{Leave}
use Rattle.case.specs.declared.settle.Leave.TheVariants.{NullBase, TrueWhen, EqualWhen, Rest}
use Rattle.case.specs.declared.settle.Settled.{Settled}
use Rattle.case.specs.Frame.{slot_at, next_slot, Rows, Listed, Copied}
use Rattle.case.specs.Choosing.{leaving, true_outcome, class_at, class_by, asks_true, held_by, Open, Settles}
use Rattle.case.specs.Evaluation.{Framed, Done, Ahead, row_in, ExprRight, result_at, indexed_or, TestFor, passes_test, WhenRight, Sifts, BranchesIndex}
use Rattle.case.specs.Steps.{WhenIndex, WhenGives}
use Rattle.case.proofs.FrameLaws.{none_some, Kept, SameRows, kept_rows, kept_slot, listed_to, listed_from, rows_to, rows_small, listed_below, lent, back, lent_framed, NextDone, next_done}
use Rattle.case.proofs.CaseLaws.{result_failed}
use Rattle.case.proofs.BranchLaws.{drop_branches, drop_all, BranchAt, branch_at, branch_stands, behind_none, behind_two}

-- the open list where it stands unchanged
pub open_kept : {b : ResultBuilder} {w : List ℕ} {left rows : ℕ} (w' : List ℕ) → SameRows w 5632 w' 5632 left → Open b w left rows → Open b w' left rows
open_kept {b} {w} {left} {rows} w' same o = record {
  sized = o.sized;
  small = o.small;
  list_ok = rows_to w w' 5632 5632 left rows same o.list_ok;
  free = λ r l. o.free r (listed_from w w' 5632 5632 left same r l);
  whole_done = o.whole_done;
  part_held = o.part_held;
}

pub open_rows : {b : ResultBuilder} {w : List ℕ} {left rows : ℕ} (rows' : ℕ) → rows ≡ rows' → Open b w left rows → Open b w left rows'
open_rows {b} {w} {left} rows' e o = subst (Open b w left) e o

pub open_self : {b : ResultBuilder} {w : List ℕ} {left rows : ℕ} → Open b w left rows → Open b w left b.rows
open_self {b} {w} {left} o = subst (Open b w left) (sym o.sized) o

-- ---- one branch

-- rows that leave with an index that is right for them, from the open list where it stands unchanged
pub settles_sift : {class : ℕ → ℕ} (right : ℕ → ℕ → Type 0) {w w₁ w₂ : List ℕ} {left rows : ℕ} {b : ResultBuilder} {s : Settled} → length w₁ ≡ length w → Kept 5632 w w₁
    → SameRows w 5632 w₁ 5632 left → b.rows ≡ rows → Settles class w₁ left b.rows b s w₂ → ((q c : ℕ) → Listed w 5632 left q → class q ≡ c → right q c)
    → Sifts right w left rows b s.left s.builder w₂
settles_sift {class} right {w} {w₁} {w₂} {left} {rows} {s = s} long kept same sized settles fits = record {
  long = settles.long ∙ long;
  low = λ j h. settles.low j h ∙ kept j h;
  still_open = open_rows rows sized settles.still_open;
  stays = λ q l.
      let (m, z) = settles.stays q l in
      let m' = listed_from w w₁ 5632 5632 left same q m in
      (m', fits q 0 m' z);
  each = λ q l. each_row q l (class q) refl;
  others = λ q n. settles.others q (λ m. n (listed_from w w₁ 5632 5632 left same q m));
}
  where
    each_row : (q : ℕ) → Listed w 5632 left q → (c : ℕ) → class q ≡ c → Listed w₂ 5632 s.left q ⊎ ((k : ℕ) × (held_by s.builder q ≡ some (suc k)) × right q (suc k))
    each_row q l zero e = inl (settles.kept q (listed_to w w₁ 5632 5632 left same q l) e)
    each_row q l (suc k) e =
        inr (k, settles.gone q (listed_to w w₁ 5632 5632 left same q l) (λ z. let y : suc k ≡ 0 = sym e ∙ z in omega arith) ∙ ap some e, fits q (suc k) l e)

-- the index with which a row leaves, by what its WHEN is
class_when : (how : Leave) (rule table w : List ℕ) (index failed q : ℕ) (base when : Outcome) (test : Test) → meaning rule table (slot_at w q) ≡ base → meaning rule table (next_slot w q) ≡ when
    → TestFor how base test → class_at how rule table w index failed q ≡ leaving (passes_test test) index failed when
class_when NullBase rule table w index failed q base when test p n h = absurd h
class_when Rest rule table w index failed q base when test p n h = absurd h
class_when TrueWhen rule table w index failed q base when test p n h =
    ap (leaving true_outcome index failed) n ∙ go when ∙ ap (λ (x : Test). leaving (passes_test x) index failed when) (sym h)
  where
    go : (o : Outcome) → leaving true_outcome index failed o ≡ leaving (passes_test is_true_test) index failed o
    go unfit = refl
    go (entry v) = refl
class_when EqualWhen rule table w index failed q base when test p n (b, e, h) =
    ap₂ (λ (x y : Outcome). leaving true_outcome index failed (on_entries equal_entry x y)) (p ∙ e) n ∙ go when ∙ ap (λ (x : Test). leaving (passes_test x) index failed when) (sym h)
  where
    go : (o : Outcome) → leaving true_outcome index failed (on_entries equal_entry (entry b) o) ≡ leaving (passes_test (equals_test b)) index failed o
    go unfit = refl
    go (entry v) = refl

module _ {table : List ℕ} {t : Table} {depth : ℕ} {w w₁ : List ℕ} {left : ℕ} {b : ResultBuilder} (a : Ahead table t w left b depth) (copied : Copied w left 5632 6656 w₁) where
  turn_few : left ≤ 512
  turn_few = a.is_open.list_ok.few

  pub turn_room : 13312 ≤ length w₁
  turn_room = let r = a.room in let l = copied.long in let d = a.deep in omega arith

  pub turn_asks : Framed table t (lent w₁) left depth
  turn_asks =
      lent_framed depth (rows_to w w₁ 5632 6656 left t.rows copied.rows_copied a.is_open.list_ok) a.is_open.small
      (let r = a.room in let l = copied.long in omega arith) a.short

  module _ {rule : List ℕ} {start end : ℕ} {ys : List ℕ} (d : Done (ExprRight rule start end table t depth) (lent w₁) left ys) where
    turn_next : NextDone (ExprRight rule start end table t depth) w₁ left (back w₁ ys)
    turn_next = next_done turn_few turn_room d

    pub turn_long : length (back w₁ ys) ≡ length w
    turn_long = turn_next.long ∙ copied.long

    turn_kept : Kept 6656 w (back w₁ ys)
    turn_kept j h = turn_next.low j h ∙ copied.before j h

    turn_list : SameRows w 5632 (back w₁ ys) 5632 left
    turn_list = kept_rows 6656 w (back w₁ ys) 5632 left (let f = turn_few in omega arith) turn_kept

    pub turn_open : Open b (back w₁ ys) left b.rows × (12288 ≤ length (back w₁ ys))
    turn_open = (
      open_kept (back w₁ ys) turn_list (open_rows b.rows (sym a.is_open.sized) a.is_open),
      (let r = a.room in let l = turn_long in let e = a.deep in omega arith),
    )

    module _ (how : Leave) (index failed : ℕ) {s : Settled} {w₂ : List ℕ}
        (settles : Settles (class_at how rule table (back w₁ ys) index failed) (back w₁ ys) left b.rows b s w₂) where
      right_class : (q c : ℕ) → Listed w 5632 left q → class_at how rule table (back w₁ ys) index failed q ≡ c → WhenRight rule start end table t depth how index failed w q c
      right_class q c l e = record {
        is = λ x test node for.
            let small : q < 512 = listed_below (rows_small a.is_open.small a.is_open.list_ok) q l in
            let base = ap (meaning rule table) (kept_slot w (back w₁ ys) (λ j h. turn_kept j (omega arith)) q small) in
            let when = (turn_next.here q small (listed_to w w₁ 5632 6656 left copied.rows_copied q l)).is x node in
            sym e ∙ class_when how rule table (back w₁ ys) index failed q (meaning rule table (slot_at w q)) (eval x (row_in table t q)) test base when for;
      }

      pub turn_gives : Sifts (WhenRight rule start end table t depth how index failed w) w left t.rows b s.left s.builder w₂
      turn_gives = settles_sift (WhenRight rule start end table t depth how index failed w) turn_long (λ j h. turn_kept j (omega arith)) turn_list a.is_open.sized settles right_class

-- only one way asks for a true WHEN
asked_true : (how : Leave) → asks_true how ≡ true → how ≡ TrueWhen
asked_true NullBase p = absurd (false≢true p)
asked_true TrueWhen p = refl
asked_true EqualWhen p = absurd (false≢true p)
asked_true Rest p = absurd (false≢true p)

-- a WHEN that is a step: the rows that leave by its index
module _ {table : List ℕ} {t : Table} {depth : ℕ} {w : List ℕ} {left : ℕ} {b : ResultBuilder} (a : Ahead table t w left b depth) where
  pub step_asks : Rows w 5632 left 512 × (5632 + 2 * left ≤ length w)
  step_asks = (
    rows_small a.is_open.small a.is_open.list_ok,
    (let f = a.is_open.list_ok.few in let r = a.room in let d = a.deep in omega arith),
  )

  pub step_turn : {rule : List ℕ} {start end : ℕ} {how : Leave} {index failed : ℕ} {asked served : Bool} (whens : List ℕ) {s : Settled} {w₁ : List ℕ} → asked ≡ asks_true how
      → WhenGives asked rule start end table t w 5632 left served whens → served ≡ true → Settles (class_by whens index) w left b.rows b s w₁
      → Sifts (WhenRight rule start end table t depth how index failed w) w left t.rows b s.left s.builder w₁
  step_turn {rule} {start} {end} {how} {index} {failed} whens by gives all settles =
      settles_sift (WhenRight rule start end table t depth how index failed w) refl (λ j h. refl) (λ i h. refl) a.is_open.sized settles
      (λ q c l e. record { is = λ x test node for. sym e ∙ class_is q (gives.each all q l x depth node) test (subst (λ (y : Leave). TestFor y (meaning rule table (slot_at w q)) test) (asked_true how (sym by ∙ gives.wanted all)) for) })
    where
      taken : (v : Entry) (c : ℕ) (y : Bool) → is_true_entry v ≡ y → c ≡ cond y 1 2 → cond (eqb c 1) index 0 ≡ cond y index 0
      taken v c true p e = ap (λ (k : ℕ). cond (eqb k 1) index 0) e
      taken v c false p e = ap (λ (k : ℕ). cond (eqb k 1) index 0) e

      class_is : (q : ℕ) {x : Expr} {c : ℕ} → WhenIndex x (row_in table t q) c → (test : Test) → test ≡ is_true_test → cond (eqb c 1) index 0 ≡ leaving (passes_test test) index failed (eval x (row_in table t q))
      class_is q {x} {c} i test is =
          taken i.value c (is_true_entry i.value) refl i.index
          ∙ sym (ap₂ (λ (y : Test) (o : Outcome). leaving (passes_test y) index failed o) is i.is)

-- ---- two steps as one

-- nothing is sifted yet
pub sifts_none : {index : ℕ → ℕ → Type 0} {w : List ℕ} {left rows : ℕ} {b : ResultBuilder} → Open b w left rows → ((q : ℕ) → index q 0) → Sifts index w left rows b left b w
sifts_none o zero_right = record {
  long = refl;
  low = λ j h. refl;
  still_open = o;
  stays = λ q l. (l, zero_right q);
  each = λ q l. inl l;
  others = λ q n. refl;
}

pub sifts_more : {first second both : ℕ → ℕ → Type 0} {w w₁ w₂ : List ℕ} {left left₁ left₂ rows : ℕ} {b b₁ b₂ : ResultBuilder}
    → Sifts first w left rows b left₁ b₁ w₁ → Sifts second w₁ left₁ rows b₁ left₂ b₂ w₂
    → ((q c : ℕ) → Listed w 5632 left q → first q 0 → second q c → both q c) → ((q k : ℕ) → Listed w 5632 left q → first q (suc k) → both q (suc k))
    → Sifts both w left rows b left₂ b₂ w₂
sifts_more {first} {second} {both} {w} {w₁} {w₂} {left} {left₁} {left₂} {rows} {b} {b₁} {b₂} f s later earlier = record {
  long = s.long ∙ f.long;
  low = λ j h. s.low j h ∙ f.low j h;
  still_open = s.still_open;
  stays = λ q l.
      let (l₁, c) = s.stays q l in
      let (l₀, z) = f.stays q l₁ in
      (l₀, later q 0 l₀ z c);
  each = λ q l. go q l (f.each q l);
  others = λ q n. s.others q (λ l. n (f.stays q l).0) ∙ f.others q n;
}
  where
    go : (q : ℕ) → Listed w 5632 left q → (Listed w₁ 5632 left₁ q ⊎ ((k : ℕ) × (held_by b₁ q ≡ some (suc k)) × first q (suc k)))
        → Listed w₂ 5632 left₂ q ⊎ ((k : ℕ) × (held_by b₂ q ≡ some (suc k)) × both q (suc k))
    go q l (inl l₁) = ⊎_elim (λ m. inl m) (λ m. inr (m.0, m.1, later q (suc m.0) l (f.stays q l₁).1 m.2)) (s.each q l₁)
    go q l (inr (k, held, right)) = inr (k, s.others q (λ l₁. none_some (sym (f.still_open.free q l₁) ∙ held)) ∙ held, earlier q k l right)

-- ---- branches one after the other

-- what an index says where i branches have been tried
unfoldable pub so_far : ℕ → Branches → Row → Test → Outcome → ℕ → Outcome
so_far i bs row test els zero = eval_branches (drop_branches i bs) row test els
so_far i bs row test els (suc k) = result_at bs row els k

pub record IndexSoFar (rule : List ℕ) (at : ℕ) (table : List ℕ) (t : Table) (depth : ℕ) (how : Leave) (count i : ℕ) (w : List ℕ) (q : ℕ) (c : ℕ) : Type 0 where
  pub is : (bs : Branches) (rest : List Expr) (end : ℕ) (test : Test) (els : Outcome) → TreesAt rule at end (branch_trees bs ++ rest) depth → branch_count bs ≡ count
      → TestFor how (meaning rule table (slot_at w q)) test
      → (c ≤ count + 2) × (eval_branches bs (row_in table t q) test els ≡ so_far i bs (row_in table t q) test els c)

-- where the loop stands: i branches have been tried, and the others stand at the place
pub record Chosen (rule : List ℕ) (at : ℕ) (table : List ℕ) (t : Table) (depth : ℕ) (how : Leave) (count : ℕ) (w : List ℕ) (left : ℕ) (b : ResultBuilder)
    (i place left' : ℕ) (b' : ResultBuilder) (w' : List ℕ) : Type 0 where
  pub few : i ≤ count
  pub behind : BehindGives rule at (2 * i) place
  pub sifts : Sifts (IndexSoFar rule at table t depth how count i w) w left t.rows b left' b' w'

module _ {rule : List ℕ} {at : ℕ} {table : List ℕ} {t : Table} {depth : ℕ} {how : Leave} {count : ℕ} {w : List ℕ} {left : ℕ} {b : ResultBuilder} (a : Ahead table t w left b depth) where
  pub choose_none : Chosen rule at table t depth how count w left b 0 at left b w
  unfolding so_far drop_branches
  choose_none = record {
    few = omega arith;
    behind = behind_none (2 * 0) refl;
    sifts = sifts_none a.is_open (λ q. record { is = λ bs rest end test els trees c for. (omega arith, refl) });
  }

  module _ {i place left₁ : ℕ} {b₁ : ResultBuilder} {w₁ : List ℕ} (s : Chosen rule at table t depth how count w left b i place left₁ b₁ w₁) where
    pub choose_ahead : Ahead table t w₁ left₁ b₁ depth
    choose_ahead = record { deep = a.deep; is_open = s.sifts.still_open; room = (let l = s.sifts.long in let r = a.room in omega arith); short = a.short }

    pub choose_end : count ≤ i → Sifts (BranchesIndex rule at table t depth how count w) w left t.rows b left₁ b₁ w₁
    unfolding so_far eval_branches
    choose_end all = sifts_as s.sifts (λ q c l x. record { is = λ bs rest end test els trees n for. ends q c x bs rest end test els trees n for })
      where
        sifts_as : {first both : ℕ → ℕ → Type 0} {w w₁ : List ℕ} {left left₁ rows : ℕ} {b b₁ : ResultBuilder} → Sifts first w left rows b left₁ b₁ w₁
            → ((q c : ℕ) → Listed w 5632 left q → first q c → both q c) → Sifts both w left rows b left₁ b₁ w₁
        sifts_as f to = record {
          long = f.long;
          low = f.low;
          still_open = f.still_open;
          stays = λ q l. ((f.stays q l).0, to q 0 (f.stays q l).0 (f.stays q l).1);
          each = λ q l. ⊎_elim (λ m. inl m) (λ m. inr (m.0, m.1, to q (suc m.0) l m.2)) (f.each q l);
          others = f.others;
        }

        ends : (q c : ℕ) → IndexSoFar rule at table t depth how count i w q c → (bs : Branches) (rest : List Expr) (end : ℕ) (test : Test) (els : Outcome)
            → TreesAt rule at end (branch_trees bs ++ rest) depth → branch_count bs ≡ count → TestFor how (meaning rule table (slot_at w q)) test
            → (c ≤ count + 2) × (eval_branches bs (row_in table t q) test els ≡ indexed_or bs (row_in table t q) els c)
        ends q zero x bs rest end test els trees n for =
            let (f, e) = x.is bs rest end test els trees n for in
            let here : i ≡ branch_count bs = let k = s.few in omega arith in
            (f, e ∙ ap (λ (j : ℕ). eval_branches (drop_branches j bs) (row_in table t q) test els) here ∙ ap (λ (l : Branches). eval_branches l (row_in table t q) test els) (drop_all bs))
        ends q (suc k) x bs rest end test els trees n for = x.is bs rest end test els trees n for

    module _ (more : i < count) {then next left₂ : ℕ} {b₂ : ResultBuilder} {w₂ : List ℕ} (to-then : EndGives rule place then) (to-next : EndGives rule then next)
        (turned : Sifts (WhenRight rule place then table t depth how (i + 1) (count + 2) w₁) w₁ left₁ t.rows b₁ left₂ b₂ w₂) where
      choose_index : (q c : ℕ) → Listed w 5632 left q → IndexSoFar rule at table t depth how count i w q 0 → WhenRight rule place then table t depth how (i + 1) (count + 2) w₁ q c
          → IndexSoFar rule at table t depth how count (i + 1) w q c
      unfolding so_far eval_branches
      choose_index q c l x right = record {
        is = λ bs rest end test els trees n for.
            let at_i = branch_at i bs (omega arith) in
            let small : q < 512 = listed_below (rows_small a.is_open.small a.is_open.list_ok) q l in
            let same = ap (meaning rule table) (kept_slot w w₁ s.sifts.low q small) in
            let for' = subst (λ (o : Outcome). TestFor how o test) (sym same) for in
            let (when-node, others) = first_tree to-then (branch_stands rest s.behind at_i trees) in
            let before = (x.is bs rest end test els trees n for).1 ∙ ap (λ (y : Branches). eval_branches y (row_in table t q) test els) at_i.here in
            by bs test els at_i n c (eval at_i.when_is (row_in table t q)) refl (right.is at_i.when_is test when-node for') before;
      }
        where
          by : (bs : Branches) (test : Test) (els : Outcome) (x : BranchAt i bs) → branch_count bs ≡ count → (c : ℕ) (o : Outcome) → eval x.when_is (row_in table t q) ≡ o
              → c ≡ leaving (passes_test test) (i + 1) (count + 2) (eval x.when_is (row_in table t q))
              → eval_branches bs (row_in table t q) test els ≡ chosen test (eval x.when_is (row_in table t q)) (eval x.then_is (row_in table t q)) (eval_branches x.later (row_in table t q) test els)
              → (c ≤ count + 2) × (eval_branches bs (row_in table t q) test els ≡ so_far (i + 1) bs (row_in table t q) test els c)
          by bs test els x n c unfit p e before =
              let is : c ≡ suc (suc (branch_count bs)) = e ∙ ap (leaving (passes_test test) (i + 1) (count + 2)) p ∙ (let k : count + 2 ≡ suc (suc (branch_count bs)) = omega arith in k) in (
                omega arith,
                before ∙ ap (λ (o : Outcome). chosen test o (eval x.then_is (row_in table t q)) (eval_branches x.later (row_in table t q) test els)) p
                    ∙ sym (result_failed bs (row_in table t q) els) ∙ ap (so_far (i + 1) bs (row_in table t q) test els) (sym is),
              )
          by bs test els x n c (entry v) p e before = passed (passes test v) refl
            where
              later_is : eval_branches bs (row_in table t q) test els ≡ cond (passes test v) (eval x.then_is (row_in table t q)) (eval_branches x.later (row_in table t q) test els)
              later_is = before ∙ ap (λ (o : Outcome). chosen test o (eval x.then_is (row_in table t q)) (eval_branches x.later (row_in table t q) test els)) p

              class_is : c ≡ cond (passes test v) (i + 1) 0
              class_is = e ∙ ap (leaving (passes_test test) (i + 1) (count + 2)) p

              passed : (y : Bool) → passes test v ≡ y → (c ≤ count + 2) × (eval_branches bs (row_in table t q) test els ≡ so_far (i + 1) bs (row_in table t q) test els c)
              passed true z =
                  let is : c ≡ suc i = class_is ∙ ap (λ (y : Bool). cond y (i + 1) 0) z ∙ (let k : i + 1 ≡ suc i = omega arith in k) in (
                    omega arith,
                    later_is ∙ ap (λ (y : Bool). cond y (eval x.then_is (row_in table t q)) (eval_branches x.later (row_in table t q) test els)) z
                        ∙ sym (x.result (row_in table t q) els) ∙ ap (so_far (i + 1) bs (row_in table t q) test els) (sym is),
                  )
              passed false z =
                  let is : c ≡ 0 = class_is ∙ ap (λ (y : Bool). cond y (i + 1) 0) z in
                  let one : suc i ≡ i + 1 = omega arith in (
                    omega arith,
                    later_is ∙ ap (λ (y : Bool). cond y (eval x.then_is (row_in table t q)) (eval_branches x.later (row_in table t q) test els)) z
                        ∙ ap (λ (y : Branches). eval_branches y (row_in table t q) test els) (sym x.behind ∙ ap (λ (j : ℕ). drop_branches j bs) one)
                        ∙ ap (so_far (i + 1) bs (row_in table t q) test els) (sym is),
                  )

      held_index : (q k : ℕ) → Listed w 5632 left q → IndexSoFar rule at table t depth how count i w q (suc k) → IndexSoFar rule at table t depth how count (i + 1) w q (suc k)
      unfolding so_far
      held_index q k l x = record { is = x.is }

      pub choose_more : Chosen rule at table t depth how count w left b (i + 1) next left₂ b₂ w₂
      choose_more = record {
        few = omega arith;
        behind = behind_two (2 * i) (2 * (i + 1)) (omega arith) s.behind to-then to-next;
        sifts = sifts_more s.sifts turned choose_index held_index;
      }
