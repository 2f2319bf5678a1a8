-- Taking what the rows' indexes stand for: the rows of an index in the next frame, and their slots back. Assumes nothing.
use Rattle.std.proofs.Common.{◌≡◌, ℕ, zero, suc, ◌+◌, ◌-◌, ◌*◌, ◌<◌, ◌≤◌, true, ◌⊎◌, List, ◌++◌, length, get_or, sym, refl, ap, ◌∙◌, subst, inl, inr, arith}
use native.Mathlib.Decide.{ℕ_discrete, dec_lt}
use Rattle.layout.specs.Bytes.{byte}
use Rattle.scalar.specs.declared.value.Value.{Value}
use Rattle.scalar.specs.declared.types.DataType.{DataType}
use Rattle.scalar.specs.Entry.{entry, on_entry}
use Rattle.scalar.specs.TryCast.{try_cast_entry}
use Rattle.scalar.specs.Value.{meaning, Gives}
use Rattle.rule.specs.Tree.{Branches, Optional, absent, present, branch_count}
use Rattle.rule.specs.Row.{eval, eval_else}
use Rattle.rule.specs.Strategy.{is_literal}
use Rattle.rule.specs.Walks.{branch_trees, optional_trees, TreesAt, EndGives, BehindGives}
use Rattle.rule.proofs.NodeLaws.{trees_one, trees_none, trees_some}
use Rattle.rule.proofs.WalkLaws.{first_two, branches_length}
use Rattle.table.specs.declared.places.Table.{Table}
use Rattle.case.specs.declared.rows.Op.TheVariants.{TryCast}
use Rattle.case.specs.Frame.{row_at, slot_at, next_slot, Rows, Listed, Filled, FilledFrom, Fillable, FillableFrom, operation_of}
use Rattle.case.specs.Taking.{Picked, HasIndex}
use Rattle.case.specs.Evaluation.{Framed, Done, row_in, ExprRight, indexed, Takes, TakeRight}
use Rattle.case.specs.Results.{else_known, index_known, StartRight, ThenRight, ElseRight}
use Rattle.case.proofs.FrameLaws.{Kept, SameRows, kept_rows, kept_slot, listed_to, listed_from, rows_to, rows_small, listed_below, framed_fillable, framed_kept, done_filled, done_done, lent, back, lent_rows, lent_slot, lent_framed, NextDone, next_done}
use Rattle.case.proofs.CaseLaws.{result_else}
use Rattle.case.proofs.BranchLaws.{branch_at, branch_stands, behind_none, behind_two, known_then, known_else, known_failed}
use Rattle.case.proofs.ResultLaws.{literal_node}

-- ---- the rows of an index

module _ {table : List ℕ} {t : Table} {depth : ℕ} {w w₁ : List ℕ} {n m : ℕ} (values : List ℕ) {k : ℕ} (f : Framed table t w n (depth + 1)) (deep : 0 < depth) (p : Picked (HasIndex values k) w n m w₁) where
  pub picked_few : m ≤ 512
  picked_few = let a = p.few in let b = f.list_ok.few in omega arith

  picked_rows : Rows w₁ 6656 m t.rows
  picked_rows = record {
    few = picked_few;
    below = λ i h. listed_below f.list_ok (row_at w₁ 6656 i) (p.picked (row_at w₁ 6656 i) (i, h, refl)).0;
    rising = p.rising;
  }

  pub picked_room : 13312 ≤ length w₁
  picked_room = let r = f.room in let l = p.long in omega arith

  pub picked_asks : Framed table t (lent w₁) m depth
  picked_asks = lent_framed depth picked_rows f.small (let r = f.room in let l = p.long in omega arith) f.short

  pub picked_next : {right : ℕ → Value → Type 0} {ys : List ℕ} → Done right (lent w₁) m ys → NextDone right w₁ m (back w₁ ys)
  picked_next d = next_done picked_few picked_room d

  -- the next frame, once it is back, as it is
  module _ {right : ℕ → Value → Type 0} {w₂ : List ℕ} (d : NextDone right w₁ m w₂) where
    next_long : length w₂ ≡ length w
    next_long = d.long ∙ p.long

    next_kept : Kept 6656 w w₂
    next_kept j h = d.low j h ∙ p.low j h

    next_rows : Rows w₂ 6656 m t.rows
    next_rows = rows_to w₁ w₂ 6656 6656 m t.rows d.same_rows picked_rows

    pub next_asks : FillableFrom 6656 w₂ m × (12288 ≤ length w₂)
    next_asks = let r = f.room in let l = next_long in let q = picked_few in (
      record { rows_ok = rows_small f.small next_rows; room = omega arith; list_in = omega arith; clear = inr (omega arith) },
      omega arith,
    )

    pub next_fillable : Fillable (lent w₂) m
    next_fillable = framed_fillable {table = table} (lent_framed {t = t} depth next_rows f.small (let r = f.room in let l = next_long in omega arith) f.short) deep

    pub next_room : 13312 ≤ length w₂
    next_room = let r = f.room in let l = next_long in omega arith

    -- a step on the slots of the next frame
    pub next_again : {op : ℕ → Value → Type 0} {right' : ℕ → Value → Type 0} {zs : List ℕ} → Filled op (lent w₂) m zs
        → ((r : ℕ) (v : Value) → r < 512 → right r (slot_at (lent w₂) r) → op r v → right' r v) → NextDone right' w₁ m (back w₂ zs)
    next_again {op} {right'} {zs} e fits = record {
      long = again.long ∙ d.long;
      low = λ j h. again.low j h ∙ d.low j h;
      same_rows = λ i h. again.same_rows i h ∙ d.same_rows i h;
      here = λ r h l. again.here r h (listed_to w₁ w₂ 6656 6656 m d.same_rows r l);
    }
      where
        step : Done right' (lent w₂) m zs
        step = done_filled picked_few refl (λ j h. refl) e (λ r v l g.
            let l₁ : Listed w₁ 6656 m r = listed_from w₁ w₂ 6656 6656 m d.same_rows r (listed_from w₂ (lent w₂) 6656 0 m (lent_rows w₂ m) r l) in
            let small : r < 512 = listed_below (rows_small f.small picked_rows) r l₁ in
            fits r v small (subst (right r) (lent_slot w₂ r small) (d.here r small l₁)) g)

        again : NextDone right' w₂ m (back w₂ zs)
        again = next_done picked_few next_room step

    -- the slots back
    pub next_takes : {w₃ : List ℕ} → FilledFrom 6656 (λ r v. v ≡ next_slot w₂ r) w₂ m w₃ → Takes values k (λ r old v. right r v) w n w₃
    next_takes {w₃} e = record {
      long = e.long ∙ next_long;
      here = λ r l i.
          let small : r < 512 = listed_below (rows_small f.small f.list_ok) r l in
          let l₁ = p.all r l i in
          subst (right r) (sym (e.here r (listed_to w₁ w₂ 6656 6656 m d.same_rows r l₁))) (d.here r small l₁);
      others = λ r l no.
          let small : r < 512 = listed_below (rows_small f.small f.list_ok) r l in
          e.others r small (λ l₂. no (p.picked r (listed_from w₁ w₂ 6656 6656 m d.same_rows r l₂)).1)
          ∙ kept_slot w w₂ (λ j h. next_kept j (omega arith)) r small;
      low = λ j h. e.low j h ∙ next_kept j (omega arith);
    }

-- nothing is done where the slots have the outcome already
takes_none : {right : ℕ → Value → Value → Type 0} {values : List ℕ} {k : ℕ} {w : List ℕ} {n : ℕ} → ((r : ℕ) (v : Value) → right r v v) → Takes values k right w n w
takes_none {w = w} right = record { long = refl; here = λ r l i. right r (slot_at w r); others = λ r l no. refl; low = λ j h. refl }

-- a THEN that is a literal
pub then_known : {rule : List ℕ} {start end : ℕ} {table : List ℕ} {t : Table} {depth : ℕ} {values : List ℕ} {k : ℕ} {w : List ℕ} {n : ℕ} → byte rule start ≡ 17
    → Takes values k (ThenRight rule start end table t depth) w n w
then_known is = takes_none (λ r v. record { is = λ e node old. old (literal_node is _ node) })

-- any other
pub then_takes : {rule : List ℕ} {start end : ℕ} {table : List ℕ} {t : Table} {depth : ℕ} {values : List ℕ} {k : ℕ} {w w' : List ℕ} {n : ℕ}
    → Takes values k (λ r old v. ExprRight rule start end table t depth r v) w n w' → Takes values k (ThenRight rule start end table t depth) w n w'
then_takes d = record { long = d.long; here = λ r l i. record { is = λ e node old. (d.here r l i).is e node }; others = d.others; low = d.low }

-- ELSE: where there is none, or a literal
pub else_none : {rule : List ℕ} {at end : ℕ} {table : List ℕ} {t : Table} {depth : ℕ} {to : DataType} {values : List ℕ} {k : ℕ} {w : List ℕ} {n : ℕ} → at ≡ end
    → Takes values k (ElseRight rule at end table t depth to) w n w
else_none {rule} {at} {end} {table} {t} {depth} {to} same = takes_none (λ r v. record { is = λ els trees old. old (go els trees) })
  where
    go : (els : Optional) → TreesAt rule at end (optional_trees els) depth → else_known els ≡ true
    go absent trees = refl
    go (present e) trees = absurd (let k = trees_some trees in omega arith)

pub else_known_lem : {rule : List ℕ} {at end : ℕ} {table : List ℕ} {t : Table} {depth : ℕ} {to : DataType} {values : List ℕ} {k : ℕ} {w : List ℕ} {n : ℕ} → byte rule at ≡ 17
    → Takes values k (ElseRight rule at end table t depth to) w n w
else_known_lem {rule} {at} {end} {table} {t} {depth} {to} is = takes_none (λ r v. record { is = λ els trees old. old (go els trees) })
  where
    go : (els : Optional) → TreesAt rule at end (optional_trees els) depth → else_known els ≡ true
    go absent trees = refl
    go (present e) trees = literal_node is e (trees_one trees)

-- its outcome, cast
pub else_cast : {rule : List ℕ} {at end : ℕ} {table : List ℕ} {t : Table} {depth : ℕ} {to : DataType} {r : ℕ} {u v : Value} (old : Value) → (at ≡ end → ⊥) → ExprRight rule at end table t depth r u
    → Gives (operation_of (TryCast to)) u v → ElseRight rule at end table t depth to r old v
unfolding eval_else
else_cast {rule} {at} {end} {table} {t} {depth} {to} {r} {u} {v} old there right g = record { is = λ els trees o. go els trees }
  where
    go : (els : Optional) → TreesAt rule at end (optional_trees els) depth → meaning rule table v ≡ eval_else els (row_in table t r) to
    go absent trees = absurd (there (trees_none trees))
    go (present e) trees = g.means rule table ∙ ap (on_entry (λ x. entry (try_cast_entry to x))) (right.is e (trees_one trees))

-- ELSE in the next frame, cast there, and its slots back
module _ {rule : List ℕ} {at end : ℕ} {table : List ℕ} {t : Table} {depth : ℕ} {w w₁ : List ℕ} {n m : ℕ} (values : List ℕ) {k : ℕ} (f : Framed table t w n (depth + 1)) (deep : 0 < depth)
    (p : Picked (HasIndex values k) w n m w₁) (there : at ≡ end → ⊥) {ys : List ℕ} (d : Done (ExprRight rule at end table t depth) (lent w₁) m ys) where
  pub else_next : NextDone (ExprRight rule at end table t depth) w₁ m (back w₁ ys)
  else_next = picked_next values f deep p d

  module _ (to : DataType) {zs : List ℕ} (e : Filled (λ r x. Gives (operation_of (TryCast to)) (slot_at (lent (back w₁ ys)) r) x) (lent (back w₁ ys)) m zs) where
    pub else_again : NextDone (λ r v. (old : Value) → ElseRight rule at end table t depth to r old v) w₁ m (back (back w₁ ys) zs)
    else_again = next_again values f deep p else_next e (λ r v h right g old. else_cast old there right g)

    pub else_takes : {w₃ : List ℕ} → FilledFrom 6656 (λ r v. v ≡ next_slot (back (back w₁ ys) zs) r) (back (back w₁ ys) zs) m w₃ → Takes values k (ElseRight rule at end table t depth to) w n w₃
    else_takes g =
        let x = next_takes values f deep p else_again g in
        record { long = x.long; here = λ r l i. x.here r l i (slot_at w r); others = x.others; low = x.low }

-- ---- one index after the other

-- where the loop stands: the indexes from 1 to below k have been taken
pub record Taken (rule : List ℕ) (at end : ℕ) (table : List ℕ) (t : Table) (depth count : ℕ) (to : DataType) (values w : List ℕ) (n k place : ℕ) (w' : List ℕ) : Type 0 where
  pub first : 1 ≤ k
  pub few : k ≤ count + 1
  pub behind : BehindGives rule at (2 * (k - 1)) place
  pub long : length w' ≡ length w
  pub low : (j : ℕ) → j < 1024 → byte w' j ≡ byte w j
  pub done : (r : ℕ) → Listed w 0 n r → 0 < get_or values r 0 → get_or values r 0 < k → TakeRight rule at end table t depth count to values r (slot_at w' r)
  pub started : (r : ℕ) → Listed w 0 n r → StartRight rule at end count to values r (slot_at w r)
  pub open_rows : (r : ℕ) → Listed w 0 n r → (get_or values r 0 ≡ 0) ⊎ (k ≤ get_or values r 0) → slot_at w' r ≡ slot_at w r

-- the slots that the loop begins with
module _ {table : List ℕ} {t : Table} {depth : ℕ} {right : ℕ → Value → Type 0} {w w₁ : List ℕ} {n : ℕ} (f : Framed table t w n depth) (d : Filled right w n w₁) where
  pub start_framed : Framed table t w₁ n depth
  start_framed = framed_kept f depth (omega arith) w₁ d.long d.low

  start_list : SameRows w 0 w₁ 0 n
  start_list = kept_rows 1024 w w₁ 0 n (let q = f.list_ok.few in omega arith) d.low

  pub start_done : {right' : ℕ → Value → Type 0} {w₂ : List ℕ} → Done right' w₁ n w₂ → Done right' w n w₂
  start_done e = done_done f.list_ok.few d.long d.low e (λ r v l x. x)

pub take_none : {rule : List ℕ} {at end : ℕ} {table : List ℕ} {t : Table} {depth count : ℕ} {to : DataType} {values w w₁ : List ℕ} {n : ℕ} → Framed table t w n (depth + 1)
    → Filled (StartRight rule at end count to values) w n w₁ → Taken rule at end table t depth count to values w₁ n 1 at w₁
take_none {rule} {at} {w = w} {w₁} {n} f d = record {
  first = omega arith;
  few = omega arith;
  behind = behind_none (2 * (1 - 1)) refl;
  long = refl;
  low = λ j h. refl;
  done = λ r l a b. absurd (omega arith);
  started = λ r l. d.here r (listed_from w w₁ 0 0 n (start_list f d) r l);
  open_rows = λ r l o. refl;
}

module _ {rule : List ℕ} {at end : ℕ} {table : List ℕ} {t : Table} {depth count : ℕ} {to : DataType} {values w : List ℕ} {n : ℕ} (f : Framed table t w n (depth + 1)) where
  module _ {k place : ℕ} {w₁ : List ℕ} (s : Taken rule at end table t depth count to values w n k place w₁) where
    pub take_framed : Framed table t w₁ n (depth + 1)
    take_framed = framed_kept f (depth + 1) (omega arith) w₁ s.long s.low

    same_list : SameRows w 0 w₁ 0 n
    same_list = kept_rows 1024 w w₁ 0 n (let q = f.list_ok.few in omega arith) s.low

    module _ (more : k < count + 1) {then next : ℕ} {w₂ : List ℕ} (to-then : EndGives rule place then) (to-next : EndGives rule then next)
        (d : Takes values k (ThenRight rule then next table t depth) w₁ n w₂) where
      right_here : (r : ℕ) → Listed w 0 n r → get_or values r 0 ≡ k → (v : Value) → ThenRight rule then next table t depth r (slot_at w₁ r) v → TakeRight rule at end table t depth count to values r v
      right_here r l i v x = record {
        is = λ bs els trees c small.
            let q = s.first in
            let at_i = branch_at (k - 1) bs (omega arith) in
            let here = branch_stands (optional_trees els) s.behind at_i trees in
            let index_is : get_or values r 0 ≡ suc (k - 1) = omega arith in
            let Known-is = ap (index_known bs els) index_is ∙ known_then (k - 1) bs els at_i.here in
            let old : is_literal at_i.then_is ≡ true → meaning rule table (slot_at w₁ r) ≡ eval at_i.then_is (row_in table t r) = λ lit.
            ap (meaning rule table) (s.open_rows r l (inr (omega arith)))
            ∙ (s.started r l).is bs els depth (row_in table t r) table trees c small (Known-is ∙ lit)
            ∙ ap (indexed bs (row_in table t r) (eval_else els (row_in table t r) to)) index_is
            ∙ at_i.result (row_in table t r) (eval_else els (row_in table t r) to) in
            x.is at_i.then_is (first_two to-then to-next here).1 old
            ∙ sym (at_i.result (row_in table t r) (eval_else els (row_in table t r) to))
            ∙ ap (indexed bs (row_in table t r) (eval_else els (row_in table t r) to)) (sym index_is);
      }

      take_done : (r : ℕ) → Listed w 0 n r → 0 < get_or values r 0 → get_or values r 0 < k + 1 → Dec (get_or values r 0 ≡ k) → TakeRight rule at end table t depth count to values r (slot_at w₂ r)
      take_done r l a b (yes i) = right_here r l i (slot_at w₂ r) (d.here r (listed_to w w₁ 0 0 n same_list r l) i)
      take_done r l a b (no i) =
          subst (TakeRight rule at end table t depth count to values r) (sym (d.others r (listed_to w w₁ 0 0 n same_list r l) i)) (s.done r l a (omega arith))

      not_now : (r : ℕ) → (get_or values r 0 ≡ 0) ⊎ (k + 1 ≤ get_or values r 0) → get_or values r 0 ≡ k → ⊥
      not_now r (inl z) i = let q = s.first in omega arith
      not_now r (inr z) i = omega arith

      still : (r : ℕ) → (get_or values r 0 ≡ 0) ⊎ (k + 1 ≤ get_or values r 0) → (get_or values r 0 ≡ 0) ⊎ (k ≤ get_or values r 0)
      still r (inl z) = inl z
      still r (inr z) = inr (omega arith)

      pub take_more : Taken rule at end table t depth count to values w n (k + 1) next w₂
      take_more = record {
        first = omega arith;
        few = omega arith;
        behind = behind_two (2 * (k - 1)) (2 * (k + 1 - 1)) (omega (arith, s.first)) s.behind to-then to-next;
        long = d.long ∙ s.long;
        low = λ j h. d.low j h ∙ s.low j h;
        done = λ r l a b. take_done r l a b (ℕ_discrete (get_or values r 0) k);
        started = s.started;
        open_rows = λ r l o. d.others r (listed_to w w₁ 0 0 n same_list r l) (not_now r o) ∙ s.open_rows r l (still r o);
      }

    -- behind the THENs comes ELSE
    module _ (all : count + 1 ≤ k) {w₂ : List ℕ} (d : Takes values (count + 1) (ElseRight rule place end table t depth to) w₁ n w₂) where
      take_row : (r : ℕ) → Listed w 0 n r → (bs : Branches) (els : Optional) → TreesAt rule at end (branch_trees bs ++ optional_trees els) depth → branch_count bs ≡ count → get_or values r 0 ≤ count + 2
          → meaning rule table (slot_at w₂ r) ≡ indexed bs (row_in table t r) (eval_else els (row_in table t r) to) (get_or values r 0)
      take_row r l bs els trees c small = go (get_or values r 0) refl (ℕ_discrete (get_or values r 0) (count + 1)) (dec_lt (get_or values r 0) k)
        where
          l₁ : Listed w₁ 0 n r
          l₁ = listed_to w w₁ 0 0 n same_list r l

          -- what the row was started with, where its index is known
          started : (get_or values r 0 ≡ 0) ⊎ (k ≤ get_or values r 0) → index_known bs els (get_or values r 0) ≡ true
              → meaning rule table (slot_at w₁ r) ≡ indexed bs (row_in table t r) (eval_else els (row_in table t r) to) (get_or values r 0)
          started o known = ap (meaning rule table) (s.open_rows r l o) ∙ (s.started r l).is bs els depth (row_in table t r) table trees c small known

          go : (i : ℕ) → get_or values r 0 ≡ i → Dec (get_or values r 0 ≡ count + 1) → Dec (get_or values r 0 < k)
              → meaning rule table (slot_at w₂ r) ≡ indexed bs (row_in table t r) (eval_else els (row_in table t r) to) (get_or values r 0)
          go zero i (yes e) b = absurd (omega arith)
          go zero i (no e) b = ap (meaning rule table) (d.others r l₁ e) ∙ started (inl i) (ap (index_known bs els) i)
          go (suc j) i (yes e) b =
              let else-trees = s.behind.stand end (branch_trees bs) (optional_trees els) depth (let q = branches_length bs in let x = s.few in omega arith) trees in
              let index_is : get_or values r 0 ≡ suc (branch_count bs) = omega arith in
              let els-is = ap (indexed bs (row_in table t r) (eval_else els (row_in table t r) to)) index_is ∙ result_else bs (row_in table t r) (eval_else els (row_in table t r) to) in
              let old : else_known els ≡ true → meaning rule table (slot_at w₁ r) ≡ eval_else els (row_in table t r) to = λ known. started (inr (omega (arith, s.few))) (ap (index_known bs els) index_is ∙ known_else bs els ∙ known) ∙ els-is in
              (d.here r l₁ e).is els else-trees old ∙ sym els-is
          go (suc j) i (no e) (yes b) = ap (meaning rule table) (d.others r l₁ e) ∙ (s.done r l (omega arith) b).is bs els trees c small
          go (suc j) i (no e) (no b) =
              let last : get_or values r 0 ≡ suc (suc (branch_count bs)) = let x = s.few in omega arith in
              ap (meaning rule table) (d.others r l₁ e) ∙ started (inr (omega arith)) (ap (index_known bs els) last ∙ known_failed bs els)

      pub take_end : Done (TakeRight rule at end table t depth count to values) w n w₂
      take_end = record {
        long = d.long ∙ s.long;
        here = λ r l. record { is = take_row r l };
        low = λ j h. d.low j h ∙ s.low j h;
      }
