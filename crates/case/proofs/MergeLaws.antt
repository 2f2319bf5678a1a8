-- Branches over an open list: each row's index is chosen, ELSE takes what is left, and what the indexes stand for is taken. Assumes nothing.
use Rattle.std.proofs.Common.{◌≡◌, ℕ, suc, ◌+◌, ◌*◌, ◌<◌, ◌≤◌, ◌⊎◌, List, ◌++◌, length, get_or, sym, refl, ap, ◌∙◌, subst, inl, inr, arith}
use mathlib.Core.Option.{some}
use native.Mathlib.Decide.{ℕ_discrete}
use Rattle.scalar.specs.declared.value.Value.{Value}
use Rattle.scalar.specs.declared.types.DataType.{DataType}
use Rattle.scalar.specs.Entry.{null, entry}
use Rattle.scalar.specs.Value.{meaning}
use Rattle.rule.specs.Tree.{Branches, Optional, absent, present, branch_count}
use Rattle.rule.specs.Row.{Test, eval_branches, eval_else}
use Rattle.rule.specs.Walks.{branch_trees, optional_trees, TreesAt, BehindGives}
use Rattle.rule.proofs.NodeLaws.{trees_some}
use Rattle.rule.proofs.WalkLaws.{branches_length}
use Rattle.table.specs.declared.places.Table.{Table}
use Rattle.builder.specs.declared.ResultBuilder.{ResultBuilder}
use Rattle.builder.specs.Builder.{or_else}
use Rattle.case.specs.declared.settle.Leave.{Leave}
use Rattle.case.specs.declared.settle.Settled.{Settled}
use Rattle.case.specs.Frame.{slot_at, Listed}
use Rattle.case.specs.Choosing.{held_by, Open, Settles}
use Rattle.case.specs.Evaluation.{Framed, Done, Ahead, row_in, indexed, TestFor, Sifts, BranchesIndex, TakeRight, MergedRight, ElseGives}
use Rattle.case.proofs.FrameLaws.{none_some, Kept, listed_below, framed_kept, done_done}
use Rattle.case.proofs.CaseLaws.{result_else}

-- ---- ELSE takes what is left

module _ {rule : List ℕ} {at end count place : ℕ} {w : List ℕ} {left : ℕ} {b : ResultBuilder} {values : List ℕ} (behind : BehindGives rule at (2 * count) place) (o : Open b w left b.rows) where
  pub values_none : place ≡ end → ((q : ℕ) → q < b.rows → get_or values q 0 ≡ or_else 0 (held_by b q)) → ElseGives rule at end count w left b.rows b values w
  values_none same is = record {
    place = place;
    behind = behind;
    gives = record {
      long = refl;
      low = λ j h. refl;
      taken = λ no r l. absurd (no same);
      none_taken = λ p r l. is r (listed_below o.list_ok r l) ∙ ap (or_else 0) (o.free r l);
      others = λ r h no. is r h;
    };
  }

  pub values_some : {w' : List ℕ} {index : ℕ} {s : Settled} → (place ≡ end → ⊥) → index ≡ count + 1 → Settles (λ q. index) w left b.rows b s w'
      → ((q : ℕ) → q < s.builder.rows → get_or values q 0 ≡ or_else 0 (held_by s.builder q)) → ElseGives rule at end count w left b.rows b values w'
  values_some {index = index} {s = s} there i settles is = record {
    place = place;
    behind = behind;
    gives = record {
      long = settles.long;
      low = settles.low;
      taken = λ no r l. is r (fits r (listed_below o.list_ok r l)) ∙ ap (or_else 0) (settles.gone r l (λ z. omega arith)) ∙ i;
      none_taken = λ p r l. absurd (there p);
      others = λ r h no. is r (fits r h) ∙ ap (or_else 0) (settles.others r no);
    };
  }
    where
      fits : (r : ℕ) → r < b.rows → r < s.builder.rows
      fits r h = let e = settles.still_open.sized in omega arith

-- what `settle` asks with ELSE's index, and its builder's rows
pub settled_small : {class : ℕ → ℕ} {w w' : List ℕ} {left rows : ℕ} {b : ResultBuilder} {s : Settled} → Settles class w left rows b s w' → s.builder.rows ≤ 512
settled_small settles = let e = settles.still_open.sized in let k = settles.still_open.small in omega arith

-- ---- the whole

module _ {table : List ℕ} {t : Table} {w : List ℕ} {n left depth : ℕ} {b : ResultBuilder} (f : Framed table t w n (depth + 1)) (deep : 0 < depth) (o : Open b w left t.rows) where
  pub branches_ahead : Ahead table t w left b depth
  branches_ahead = record { deep = deep; is_open = o; room = f.room; short = f.short }

  module _ {rule : List ℕ} {at : ℕ} {how : Leave} {count : ℕ} {s : Settled} {w₁ : List ℕ}
      (sifts : Sifts (BranchesIndex rule at table t depth how count w) w left t.rows b s.left s.builder w₁) where
    pub branches_open : Open s.builder w₁ s.left s.builder.rows × (12288 ≤ length w₁)
    branches_open = (
      subst (Open s.builder w₁ s.left) (sym sifts.still_open.sized) sifts.still_open,
      (let r = f.room in let l = sifts.long in omega arith),
    )

    module _ {end : ℕ} {values w₂ : List ℕ} (e : ElseGives rule at end count w₁ s.left s.builder.rows s.builder values w₂) where
      else_long : length w₂ ≡ length w
      else_long = e.gives.long ∙ sifts.long

      else_kept : Kept 1024 w w₂
      else_kept j h = e.gives.low j (omega arith) ∙ sifts.low j (omega arith)

      pub branches_framed : Framed table t w₂ n (depth + 1)
      branches_framed = framed_kept f (depth + 1) (omega arith) w₂ else_long else_kept

      -- the index of a row that is held
      held_value : (r : ℕ) → Listed w 0 n r → (c : ℕ) → held_by s.builder r ≡ some c → get_or values r 0 ≡ c
      held_value r l c h =
          let below : r < s.builder.rows = let k = listed_below f.list_ok r l in let z = sifts.still_open.sized in omega arith in
          e.gives.others r below (λ m. none_some (sym (sifts.still_open.free r m) ∙ h)) ∙ ap (or_else 0) h

      module _ {to : DataType} {r : ℕ} {v : Value} (l : Listed w 0 n r) (right : TakeRight rule at end table t depth count to values r v) where
        by_index : (c : ℕ) → get_or values r 0 ≡ c → c ≤ count + 2 → (bs : Branches) (els : Optional) → TreesAt rule at end (branch_trees bs ++ optional_trees els) depth → branch_count bs ≡ count
            → meaning rule table v ≡ indexed bs (row_in table t r) (eval_else els (row_in table t r) to) c
        by_index c i small bs els trees k = right.is bs els trees k (omega arith) ∙ ap (indexed bs (row_in table t r) (eval_else els (row_in table t r) to)) i

        -- a row that no branch took
        left_over : (bs : Branches) (els : Optional) → TreesAt rule at end (branch_trees bs ++ optional_trees els) depth → branch_count bs ≡ count → Listed w₁ 5632 s.left r
            → Dec (e.place ≡ end) → meaning rule table v ≡ eval_else els (row_in table t r) to
        unfolding eval_else
        left_over bs els trees c m (no there) =
            let i : get_or values r 0 ≡ suc (branch_count bs) = e.gives.taken there r m ∙ (let k : count + 1 ≡ suc (branch_count bs) = omega arith in k) in
            by_index (suc (branch_count bs)) i (omega arith) bs els trees c ∙ result_else bs (row_in table t r) (eval_else els (row_in table t r) to)
        left_over bs els trees c m (yes same) =
            by_index 0 (e.gives.none_taken same r m) (omega arith) bs els trees c
            ∙ absent_else els (e.behind.stand end (branch_trees bs) (optional_trees els) depth (let q = branches_length bs in omega arith) trees)
          where
            absent_else : (els : Optional) → TreesAt rule e.place end (optional_trees els) depth → entry null ≡ eval_else els (row_in table t r) to
            absent_else absent trees = refl
            absent_else (present x) trees = absurd (let k = trees_some trees in omega arith)

        merged : MergedRight rule at end table t depth how count to w left b r v
        merged = record {
          of_open = λ m. record { is = λ bs els test trees c for. go bs els test trees c for m (sifts.each r m) };
          of_held = λ c h small bs els trees k.
              by_index c (held_value r l c (sifts.others r (λ m. none_some (sym (o.free r m) ∙ h)) ∙ h)) small bs els trees k;
        }
          where
            go : (bs : Branches) (els : Optional) (test : Test) → TreesAt rule at end (branch_trees bs ++ optional_trees els) depth → branch_count bs ≡ count
                → TestFor how (meaning rule table (slot_at w r)) test → Listed w 5632 left r
                → (Listed w₁ 5632 s.left r ⊎ ((k : ℕ) × (held_by s.builder r ≡ some (suc k)) × BranchesIndex rule at table t depth how count w r (suc k)))
                → meaning rule table v ≡ eval_branches bs (row_in table t r) test (eval_else els (row_in table t r) to)
            go bs els test trees c for m (inl m₁) =
                left_over bs els trees c m₁ (ℕ_discrete e.place end)
                ∙ sym ((sifts.stays r m₁).1.is bs (optional_trees els) end test (eval_else els (row_in table t r) to) trees c for).1
            go bs els test trees c for m (inr (k, h, x)) =
                let (small, is) = x.is bs (optional_trees els) end test (eval_else els (row_in table t r) to) trees c for in
                by_index (suc k) (held_value r l (suc k) h) small bs els trees c ∙ sym is

      pub branches_gives : {to : DataType} {w₃ : List ℕ} → Done (TakeRight rule at end table t depth count to values) w₂ n w₃
          → Done (MergedRight rule at end table t depth how count to w left b) w n w₃
      branches_gives d = done_done f.list_ok.few else_long else_kept d (λ r v l right. merged l right)
