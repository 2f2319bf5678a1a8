-- Choosing, in the work buffer: which rows leave the open list of a CASE, and with which index of the builder (01, Strategies: `ResultBuilder`;
-- What changes shape: one index a row).
use Rattle.std.specs.Prelude.{◌≡◌, refl, ℕ, ◌<◌, ◌≤◌, Bool, true, false, cond, List, [], length, ◌==◌, ◌≢◌, slice_index, slice_index_or}
use Rattle.std.proofs.Common.{ap}
use Rattle.std.proofs.Math.Option.{Option, some, none}
use Rattle.layout.specs.Bytes.{byte}
use Rattle.scalar.specs.Entry.{Outcome, entry, unfit, is_null, is_true_entry, on_entries}
use Rattle.scalar.specs.Compare.{equal_entry}
use Rattle.scalar.specs.declared.order.Order.{Order}
use Rattle.scalar.specs.declared.order.Order.TheVariants.{Less}
use Rattle.scalar.specs.declared.value.Value.{Value}
use Rattle.scalar.specs.Value.{meaning}
use Rattle.builder.specs.declared.ResultBuilder.{ResultBuilder}
use Rattle.builder.specs.Builder.{holds}
use Rattle.builder.specs.BuilderStruct.{builder_of}
use Rattle.case.specs.declared.settle.Leave.{Leave}
use Rattle.case.specs.declared.settle.Leave.TheVariants.{NullBase, TrueWhen, EqualWhen, Rest}
use Rattle.case.specs.declared.settle.Settled.{Settled}
use Rattle.case.specs.Frame.{slot_at, next_slot, Rows, Listed}
use Rattle.case.specs.Taking.{order_value, OrderRight}

-- a row that failed leaves with one index, a row that passes with another; 0: it stays
abbrev pub leaving : (Outcome → Bool) → ℕ → ℕ → Outcome → ℕ
leaving passes index failed unfit = failed
leaving passes index failed (entry v) = cond (passes (entry v)) index 0

-- an outcome that is null
abbrev pub null_outcome : Outcome → Bool
null_outcome (entry v) = is_null v
null_outcome unfit = false

-- an outcome that is true
abbrev pub true_outcome : Outcome → Bool
true_outcome (entry v) = is_true_entry v
true_outcome unfit = false

-- the index with which a row leaves the open list: its base is null, its WHEN is true, its WHEN equals its base, or always
abbrev pub class_at : Leave → List ℕ → List ℕ → List ℕ → ℕ → ℕ → ℕ → ℕ
class_at NullBase rule table w index failed r = leaving null_outcome index failed (meaning rule table (slot_at w r))
class_at TrueWhen rule table w index failed r = leaving true_outcome index failed (meaning rule table (next_slot w r))
class_at EqualWhen rule table w index failed r = leaving true_outcome index failed (on_entries equal_entry (meaning rule table (slot_at w r)) (meaning rule table (next_slot w r)))
class_at Rest rule table w index failed r = index

-- the same by the index of its WHEN, which is 1 where that is true
abbrev pub class_by : List ℕ → ℕ → ℕ → ℕ
class_by whens index r = cond (slice_index whens r == 1) index 0

-- the same, with the order of its WHEN and its base; that a value is null, true or failed is told without the bytes of any text
abbrev pub class_by_slots : Leave → List Order → List ℕ → ℕ → ℕ → ℕ → ℕ
class_by_slots NullBase orders w index failed r = leaving null_outcome index failed (meaning [] [] (slot_at w r))
class_by_slots TrueWhen orders w index failed r = leaving true_outcome index failed (meaning [] [] (next_slot w r))
class_by_slots EqualWhen orders w index failed r = leaving true_outcome index failed (meaning [] [] (order_value false (slice_index_or orders r Less)))
class_by_slots Rest orders w index failed r = index

-- the class hangs on the row's two slots and its order alone
pub class_same : (how : Leave) (orders : List Order) (w m : List ℕ) (index failed r : ℕ) → slot_at m r ≡ slot_at w r → next_slot m r ≡ next_slot w r
    → class_by_slots how orders m index failed r ≡ class_by_slots how orders w index failed r
class_same NullBase orders w m index failed r a b = ap (λ (v : Value). leaving null_outcome index failed (meaning [] [] v)) a
class_same TrueWhen orders w m index failed r a b = ap (λ (v : Value). leaving true_outcome index failed (meaning [] [] v)) b
class_same EqualWhen orders w m index failed r a b = refl
class_same Rest orders w m index failed r a b = refl

-- whether a way of leaving asks for a true WHEN
abbrev pub asks_true : Leave → Bool
asks_true NullBase = false
asks_true TrueWhen = true
asks_true EqualWhen = false
asks_true Rest = false

-- whether a way of leaving asks for a WHEN that equals the base
abbrev pub asks_equal : Leave → Bool
asks_equal NullBase = false
asks_equal TrueWhen = false
asks_equal EqualWhen = true
asks_equal Rest = false

-- the order of each open row's base and WHEN, where a way of leaving asks for it
pub record OrdersFor (how : Leave) (rule table w : List ℕ) (left : ℕ) (orders : List Order) : Type 0 where
  pub right : asks_equal how ≡ true → (q : ℕ) → Listed w 5632 left q → OrderRight rule table (slot_at w q) (next_slot w q) (slice_index_or orders q Less)

-- what a builder holds for a row
abbrev pub held_by : ResultBuilder → ℕ → Option ℕ
held_by b r = slice_index_or (builder_of b).held r none

-- a builder for so many rows, in which no row of the open list is held; the open list is at 5632
pub record Open (b : ResultBuilder) (w : List ℕ) (left rows : ℕ) : Type 0 where
  pub sized : b.rows ≡ rows
  pub small : rows ≤ 512
  pub list_ok : Rows w 5632 left rows
  pub free : (r : ℕ) → Listed w 5632 left r → held_by b r ≡ none
  pub whole_done : b.whole ≡ true → left ≡ 0
  pub part_held : b.part ≡ true → (r : ℕ) × (r < rows) × (holds (held_by b r) ≡ true)

-- w and b are now w' and r: the rows of the open list that leave are held with their index, the others stay, and nothing but the open list is changed
pub record Settles (class : ℕ → ℕ) (w : List ℕ) (left rows : ℕ) (b : ResultBuilder) (r : Settled) (w' : List ℕ) : Type 0 where
  pub long : length w' ≡ length w
  pub low : (j : ℕ) → j < 5632 → byte w' j ≡ byte w j
  pub high : (j : ℕ) → 6656 ≤ j → byte w' j ≡ byte w j
  pub still_open : Open r.builder w' r.left rows
  pub stays : (q : ℕ) → Listed w' 5632 r.left q → Listed w 5632 left q × (class q ≡ 0)
  pub kept : (q : ℕ) → Listed w 5632 left q → class q ≡ 0 → Listed w' 5632 r.left q
  pub gone : (q : ℕ) → Listed w 5632 left q → (class q ≢ 0) → held_by r.builder q ≡ some (class q)
  pub others : (q : ℕ) → (Listed w 5632 left q → ⊥) → held_by r.builder q ≡ held_by b q
