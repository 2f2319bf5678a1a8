-- The index with which a row leaves the open list, by the slots and the order that it hangs on. Assumes nothing.
use Rattle.std.proofs.Common.{◌≡◌, ℕ, Bool, false, List, [], get_or, sym, refl, ap, ◌∙◌}
use mathlib.Core.Bool.{false≢true}
use Rattle.scalar.specs.declared.order.Order.{Order}
use Rattle.scalar.specs.declared.order.Order.TheVariants.{Less}
use Rattle.scalar.specs.declared.value.Value.{Value}
use Rattle.scalar.specs.declared.value.Value.TheVariants.{Null, Boolean, Int32, Int64, Float64, Nan, RuleText, TableText, Failed}
use Rattle.scalar.specs.Value.{meaning}
use Rattle.case.specs.declared.settle.Leave.{Leave}
use Rattle.case.specs.declared.settle.Leave.TheVariants.{NullBase, TrueWhen, EqualWhen, Rest}
use Rattle.case.specs.Frame.{slot_at, next_slot, Listed}
use Rattle.case.specs.Taking.{order_value, OrderRight, RowsOrdered}
use Rattle.case.specs.Choosing.{leaving, null_outcome, true_outcome, class_at, class_by_slots, asks_equal, OrdersFor}
use Rattle.case.proofs.CompareLaws.{order_gives}

-- the orders where they are asked for, and where they are not
module _ {how : Leave} {rule table w : List ℕ} {left : ℕ} {orders : List Order} where
  pub orders_asked : RowsOrdered (λ r o. OrderRight rule table (slot_at w r) (next_slot w r) o) w 5632 left orders → OrdersFor how rule table w left orders
  orders_asked s = record { right = λ e. s.each }

  pub orders_unasked : {b : Bool} → b ≡ asks_equal how → b ≡ false → OrdersFor how rule table w left orders
  orders_unasked p q = record { right = λ e. absurd (false≢true (sym q ∙ p ∙ e)) }

module _ (rule table : List ℕ) (index failed : ℕ) where
  -- whether a value is null, or true, is told without any bytes
  bare : (v : Value)
      → (leaving null_outcome index failed (meaning [] [] v) ≡ leaving null_outcome index failed (meaning rule table v))
      × (leaving true_outcome index failed (meaning [] [] v) ≡ leaving true_outcome index failed (meaning rule table v))
  bare Null = (refl, refl)
  bare (Boolean b) = (refl, refl)
  bare (Int32 n) = (refl, refl)
  bare (Int64 n) = (refl, refl)
  bare (Float64 f) = (refl, refl)
  bare (Nan n) = (refl, refl)
  bare (RuleText start size) = (refl, refl)
  bare (TableText start size) = (refl, refl)
  bare Failed = (refl, refl)

  -- where the orders are right, the class is the row's own
  pub class_by_slots_lem : (how : Leave) {w : List ℕ} {left : ℕ} {orders : List Order} → OrdersFor how rule table w left orders → (q : ℕ) → Listed w 5632 left q
      → class_by_slots how orders w index failed q ≡ class_at how rule table w index failed q
  class_by_slots_lem NullBase {w} c q l = (bare (slot_at w q)).0
  class_by_slots_lem TrueWhen {w} c q l = (bare (next_slot w q)).1
  class_by_slots_lem EqualWhen {w} {left} {orders} c q l = (bare (order_value false (get_or orders q Less))).1 ∙ ap (leaving true_outcome index failed) (order_gives false (c.right refl q l)).means
  class_by_slots_lem Rest c q l = refl
