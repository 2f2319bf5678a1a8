-- The orders of rows, and the slots that are filled by them. Assumes nothing.
use Rattle.std.proofs.Common.{◌≡◌, ℕ, ◌+◌, ◌<◌, ◌≤◌, Bool, true, false, not, ◌&&◌, List, length, get_or, set, sym, refl, ap, ◌∙◌, subst, ap₂, arith, get_or-set_other, get_or-set_same}
use native.Mathlib.Decide.{ℕ_discrete}
use Rattle.scalar.specs.declared.order.Order.{Order}
use Rattle.scalar.specs.declared.order.Order.TheVariants.{Less, Equal, Greater, SomeNull, SomeFailed, Unlike}
use Rattle.scalar.specs.declared.value.Value.{Value}
use Rattle.scalar.specs.Compare.{equal_entry, less_entry}
use Rattle.scalar.specs.Order.{order_of, key_of, is_text, text_order, compared}
use Rattle.scalar.specs.Value.{meaning, GivesBoth}
use Rattle.scalar.proofs.CompareLaws.{equal_gives, less_gives}
use Rattle.case.specs.Frame.{row_at, Rows, Listed, Filled}
use Rattle.case.specs.Taking.{comparison, order_value, OrderRight, RowsOrdered}

-- where one of two values is no text, they are not both text
pub first_none : (a b : Value) {x : Bool} → x ≡ is_text (key_of a) → x ≡ false → (is_text (key_of a) && is_text (key_of b)) ≡ false
first_none a b p q = ap (λ (t : Bool). t && is_text (key_of b)) (sym p ∙ q)

pub second_none : (a b : Value) {y : Bool} → y ≡ is_text (key_of b) → y ≡ false → (is_text (key_of a) && is_text (key_of b)) ≡ false
second_none a b p q = ap (λ (t : Bool). is_text (key_of a) && t) (sym p ∙ q) ∙ go (is_text (key_of a))
  where
    go : (t : Bool) → (t && false) ≡ false
    go true = refl
    go false = refl

-- the order of two texts that were read there
pub texts_are : {s t x y : List ℕ} {r : Order} → r ≡ text_order s t → s ≡ x → t ≡ y → r ≡ text_order x y
texts_are e a b = e ∙ ap₂ text_order a b

-- the value of an order is what the comparison says
value_is : (less : Bool) (o : Order) → compared less (not less) false o ≡ order_value less o
value_is less Less = refl
value_is less Equal = refl
value_is less Greater = refl
value_is less SomeNull = refl
value_is less SomeFailed = refl
value_is less Unlike = refl

pub order_gives : (less : Bool) {rule table : List ℕ} {a b : Value} {o : Order} → OrderRight rule table a b o → GivesBoth (comparison less) rule table a b (order_value less o)
order_gives true {rule} {table} {a} {b} {o} e = subst (GivesBoth less_entry rule table a b) (value_is true o) (less_gives rule table a b o e)
order_gives false {rule} {table} {a} {b} {o} e = subst (GivesBoth equal_entry rule table a b) (value_is false o) (equal_gives rule table a b o e)

-- the order of two values by their names
pub order_right : (rule table : List ℕ) {a b x y : Value} {o : Order} → x ≡ a → y ≡ b → o ≡ order_of (meaning rule table x) (meaning rule table y) → OrderRight rule table a b o
order_right rule table p q e = e ∙ ap₂ (λ (u v : Value). order_of (meaning rule table u) (meaning rule table v)) p q

-- the order of each row of a list
module _ {right : ℕ → Order → Type 0} {w : List ℕ} {at : ℕ} {orders : List Order} where
  pub orders_none : RowsOrdered right w at 0 orders
  orders_none = record { each = λ q l. absurd (let h = l.1 in omega arith) }

  pub orders_more : {i n r : ℕ} {o : Order} → length orders ≡ 512 → RowsOrdered right w at i orders → Rows w at n 512 → i < n → r ≡ row_at w at i → right r o → RowsOrdered right w at (i + 1) (set orders r o)
  orders_more {i} {n} {r} {o} long s rows more is here = record { each = λ q l. go q l (ℕ_discrete q r) }
    where
      room : r < length orders
      room = omega (arith, rows.below i more)

      go : (q : ℕ) → Listed w at (i + 1) q → Dec (q ≡ r) → right q (get_or (set orders r o) q Less)
      go q l (yes e) = subst (λ (y : ℕ). right y (get_or (set orders r o) y Less)) (sym e) (subst (right r) (sym (get_or-set_same orders r o Less room)) here)
      go q (j, h, p) (no d) = subst (right q) (sym (get_or-set_other orders r q o Less d)) (s.each q (j, earlier (ℕ_discrete j i), p))
        where
          earlier : Dec (j ≡ i) → j < i
          earlier (yes e) = absurd (d (sym p ∙ ap (row_at w at) e ∙ sym is))
          earlier (no f) = omega arith

  pub orders_all : {i n : ℕ} → RowsOrdered right w at i orders → n ≤ i → RowsOrdered right w at n orders
  orders_all s h = record { each = λ q l. s.each q (l.0, (let k = l.1 in omega arith), l.2) }

-- slots that are filled by right orders are right
pub orders_filled : (less : Bool) {rule table : List ℕ} {a b : ℕ → Value} {w : List ℕ} {n : ℕ} {orders : List Order} {w' : List ℕ} → RowsOrdered (λ r o. OrderRight rule table (a r) (b r) o) w 0 n orders
    → Filled (λ r v. v ≡ order_value less (get_or orders r Less)) w n w' → Filled (λ r v. GivesBoth (comparison less) rule table (a r) (b r) v) w n w'
orders_filled less {rule} {table} {a} {b} s f = record {
  long = f.long;
  here = λ r l. subst (GivesBoth (comparison less) rule table (a r) (b r)) (sym (f.here r l)) (order_gives less (s.each r l));
  others = f.others;
  low = f.low;
  high = f.high;
}
