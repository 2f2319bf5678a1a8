-- Equal and less, read from the order of two values. Assumes nothing.
use Rattle.std.proofs.Common.{◌≡◌, ℕ, ◌^◌, Bool, true, false, cond, not, ◌&&◌, eqb, ltb, List, [], ◌∷◌, ℤ, pos, negsuc, sym, refl, ap, ◌∙◌, subst, le_refl, le-ltb, eqb-true}
use mathlib.Core.Bool.{beq, false≢true}
use lib.Signed.{lt_z}
use Rattle.scalar.specs.declared.order.Order.{Order}
use Rattle.scalar.specs.declared.order.Order.TheVariants.{Less, Equal, Greater, SomeNull, SomeFailed, Unlike}
use Rattle.scalar.specs.declared.value.Value.{Value}
use Rattle.scalar.specs.declared.value.Value.TheVariants.{Null}
use Rattle.scalar.specs.Integer.{signed, signed_less}
use Rattle.scalar.specs.Float.{total_less}
use Rattle.scalar.specs.Text.{same_bytes, text_less}
use Rattle.scalar.specs.Entry.{Entry, boolean, Outcome, entry, unfit, on_entries}
use Rattle.scalar.specs.Pair.{Pair, both_null, one_null, unlike, booleans, int32s, int64s, float64s, texts, pair_of}
use Rattle.scalar.specs.Compare.{equal_pair, equal_entry, less_pair, less_entry}
use Rattle.scalar.specs.Order.{order_of_pair, order_of, Numbered, compared}
use Rattle.scalar.specs.Value.{meaning, value_saying, on_values, Storable, GivesBoth}
use Rattle.scalar.proofs.OrderLaws.{numbers_order}

compared_stores : (x y z : Bool) (o : Order) → Storable (compared x y z o)
compared_stores x y z Less = tt
compared_stores x y z Equal = tt
compared_stores x y z Greater = tt
compared_stores x y z SomeNull = tt
compared_stores x y z SomeFailed = tt
compared_stores x y z Unlike = tt

compared_said : (rule table : List ℕ) (x y z : Bool) (o : Order) → compared x y z o ≡ value_saying Null (meaning rule table (compared x y z o))
compared_said rule table x y z Less = refl
compared_said rule table x y z Equal = refl
compared_said rule table x y z Greater = refl
compared_said rule table x y z SomeNull = refl
compared_said rule table x y z SomeFailed = refl
compared_said rule table x y z Unlike = refl

module _ (rule table : List ℕ) (x y z : Bool) (operation : Pair → Entry) (at : (p : Pair) → meaning rule table (compared x y z (order_of_pair p)) ≡ entry (operation p)) where
  outcomes : (o q : Outcome) → meaning rule table (compared x y z (order_of o q)) ≡ on_entries (λ a b. operation (pair_of a b)) o q
  outcomes (entry a) (entry b) = at (pair_of a b)
  outcomes (entry a) unfit = refl
  outcomes unfit (entry b) = refl
  outcomes unfit unfit = refl

  gives : (a b : Value) (o : Order) → o ≡ order_of (meaning rule table a) (meaning rule table b) → GivesBoth (λ a b. operation (pair_of a b)) rule table a b (compared x y z o)
  gives a b o e = record {
    means = ap (λ (w : Order). meaning rule table (compared x y z w)) e ∙ outcomes (meaning rule table a) (meaning rule table b);
    stores = compared_stores x y z o;
  }

  said : (a b : Value) (o : Order) → o ≡ order_of (meaning rule table a) (meaning rule table b) → compared x y z o ≡ on_values (λ a b. operation (pair_of a b)) rule table a b
  said a b o e = compared_said rule table x y z o ∙ ap (value_saying Null) (gives a b o e).means

-- of two that are equal none is less
flags_once : (x y : Bool) → beq x y ≡ true → (not x && y) ≡ false
flags_once true y e = refl
flags_once false true e = absurd (false≢true e)
flags_once false false e = refl

integer_once : (z : ℤ) → lt_z z z ≡ false
integer_once (pos n) = le-ltb n n (le_refl n)
integer_once (negsuc n) = le-ltb n n (le_refl n)

signed_once : (h x y : ℕ) → eqb x y ≡ true → signed_less h x y ≡ false
signed_once h x y e = rw (eqb-true x y e) (integer_once (signed h y))

total_once : (h x y : ℕ) → eqb x y ≡ true → total_less h x y ≡ false
total_once h x y e = rw (eqb-true x y e) (go (ltb y (2 ^ h)))
  where
    go : (t : Bool) → cond t (cond t (ltb y y) false) (cond t true (ltb y y)) ≡ false
    go true = le-ltb y y (le_refl y)
    go false = le-ltb y y (le_refl y)

texts_once : (s t : List ℕ) → same_bytes s t ≡ true → text_less s t ≡ false
unfolding same_bytes text_less
texts_once [] [] e = refl
texts_once [] (b ∷ t) e = absurd (false≢true e)
texts_once (a ∷ s) [] e = refl
texts_once (a ∷ s) (b ∷ t) e = go (eqb a b) (texts_once s t) e
  where
    go : (c : Bool) → (same_bytes s t ≡ true → text_less s t ≡ false) → (c && same_bytes s t) ≡ true → cond c (text_less s t) (ltb a b) ≡ false
    go true f g = f g
    go false f g = absurd (false≢true g)

-- what holds of two that are equal, else of the first less or greater
module _ (rule table : List ℕ) where
  equal_by : (e l : Bool) → meaning rule table (compared false true false (cond e Equal (cond l Less Greater))) ≡ entry (boolean e)
  equal_by true l = refl
  equal_by false true = refl
  equal_by false false = refl

  equal_pair_lem : (p : Pair) → meaning rule table (compared false true false (order_of_pair p)) ≡ entry (equal_pair p)
  equal_pair_lem both_null = refl
  equal_pair_lem one_null = refl
  equal_pair_lem unlike = refl
  equal_pair_lem (booleans x y) = equal_by (beq x y) (not x && y)
  equal_pair_lem (int32s x y) = equal_by (eqb x y) (signed_less 31 x y)
  equal_pair_lem (int64s x y) = equal_by (eqb x y) (signed_less 63 x y)
  equal_pair_lem (float64s x y) = equal_by (eqb x y) (total_less 63 x y)
  equal_pair_lem (texts x y) = equal_by (same_bytes x y) (text_less x y)

  less_by : (e l : Bool) → (e ≡ true → l ≡ false) → meaning rule table (compared true false false (cond e Equal (cond l Less Greater))) ≡ entry (boolean l)
  less_by true l f = ap (λ (b : Bool). entry (boolean b)) (sym (f refl))
  less_by false true f = refl
  less_by false false f = refl

  less_pair_lem : (p : Pair) → meaning rule table (compared true false false (order_of_pair p)) ≡ entry (less_pair p)
  less_pair_lem both_null = refl
  less_pair_lem one_null = refl
  less_pair_lem unlike = refl
  less_pair_lem (booleans x y) = less_by (beq x y) (not x && y) (flags_once x y)
  less_pair_lem (int32s x y) = less_by (eqb x y) (signed_less 31 x y) (signed_once 31 x y)
  less_pair_lem (int64s x y) = less_by (eqb x y) (signed_less 63 x y) (signed_once 63 x y)
  less_pair_lem (float64s x y) = less_by (eqb x y) (total_less 63 x y) (total_once 63 x y)
  less_pair_lem (texts x y) = less_by (same_bytes x y) (text_less x y) (texts_once x y)

-- equal and less at two values whose order is known
pub equal_gives : (rule table : List ℕ) (a b : Value) (o : Order) → o ≡ order_of (meaning rule table a) (meaning rule table b) → GivesBoth equal_entry rule table a b (compared false true false o)
equal_gives rule table = gives rule table false true false equal_pair (equal_pair_lem rule table)

pub less_gives : (rule table : List ℕ) (a b : Value) (o : Order) → o ≡ order_of (meaning rule table a) (meaning rule table b) → GivesBoth less_entry rule table a b (compared true false false o)
less_gives rule table = gives rule table true false false less_pair (less_pair_lem rule table)

-- the value that is said of them
pub equal_said : (rule table : List ℕ) (a b : Value) (o : Order) → o ≡ order_of (meaning rule table a) (meaning rule table b) → compared false true false o ≡ on_values equal_entry rule table a b
equal_said rule table = said rule table false true false equal_pair (equal_pair_lem rule table)

pub less_said : (rule table : List ℕ) (a b : Value) (o : Order) → o ≡ order_of (meaning rule table a) (meaning rule table b) → compared true false false o ≡ on_values less_entry rule table a b
less_said rule table = said rule table true false false less_pair (less_pair_lem rule table)

-- it is the comparison of their entries
pub equal_both : {rule table : List ℕ} {a b r : Value} → r ≡ on_values equal_entry rule table a b → GivesBoth equal_entry rule table a b r
equal_both {rule} {table} {a} {b} e = subst (GivesBoth equal_entry rule table a b) (equal_said rule table a b (order_of (meaning rule table a) (meaning rule table b)) refl ∙ sym e) (equal_gives rule table a b (order_of (meaning rule table a) (meaning rule table b)) refl)

pub less_both : {rule table : List ℕ} {a b r : Value} → r ≡ on_values less_entry rule table a b → GivesBoth less_entry rule table a b r
less_both {rule} {table} {a} {b} e = subst (GivesBoth less_entry rule table a b) (less_said rule table a b (order_of (meaning rule table a) (meaning rule table b)) refl ∙ sym e) (less_gives rule table a b (order_of (meaning rule table a) (meaning rule table b)) refl)

-- equal and less of two entries that go by numbers of one kind
number_once : (x y : ℕ) → eqb x y ≡ true → ltb x y ≡ false
number_once x y e = rw (eqb-true x y e) (le-ltb y y (le_refl y))

pub numbers_equal : (a b : Entry) {kind x y : ℕ} → Numbered kind x a → Numbered kind y b → entry (equal_entry a b) ≡ entry (boolean (eqb x y))
numbers_equal a b {kind} {x} {y} p q =
    sym (equal_pair_lem [] [] (pair_of a b)) ∙ ap (λ (o : Order). meaning [] [] (compared false true false o)) (numbers_order a b p q) ∙ equal_by [] [] (eqb x y) (ltb x y)

pub numbers_less : (a b : Entry) {kind x y : ℕ} → Numbered kind x a → Numbered kind y b → entry (less_entry a b) ≡ entry (boolean (ltb x y))
numbers_less a b {kind} {x} {y} p q =
    sym (less_pair_lem [] [] (pair_of a b)) ∙ ap (λ (o : Order). meaning [] [] (compared true false false o)) (numbers_order a b p q) ∙ less_by [] [] (eqb x y) (ltb x y) (number_once x y)
