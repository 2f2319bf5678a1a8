-- Operations on values: what each gives is what it makes of the entry. Assumes nothing.
use Rattle.std.proofs.Common.{◌≡◌, ℕ, ◌^◌, ◌<◌, Bool, true, false, cond, List, [], ◌∷◌, neg_ℤ, sym, refl, ap, ◌∙◌, subst}
use mathlib.Core.Bool.{false≢true}
use lib.Ieee.{binary64, nan_bits, of_bits, to_bits}
use lib.Ieee.Bits.{to_bits-lt}
use types.Run.{OneOf, miss}
use denote.Enum.Declared.{tag_of}
use Rattle.scalar.specs.contracts.value.Value.{the_type}
use Rattle.scalar.specs.declared.types.DataType.{DataType}
use Rattle.scalar.specs.declared.value.Value.{Value}
use Rattle.scalar.specs.declared.value.Value.TheVariants.{Null, Boolean, Int32, Int64, Float64, Nan, RuleText, TableText, Failed}
use Rattle.scalar.specs.Entry.{Entry, null, boolean, int32, int64, float64, utf8, Outcome, entry, on_entry}
use Rattle.scalar.specs.Integer.{signed}
use Rattle.scalar.specs.Float.{sign_turned}
use Rattle.scalar.specs.Not.{not_entry}
use Rattle.scalar.specs.IsNotNull.{is_not_null_entry}
use Rattle.scalar.specs.Negative.{negative_entry}
use Rattle.scalar.specs.Cast.{cast_entry}
use Rattle.scalar.specs.TryCast.{or_null, try_cast_entry}
use Rattle.scalar.specs.Casts.{cast_value, failed, try_cast_value}
use Rattle.scalar.specs.Value.{place_text, meaning, float_value, value_saying, on_value, Storable, Gives}
use Rattle.scalar.proofs.IntegerLaws.{bits_of_below}
use Rattle.scalar.proofs.FloatLaws.{float_stores, sign_turned_below}
use Rattle.scalar.proofs.CastLaws.{cast_gives}

-- an operation at a value that is known
pub value_at_lem : {A : Type 0} (f : Value → A) {v w : Value} {r : A} → v ≡ w → r ≡ f w → r ≡ f v
value_at_lem f e p = p ∙ ap f (sym e)

-- null or a Boolean
abbrev Flag : Entry → Type 0
Flag null = Unit {0}
Flag (boolean b) = Unit {0}
Flag (int32 n) = ⊥
Flag (int64 n) = ⊥
Flag (float64 n) = ⊥
Flag (utf8 t) = ⊥

-- an operation that gives null or a Boolean, the same for every text, is that of the entry
module _ (f : Entry → Entry) (flag : (e : Entry) → Flag (f e)) (text : (t : List ℕ) → f (utf8 t) ≡ f (utf8 [])) where
  flag_said : (v : Value) (e : Entry) → Flag e → ((rule table : List ℕ) → entry e ≡ on_entry (λ e. entry (f e)) (meaning rule table v)) → Gives (λ e. entry (f e)) v (value_saying v (entry e))
  flag_said v null h m = record { means = m; stores = λ s. tt }
  flag_said v (boolean b) h m = record { means = m; stores = λ s. tt }
  flag_said v (int32 n) h m = absurd h
  flag_said v (int64 n) h m = absurd h
  flag_said v (float64 n) h m = absurd h
  flag_said v (utf8 t) h m = absurd h

  at_value : (v : Value) → Gives (λ e. entry (f e)) v (on_value (λ e. entry (f e)) v)
  at_value Null = flag_said Null (f null) (flag null) (λ rule table. refl)
  at_value (Boolean b) = flag_said (Boolean b) (f (boolean b)) (flag (boolean b)) (λ rule table. refl)
  at_value (Int32 n) = flag_said (Int32 n) (f (int32 n)) (flag (int32 n)) (λ rule table. refl)
  at_value (Int64 n) = flag_said (Int64 n) (f (int64 n)) (flag (int64 n)) (λ rule table. refl)
  at_value (Float64 x) = flag_said (Float64 x) (f (float64 (to_bits binary64 x))) (flag (float64 (to_bits binary64 x))) (λ rule table. refl)
  at_value (Nan n) = flag_said (Nan n) (f (float64 n)) (flag (float64 n)) (λ rule table. refl)
  at_value (RuleText start size) =
      flag_said (RuleText start size) (f (utf8 (place_text [] start size))) (flag (utf8 (place_text [] start size))) (λ rule table. ap entry (text (place_text [] start size) ∙ sym (text (place_text rule start size))))
  at_value (TableText start size) =
      flag_said (TableText start size) (f (utf8 (place_text [] start size))) (flag (utf8 (place_text [] start size))) (λ rule table. ap entry (text (place_text [] start size) ∙ sym (text (place_text table start size))))
  at_value Failed = record { means = λ rule table. refl; stores = λ s. tt }

  flag_gives : {v r : Value} → r ≡ on_value (λ e. entry (f e)) v → Gives (λ e. entry (f e)) v r
  flag_gives {v} e = subst (Gives (λ e. entry (f e)) v) (sym e) (at_value v)

not_flag : (e : Entry) → Flag (not_entry e)
not_flag null = tt
not_flag (boolean b) = tt
not_flag (int32 n) = tt
not_flag (int64 n) = tt
not_flag (float64 n) = tt
not_flag (utf8 t) = tt

pub not_gives : {v r : Value} → r ≡ on_value (λ e. entry (not_entry e)) v → Gives (λ e. entry (not_entry e)) v r
not_gives = flag_gives not_entry not_flag (λ t. refl)

pub is_not_null_gives : {v r : Value} → r ≡ on_value (λ e. entry (is_not_null_entry e)) v → Gives (λ e. entry (is_not_null_entry e)) v r
is_not_null_gives = flag_gives is_not_null_entry (λ e. tt) (λ t. refl)

-- a float has no text, so it means the same whatever the bytes
float_anywhere : (n : ℕ) (rule table : List ℕ) → meaning rule table (float_value n) ≡ meaning [] [] (float_value n)
float_anywhere n rule table = go (nan_bits binary64 n)
  where
    go : (c : Bool) → meaning rule table (cond c (Nan n) (Float64 (of_bits binary64 n))) ≡ meaning [] [] (cond c (Nan n) (Float64 (of_bits binary64 n)))
    go true = refl
    go false = refl

-- a float's bits with their sign turned are the negative of its value
turned_gives : (n : ℕ) {v : Value} → ((rule table : List ℕ) → meaning rule table v ≡ entry (float64 n)) → (Storable v → n < 2 ^ 64) → meaning [] [] (float_value (sign_turned 63 n)) ≡ entry (float64 (sign_turned 63 n))
    → Gives (λ e. entry (negative_entry e)) v (float_value (sign_turned 63 n))
turned_gives n m b q = record {
  means = λ rule table. float_anywhere (sign_turned 63 n) rule table ∙ q ∙ sym (ap (on_entry (λ e. entry (negative_entry e))) (m rule table));
  stores = λ s. float_stores (sign_turned 63 n) (sign_turned_below 63 n (b s));
}

-- negative of a value is that of its entry
pub negative_gives : (v : Value) {r : Value} → r ≡ on_value (λ e. entry (negative_entry e)) v → meaning [] [] r ≡ on_entry (λ e. entry (negative_entry e)) (meaning [] [] v) → Gives (λ e. entry (negative_entry e)) v r
negative_gives v e q = subst (Gives (λ e. entry (negative_entry e)) v) (sym e) (go v (sym (ap (meaning [] []) e) ∙ q))
  where
    go : (v : Value) → meaning [] [] (on_value (λ e. entry (negative_entry e)) v) ≡ on_entry (λ e. entry (negative_entry e)) (meaning [] [] v) → Gives (λ e. entry (negative_entry e)) v (on_value (λ e. entry (negative_entry e)) v)
    go Null q = record { means = λ rule table. refl; stores = λ s. tt }
    go (Boolean b) q = record { means = λ rule table. refl; stores = λ s. tt }
    go (Int32 n) q = record { means = λ rule table. refl; stores = λ s. bits_of_below 31 (neg_ℤ (signed 31 n)) }
    go (Int64 n) q = record { means = λ rule table. refl; stores = λ s. bits_of_below 63 (neg_ℤ (signed 63 n)) }
    go (Float64 f) q = turned_gives (to_bits binary64 f) (λ rule table. refl) (λ s. to_bits-lt binary64 f s.0) q
    go (Nan n) q = turned_gives n (λ rule table. refl) (λ s. s.0) q
    go (RuleText start size) q = record { means = λ rule table. refl; stores = λ s. tt }
    go (TableText start size) q = record { means = λ rule table. refl; stores = λ s. tt }
    go Failed q = record { means = λ rule table. refl; stores = λ s. tt }

-- what the last arm of a `match` on a failed value leaves
abbrev pub NotFailed : Value → Type 0
NotFailed v = OneOf (0 ∷ 1 ∷ 2 ∷ 3 ∷ 4 ∷ 5 ∷ 6 ∷ 7 ∷ []) (tag_of the_type v)

pub not_failed : (v : Value) → NotFailed v → failed v ≡ false
not_failed Null h = refl
not_failed (Boolean b) h = refl
not_failed (Int32 n) h = refl
not_failed (Int64 n) h = refl
not_failed (Float64 f) h = refl
not_failed (Nan n) h = refl
not_failed (RuleText start size) h = refl
not_failed (TableText start size) h = refl
not_failed Failed h = absurd (miss (0 ∷ 1 ∷ 2 ∷ 3 ∷ 4 ∷ 5 ∷ 6 ∷ 7 ∷ []) 8 tt h)

has_failed : (v : Value) → failed v ≡ true → v ≡ Failed
has_failed Null h = absurd (false≢true h)
has_failed (Boolean b) h = absurd (false≢true h)
has_failed (Int32 n) h = absurd (false≢true h)
has_failed (Int64 n) h = absurd (false≢true h)
has_failed (Float64 f) h = absurd (false≢true h)
has_failed (Nan n) h = absurd (false≢true h)
has_failed (RuleText start size) h = absurd (false≢true h)
has_failed (TableText start size) h = absurd (false≢true h)
has_failed Failed h = refl

-- a value that has not failed is an entry
is_entry : (v : Value) → failed v ≡ false → (rule table : List ℕ) → meaning rule table v ≡ entry (or_null (meaning rule table v))
is_entry Null h rule table = refl
is_entry (Boolean b) h rule table = refl
is_entry (Int32 n) h rule table = refl
is_entry (Int64 n) h rule table = refl
is_entry (Float64 f) h rule table = refl
is_entry (Nan n) h rule table = refl
is_entry (RuleText start size) h rule table = refl
is_entry (TableText start size) h rule table = refl
is_entry Failed h rule table = absurd (false≢true (sym h))

-- what has failed stays so
pub try_failed : (to : DataType) {v : Value} → v ≡ Failed → Failed ≡ try_cast_value to v
unfolding try_cast_value
try_failed to e = value_at_lem (try_cast_value to) e refl

-- null, where the cast fails
pub try_null : (to : DataType) (v : Value) {r : Value} → NotFailed v → r ≡ Failed → r ≡ cast_value to v → Null ≡ try_cast_value to v
unfolding try_cast_value
try_null to v h e p = simp (not_failed v h, ap failed (sym p ∙ e))

-- the cast, where it fits
pub try_entry : (to : DataType) (v : Value) {r : Value} → NotFailed v → NotFailed r → r ≡ cast_value to v → r ≡ try_cast_value to v
unfolding try_cast_value
try_entry to v {r} h k p = p ∙ simp (not_failed v h, ap failed (sym p) ∙ not_failed r k)

-- a float has not failed
pub float_held : (n : ℕ) → failed (float_value n) ≡ false
float_held n = go (nan_bits binary64 n)
  where
    go : (b : Bool) → failed (cond b (Nan n) (Float64 (of_bits binary64 n))) ≡ false
    go true = refl
    go false = refl

-- a try-cast of a value is that of its entry
module _ (to : DataType) (v : Value) where
  tried : failed v ≡ false → (r : Value) → Gives (cast_entry to) v r → (rule table : List ℕ) → entry (or_null (meaning rule table r)) ≡ on_entry (λ e. entry (try_cast_entry to e)) (meaning rule table v)
  tried h r g rule table = ap (λ (o : Outcome). entry (or_null o)) (g.means rule table) ∙ rw (is_entry v h rule table) refl

  -- of a value that has not failed it is null where the cast fails
  pub tried_gives : failed v ≡ false → (r : Value) (c : Bool) → failed r ≡ c → Gives (cast_entry to) v r → Gives (λ e. entry (try_cast_entry to e)) v (cond c Null r)
  tried_gives h r true k g = record {
    means = λ rule table. ap (λ (x : Value). entry (or_null (meaning rule table x))) (sym (has_failed r k)) ∙ tried h r g rule table;
    stores = λ _. tt;
  }
  tried_gives h r false k g = record { means = λ rule table. is_entry r k rule table ∙ tried h r g rule table; stores = g.stores }

  by_failing : (c : Bool) → failed v ≡ c → Gives (λ e. entry (try_cast_entry to e)) v (cond c Failed (cond (failed (cast_value to v)) Null (cast_value to v)))
  by_failing true h = rw (has_failed v h) (record { means = λ rule table. refl; stores = λ s. s })
  by_failing false h = tried_gives h (cast_value to v) (failed (cast_value to v)) refl (cast_gives to v refl)

pub try_cast_gives : (to : DataType) (v : Value) {r : Value} → r ≡ try_cast_value to v → Gives (λ e. entry (try_cast_entry to e)) v r
unfolding try_cast_value
try_cast_gives to v e = subst (Gives (λ e. entry (try_cast_entry to e)) v) (sym e) (by_failing to v (failed v) refl)
