-- Casts by the value's kind: what a kind's step gives is the cast. Assumes nothing.
use Rattle.std.proofs.Common.{◌≡◌, ℕ, ◌^◌, ◌<◌, Bool, true, false, cond, List, [], ◌∷◌, sym, refl, ap, ◌∙◌, subst, arith, lit<}
use lib.Ieee.{Float, binary64, nan_bits, of_bits, of_int, to_bits}
use types.Run.{OneOf, miss}
use denote.Enum.Declared.{tag_of}
use Rattle.scalar.specs.contracts.value.Value.{the_type}
use Rattle.scalar.specs.contracts.types.DataType as data-type
use Rattle.scalar.specs.declared.types.DataType.{DataType}
use Rattle.scalar.specs.declared.types.DataType.TheVariants as type
use Rattle.scalar.specs.declared.value.Value.{Value}
use Rattle.scalar.specs.declared.value.Value.TheVariants.{Null, Boolean, Int32, Int64, Float64, Nan, RuleText, TableText, Failed}
use Rattle.scalar.specs.Entry.{Entry, int32, int64, entry, unfit, on_entry}
use Rattle.scalar.specs.Integer.{signed, bits_of, in_range}
use Rattle.scalar.specs.Float.{float_bits}
use Rattle.scalar.specs.Cast.{narrowed, whole_fits, cast_entry}
use Rattle.scalar.specs.Casts.{kept_as, truncated_as, float_as, cast_value}
use Rattle.scalar.specs.Value.{meaning, float_value, value_saying, Storable, Gives}
use Rattle.scalar.proofs.IntegerLaws.{bits_of_below, widened_signed}
use Rattle.scalar.proofs.FloatLaws.{bits_back, floated_value, float_means, float_stores, float_bits_below}

-- ---- the steps

-- a cast to a type that is known
pub cast_to_lem : {to t : DataType} (v : Value) {r : Value} → to ≡ t → r ≡ cast_value t v → r ≡ cast_value to v
cast_to_lem v e p = p ∙ ap (λ (t : DataType). cast_value t v) (sym e)

-- an Int32's float, by its Int64, is its cast, and so is an Int64's
pub int32_float : {to : DataType} (n : ℕ) {w : ℕ} {f : Float} → n < 2 ^ 32 → to ≡ type.Float64 → w ≡ bits_of 63 (signed 31 n) → f ≡ of_int binary64 (signed 63 w) → Float64 f ≡ cast_value to (Int32 n)
unfolding cast_entry cast_value
int32_float n b e i p = cast_to_lem (Int32 n) e (floated_value (signed 31 n) (p ∙ ap (λ (x : ℕ). of_int binary64 (signed 63 x)) i ∙ ap (of_int binary64) (widened_signed n b)))

pub int64_float : {to : DataType} (n : ℕ) {f : Float} → to ≡ type.Float64 → f ≡ of_int binary64 (signed 63 n) → Float64 f ≡ cast_value to (Int64 n)
unfolding cast_entry cast_value
int64_float n e p = cast_to_lem (Int64 n) e (floated_value (signed 63 n) p)

-- an Int64's Int32, or what doesn't fit, is its cast
pub narrowed_cast : (n : ℕ) {r : Value} → r ≡ value_saying (Int64 n) (narrowed n) → r ≡ cast_value type.Int32 (Int64 n)
unfolding cast_entry cast_value
narrowed_cast n p = p

-- a Boolean is cast to no float and no text
pub boolean_lost : (to : DataType) (b : Bool) → OneOf (3 ∷ 4 ∷ []) (tag_of data-type.the_type to) → Failed ≡ cast_value to (Boolean b)
unfolding cast_entry cast_value
boolean_lost type.Float64 b h = refl
boolean_lost type.Utf8 b h = refl
boolean_lost type.Boolean b h = absurd (miss (3 ∷ 4 ∷ []) 0 tt h)
boolean_lost type.Int32 b h = absurd (miss (3 ∷ 4 ∷ []) 1 tt h)
boolean_lost type.Int64 b h = absurd (miss (3 ∷ 4 ∷ []) 2 tt h)

-- a float to no Boolean and no text
pub float_lost : (to : DataType) (v : Value) (n : ℕ) → OneOf (0 ∷ 4 ∷ []) (tag_of data-type.the_type to) → Failed ≡ float_as to v n
unfolding cast_entry
float_lost type.Boolean v n h = refl
float_lost type.Utf8 v n h = refl
float_lost type.Int32 v n h = absurd (miss (0 ∷ 4 ∷ []) 1 tt h)
float_lost type.Int64 v n h = absurd (miss (0 ∷ 4 ∷ []) 2 tt h)
float_lost type.Float64 v n h = absurd (miss (0 ∷ 4 ∷ []) 3 tt h)

-- and a text to a text alone
pub text_lost : (to : DataType) (v : Value) → OneOf (0 ∷ 1 ∷ 2 ∷ 3 ∷ []) (tag_of data-type.the_type to) → Failed ≡ kept_as type.Utf8 to v
text_lost type.Boolean v h = refl
text_lost type.Int32 v h = refl
text_lost type.Int64 v h = refl
text_lost type.Float64 v h = refl
text_lost type.Utf8 v h = absurd (miss (0 ∷ 1 ∷ 2 ∷ 3 ∷ []) 4 tt h)

-- ---- the arms of `cast`, by the tags of the values

abbrev pub IsText : Value → Type 0
IsText v = OneOf (6 ∷ 7 ∷ []) (tag_of the_type v)

abbrev pub IsNone : Value → Type 0
IsNone v = OneOf (0 ∷ 8 ∷ []) (tag_of the_type v)

-- what may not fit and is no text, whatever value a text would be
fitted_same : (v u : Value) (e : Entry) (c : Bool) → value_saying v (entry e) ≡ value_saying u (entry e) → value_saying v (cond c (entry e) unfit) ≡ value_saying u (cond c (entry e) unfit)
fitted_same v u e true p = p
fitted_same v u e false p = refl

-- a float is cast by its bits
pub float_cast : (to : DataType) (f : Float) {n : ℕ} → n ≡ to_bits binary64 f → float_as to (Float64 f) n ≡ cast_value to (Float64 f)
unfolding cast_entry cast_value
float_cast type.Boolean f e = refl
float_cast type.Int32 f e = ap (truncated_as type.Int32) e ∙ fitted_same Null (Float64 f) (int32 _) (whole_fits 31 (to_bits binary64 f)) refl
float_cast type.Int64 f e = ap (truncated_as type.Int64) e ∙ fitted_same Null (Float64 f) (int64 _) (whole_fits 63 (to_bits binary64 f)) refl
float_cast type.Float64 f e = refl
float_cast type.Utf8 f e = refl

pub nan_cast : (to : DataType) (n : ℕ) → float_as to (Nan n) n ≡ cast_value to (Nan n)
unfolding cast_entry cast_value
nan_cast type.Boolean n = refl
nan_cast type.Int32 n = fitted_same Null (Nan n) (int32 _) (whole_fits 31 n) refl
nan_cast type.Int64 n = fitted_same Null (Nan n) (int64 _) (whole_fits 63 n) refl
nan_cast type.Float64 n = refl
nan_cast type.Utf8 n = refl

-- and so is the value of some bits
pub bits_cast : (to : DataType) (n : ℕ) → n < 2 ^ 64 → float_as to (float_value n) n ≡ cast_value to (float_value n)
bits_cast to n h = go (nan_bits binary64 n) refl
  where
    go : (b : Bool) → nan_bits binary64 n ≡ b → float_as to (cond b (Nan n) (Float64 (of_bits binary64 n))) n ≡ cast_value to (cond b (Nan n) (Float64 (of_bits binary64 n)))
    go true e = nan_cast to n
    go false e = float_cast to (of_bits binary64 n) (sym (bits_back n h e))

-- a text is cast to its own type alone
pub text_cast : (to : DataType) (v : Value) → IsText v → kept_as type.Utf8 to v ≡ cast_value to v
unfolding cast_entry cast_value
text_cast type.Boolean (RuleText s n) h = refl
text_cast type.Int32 (RuleText s n) h = refl
text_cast type.Int64 (RuleText s n) h = refl
text_cast type.Float64 (RuleText s n) h = refl
text_cast type.Utf8 (RuleText s n) h = refl
text_cast type.Boolean (TableText s n) h = refl
text_cast type.Int32 (TableText s n) h = refl
text_cast type.Int64 (TableText s n) h = refl
text_cast type.Float64 (TableText s n) h = refl
text_cast type.Utf8 (TableText s n) h = refl
text_cast to Null h = absurd (miss (6 ∷ 7 ∷ []) 0 tt h)
text_cast to (Boolean b) h = absurd (miss (6 ∷ 7 ∷ []) 1 tt h)
text_cast to (Int32 n) h = absurd (miss (6 ∷ 7 ∷ []) 2 tt h)
text_cast to (Int64 n) h = absurd (miss (6 ∷ 7 ∷ []) 3 tt h)
text_cast to (Float64 f) h = absurd (miss (6 ∷ 7 ∷ []) 4 tt h)
text_cast to (Nan n) h = absurd (miss (6 ∷ 7 ∷ []) 5 tt h)
text_cast to Failed h = absurd (miss (6 ∷ 7 ∷ []) 8 tt h)

-- null is cast to null, and what has failed stays so
pub none_cast : (to : DataType) (v : Value) → IsNone v → v ≡ cast_value to v
unfolding cast_entry cast_value
none_cast type.Boolean Null h = refl
none_cast type.Int32 Null h = refl
none_cast type.Int64 Null h = refl
none_cast type.Float64 Null h = refl
none_cast type.Utf8 Null h = refl
none_cast to Failed h = refl
none_cast to (Boolean b) h = absurd (miss (0 ∷ 8 ∷ []) 1 tt h)
none_cast to (Int32 n) h = absurd (miss (0 ∷ 8 ∷ []) 2 tt h)
none_cast to (Int64 n) h = absurd (miss (0 ∷ 8 ∷ []) 3 tt h)
none_cast to (Float64 f) h = absurd (miss (0 ∷ 8 ∷ []) 4 tt h)
none_cast to (Nan n) h = absurd (miss (0 ∷ 8 ∷ []) 5 tt h)
none_cast to (RuleText s n) h = absurd (miss (0 ∷ 8 ∷ []) 6 tt h)
none_cast to (TableText s n) h = absurd (miss (0 ∷ 8 ∷ []) 7 tt h)

-- ---- what a cast means

flag_small : {m : ℕ} (b : Bool) → 1 < m → cond b 1 0 < m
flag_small true h = h
flag_small false h = omega arith

-- what may not fit means what it is said to, and can be stored
fitted_means : (v : Value) (e : Entry) (c : Bool) (rule table : List ℕ) → meaning rule table (value_saying v (entry e)) ≡ entry e → meaning rule table (value_saying v (cond c (entry e) unfit)) ≡ cond c (entry e) unfit
fitted_means v e true rule table p = p
fitted_means v e false rule table p = refl

fitted_stores : (v : Value) (e : Entry) (c : Bool) → Storable (value_saying v (entry e)) → Storable (value_saying v (cond c (entry e) unfit))
fitted_stores v e true p = p
fitted_stores v e false p = tt

cast_means : (to : DataType) (v : Value) (rule table : List ℕ) → meaning rule table (cast_value to v) ≡ on_entry (cast_entry to) (meaning rule table v)
unfolding cast_entry cast_value
cast_means type.Boolean Null rule table = refl
cast_means type.Int32 Null rule table = refl
cast_means type.Int64 Null rule table = refl
cast_means type.Float64 Null rule table = refl
cast_means type.Utf8 Null rule table = refl
cast_means type.Boolean (Boolean b) rule table = refl
cast_means type.Int32 (Boolean b) rule table = refl
cast_means type.Int64 (Boolean b) rule table = refl
cast_means type.Float64 (Boolean b) rule table = refl
cast_means type.Utf8 (Boolean b) rule table = refl
cast_means type.Boolean (Int32 n) rule table = refl
cast_means type.Int32 (Int32 n) rule table = refl
cast_means type.Int64 (Int32 n) rule table = refl
cast_means type.Float64 (Int32 n) rule table = float_means (float_bits (signed 31 n)) (float_bits_below (signed 31 n)) rule table
cast_means type.Utf8 (Int32 n) rule table = refl
cast_means type.Boolean (Int64 n) rule table = refl
cast_means type.Int32 (Int64 n) rule table = fitted_means (Int64 n) (int32 _) (in_range 31 (signed 63 n)) rule table refl
cast_means type.Int64 (Int64 n) rule table = refl
cast_means type.Float64 (Int64 n) rule table = float_means (float_bits (signed 63 n)) (float_bits_below (signed 63 n)) rule table
cast_means type.Utf8 (Int64 n) rule table = refl
cast_means type.Boolean (Float64 f) rule table = refl
cast_means type.Int32 (Float64 f) rule table = fitted_means (Float64 f) (int32 _) (whole_fits 31 (to_bits binary64 f)) rule table refl
cast_means type.Int64 (Float64 f) rule table = fitted_means (Float64 f) (int64 _) (whole_fits 63 (to_bits binary64 f)) rule table refl
cast_means type.Float64 (Float64 f) rule table = refl
cast_means type.Utf8 (Float64 f) rule table = refl
cast_means type.Boolean (Nan n) rule table = refl
cast_means type.Int32 (Nan n) rule table = fitted_means (Nan n) (int32 _) (whole_fits 31 n) rule table refl
cast_means type.Int64 (Nan n) rule table = fitted_means (Nan n) (int64 _) (whole_fits 63 n) rule table refl
cast_means type.Float64 (Nan n) rule table = refl
cast_means type.Utf8 (Nan n) rule table = refl
cast_means type.Boolean (RuleText s n) rule table = refl
cast_means type.Int32 (RuleText s n) rule table = refl
cast_means type.Int64 (RuleText s n) rule table = refl
cast_means type.Float64 (RuleText s n) rule table = refl
cast_means type.Utf8 (RuleText s n) rule table = refl
cast_means type.Boolean (TableText s n) rule table = refl
cast_means type.Int32 (TableText s n) rule table = refl
cast_means type.Int64 (TableText s n) rule table = refl
cast_means type.Float64 (TableText s n) rule table = refl
cast_means type.Utf8 (TableText s n) rule table = refl
cast_means to Failed rule table = refl

cast_stores : (to : DataType) (v : Value) → Storable v → Storable (cast_value to v)
unfolding cast_entry cast_value
cast_stores type.Boolean Null h = tt
cast_stores type.Int32 Null h = tt
cast_stores type.Int64 Null h = tt
cast_stores type.Float64 Null h = tt
cast_stores type.Utf8 Null h = tt
cast_stores type.Boolean (Boolean b) h = tt
cast_stores type.Int32 (Boolean b) h = flag_small b (lit< tt)
cast_stores type.Int64 (Boolean b) h = flag_small b (lit< tt)
cast_stores type.Float64 (Boolean b) h = tt
cast_stores type.Utf8 (Boolean b) h = tt
cast_stores type.Boolean (Int32 n) h = tt
cast_stores type.Int32 (Int32 n) h = h
cast_stores type.Int64 (Int32 n) h = bits_of_below 63 (signed 31 n)
cast_stores type.Float64 (Int32 n) h = float_stores (float_bits (signed 31 n)) (float_bits_below (signed 31 n))
cast_stores type.Utf8 (Int32 n) h = tt
cast_stores type.Boolean (Int64 n) h = tt
cast_stores type.Int32 (Int64 n) h = fitted_stores (Int64 n) (int32 _) (in_range 31 (signed 63 n)) (bits_of_below 31 _)
cast_stores type.Int64 (Int64 n) h = h
cast_stores type.Float64 (Int64 n) h = float_stores (float_bits (signed 63 n)) (float_bits_below (signed 63 n))
cast_stores type.Utf8 (Int64 n) h = tt
cast_stores type.Boolean (Float64 f) h = tt
cast_stores type.Int32 (Float64 f) h = fitted_stores (Float64 f) (int32 _) (whole_fits 31 (to_bits binary64 f)) (bits_of_below 31 _)
cast_stores type.Int64 (Float64 f) h = fitted_stores (Float64 f) (int64 _) (whole_fits 63 (to_bits binary64 f)) (bits_of_below 63 _)
cast_stores type.Float64 (Float64 f) h = h
cast_stores type.Utf8 (Float64 f) h = tt
cast_stores type.Boolean (Nan n) h = tt
cast_stores type.Int32 (Nan n) h = fitted_stores (Nan n) (int32 _) (whole_fits 31 n) (bits_of_below 31 _)
cast_stores type.Int64 (Nan n) h = fitted_stores (Nan n) (int64 _) (whole_fits 63 n) (bits_of_below 63 _)
cast_stores type.Float64 (Nan n) h = h
cast_stores type.Utf8 (Nan n) h = tt
cast_stores type.Boolean (RuleText s n) h = tt
cast_stores type.Int32 (RuleText s n) h = tt
cast_stores type.Int64 (RuleText s n) h = tt
cast_stores type.Float64 (RuleText s n) h = tt
cast_stores type.Utf8 (RuleText s n) h = h
cast_stores type.Boolean (TableText s n) h = tt
cast_stores type.Int32 (TableText s n) h = tt
cast_stores type.Int64 (TableText s n) h = tt
cast_stores type.Float64 (TableText s n) h = tt
cast_stores type.Utf8 (TableText s n) h = h
cast_stores to Failed h = tt

-- a cast gives what the entry's cast is
pub cast_gives : (to : DataType) (v : Value) {r : Value} → r ≡ cast_value to v → Gives (cast_entry to) v r
cast_gives to v e = subst (Gives (cast_entry to) v) (sym e) (record { means = cast_means to v; stores = cast_stores to v })
