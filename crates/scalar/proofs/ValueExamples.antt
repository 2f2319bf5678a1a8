-- Operations on values that are known. Assumes nothing.
use Rattle.std.proofs.Common.{◌≡◌, true, [], ◌∷◌, refl}
use lib.Ieee.{nan_bits}
use Rattle.scalar.specs.declared.types.DataType.TheVariants as Of
use Rattle.std.specs.Prelude.{Some, None}
use Rattle.scalar.specs.declared.value.Value.TheVariants.{Null, Boolean, Int32, Int64, Nan, RuleText, TableText, Failed}
use Rattle.scalar.specs.Types.{type_numbered, type_answer}
use Rattle.scalar.specs.Text.{same_bytes, text_less}
use Rattle.scalar.specs.Integer.{bits_of}
use Rattle.scalar.specs.Entry.{entry}
use Rattle.scalar.specs.Pair.{pair_of}
use Rattle.scalar.specs.Not.{not_entry}
use Rattle.scalar.specs.IsNotNull.{is_not_null_entry}
use Rattle.scalar.specs.Negative.{negative_entry}
use Rattle.scalar.specs.Compare.{equal_entry, less_entry}
use Rattle.scalar.specs.Cast.{cast_entry}
use Rattle.scalar.specs.Casts.{cast_value, try_cast_value}
use Rattle.scalar.specs.Value.{on_value, on_values}

-- NOT of null is null; a text is not null; what has failed stays so
pub flag_example : (on_value (λ e. entry (not_entry e)) Null ≡ Null) × (on_value (λ e. entry (is_not_null_entry e)) (RuleText 3 4) ≡ Boolean true) × (on_value (λ e. entry (is_not_null_entry e)) Failed ≡ Failed)
flag_example = (refl, refl, refl)

-- 1 negates to -1, the lowest Int32 to itself, a NaN to the one with the other sign
pub negative_example :
    (on_value (λ e. entry (negative_entry e)) (Int32 1) ≡ Int32 4294967295) × (on_value (λ e. entry (negative_entry e)) (Int32 2147483648) ≡ Int32 2147483648) × (on_value (λ e. entry (negative_entry e)) (Nan 9221120237041090561) ≡ Nan 18444492273895866369)
unfolding bits_of nan_bits
negative_example = (refl, refl, refl)

-- -2147483648 fits into Int32 and 2147483648 doesn't; a NaN and a text are kept as they are held; a Boolean is no text
pub cast_example :
    (cast_value Of.Int32 (Int64 18446744071562067968) ≡ Int32 2147483648) × (cast_value Of.Int32 (Int64 2147483648) ≡ Failed) × (cast_value Of.Float64 (Nan 9221120237041090561) ≡ Nan 9221120237041090561)
    × (cast_value Of.Utf8 (TableText 3 4) ≡ TableText 3 4) × (cast_value Of.Utf8 (Boolean true) ≡ Failed)
unfolding cast_value cast_entry bits_of
cast_example = (refl, refl, refl, refl, refl)

-- what doesn't fit is null; what has failed before stays so
pub try_cast_example : (try_cast_value Of.Int32 (Int64 2147483648) ≡ Null) × (try_cast_value Of.Int32 Failed ≡ Failed) × (try_cast_value Of.Int64 (Int32 4294967295) ≡ Int64 18446744073709551615)
unfolding try_cast_value cast_value cast_entry bits_of
try_cast_example = (refl, refl, refl)

-- the rule's "a" and the table's; the rule's "a" before the table's "ab"; null beside a number
pub compare_example :
    (on_values equal_entry (97 ∷ []) (97 ∷ 98 ∷ []) (RuleText 0 1) (TableText 0 1) ≡ Boolean true) × (on_values less_entry (97 ∷ []) (97 ∷ 98 ∷ []) (RuleText 0 1) (TableText 0 2) ≡ Boolean true)
    × (on_values equal_entry [] [] Null (Int32 1) ≡ Null)
unfolding pair_of same_bytes text_less
compare_example = (refl, refl, refl)

-- 5 is Utf8, 6 is none
pub type_example : (type_answer (type_numbered 0 5) ≡ Some Of.Utf8) × (type_answer (type_numbered 0 6) ≡ None)
unfolding type_numbered
type_example = (refl, refl)
