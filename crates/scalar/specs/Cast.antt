-- Cast: a value that doesn't fit fails (01, Modules: cast.rs).
use Rattle.std.specs.Prelude.{◌≡◌, ℕ, Bool, true, false, cond, not, ◌&&◌, ◌||◌, ◌⊎◌, ◌↔◌, ◌==◌}
use Rattle.scalar.specs.declared.types.DataType.{DataType}
use Rattle.scalar.specs.declared.types.DataType.TheVariants.{Boolean, Int32, Int64, Float64, Utf8}
use Rattle.scalar.specs.Types.{same_type, is_number, is_integer}
use Rattle.scalar.specs.Integer.{signed, bits_of, in_range}
use Rattle.scalar.specs.Float.{float_bits}
use Rattle.scalar.specs.WholePart.{finite, whole_part}
use Rattle.scalar.specs.Entry.{Entry, null, boolean, int32, int64, float64, utf8, Outcome, entry, unfit, of_type}

-- one of the types 1, 2, 3
abbrev pub whole : DataType → Bool
whole Boolean = true
whole Int32 = true
whole Int64 = true
whole Float64 = false
whole Utf8 = false

-- casts: each type to itself, any pair among 1, 2, 3, and 2 to 4 (01, Bytes of a rule: Types); 3 to 4, and 4 to 2 and 3 (02, Change 2)
abbrev pub listed : DataType → DataType → Bool
listed Boolean to = whole to
listed Int32 to = whole to || same_type to Float64
listed Int64 to = whole to || same_type to Float64
listed Float64 to = is_number to
listed Utf8 to = same_type to Utf8

-- integer to Boolean is "not zero"
abbrev pub to_boolean : Entry → Outcome
to_boolean null = entry null
to_boolean (boolean b) = entry (boolean b)
to_boolean (int32 n) = entry (boolean (not (n == 0)))
to_boolean (int64 n) = entry (boolean (not (n == 0)))
to_boolean (float64 n) = unfit
to_boolean (utf8 t) = unfit

-- Int64 to Int32 can fail to fit, at a value outside Int32's range (01, One row)
abbrev pub narrowed : ℕ → Outcome
narrowed n = cond (in_range 31 (signed 63 n)) (entry (int32 (bits_of 31 (signed 63 n)))) unfit

-- a float that fits an integer with h bits below the sign: NaN, infinities or a whole part out of range don't (02, Change 2)
abbrev pub whole_fits : ℕ → ℕ → Bool
whole_fits h b = finite b && in_range h (whole_part b)

-- Float64 to an integer: the fraction is dropped first, then the range is looked at (02, Change 2)
abbrev pub truncated : ℕ → (ℕ → Entry) → ℕ → Outcome
truncated h made b = cond (whole_fits h b) (entry (made (bits_of h (whole_part b)))) unfit

-- Boolean to integer is 1 or 0
abbrev pub to_int32 : Entry → Outcome
to_int32 null = entry null
to_int32 (boolean b) = entry (int32 (cond b 1 0))
to_int32 (int32 n) = entry (int32 n)
to_int32 (int64 n) = narrowed n
to_int32 (float64 n) = truncated 31 int32 n
to_int32 (utf8 t) = unfit

-- Boolean to integer is 1 or 0, Int32 to Int64 the same number
abbrev pub to_int64 : Entry → Outcome
to_int64 null = entry null
to_int64 (boolean b) = entry (int64 (cond b 1 0))
to_int64 (int32 n) = entry (int64 (bits_of 63 (signed 31 n)))
to_int64 (int64 n) = entry (int64 n)
to_int64 (float64 n) = truncated 63 int64 n
to_int64 (utf8 t) = unfit

-- Int32 to Float64 is the same number, Int64 to Float64 the nearest float, ties to even (02, Change 2)
abbrev pub to_float64 : Entry → Outcome
to_float64 null = entry null
to_float64 (boolean b) = unfit
to_float64 (int32 n) = entry (float64 (float_bits (signed 31 n)))
to_float64 (int64 n) = entry (float64 (float_bits (signed 63 n)))
to_float64 (float64 n) = entry (float64 n)
to_float64 (utf8 t) = unfit

-- text is cast to text alone
abbrev pub to_utf8 : Entry → Outcome
to_utf8 null = entry null
to_utf8 (boolean b) = unfit
to_utf8 (int32 n) = unfit
to_utf8 (int64 n) = unfit
to_utf8 (float64 n) = unfit
to_utf8 (utf8 t) = entry (utf8 t)

-- a cast to a type; a pair that isn't listed never stands in an accepted rule, and fits no value
unfoldable pub cast_entry : DataType → Entry → Outcome
cast_entry Boolean e = to_boolean e
cast_entry Int32 e = to_int32 e
cast_entry Int64 e = to_int64 e
cast_entry Float64 e = to_float64 e
cast_entry Utf8 e = to_utf8 e

-- the value of the cast doesn't fit
abbrev pub is_unfit : Outcome → Bool
is_unfit (entry e) = false
is_unfit unfit = true

-- the casts that can fail to fit, by the types alone: Int64 to Int32 (01, One row), Float64 to an integer (02, Change 2)
abbrev pub can_fail_to_fit : DataType → DataType → Bool
can_fail_to_fit Boolean to = false
can_fail_to_fit Int32 to = false
can_fail_to_fit Int64 to = same_type to Int32
can_fail_to_fit Float64 to = is_integer to
can_fail_to_fit Utf8 to = false

-- of the listed casts these and no others have a value that doesn't fit
abbrev pub CanFailExactly : Type 0
CanFailExactly = (from to : DataType) → listed from to ≡ true → (can_fail_to_fit from to ≡ true) ↔ ((v : Entry) × (of_type from v ≡ true) × (cast_entry to v ≡ unfit))

-- an Int64 cast to Int32, at a value outside Int32's range (01, One row)
pub record NarrowsOutside (from to : DataType) (v : Entry) : Type 0 where
  pub number : ℕ
  pub from_is : from ≡ Int64
  pub to_is : to ≡ Int32
  pub value_is : v ≡ int64 number
  pub outside : in_range 31 (signed 63 number) ≡ false

-- a Float64 cast to an integer type with h bits below the sign, at a NaN, an infinity or a whole part out of range (02, Change 2)
pub record TruncatesOutside (integer : DataType) (h : ℕ) (from to : DataType) (v : Entry) : Type 0 where
  pub number : ℕ
  pub from_is : from ≡ Float64
  pub to_is : to ≡ integer
  pub value_is : v ≡ float64 number
  pub outside : whole_fits h number ≡ false

-- a cast that fails to fit: of one of three pairs
abbrev pub FailsToFit : DataType → DataType → Entry → Type 0
FailsToFit from to v = NarrowsOutside from to v ⊎ (TruncatesOutside Int32 31 from to v ⊎ TruncatesOutside Int64 63 from to v)

-- of the listed casts only these can fail to fit, and they do (01, One row; 02, Change 2)
abbrev pub CastFailsExactly : Type 0
CastFailsExactly = (from to : DataType) (v : Entry) → listed from to ≡ true → of_type from v ≡ true → (cast_entry to v ≡ unfit) ↔ FailsToFit from to v
