-- Casts between floats and integers at their edges, by computation (02, Change 2). Floats stand by their bits, integers by two's complement. Assumes nothing.
use Rattle.std.proofs.Common.{◌≡◌, ℕ, Bool, true, false, cond, not, ◌&&◌, ◌||◌, List, [], ◌∷◌, map, refl, ap}
use lib.Ieee.{of_int, to_bits}
use Rattle.scalar.specs.declared.types.DataType.{DataType}
use Rattle.scalar.specs.declared.types.DataType.TheVariants.{Boolean, Int32, Int64, Float64, Utf8}
use Rattle.scalar.specs.Types.{same_type}
use Rattle.scalar.specs.Integer.{bits_of, in_range}
use Rattle.scalar.specs.WholePart.{finite, significand, scale, whole_of, whole_part}
use Rattle.scalar.specs.Entry.{null, int32, int64, float64, entry, unfit}
use Rattle.scalar.specs.Cast.{whole, listed, cast_entry}
use Rattle.scalar.specs.TryCast.{try_cast_entry}

-- ---- Float64 to an integer

pub record Float64ToInt32 : Type 0 where
  pub zero : cast_entry Int32 (float64 0) ≡ entry (int32 0)
  pub minus_zero : cast_entry Int32 (float64 0x8000_0000_0000_0000) ≡ entry (int32 0)
  -- 0.9, -0.9, -2.9
  pub below_one : cast_entry Int32 (float64 0x3fec_cccc_cccc_cccd) ≡ entry (int32 0)
  pub above_minus_one : cast_entry Int32 (float64 0xbfec_cccc_cccc_cccd) ≡ entry (int32 0)
  pub toward_zero : cast_entry Int32 (float64 0xc007_3333_3333_3333) ≡ entry (int32 0xffff_fffe)
  -- 2147483647.9, 2147483648.0
  pub highest : cast_entry Int32 (float64 0x41df_ffff_fff9_999a) ≡ entry (int32 0x7fff_ffff)
  pub above_highest : cast_entry Int32 (float64 0x41e0_0000_0000_0000) ≡ unfit
  -- -2147483648.9, -2147483649.0
  pub lowest : cast_entry Int32 (float64 0xc1e0_0000_001c_cccd) ≡ entry (int32 0x8000_0000)
  pub below_lowest : cast_entry Int32 (float64 0xc1e0_0000_0020_0000) ≡ unfit

pub float64_to_int32 : Float64ToInt32
unfolding cast_entry whole_of significand scale bits_of
float64_to_int32 = record {
  zero = refl;
  minus_zero = refl;
  below_one = refl;
  above_minus_one = refl;
  toward_zero = refl;
  highest = refl;
  above_highest = refl;
  lowest = refl;
  below_lowest = refl;
}

pub record Float64ToInt64 : Type 0 where
  pub zero : cast_entry Int64 (float64 0) ≡ entry (int64 0)
  pub minus_zero : cast_entry Int64 (float64 0x8000_0000_0000_0000) ≡ entry (int64 0)
  -- 0.9, -0.9, -2.9
  pub below_one : cast_entry Int64 (float64 0x3fec_cccc_cccc_cccd) ≡ entry (int64 0)
  pub above_minus_one : cast_entry Int64 (float64 0xbfec_cccc_cccc_cccd) ≡ entry (int64 0)
  pub toward_zero : cast_entry Int64 (float64 0xc007_3333_3333_3333) ≡ entry (int64 0xffff_ffff_ffff_fffe)
  -- 2147483648.0, -2147483649.0
  pub above_int32 : cast_entry Int64 (float64 0x41e0_0000_0000_0000) ≡ entry (int64 0x8000_0000)
  pub below_int32 : cast_entry Int64 (float64 0xc1e0_0000_0020_0000) ≡ entry (int64 0xffff_ffff_7fff_ffff)
  -- the float below 2^63, which is 2^63 - 1024; 2^63
  pub highest : cast_entry Int64 (float64 0x43df_ffff_ffff_ffff) ≡ entry (int64 0x7fff_ffff_ffff_fc00)
  pub above_highest : cast_entry Int64 (float64 0x43e0_0000_0000_0000) ≡ unfit
  -- -2^63; the float below it
  pub lowest : cast_entry Int64 (float64 0xc3e0_0000_0000_0000) ≡ entry (int64 0x8000_0000_0000_0000)
  pub below_lowest : cast_entry Int64 (float64 0xc3e0_0000_0000_0001) ≡ unfit

pub float64_to_int64 : Float64ToInt64
unfolding cast_entry whole_of significand scale bits_of
float64_to_int64 = record {
  zero = refl;
  minus_zero = refl;
  below_one = refl;
  above_minus_one = refl;
  toward_zero = refl;
  above_int32 = refl;
  below_int32 = refl;
  highest = refl;
  above_highest = refl;
  lowest = refl;
  below_lowest = refl;
}

-- subnormals: an exponent of 0
pub record Subnormals : Type 0 where
  pub least : cast_entry Int32 (float64 1) ≡ entry (int32 0)
  pub largest : cast_entry Int32 (float64 0x000f_ffff_ffff_ffff) ≡ entry (int32 0)
  pub negative : cast_entry Int32 (float64 0x800f_ffff_ffff_ffff) ≡ entry (int32 0)
  pub least_int64 : cast_entry Int64 (float64 1) ≡ entry (int64 0)
  pub largest_int64 : cast_entry Int64 (float64 0x000f_ffff_ffff_ffff) ≡ entry (int64 0)
  pub negative_int64 : cast_entry Int64 (float64 0x800f_ffff_ffff_ffff) ≡ entry (int64 0)

pub subnormals : Subnormals
unfolding cast_entry whole_of significand scale bits_of
subnormals = record { least = refl; largest = refl; negative = refl; least_int64 = refl; largest_int64 = refl; negative_int64 = refl }

-- an exponent of all ones: infinities, quiet and signaling NaNs
pub record NotFinite : Type 0 where
  pub infinity : cast_entry Int32 (float64 0x7ff0_0000_0000_0000) ≡ unfit
  pub minus_infinity : cast_entry Int32 (float64 0xfff0_0000_0000_0000) ≡ unfit
  pub quiet_nan : cast_entry Int32 (float64 0x7ff8_0000_0000_0000) ≡ unfit
  pub minus_quiet_nan : cast_entry Int32 (float64 0xfff8_0000_0000_0000) ≡ unfit
  pub signaling_nan : cast_entry Int32 (float64 0x7ff0_0000_0000_0001) ≡ unfit
  pub infinity_int64 : cast_entry Int64 (float64 0x7ff0_0000_0000_0000) ≡ unfit
  pub minus_infinity_int64 : cast_entry Int64 (float64 0xfff0_0000_0000_0000) ≡ unfit
  pub quiet_nan_int64 : cast_entry Int64 (float64 0x7ff8_0000_0000_0000) ≡ unfit
  pub minus_quiet_nan_int64 : cast_entry Int64 (float64 0xfff8_0000_0000_0000) ≡ unfit
  pub signaling_nan_int64 : cast_entry Int64 (float64 0x7ff0_0000_0000_0001) ≡ unfit
  -- and of any digits
  pub any : (b : ℕ) → finite b ≡ false → cast_entry Int32 (float64 b) ≡ unfit
  pub any_int64 : (b : ℕ) → finite b ≡ false → cast_entry Int64 (float64 b) ≡ unfit

pub not_finite : NotFinite
unfolding cast_entry whole_of significand scale bits_of
not_finite = record {
  infinity = refl;
  minus_infinity = refl;
  quiet_nan = refl;
  minus_quiet_nan = refl;
  signaling_nan = refl;
  infinity_int64 = refl;
  minus_infinity_int64 = refl;
  quiet_nan_int64 = refl;
  minus_quiet_nan_int64 = refl;
  signaling_nan_int64 = refl;
  any = λ b e. ap (λ (f : Bool). cond (f && in_range 31 (whole_part b)) (entry (int32 (bits_of 31 (whole_part b)))) unfit) e;
  any_int64 = λ b e. ap (λ (f : Bool). cond (f && in_range 63 (whole_part b)) (entry (int64 (bits_of 63 (whole_part b)))) unfit) e;
}

-- ---- Int64 to Float64

pub record Int64ToFloat64 : Type 0 where
  pub zero : cast_entry Float64 (int64 0) ≡ entry (float64 0)
  -- 2^53 + 1 is as far from 2^53, which is even, as from 2^53 + 2
  pub tie_down : cast_entry Float64 (int64 0x0020_0000_0000_0001) ≡ entry (float64 0x4340_0000_0000_0000)
  -- -(2^53 + 3) is as far from -(2^53 + 4), which is even, as from -(2^53 + 2)
  pub tie_up : cast_entry Float64 (int64 0xffdf_ffff_ffff_fffd) ≡ entry (float64 0xc340_0000_0000_0002)
  -- 2^63 - 1 gives 2^63
  pub highest : cast_entry Float64 (int64 0x7fff_ffff_ffff_ffff) ≡ entry (float64 0x43e0_0000_0000_0000)
  -- -2^63
  pub lowest : cast_entry Float64 (int64 0x8000_0000_0000_0000) ≡ entry (float64 0xc3e0_0000_0000_0000)

pub int64_to_float64 : Int64ToFloat64
unfolding cast_entry to_bits of_int
int64_to_float64 = record { zero = refl; tie_down = refl; tie_up = refl; highest = refl; lowest = refl }

-- ---- try-cast: what doesn't fit is null

pub record TryCasts : Type 0 where
  -- 2147483648.0, 2^63
  pub above_highest : try_cast_entry Int32 (float64 0x41e0_0000_0000_0000) ≡ null
  pub above_highest_int64 : try_cast_entry Int64 (float64 0x43e0_0000_0000_0000) ≡ null
  pub nan : try_cast_entry Int32 (float64 0x7ff8_0000_0000_0000) ≡ null
  pub minus_infinity : try_cast_entry Int64 (float64 0xfff0_0000_0000_0000) ≡ null
  -- 2147483647.9 fits
  pub highest : try_cast_entry Int32 (float64 0x41df_ffff_fff9_999a) ≡ int32 0x7fff_ffff

pub try_casts : TryCasts
unfolding cast_entry whole_of significand scale bits_of
try_casts = record { above_highest = refl; above_highest_int64 = refl; nan = refl; minus_infinity = refl; highest = refl }

-- ---- the listed pairs

-- in the order of their numbers
abbrev pub types : List DataType
types = Boolean ∷ Int32 ∷ Int64 ∷ Float64 ∷ Utf8 ∷ []

-- a list for each type that is cast, an item for each type that it is cast to
abbrev pub pairs : (DataType → DataType → Bool) → List (List Bool)
pairs test = map (λ (from : DataType). map (test from) types) types

-- the pairs of 01: each type to itself, any pair among 1, 2, 3, and 2 to 4 (01, Bytes of a rule: Types)
abbrev pub listed_by_01 : DataType → DataType → Bool
listed_by_01 from to = same_type from to || ((whole from && whole to) || (same_type from Int32 && same_type to Float64))

-- listed, and not by 01
abbrev pub added : DataType → DataType → Bool
added from to = listed from to && not (listed_by_01 from to)

-- listed by 01 alone
abbrev pub removed : DataType → DataType → Bool
removed from to = listed_by_01 from to && not (listed from to)

abbrev pub none : List Bool
none = false ∷ false ∷ false ∷ false ∷ false ∷ []

pub record Listed : Type 0 where
  pub all :
      pairs listed
      ≡ (true ∷ true ∷ true ∷ false ∷ false ∷ [])
      ∷ (true ∷ true ∷ true ∷ true ∷ false ∷ [])
      ∷ (true ∷ true ∷ true ∷ true ∷ false ∷ [])
      ∷ (false ∷ true ∷ true ∷ true ∷ false ∷ [])
      ∷ (false ∷ false ∷ false ∷ false ∷ true ∷ [])
      ∷ []
  -- 3 to 4, and 4 to 2 and 3
  pub three_more : pairs added ≡ none ∷ none ∷ (false ∷ false ∷ false ∷ true ∷ false ∷ []) ∷ (false ∷ true ∷ true ∷ false ∷ false ∷ []) ∷ none ∷ []
  pub none_less : pairs removed ≡ none ∷ none ∷ none ∷ none ∷ none ∷ []
  -- refused with 7
  pub float64_to_boolean : listed Float64 Boolean ≡ false
  pub boolean_to_float64 : listed Boolean Float64 ≡ false
  pub float64_to_utf8 : listed Float64 Utf8 ≡ false
  pub utf8_to_float64 : listed Utf8 Float64 ≡ false

pub listed_pairs : Listed
listed_pairs = record { all = refl; three_more = refl; none_less = refl; float64_to_boolean = refl; boolean_to_float64 = refl; float64_to_utf8 = refl; utf8_to_float64 = refl }
