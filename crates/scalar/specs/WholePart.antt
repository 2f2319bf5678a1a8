-- The whole part of a Float64 by its 64 bits (02, Change 2), in IEEE 754's words for binary64: a sign, a biased exponent of 11 bits, and 52 digits.
use Rattle.std.specs.Prelude.{ℕ, ◌+◌, ◌*◌, ◌/◌, ◌%◌, ◌^◌, Bool, cond, ℤ, pos, neg_ℤ, ◌==◌, nat_le, nat_lt}

-- the biased exponent
abbrev pub exponent_of : ℕ → ℕ
exponent_of b = b % 2 ^ 63 / 2 ^ 52

-- the digits behind the leading one
abbrev pub digits_of : ℕ → ℕ
digits_of b = b % 2 ^ 52

-- the sign is set
abbrev pub sign_set : ℕ → Bool
sign_set b = nat_le (2 ^ 63) b

-- an exponent of all ones is an infinity's or a NaN's
abbrev pub finite : ℕ → Bool
finite b = nat_lt (exponent_of b) 2047

-- an exponent of 0 has no leading digit
unfoldable pub significand : ℕ → ℕ
significand b = cond (exponent_of b == 0) (digits_of b) (2 ^ 52 + digits_of b)

-- and it counts as 1
unfoldable pub scale : ℕ → ℕ
scale b = cond (exponent_of b == 0) 1 (exponent_of b)

-- the magnitude of a finite float, exactly: so many times 2 ^ -1075
abbrev pub units_of : ℕ → ℕ
units_of b = significand b * 2 ^ scale b

-- the whole part of the magnitude
unfoldable pub whole_of : ℕ → ℕ
unfolding significand scale
whole_of b = units_of b / 2 ^ 1075

-- the fraction is dropped toward zero, and -0.0 gives 0 (02, Change 2)
abbrev pub whole_part : ℕ → ℤ
whole_part b = cond (sign_set b) (neg_ℤ (pos (whole_of b))) (pos (whole_of b))
