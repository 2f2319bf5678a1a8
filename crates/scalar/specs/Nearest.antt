-- IEEE 754's roundTiesToEven, in its words, and the cast from Int64 to Float64 by it (02, Change 2). No integer of 64 bits comes near an infinity.
use Rattle.std.specs.Prelude.{◌≡◌, ℕ, ◌+◌, ◌-◌, ◌*◌, ◌%◌, ◌^◌, ◌<◌, ◌≤◌, true, ℤ, pos, ◌≢◌, int_lt, unsigned_abs}
use Rattle.scalar.specs.Integer.{signed}
use Rattle.scalar.specs.Float.{float_bits}
use Rattle.scalar.specs.WholePart.{digits_of, sign_set, finite, units_of}

-- how far apart two numbers are
abbrev pub apart : ℕ → ℕ → ℕ
apart a b = (a - b) + (b - a)

-- how far the magnitude of the float b is from n; both are counted in 2 ^ -1075, as units_of is
abbrev pub distance : ℕ → ℕ → ℕ
distance n b = apart (units_of b) (n * 2 ^ 1075)

-- the float b is delivered for an infinitely precise result of magnitude n
pub record NearestEven (n b : ℕ) : Type 0 where
  pub is_finite : finite b ≡ true
  -- "the floating-point number nearest to the infinitely precise result shall be delivered"
  pub nearest : (c : ℕ) → finite c ≡ true → distance n b ≤ distance n c
  -- "if the two nearest floating-point numbers .. are equally near, the one with an even least significant digit shall be delivered"
  pub even : (c : ℕ) → finite c ≡ true → distance n c ≡ distance n b → (units_of c ≢ units_of b) → digits_of b % 2 ≡ 0

-- the float of an integer: 64 bits, the integer's sign (0 is +0.0), and its magnitude rounded; a float of the other sign is no nearer than 0
pub record FloatNearest (z : ℤ) (b : ℕ) : Type 0 where
  pub wide : b < 2 ^ 64
  pub sign : sign_set b ≡ int_lt z (pos 0)
  pub magnitude : NearestEven (unsigned_abs z) b

-- Int64 to Float64 is rounded to nearest, ties to even (02, Change 2)
abbrev pub Int64Nearest : Type 0
Int64Nearest = (n : ℕ) → n < 2 ^ 64 → FloatNearest (signed 63 n) (float_bits (signed 63 n))

-- and no other bits are so rounded
abbrev pub OneNearest : Type 0
OneNearest = (z : ℤ) (b c : ℕ) → FloatNearest z b → FloatNearest z c → b ≡ c
