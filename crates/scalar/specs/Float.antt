-- Float64 by its 64 bits (01, One row; Modules: negative.rs).
use Rattle.std.specs.Prelude.{ℕ, suc, ◌+◌, ◌-◌, ◌^◌, Bool, true, false, cond, ℤ, nat_lt, to_bits}
use Rattle.std.specs.Float.{binary64}
use Rattle.std.specs.Float.Ieee.{of_int}

-- on floats the sign bit turns (01, Modules: negative.rs); h bits stand below it
abbrev pub sign_turned : ℕ → ℕ → ℕ
sign_turned h n = cond (nat_lt n (2 ^ h)) (n + 2 ^ h) (n - 2 ^ h)

-- IEEE 754 totalOrder without equals: a pattern with the sign is below all without; those with it go by falling, those without by rising pattern
abbrev pub total_less : ℕ → ℕ → ℕ → Bool
total_less h a b =
    cond (nat_lt a (2 ^ h)) (cond (nat_lt b (2 ^ h)) (nat_lt a b) false)
    (cond (nat_lt b (2 ^ h)) true (nat_lt b a))

-- a number that goes with totalOrder: without the sign the bits rise above it, with it they fall below
abbrev pub total_key : ℕ → ℕ → ℕ
total_key h n = cond (nat_lt n (2 ^ h)) (n + 2 ^ h) (2 ^ suc h - suc n)

-- the bits of the float nearest to an integer, ties to even; every Int32 is a float exactly
abbrev pub float_bits : ℤ → ℕ
float_bits z = to_bits binary64 (of_int binary64 z)
