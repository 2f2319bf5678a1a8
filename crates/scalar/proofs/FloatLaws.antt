-- Floats by their bits: the value of some bits means them, the sign is turned within the width, and integers as floats. Assumes nothing.
use Rattle.std.proofs.Common.{◌≡◌, ℕ, zero, suc, ◌+◌, ◌-◌, ◌*◌, ◌^◌, ◌<◌, ◌≤◌, Bool, true, false, cond, not, T, ltb, List, ℤ, pos, negsuc, sym, refl, ap, ◌∙◌, subst, pow-suc, arith, ltb-true}
use mathlib.Core.Bool.{false≢true}
use lib.Ieee.{Format, Float, nan, inf, fin, binary64, nan_bits, of_bits, to_bits, fits, is_nan, neg, odd, units, round, of_int, low, emax, prec}
use lib.Ieee.Bits.{is_false, to_bits-lt, to_bits-of_bits, of_bits-fits, of_bits-to_bits, nan_bits_is}
use lib.Ieee.Fits.{of_int-fits}
use Rattle.scalar.specs.declared.value.Value.TheVariants.{Float64, Nan}
use Rattle.scalar.specs.Integer.{signed}
use Rattle.scalar.specs.Float.{sign_turned, float_bits}
use Rattle.scalar.specs.Entry.{float64, entry}
use Rattle.scalar.specs.Value.{meaning, float_value, Storable}
use Rattle.scalar.proofs.IntegerLaws.{signed_low, signed_high}

-- the bits of an integer's float are 64
pub float_bits_below : (z : ℤ) → float_bits z < 2 ^ 64
float_bits_below z = to_bits-lt binary64 (of_int binary64 z) (of_int-fits binary64 z)

-- a pattern whose sign is turned is of its width
pub sign_turned_below : (h n : ℕ) → n < 2 ^ suc h → sign_turned h n < 2 ^ suc h
sign_turned_below h n b = go (ltb n (2 ^ h)) refl
  where
    go : (t : Bool) → ltb n (2 ^ h) ≡ t → cond t (n + 2 ^ h) (n - 2 ^ h) < 2 ^ suc h
    go true p = let l : n < 2 ^ h = ltb-true _ _ p in omega (arith, pow-suc 2 h)
    go false p = omega arith

-- the value of a pattern, a NaN's or not: it can be stored, and means the pattern
module _ (n : ℕ) (h : n < 2 ^ 64) where
  no_nan_bits : nan_bits binary64 n ≡ false → T (not (is_nan (of_bits binary64 n)))
  no_nan_bits e = subst (λ (b : Bool). T (not b)) (sym e ∙ nan_bits_is binary64 n) tt

  -- a pattern that is no NaN's is that of its float
  pub bits_back : nan_bits binary64 n ≡ false → to_bits binary64 (of_bits binary64 n) ≡ n
  bits_back e = to_bits-of_bits binary64 n h (no_nan_bits e)

  kept : (b : Bool) → nan_bits binary64 n ≡ b → Storable (cond b (Nan n) (Float64 (of_bits binary64 n))) × ((rule table : List ℕ) → meaning rule table (cond b (Nan n) (Float64 (of_bits binary64 n))) ≡ entry (float64 n))
  kept true e = ((h, subst T (sym e) tt), λ rule table. refl)
  kept false e = ((of_bits-fits binary64 n, no_nan_bits e), λ rule table. ap (λ (x : ℕ). entry (float64 x)) (bits_back e))

  pub float_stores : Storable (float_value n)
  float_stores = (kept (nan_bits binary64 n) refl).0

  pub float_means : (rule table : List ℕ) → meaning rule table (float_value n) ≡ entry (float64 n)
  float_means = (kept (nan_bits binary64 n) refl).1

-- the value of a float's bits is the float
pub float_back : (f : Float) → T (fits binary64 f) → T (not (is_nan f)) → float_value (to_bits binary64 f) ≡ Float64 f
float_back f t u =
    let e : of_bits binary64 (to_bits binary64 f) ≡ f = of_bits-to_bits binary64 f t in
    let q : nan_bits binary64 (to_bits binary64 f) ≡ false = nan_bits_is binary64 (to_bits binary64 f) ∙ ap is_nan e ∙ is_false (is_nan f) u in
    ap (λ (b : Bool). cond b (Nan (to_bits binary64 f)) (Float64 (of_bits binary64 (to_bits binary64 f)))) q ∙ ap Float64 e

-- a NaN has the bits of the fixed one
pub nan_bits_lem : (f : Float) → is_nan f ≡ true → 0x7ff8_0000_0000_0000 ≡ to_bits binary64 f
unfolding to_bits is_nan
nan_bits_lem nan p = refl
nan_bits_lem (inf s) p = absurd (false≢true p)
nan_bits_lem (fin s m e) p = absurd (false≢true p)

-- any other float is none
pub no_nan : (f : Float) → is_nan f ≡ false → T (not (is_nan f))
no_nan f p = subst (λ (b : Bool). T (not b)) (sym p) tt

-- two floats that are no NaN and each other's negation
record Turned (x y : Float) : Type 0 where
  negates : neg x ≡ y
  first : T (not (is_nan x))
  second : T (not (is_nan y))

-- the floats of an integer and of its negation are such
turned_odd : (d q k l : ℕ) → Turned (odd d false q k l) (odd d true q k l)
unfolding neg odd is_nan
turned_odd d zero k l = record { negates = refl; first = tt; second = tt }
turned_odd d (suc q) k l = record { negates = refl; first = tt; second = tt }

turned_case : (b : Bool) (d q k l : ℕ) → Turned (cond b (odd d false q k l) (inf false)) (cond b (odd d true q k l) (inf true))
unfolding neg is_nan
turned_case true d q k l = turned_odd d q k l
turned_case false d q k l = record { negates = refl; first = tt; second = tt }

turned_units : (f : Format) (q k : ℕ) → Turned (units f false q k) (units f true q k)
unfolding units
turned_units f q k = turned_case (ltb (q * 2 ^ k) (2 ^ (low f + suc (emax f)))) (suc (prec f)) q k (low f)

turned_round : (f : Format) (n : ℕ) → Turned (round f false n 1) (round f true n 1)
unfolding round
turned_round f n = turned_units f _ _

-- the float of an integer is no NaN
pub of_int_no_nan : (f : Format) (z : ℤ) → T (not (is_nan (of_int f z)))
unfolding of_int
of_int_no_nan f (pos n) = (turned_round f n).first
of_int_no_nan f (negsuc n) = (turned_round f (suc n)).second

-- an integer without the sign as a float, and one with it
pub floated_low : (h n : ℕ) → n < 2 ^ h → of_int binary64 (pos n) ≡ of_int binary64 (signed h n)
floated_low h n b = sym (ap (of_int binary64) (signed_low h n b))

pub floated_high : (h n m : ℕ) → 2 ^ h ≤ n → n < 2 ^ suc h → m ≡ 2 ^ suc h - n → neg (of_int binary64 (pos m)) ≡ of_int binary64 (signed h n)
unfolding of_int
floated_high h n m a b k =
    let e : m ≡ suc (2 ^ suc h - suc n) = omega arith in
    ap (λ (x : ℕ). neg (of_int binary64 (pos x))) e ∙ (turned_round binary64 (suc (2 ^ suc h - suc n))).negates ∙ sym (ap (of_int binary64) (signed_high h n a))

-- the value of an integer's float
pub floated_value : (z : ℤ) {f : Float} → f ≡ of_int binary64 z → Float64 f ≡ float_value (float_bits z)
floated_value z p = ap Float64 p ∙ sym (float_back (of_int binary64 z) (of_int-fits binary64 z) (of_int_no_nan binary64 z))
