-- The bridge to the logic's own account of IEEE 754 (lib.Ieee), where `fin s m e` is m * 2 ^ e with the sign s: what WholePart reads off the bits is what
-- `of_bits binary64` reads. No function's proof needs it.
use Rattle.std.proofs.Common.{◌≡◌, ℕ, zero, suc, ◌+◌, ◌*◌, ◌/◌, ◌^◌, ◌<◌, Bool, true, false, cond, not, T, eqb, ltb, ℤ, sym, refl, ap, ◌∙◌, subst, mul_assoc, pow-suc, mul_right_comm, arith, pow_pos, ltb-true, le-ltb, lt-ltb, eq-eqb, ne_eqb}
use native.Mathlib.Nat.{eq_of_mul-eq-mul_right}
use native.Mathlib.Decide.{ℕ_discrete}
use lib.Ieee.{Float, nan, inf, fin, binary64, up, down, odd, fits, of_fields, of_bits, to_bits}
use lib.Ieee.Bits.{of_bits-to_bits}
use lib.Ieee.Exact.{HasValue, odd_sign}
use lib.Ieee.Fits.{down_pos}
use lib.Ieee.Nearest.{div_same}
use lib.Ieee.Scale as Scale
use Rattle.scalar.specs.WholePart.{exponent_of, digits_of, sign_set, finite, significand, scale, units_of, whole_of}

-- an exponent of all ones is an infinity's or a NaN's
odd_finite : (d : ℕ) (s : Bool) (q k l : ℕ) → Scale.finite (odd d s q k l) ≡ true
unfolding odd
odd_finite d s zero k l = refl
odd_finite d s (suc q) k l = refl

fields_test : (y z s : Bool) (v : Float) → Scale.finite v ≡ true → not y ≡ Scale.finite (cond y (cond z (inf s) nan) v)
fields_test true true s v h = refl
fields_test true false s v h = refl
fields_test false z s v h = sym h

below_ones : (x : ℕ) → x < 2048 → ltb x 2047 ≡ not (eqb x 2047)
below_ones x l = elim (ℕ_discrete x 2047) [ yes e ↦ le-ltb x 2047 (omega arith) ∙ sym (ap not (eq-eqb x 2047 e)) | no n ↦ lt-ltb x 2047 (omega arith) ∙ sym (ap not (ne_eqb x 2047 n)) ]

fields_finite : (s : Bool) (x t : ℕ) → x < 2048 → ltb x 2047 ≡ Scale.finite (of_fields binary64 s x t)
unfolding of_fields
fields_finite s zero t l = sym (odd_finite 53 s t 0 1074)
fields_finite s (suc x) t l = below_ones (suc x) l ∙ fields_test (eqb (suc x) 2047) (eqb t 0) s (odd 53 s (2 ^ 52 + t) x 1074) (odd_finite 53 s (2 ^ 52 + t) x 1074)

-- the same value in units half as large
pub doubled : (v : Float) (s : Bool) (a c : ℕ) → HasValue v s a c → HasValue v s (a * 2) (c * 2)
doubled nan s a c h = h
doubled (inf t) s a c h = h
doubled (fin t m e) s a c h = (h.0, sym (mul_assoc (m * up e) c 2) ∙ ap (λ (n : ℕ). n * 2) h.1 ∙ mul_right_comm a (down e) 2)

-- what the fields stand for, without the leading digit and with it
fields_none : (s : Bool) (t : ℕ) → HasValue (of_fields binary64 s 0 t) s (t * 2 ^ 0 * 2) (2 ^ 1075)
unfolding of_fields
fields_none s t = doubled (odd 53 s t 0 1074) s (t * 2 ^ 0) (2 ^ 1074) (odd_sign 53 s t 0 1074)

fields_lead : (s : Bool) (x t : ℕ) → eqb (suc x) 2047 ≡ false → HasValue (of_fields binary64 s (suc x) t) s ((2 ^ 52 + t) * 2 ^ x * 2) (2 ^ 1075)
unfolding of_fields
fields_lead s x t e =
    subst (λ (b : Bool). HasValue (cond b (cond (eqb t 0) (inf s) nan) (odd 53 s (2 ^ 52 + t) x 1074)) s ((2 ^ 52 + t) * 2 ^ x * 2) (2 ^ 1075)) (sym e)
    (doubled (odd 53 s (2 ^ 52 + t) x 1074) s ((2 ^ 52 + t) * 2 ^ x) (2 ^ 1074) (odd_sign 53 s (2 ^ 52 + t) x 1074))

pub one_more : (m x : ℕ) → m * 2 ^ x * 2 ≡ m * 2 ^ suc x
one_more m x = mul_assoc m (2 ^ x) 2 ∙ ap (λ (n : ℕ). m * n) (sym (pow-suc 2 x))

module _ (b : ℕ) where
  -- a float is finite by its bits exactly if it is
  pub finite_is_ieee : finite b ≡ Scale.finite (of_bits binary64 b)
  unfolding of_bits
  finite_is_ieee = fields_finite (sign_set b) (exponent_of b) (digits_of b) (omega arith)

  value : (x : ℕ) → exponent_of b ≡ x → x < 2047 → HasValue (of_bits binary64 b) (sign_set b) (units_of b) (2 ^ 1075)
  unfolding of_bits significand scale
  value zero e l =
      rw (eq-eqb (exponent_of b) 0 e, e)
      (subst (λ (n : ℕ). HasValue (of_fields binary64 (sign_set b) 0 (digits_of b)) (sign_set b) n (2 ^ 1075)) (one_more (digits_of b) 0) (fields_none (sign_set b) (digits_of b)))
  value (suc x) e l =
      rw (ne_eqb (exponent_of b) 0 (λ k. let q : ⊥ = omega arith in q), e)
      (subst (λ (n : ℕ). HasValue (of_fields binary64 (sign_set b) (suc x) (digits_of b)) (sign_set b) n (2 ^ 1075)) (one_more (2 ^ 52 + digits_of b) x) (fields_lead (sign_set b) x (digits_of b) (ne_eqb (suc x) 2047 (λ k. let q : ⊥ = omega arith in q))))

  -- a finite float has the sign and the magnitude by its bits
  pub value_is_ieee : finite b ≡ true → HasValue (of_bits binary64 b) (sign_set b) (units_of b) (2 ^ 1075)
  value_is_ieee f = value (exponent_of b) refl (ltb-true _ _ f)

  -- and so the whole part
  pub whole_is_ieee : finite b ≡ true → (r : Bool) (m : ℕ) (e : ℤ) → of_bits binary64 b ≡ fin r m e → whole_of b ≡ m * up e / down e
  unfolding whole_of
  whole_is_ieee f r m e k = sym (div_same (m * up e) (down e) (units_of b) (2 ^ 1075) (down_pos e) (pow_pos 1075) (subst (λ (v : Float). HasValue v (sign_set b) (units_of b) (2 ^ 1075)) k (value_is_ieee f)).1)

has_finite : (v : Float) (s : Bool) (a c : ℕ) → HasValue v s a c → Scale.finite v ≡ true
has_finite nan s a c h = absurd h
has_finite (inf t) s a c h = absurd h
has_finite (fin t m e) s a c h = refl

-- a float has one sign and one magnitude
same_value : (v : Float) (s r : Bool) (a d c : ℕ) → HasValue v s a c → HasValue v r d c → (s ≡ r) × (a ≡ d)
same_value nan s r a d c h k = absurd h
same_value (inf t) s r a d c h k = absurd h
same_value (fin t m e) s r a d c h k = (sym h.0 ∙ k.0, eq_of_mul-eq-mul_right (down e) (down_pos e) a d (sym h.1 ∙ k.1))

-- the bits that are written for a float have its sign and its magnitude
module _ (v : Float) (f : T (fits binary64 v)) (s : Bool) (a : ℕ) (h : HasValue v s a (2 ^ 1075)) where
  pub bits_finite : finite (to_bits binary64 v) ≡ true
  bits_finite = finite_is_ieee (to_bits binary64 v) ∙ ap Scale.finite (of_bits-to_bits binary64 v f) ∙ has_finite v s a (2 ^ 1075) h

  pub bits_value : (sign_set (to_bits binary64 v) ≡ s) × (units_of (to_bits binary64 v) ≡ a)
  bits_value =
      let b = to_bits binary64 v in
      same_value v (sign_set b) s (units_of b) a (2 ^ 1075) (subst (λ (w : Float). HasValue w (sign_set b) (units_of b) (2 ^ 1075)) (of_bits-to_bits binary64 v f) (value_is_ieee b bits_finite)) h
