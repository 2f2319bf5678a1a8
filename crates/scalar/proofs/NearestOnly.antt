-- Only one float is nearest, ties to even: magnitudes rise with the bits, and between two floats whose last digits are even stands another.
use Rattle.std.proofs.Common.{◌≡◌, ℕ, suc, ◌+◌, ◌*◌, ◌%◌, ◌^◌, ◌<◌, ◌≤◌, Bool, true, false, cond, eqb, ◌⊎◌, pos, nat_abs, sym, refl, ◌∙◌, subst, inl, inr, lt_of_lt_of_le, lt_irrefl, le_antisymm, mul-lt-mul_of_pos_right, arith, pow_pos, ltb-true, lt-ltb, eqb-true, leb-false, leb-true}
use native.Mathlib.Decide.{dec_lt}
use lib.Signed.{lt_z}
use borrow.Author.Tests.{eqb-false}
use Rattle.scalar.specs.WholePart.{exponent_of, digits_of, sign_set, finite, significand, scale, units_of}
use Rattle.scalar.specs.Nearest.{apart, distance, NearestEven, OneNearest}
use Rattle.scalar.proofs.ScaleLaws.{up_below, up_above}
use Rattle.scalar.proofs.NearestLaws.{parts}

abbrev below_sign : ℕ → ℕ
below_sign b = b % 2 ^ 63

-- the fields rise with the bits below the sign
fields_rise : (b c : ℕ) → below_sign b < below_sign c → (exponent_of b < exponent_of c) ⊎ ((exponent_of b ≡ exponent_of c) × (digits_of b < digits_of c))
fields_rise b c h = elim (dec_lt (exponent_of b) (exponent_of c)) [ yes l ↦ inl l | no n ↦ inr (omega arith, omega arith) ]

-- x is below y, or the same and m below n
abbrev Later : ℕ → ℕ → ℕ → ℕ → Type 0
Later m x n y = (x < y) ⊎ ((x ≡ y) × (m < n))

-- and so scale and significand
parts_rise : (t r : Bool) (x d y e : ℕ) → (t ≡ true → x ≡ 0) → (t ≡ false → x ≡ 0 → ⊥) → (r ≡ true → y ≡ 0) → (r ≡ false → y ≡ 0 → ⊥) → d < 2 ^ 52 → (x < y) ⊎ ((x ≡ y) × (d < e))
    → Later (cond t d (2 ^ 52 + d)) (cond t 1 x) (cond r e (2 ^ 52 + e)) (cond r 1 y)
parts_rise true true x d y e a b p q l (inl h) = absurd (let f : y ≡ 0 = p refl in let q : ⊥ = omega arith in q)
parts_rise true true x d y e a b p q l (inr h) = inr (refl, h.1)
parts_rise true false x d y e a b p q l h = elim (dec_lt 1 y) [ yes g ↦ inl g | no n ↦ inr (let f : y ≡ 0 → ⊥ = q refl in omega arith, omega arith) ]
parts_rise false true x d y e a b p q l (inl h) = absurd (let f : y ≡ 0 = p refl in let q : ⊥ = omega arith in q)
parts_rise false true x d y e a b p q l (inr h) = absurd (b refl (h.0 ∙ p refl))
parts_rise false false x d y e a b p q l (inl h) = inl h
parts_rise false false x d y e a b p q l (inr h) = inr (h.0, let k : d < e = h.1 in omega arith)

later : (b c : ℕ) → below_sign b < below_sign c → Later (significand b) (scale b) (significand c) (scale c)
unfolding significand scale
later b c h =
    parts_rise (eqb (exponent_of b) 0) (eqb (exponent_of c) 0) (exponent_of b) (digits_of b) (exponent_of c) (digits_of c)
    (eqb-true (exponent_of b) 0) (eqb-false (exponent_of b) 0) (eqb-true (exponent_of c) 0) (eqb-false (exponent_of c) 0) (omega arith) (fields_rise b c h)

-- and so the magnitude
rises : (b c : ℕ) → below_sign b < below_sign c → units_of b < units_of c
rises b c h = elim (later b c h) [
  | inl l ↦
      lt_of_lt_of_le (up_below (significand b) (scale b) 53 (52 + scale c) (parts b).few (omega arith))
      (up_above (significand c) (scale c) 52 (52 + scale c) ((parts c).lead (let p : 1 ≤ scale b = (parts b).least in omega arith)) (omega arith))
  | inr e ↦ subst (λ (x : ℕ). significand b * 2 ^ scale b < significand c * 2 ^ x) e.0 (mul-lt-mul_of_pos_right e.1 (pow_pos (scale b)))
]

-- what stands between two that are equally near is nearer
between : (m i j k : ℕ) → i < j → j < k → apart k m ≡ apart i m → apart i m ≤ apart j m → ⊥
between m i j k l h e n = omega arith

-- the bits after those of b
next_even : (b c : ℕ) → below_sign b < below_sign c → digits_of b % 2 ≡ 0 → digits_of c % 2 ≡ 0 → suc (below_sign b) < below_sign c
next_even b c h e f = omega arith

next_finite : (b c : ℕ) → finite c ≡ true → suc (below_sign b) < below_sign c → finite (suc (below_sign b)) ≡ true
next_finite b c f h = let l : exponent_of c < 2047 = ltb-true (exponent_of c) 2047 f in lt-ltb (exponent_of (suc (below_sign b))) 2047 (omega arith)

module _ (n b c : ℕ) (x : NearestEven n b) (y : NearestEven n c) where
  alike : distance n c ≡ distance n b
  alike = le_antisymm (y.nearest b x.is_finite) (x.nearest c y.is_finite)

  not_below : below_sign b < below_sign c → ⊥
  not_below h =
      let l : units_of b < units_of c = rises b c h in
      let u : suc (below_sign b) < below_sign c = next_even b c h (x.even c y.is_finite alike (λ e. lt_irrefl (units_of b) (subst (λ (k : ℕ). units_of b < k) e l)))
      (y.even b x.is_finite (sym alike) (λ e. lt_irrefl (units_of b) (subst (λ (k : ℕ). units_of b < k) (sym e) l))) in
      between (n * 2 ^ 1075) (units_of b) (units_of (suc (below_sign b))) (units_of c) (rises b (suc (below_sign b)) (omega arith)) (rises (suc (below_sign b)) c (omega arith)) alike
      (x.nearest (suc (below_sign b)) (next_finite b c y.is_finite u))

same_bits : (b c : ℕ) → b < 2 ^ 64 → c < 2 ^ 64 → below_sign b ≡ below_sign c → (t : Bool) → sign_set b ≡ t → sign_set c ≡ t → b ≡ c
same_bits b c l h e true p q = let g : 2 ^ 63 ≤ b = leb-true _ _ p in let k : 2 ^ 63 ≤ c = leb-true _ _ q in omega arith
same_bits b c l h e false p q = let g : b < 2 ^ 63 = leb-false _ _ p in let k : c < 2 ^ 63 = leb-false _ _ q in omega arith

pub one_nearest : OneNearest
one_nearest z b c x y =
    let l : below_sign b < below_sign c → ⊥ = not_below (nat_abs z) b c x.magnitude y.magnitude in
    let h : below_sign c < below_sign b → ⊥ = not_below (nat_abs z) c b y.magnitude x.magnitude in
    same_bits b c x.wide y.wide (let e : below_sign b ≡ below_sign c = omega arith in e) (lt_z z (pos 0)) x.sign y.sign
