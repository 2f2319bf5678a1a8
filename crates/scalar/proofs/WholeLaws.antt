-- The whole part of a float's magnitude, by its exponent. Assumes nothing.
use Rattle.std.proofs.Common.{◌≡◌, ℕ, ◌+◌, ◌-◌, ◌*◌, ◌/◌, ◌%◌, ◌^◌, ◌<◌, ◌≤◌, min, sym, refl, ap, ◌∙◌, ⊎_elim, mod-lt, mod-eq_of_lt, eq-or-lt_of_le, div-le_self, arith, eq-eqb, ne_eqb}
use native.Mathlib.Nat.{min-eq_left, min-eq_right}
use Rattle.scalar.specs.WholePart.{exponent_of, digits_of, significand, scale, whole_of}
use Rattle.scalar.proofs.ScaleLaws.{scaled_down, scaled_up, scaled_away, up_below, up_above}

module _ (b : ℕ) where
  few : digits_of b < 2 ^ 52
  few = mod-lt b (omega arith)

  with_lead : 0 < exponent_of b → whole_of b ≡ (2 ^ 52 + digits_of b) * 2 ^ exponent_of b / 2 ^ 1075
  unfolding whole_of significand scale
  with_lead h = let n : exponent_of b ≡ 0 → ⊥ = λ e. (let q : ⊥ = omega arith in q) in rw (ne_eqb (exponent_of b) 0 n) refl

  no_lead : exponent_of b ≡ 0 → whole_of b ≡ digits_of b * 2 ^ 1 / 2 ^ 1075
  unfolding whole_of significand scale
  no_lead e = rw (eq-eqb (exponent_of b) 0 e) refl

  below_one : exponent_of b < 1023 → whole_of b ≡ 0
  below_one h = ⊎_elim (λ e. no_lead (sym e) ∙ scaled_away (digits_of b) 1 1075 52 few (omega arith)) (λ p. with_lead p ∙ scaled_away (2 ^ 52 + digits_of b) (exponent_of b) 1075 53 (let f : digits_of b < 2 ^ 52 = few in omega arith) (omega arith))
      (eq-or-lt_of_le (let q : 0 ≤ exponent_of b = omega arith in q))

  pub small : exponent_of b < 1023 → 0 ≡ min (whole_of b) (2 ^ 64 - 1)
  small h = sym (ap (λ (n : ℕ). min n (2 ^ 64 - 1)) (below_one h) ∙ min-eq_left (let q : 0 ≤ 2 ^ 64 - 1 = omega arith in q))

  pub down : 1023 ≤ exponent_of b → exponent_of b < 1075 → (2 ^ 52 + digits_of b) / 2 ^ (1075 - exponent_of b) ≡ min (whole_of b) (2 ^ 64 - 1)
  down h l =
      let e : whole_of b ≡ (2 ^ 52 + digits_of b) / 2 ^ (1075 - exponent_of b) = with_lead (omega arith) ∙ scaled_down (2 ^ 52 + digits_of b) (exponent_of b) 1075 (omega arith) in
      let f : digits_of b < 2 ^ 52 = few in
      let n : (2 ^ 52 + digits_of b) / 2 ^ (1075 - exponent_of b) ≤ 2 ^ 52 + digits_of b = div-le_self _ _ in
      sym (ap (λ (n : ℕ). min n (2 ^ 64 - 1)) e ∙ min-eq_left (omega arith))

  pub up : 1075 ≤ exponent_of b → exponent_of b < 1087 → (2 ^ 52 + digits_of b) * 2 ^ (exponent_of b - 1075) % 2 ^ 64 ≡ min (whole_of b) (2 ^ 64 - 1)
  up h l =
      let e : whole_of b ≡ (2 ^ 52 + digits_of b) * 2 ^ (exponent_of b - 1075) = with_lead (omega arith) ∙ scaled_up (2 ^ 52 + digits_of b) (exponent_of b) 1075 (omega arith) in
      let f : digits_of b < 2 ^ 52 = few in
      let n : (2 ^ 52 + digits_of b) * 2 ^ (exponent_of b - 1075) < 2 ^ 64 = up_below (2 ^ 52 + digits_of b) (exponent_of b - 1075) 53 64 (omega arith) (omega arith) in
      mod-eq_of_lt n ∙ sym (ap (λ (n : ℕ). min n (2 ^ 64 - 1)) e ∙ min-eq_left (omega arith))

  pub beyond : 1087 ≤ exponent_of b → 2 ^ 64 ≤ whole_of b
  beyond h =
      let e : whole_of b ≡ (2 ^ 52 + digits_of b) * 2 ^ (exponent_of b - 1075) = with_lead (omega arith) ∙ scaled_up (2 ^ 52 + digits_of b) (exponent_of b) 1075 (omega arith) in
      let n : 2 ^ 64 ≤ (2 ^ 52 + digits_of b) * 2 ^ (exponent_of b - 1075) = up_above (2 ^ 52 + digits_of b) (exponent_of b - 1075) 52 64 (omega arith) (omega arith) in
      omega arith

  pub large : 1087 ≤ exponent_of b → 2 ^ 64 - 1 ≡ min (whole_of b) (2 ^ 64 - 1)
  large h = let n : 2 ^ 64 ≤ whole_of b = beyond h in sym (min-eq_right (omega arith))
