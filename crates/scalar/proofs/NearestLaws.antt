-- An integer's float is the nearest one, ties to even: `round` takes the nearest multiple of a power of two, and no float lies between the multiples.
use Rattle.std.proofs.Common.{◌≡◌, ℕ, suc, ◌+◌, ◌-◌, ◌*◌, ◌/◌, ◌%◌, ◌^◌, ◌<◌, ◌≤◌, Bool, true, false, cond, not, T, eqb, ltb, ◌⊎◌, ℤ, pos, negsuc, nat_abs, sym, refl, ap, ◌∙◌, subst, inl, inr, le_trans, le_of_eq, lt_of_le_of_lt, le_of_lt, lt_irrefl, add-suc, mul-le-mul_right, mod-lt, mul_assoc, suc-mul, mul_comm, mul-le-mul_left, mul-pos, one-mul, pow-suc, div-add-mod', sub-add_cancel, mul_right_comm, div-one, mul_left_comm, arith, eqb→eq, leb→le, pow_pos, pow_mono, pow-add, shl_lt, ltb-false, le-ltb}
use Prim.Native.Nat.{compare, Ordering}
use native.Mathlib.Nat.{mul-mod_left, eq_of_mul-eq-mul_right, div-div-eq-div-mul}
use native.Mathlib.Decide.{ℕ_discrete, dec_le}
use lib.Dec.{is_le, compare_is_eq, nleb→lt, eqb_refl}
use lib.Pow.{pow-lt}
use lib.Ieee.{Float, binary64, size, nearest, units, round, of_int, to_bits}
use lib.Ieee.Bits.{to_bits-lt}
use lib.Ieee.Digits.{size-le, size_reaches}
use lib.Ieee.Exact.{HasValue, units_val}
use lib.Ieee.Fits.{kept-lt, nearest-le, round-fits, round_is}
use lib.Ieee.Nearest.{closest, closest_same}
use borrow.Author.Tests.{eqb-false}
use Rattle.scalar.specs.Integer.{signed}
use Rattle.scalar.specs.Float.{float_bits}
use Rattle.scalar.specs.WholePart.{exponent_of, digits_of, sign_set, significand, scale, units_of}
use Rattle.scalar.specs.Nearest.{apart, distance, NearestEven, FloatNearest, Int64Nearest}
use Rattle.scalar.proofs.ScaleLaws.{up_below}
use Rattle.scalar.proofs.IeeeLaws.{doubled, one_more, bits_finite, bits_value}

-- ---- the nearest multiple of u

-- q is w or the next number, whichever is nearer to w + r / u, and the even one at a half
record Nearer (w r u q : ℕ) : Type 0 where
  side : ((q ≡ w) × (r * 2 ≤ u)) ⊎ ((q ≡ suc w) × (u ≤ r * 2))
  tie : r * 2 ≡ u → q % 2 ≡ 0

nearer : (w r u : ℕ) → Nearer w r u (nearest w (compare (r * 2) u))
nearer w r u = go (compare (r * 2) u) (leb→le (r * 2) u) (nleb→lt (r * 2) u) (eqb→eq (r * 2) u) (λ (e : r * 2 ≡ u). subst (λ (x : ℕ). T (eqb (r * 2) x)) e (eqb_refl (r * 2)))
  where
    even : (w % 2 ≡ 0) ⊎ (w % 2 ≡ 1) → r * 2 ≡ u → Nearer w r u (w + w % 2)
    even (inl z) e = record { side = inl (let q : w + w % 2 ≡ w = omega arith in q, le_of_eq e); tie = λ _. omega arith }
    even (inr z) e = record { side = inr (let q : w + w % 2 ≡ suc w = omega arith in q, le_of_eq (sym e)); tie = λ _. omega arith }

    parity : (w % 2 ≡ 0) ⊎ (w % 2 ≡ 1)
    parity = elim (ℕ_discrete (w % 2) 0) [ yes e ↦ inl e | no n ↦ inr (omega arith) ]

    go : (o : Ordering) → (T (is_le o) → r * 2 ≤ u) → (T (not (is_le o)) → u < r * 2) → (T (compare_is_eq o) → r * 2 ≡ u) → (r * 2 ≡ u → T (compare_is_eq o)) → Nearer w r u (nearest w o)
    go Ordering.lt h k e n = record { side = inl (refl, h tt); tie = λ x. absurd (n x) }
    go Ordering.eq h k e n = even parity (e tt)
    go Ordering.gt h k e n = record { side = inr (refl, let g : u < r * 2 = k tt in omega arith); tie = λ x. absurd (n x) }

-- i is no farther from m than j, and as far only at a tie
record Beats (m i j : ℕ) (Tie : Type 0) : Type 0 where
  near : apart i m ≤ apart j m
  tie : apart j m ≡ apart i m → (j ≡ i → ⊥) → Tie

-- of the neighbours a and a + u the nearer one beats what does not lie between them
module _ (m a r u : ℕ) (e : a + r ≡ m) (b : r < u) where
  lower_beats : (j : ℕ) → r * 2 ≤ u → (j ≤ a) ⊎ (a + u ≤ j) → Beats m a j (r * 2 ≡ u)
  lower_beats j h (inl l) = record { near = omega arith; tie = λ s n. omega arith }
  lower_beats j h (inr l) = record { near = omega arith; tie = λ s n. omega arith }

  upper_beats : (j : ℕ) → u ≤ r * 2 → (j ≤ a) ⊎ (a + u ≤ j) → Beats m (a + u) j (r * 2 ≡ u)
  upper_beats j h (inl l) = record { near = omega arith; tie = λ s n. omega arith }
  upper_beats j h (inr l) = record { near = omega arith; tie = λ s n. omega arith }

module _ (m u : ℕ) (p : 0 < u) where
  beside : (j : ℕ) → (j * u ≤ m / u * u) ⊎ (m / u * u + u ≤ j * u)
  beside j = elim (dec_le j (m / u)) [
    | yes l ↦ inl (mul-le-mul_right u l)
    | no n ↦ inr (subst (λ (x : ℕ). x ≤ j * u) (suc-mul (m / u) u) (mul-le-mul_right u (let q : suc (m / u) ≤ j = omega arith in q)))
  ]

  -- `closest` gives the nearest multiple, ties to even
  closest_beats : (j : ℕ) → Beats m (closest m u * u) (j * u) (closest m u % 2 ≡ 0)
  closest_beats j =
      let c = nearer (m / u) (m % u) u in
      let b = go c.side in
      record { near = b.near; tie = λ s n. c.tie (b.tie s n) }
    where
      go : ((closest m u ≡ m / u) × (m % u * 2 ≤ u)) ⊎ ((closest m u ≡ suc (m / u)) × (u ≤ m % u * 2)) → Beats m (closest m u * u) (j * u) (m % u * 2 ≡ u)
      go (inl h) = subst (λ (x : ℕ). Beats m x (j * u) (m % u * 2 ≡ u)) (sym (ap (λ (x : ℕ). x * u) h.0)) (lower_beats m (m / u * u) (m % u) u (div-add-mod' m u) (mod-lt m p) (j * u) h.1 (beside j))
      go (inr h) =
          subst (λ (x : ℕ). Beats m x (j * u) (m % u * 2 ≡ u)) (sym (ap (λ (x : ℕ). x * u) h.0 ∙ suc-mul (m / u) u))
          (upper_beats m (m / u * u) (m % u) u (div-add-mod' m u) (mod-lt m p) (j * u) h.1 (beside j))

-- ---- no float lies between the multiples of 2 ^ k

raised : (s k x : ℕ) → k ≤ x → s * 2 ^ (x - k) * 2 ^ k ≡ s * 2 ^ x
raised s k x l = mul_assoc s (2 ^ (x - k)) (2 ^ k) ∙ ap (λ (n : ℕ). s * n) (sym (pow-add 2 (x - k) k) ∙ ap (λ (n : ℕ). 2 ^ n) (sub-add_cancel l))

-- what lies below a multiple g, itself below m, is farther than the nearest
farther : (m i g j : ℕ) (Tie : Type 0) → apart i m ≤ apart g m → g ≤ m → j < g → Beats m i j Tie
farther m i g j Tie h l b = record { near = le_of_lt away; tie = λ s n. absurd (lt_irrefl (apart i m) (subst (λ (d : ℕ). apart i m < d) s away)) }
  where
    beyond : (d : ℕ) → d ≤ apart g m → d < apart j m
    beyond d h = omega arith

    away : apart i m < apart j m
    away = beyond (apart i m) h

-- a number of 53 digits is such a multiple, or it is below 2 ^ (52 + k)
float_beats : (m k : ℕ) → (1 < k → 2 ^ (52 + k) ≤ m) → (s x : ℕ) → s < 2 ^ 53 → 1 ≤ x → Beats m (closest m (2 ^ k) * 2 ^ k) (s * 2 ^ x) (closest m (2 ^ k) % 2 ≡ 0)
float_beats m k full s x b l = elim (dec_le k x) [
  | yes h ↦ subst (λ (j : ℕ). Beats m (closest m (2 ^ k) * 2 ^ k) j (closest m (2 ^ k) % 2 ≡ 0)) (raised s k x h) (closest_beats m (2 ^ k) (pow_pos k) (s * 2 ^ (x - k)))
  | no n ↦
      farther m (closest m (2 ^ k) * 2 ^ k) (2 ^ 52 * 2 ^ k) (s * 2 ^ x) (closest m (2 ^ k) % 2 ≡ 0) (closest_beats m (2 ^ k) (pow_pos k) (2 ^ 52)).near
      (subst (λ (g : ℕ). g ≤ m) (pow-add 2 52 k) (full (omega arith)))
      (subst (λ (g : ℕ). s * 2 ^ x < g) (pow-add 2 52 k) (up_below s x 53 (52 + k) b (omega arith)))
]

-- ---- the last digit

times_even : (q c : ℕ) → q % 2 ≡ 0 → q * c % 2 ≡ 0
times_even q c e = let h : q ≡ q / 2 * 2 = omega arith in ap (λ (n : ℕ). n * c % 2) h ∙ ap (λ (n : ℕ). n % 2) (mul_right_comm (q / 2) 2 c) ∙ mul-mod_left (q / 2 * c) 2

-- an even q of at most 2 ^ 53 ends in an even digit however it is written
even_digits : (q k s x : ℕ) → s * 2 ^ x ≡ q * 2 ^ k → q % 2 ≡ 0 → q ≤ 2 ^ 53 → (k < x → 2 ^ 52 ≤ s) → s % 2 ≡ 0
even_digits q k s x e v b lead = elim (dec_le x k) [
  | yes l ↦ let r : s ≡ q * 2 ^ (k - x) = eq_of_mul-eq-mul_right (2 ^ x) (pow_pos x) s (q * 2 ^ (k - x)) (e ∙ sym (raised q x k l)) in ap (λ (n : ℕ). n % 2) r ∙ times_even q (2 ^ (k - x)) v
  | no n ↦
      let r : s * 2 ^ (x - k) ≡ q = eq_of_mul-eq-mul_right (2 ^ k) (pow_pos k) (s * 2 ^ (x - k)) q (raised s k x (omega arith) ∙ e) in
      let d : s * 2 ≤ s * 2 ^ (x - k) = mul-le-mul_left s (pow_mono {i = 1} (omega arith)) in
      let g : 2 ^ 52 ≤ s = lead (omega arith) in
      omega arith
]

-- the parts of a float's magnitude: the significand m, the scale x and the digits d
pub record Parts (m x d : ℕ) : Type 0 where
  pub few : m < 2 ^ 53
  pub least : 1 ≤ x
  pub lead : 1 < x → 2 ^ 52 ≤ m
  pub last : m % 2 ≡ 0 → d % 2 ≡ 0

parts_of : (t : Bool) (x d : ℕ) → d < 2 ^ 52 → (t ≡ false → 0 < x) → Parts (cond t d (2 ^ 52 + d)) (cond t 1 x) d
parts_of true x d b p = record { few = omega arith; least = omega arith; lead = λ l. absurd (let q : ⊥ = omega arith in q); last = λ e. e }
parts_of false x d b p = record { few = omega arith; least = p refl; lead = λ l. omega arith; last = λ e. omega arith }

pub parts : (b : ℕ) → Parts (significand b) (scale b) (digits_of b)
unfolding significand scale
parts b = parts_of (eqb (exponent_of b) 0) (exponent_of b) (digits_of b) (mod-lt b (omega arith)) (λ e. let n : exponent_of b ≡ 0 → ⊥ = eqb-false (exponent_of b) 0 e in omega arith)

-- ---- what `round` gives for a whole number

-- of the magnitude in units so many digits are dropped, and the number that is left counts 2 ^ step n units
abbrev dropped : ℕ → ℕ
dropped n = size (n * 2 ^ 1074 / 1) - 53

abbrev step : ℕ → ℕ
step n = suc (dropped n)

abbrev kept : ℕ → ℕ
kept n = closest (n * 2 ^ 1075) (2 ^ step n)

halves : (n l k : ℕ) → n * 2 ^ l * 2 ^ suc k ≡ n * 2 ^ suc l * (1 * 2 ^ k)
halves n l k = simp (pow-suc, one-mul, mul_assoc, mul_comm, mul_left_comm)

module _ (n : ℕ) where
  kept_is : closest (n * 2 ^ 1074) (1 * 2 ^ dropped n) ≡ kept n
  kept_is = closest_same (n * 2 ^ 1074) (1 * 2 ^ dropped n) (n * 2 ^ 1075) (2 ^ step n) (mul-pos (pow_pos 0) (pow_pos (dropped n))) (pow_pos (step n)) (halves n 1074 (dropped n))

  kept_most : kept n ≤ 2 ^ 53
  kept_most =
      let u = 1 * 2 ^ dropped n in
      subst (λ (q : ℕ). q ≤ 2 ^ 53) kept_is
      (le_trans (nearest-le (n * 2 ^ 1074 / u) (compare (n * 2 ^ 1074 % u * 2) u)) (subst (λ (x : ℕ). x < 2 ^ 53) (div-div-eq-div-mul (n * 2 ^ 1074) 1 (2 ^ dropped n)) (kept-lt 53 (n * 2 ^ 1074 / 1))))

  -- where digits are dropped, 53 stand
  full : 1 < step n → 2 ^ (52 + step n) ≤ n * 2 ^ 1075
  full h =
      let l : 2 ^ (52 + dropped n) ≤ n * 2 ^ 1074 = subst (λ (x : ℕ). 2 ^ (52 + dropped n) ≤ x) (div-one (n * 2 ^ 1074)) (size_reaches (n * 2 ^ 1074 / 1) (52 + dropped n) (omega arith)) in
      subst (λ (x : ℕ). 2 ^ (52 + step n) ≤ x) (one_more n 1074) (le_trans (le_of_eq (ap (λ (x : ℕ). 2 ^ x) (add-suc 52 (dropped n)) ∙ pow-suc 2 (52 + dropped n))) (mul-le-mul_right 2 l))

  module _ (b : n < 2 ^ 64) where
    -- an integer is far from an infinity
    small : kept n * 2 ^ dropped n < 2 ^ (1074 + 1024)
    small =
        let z : size (n * 2 ^ 1074 / 1) ≤ 64 + 1074 = size-le (n * 2 ^ 1074 / 1) (64 + 1074) (subst (λ (x : ℕ). x < 2 ^ (64 + 1074)) (sym (div-one (n * 2 ^ 1074))) (shl_lt 64 1074 b)) in
        lt_of_le_of_lt (mul-le-mul_right (2 ^ dropped n) kept_most) (subst (λ (x : ℕ). x < 2 ^ (1074 + 1024)) (pow-add 2 53 (dropped n)) (pow-lt (let q : 53 + dropped n < 1074 + 1024 = omega arith in q)))

    round_value : (s : Bool) → HasValue (round binary64 s n 1) s (kept n * 2 ^ step n) (2 ^ 1075)
    round_value s =
        subst (λ (a : ℕ). HasValue (round binary64 s n 1) s a (2 ^ 1075)) (one_more (kept n) (dropped n))
        (doubled (round binary64 s n 1) s (kept n * 2 ^ dropped n) (2 ^ 1074)
        (subst (λ (v : Float). HasValue v s (kept n * 2 ^ dropped n) (2 ^ 1074)) (sym (round_is binary64 s n 1 ∙ ap (λ (q : ℕ). units binary64 s q (dropped n)) kept_is)) (units_val binary64 s (kept n) (dropped n) small)))

-- ---- an integer's float

abbrev rounded : Bool → ℕ → ℕ
rounded s n = to_bits binary64 (round binary64 s n 1)

module _ (s : Bool) (n : ℕ) (l : n < 2 ^ 64) where
  value : (sign_set (rounded s n) ≡ s) × (units_of (rounded s n) ≡ kept n * 2 ^ step n)
  value = bits_value (round binary64 s n 1) (round-fits binary64 s n 1) s (kept n * 2 ^ step n) (round_value n l s)

  beats : (c : ℕ) → Beats (n * 2 ^ 1075) (units_of (rounded s n)) (units_of c) (kept n % 2 ≡ 0)
  beats c =
      subst (λ (u : ℕ). Beats (n * 2 ^ 1075) u (units_of c) (kept n % 2 ≡ 0)) (sym value.1)
      (float_beats (n * 2 ^ 1075) (step n) (full n) (significand c) (scale c) (parts c).few (parts c).least)

  round_nearest : NearestEven n (rounded s n)
  round_nearest =
      let b = rounded s n in
      record {
        is_finite = bits_finite (round binary64 s n 1) (round-fits binary64 s n 1) s (kept n * 2 ^ step n) (round_value n l s);
        nearest = λ c f. (beats c).near;
        even = λ c f e d. (parts b).last (even_digits (kept n) (step n) (significand b) (scale b) value.1 ((beats c).tie e d) (kept_most n) (λ g. (parts b).lead (omega arith)));
      }

-- of any integer whose magnitude has 64 bits
integer_nearest : (z : ℤ) → nat_abs z < 2 ^ 64 → FloatNearest z (float_bits z)
unfolding of_int
integer_nearest (pos n) l = record { wide = to_bits-lt binary64 (round binary64 false n 1) (round-fits binary64 false n 1); sign = (value false n l).0 ∙ sym (le-ltb n 0 (omega arith)); magnitude = round_nearest false n l }
integer_nearest (negsuc n) l = record { wide = to_bits-lt binary64 (round binary64 true (suc n) 1) (round-fits binary64 true (suc n) 1); sign = (value true (suc n) l).0; magnitude = round_nearest true (suc n) l }

pub int64_nearest : Int64Nearest
int64_nearest n l = integer_nearest (signed 63 n) (go (ltb n (2 ^ 63)) (ltb-false n (2 ^ 63)))
  where
    go : (t : Bool) → (t ≡ false → 2 ^ 63 ≤ n) → nat_abs (cond t (pos n) (negsuc (2 ^ 64 - suc n))) < 2 ^ 64
    go true h = l
    go false h = let g : 2 ^ 63 ≤ n = h refl in omega arith

-- 2 ^ 53 + 1 stands halfway between two floats, and the one with the even last digit is taken
pub record Halfway : Type 0 where
  pub lower : distance (2 ^ 53 + 1) 0x4340_0000_0000_0000 ≡ 2 ^ 1075
  pub upper : distance (2 ^ 53 + 1) 0x4340_0000_0000_0001 ≡ 2 ^ 1075
  pub taken : float_bits (pos (2 ^ 53 + 1)) ≡ 0x4340_0000_0000_0000

pub halfway : Halfway
unfolding significand scale to_bits of_int
halfway = record { lower = refl; upper = refl; taken = refl }
