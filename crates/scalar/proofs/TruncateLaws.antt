-- Float64 to an integer, by the magnitude's whole part. One law for both widths: h bits stand below the sign, at most 63. Assumes nothing.
use Rattle.std.proofs.Common.{◌≡◌, ℕ, suc, ◌-◌, ◌*◌, ◌%◌, ◌^◌, ◌<◌, ◌≤◌, min, Bool, true, false, cond, ◌&&◌, ℤ, pos, negsuc, neg_ℤ, sym, refl, ap, ◌∙◌, mod-eq_of_lt, pow-suc, arith, pow_pos, le-ltb, lt-ltb, le-leb}
use native.Mathlib.Decide.{dec_lt}
use native.Mathlib.Nat.{pow-le-pow_right}
use lib.Signed.{mag}
use borrow.Author.Tests.{lt-leb}
use Rattle.scalar.specs.Integer.{bits_of, in_range}
use Rattle.scalar.specs.WholePart.{exponent_of, finite, whole_of, whole_part}
use Rattle.scalar.specs.Entry.{Entry, entry, unfit}
use Rattle.scalar.specs.Cast.{truncated}
use Rattle.scalar.proofs.WholeLaws.{beyond}

and-false : (a : Bool) → a && false ≡ false
and-false true = refl
and-false false = refl

module _ (h : ℕ) (made : ℕ → Entry) (b : ℕ) (narrow : h ≤ 63) where
  room : 2 ^ h ≤ 2 ^ 63
  room = pow-le-pow_right {n = 2} (omega arith) narrow

  -- a whole part of 64 bits is a finite float's
  is_finite : whole_of b < 2 ^ 64 → finite b ≡ true
  is_finite l = go (dec_lt (exponent_of b) 2047)
    where
      go : Dec (exponent_of b < 2047) → finite b ≡ true
      go (yes p) = lt-ltb _ _ p
      go (no n) = absurd (let far : 2 ^ 64 ≤ whole_of b = beyond b (omega arith) in let q : ⊥ = omega arith in q)

  fits : whole_of b < 2 ^ 64 → (z : ℤ) → whole_part b ≡ z → mag z < 2 ^ h → (n : ℕ) → bits_of h z ≡ n → entry (made n) ≡ truncated h made b
  fits l z e m n k =
      sym (ap (λ (f : Bool). cond (f && in_range h (whole_part b)) (entry (made (bits_of h (whole_part b)))) unfit) (is_finite l)
      ∙ ap (λ (y : ℤ). cond (in_range h y) (entry (made (bits_of h y))) unfit) e
      ∙ ap (λ (t : Bool). cond t (entry (made (bits_of h z))) unfit) (lt-ltb _ _ m) ∙ ap (λ (x : ℕ). entry (made x)) k)

  too_large : (z : ℤ) → whole_part b ≡ z → 2 ^ h ≤ mag z → unfit ≡ truncated h made b
  too_large z e m =
      sym (ap (λ (y : ℤ). cond (finite b && in_range h y) (entry (made (bits_of h y))) unfit) e
      ∙ ap (λ (t : Bool). cond (finite b && t) (entry (made (bits_of h z))) unfit) (le-ltb _ _ m)
      ∙ ap (λ (t : Bool). cond t (entry (made (bits_of h z))) unfit) (and-false (finite b)))

  -- without the sign
  plain : b < 2 ^ 63 → whole_part b ≡ pos (whole_of b)
  plain s = ap (λ (t : Bool). cond t (neg_ℤ (pos (whole_of b))) (pos (whole_of b))) (lt-leb _ _ s)

  pub plain_fits : (m : ℕ) → m ≡ min (whole_of b) (2 ^ 64 - 1) → b < 2 ^ 63 → m < 2 ^ h → entry (made m) ≡ truncated h made b
  unfolding bits_of
  plain_fits m e s l =
      let r : 2 ^ h ≤ 2 ^ 63 = room in
      let w : whole_of b ≡ m = omega arith in
      let p : 2 ^ suc h ≡ 2 ^ h * 2 = pow-suc 2 h in
      fits (omega arith) (pos (whole_of b)) (plain s) (let q : whole_of b < 2 ^ h = omega arith in q) m (mod-eq_of_lt (let q : whole_of b < 2 ^ suc h = omega arith in q) ∙ w)

  pub plain_unfit : (m : ℕ) → m ≡ min (whole_of b) (2 ^ 64 - 1) → b < 2 ^ 63 → 2 ^ h ≤ m → unfit ≡ truncated h made b
  plain_unfit m e s l = too_large (pos (whole_of b)) (plain s) (let q : 2 ^ h ≤ whole_of b = omega arith in q)

  -- with the sign: 0, or a number below it
  signed_zero : 2 ^ 63 ≤ b → whole_of b ≡ 0 → whole_part b ≡ pos 0
  signed_zero s e = ap (λ (t : Bool). cond t (neg_ℤ (pos (whole_of b))) (pos (whole_of b))) (le-leb _ _ s) ∙ ap (λ (w : ℕ). neg_ℤ (pos w)) e

  signed_suc : (v : ℕ) → 2 ^ 63 ≤ b → whole_of b ≡ suc v → whole_part b ≡ negsuc v
  signed_suc v s e = ap (λ (t : Bool). cond t (neg_ℤ (pos (whole_of b))) (pos (whole_of b))) (le-leb _ _ s) ∙ ap (λ (w : ℕ). neg_ℤ (pos w)) e

  pub signed_unfit : (m : ℕ) → m ≡ min (whole_of b) (2 ^ 64 - 1) → 2 ^ 63 ≤ b → 2 ^ h < m → unfit ≡ truncated h made b
  signed_unfit m e s l = let v : whole_of b ≡ suc (whole_of b - 1) = omega arith in too_large (negsuc (whole_of b - 1)) (signed_suc (whole_of b - 1) s v) (let q : 2 ^ h ≤ whole_of b - 1 = omega arith in q)

  pub signed_none : (m : ℕ) → m ≡ min (whole_of b) (2 ^ 64 - 1) → 2 ^ 63 ≤ b → m ≡ 0 → entry (made 0) ≡ truncated h made b
  unfolding bits_of
  signed_none m e s z = let w : whole_of b ≡ 0 = omega arith in fits (omega arith) (pos 0) (signed_zero s w) (pow_pos h) 0 (mod-eq_of_lt (pow_pos (suc h)))

  pub signed_fits : (m n : ℕ) → m ≡ min (whole_of b) (2 ^ 64 - 1) → 2 ^ 63 ≤ b → 0 < m → m ≤ 2 ^ h → n ≡ 2 ^ suc h - m → entry (made n) ≡ truncated h made b
  unfolding bits_of
  signed_fits m n e s z l k =
      let r : 2 ^ h ≤ 2 ^ 63 = room in
      let w : whole_of b ≡ m = omega arith in
      let v : whole_of b ≡ suc (m - 1) = omega arith in
      let p : 2 ^ suc h ≡ 2 ^ h * 2 = pow-suc 2 h in
      let y : (m - 1) % 2 ^ suc h ≡ m - 1 = mod-eq_of_lt (let q : m - 1 < 2 ^ suc h = omega arith in q) in
      fits (omega arith) (negsuc (m - 1)) (signed_suc (m - 1) s v) (let q : m - 1 < 2 ^ h = omega arith in q) n (omega arith)

-- one, shifted below the sign
pub shifted_one : (h : ℕ) → h ≤ 63 → 1 * 2 ^ h % 18446744073709551616 ≡ 2 ^ h
shifted_one h narrow =
    let r : 2 ^ h ≤ 2 ^ 63 = pow-le-pow_right {n = 2} (omega arith) narrow in
    let one : 1 * 2 ^ h ≡ 2 ^ h = omega arith in
    ap (λ (n : ℕ). n % 18446744073709551616) one ∙ mod-eq_of_lt (let q : 2 ^ h < 2 ^ 64 = omega arith in q)
