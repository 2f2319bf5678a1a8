-- Two's complement at any width: the bits of an integer and of its negation, and from one width to the other. Assumes nothing.
use Rattle.std.proofs.Common.{◌≡◌, ℕ, zero, suc, ◌+◌, ◌-◌, ◌%◌, ◌^◌, ◌<◌, ◌≤◌, ◌⊎◌, ℤ, pos, negsuc, neg_ℤ, sym, ap, ◌∙◌, inl, inr, ⊎_elim, mod-lt, mod-eq_of_lt, pow-suc, arith, pow_pos, le-ltb, lt-ltb}
use native.Mathlib.Decide.{dec_lt}
use native.Mathlib.Nat.{add-mod_left}
use lib.Signed.{mag}
use Rattle.scalar.specs.Integer.{signed, bits_of, negated}
use Rattle.scalar.specs.Entry.{int32, entry, unfit}
use Rattle.scalar.specs.Cast.{narrowed}

-- bits without the sign are the number itself
pub signed_low : (h n : ℕ) → n < 2 ^ h → signed h n ≡ pos n
signed_low h n b = simp (lt-ltb _ _ b)

-- bits with the sign are a negative number
pub signed_high : (h n : ℕ) → 2 ^ h ≤ n → signed h n ≡ negsuc (2 ^ suc h - suc n)
signed_high h n b = simp (le-ltb _ _ b)

-- the bits of an integer are of their width
pub bits_of_below : (h : ℕ) (z : ℤ) → bits_of h z < 2 ^ suc h
unfolding bits_of
bits_of_below h (pos n) = mod-lt n (pow_pos (suc h))
bits_of_below h (negsuc n) = omega (arith, pow_pos (suc h))

-- within the width nothing wraps
bits_of_pos : (h n : ℕ) → n < 2 ^ suc h → bits_of h (pos n) ≡ n
unfolding bits_of
bits_of_pos h n b = mod-eq_of_lt b

bits_of_negsuc : (h n : ℕ) → n < 2 ^ suc h → bits_of h (negsuc n) ≡ 2 ^ suc h - suc n
unfolding bits_of
bits_of_negsuc h n b = ap (λ (x : ℕ). 2 ^ suc h - suc x) (mod-eq_of_lt b)

-- the bits of an integer in the range are that integer
pub signed_back : (h : ℕ) (z : ℤ) → mag z < 2 ^ h → signed h (bits_of h z) ≡ z
signed_back h (pos n) l = ap (signed h) (bits_of_pos h n (omega (arith, pow-suc 2 h))) ∙ signed_low h n l
signed_back h (negsuc n) l =
    let e : 2 ^ suc h - suc (2 ^ suc h - suc n) ≡ n = omega (arith, pow-suc 2 h) in
    ap (signed h) (bits_of_negsuc h n (omega (arith, pow-suc 2 h))) ∙ signed_high h (2 ^ suc h - suc n) (omega (arith, pow-suc 2 h)) ∙ ap negsuc e

-- zero negates to itself
negated_zero : (h : ℕ) → negated h 0 ≡ 0
negated_zero h = ap (λ (z : ℤ). bits_of h (neg_ℤ z)) (signed_low h 0 (pow_pos h)) ∙ bits_of_pos h 0 (pow_pos (suc h))

-- any other integer negates to what the width lacks of it
negated_above : (h n : ℕ) → 0 < n → n < 2 ^ suc h → negated h n ≡ 2 ^ suc h - n
negated_above h n p b = go n p b (dec_lt n (2 ^ h))
  where
    go : (n : ℕ) → 0 < n → n < 2 ^ suc h → Dec (n < 2 ^ h) → negated h n ≡ 2 ^ suc h - n
    go zero p b d = absurd (omega arith)
    go (suc k) p b (yes l) = ap (λ (z : ℤ). bits_of h (neg_ℤ z)) (signed_low h (suc k) l) ∙ bits_of_negsuc h k (omega arith)
    go (suc k) p b (no g) =
        let e : suc (2 ^ suc h - suc (suc k)) ≡ 2 ^ suc h - suc k = omega arith in
        ap (λ (z : ℤ). bits_of h (neg_ℤ z)) (signed_high h (suc k) (omega arith)) ∙ bits_of_pos h (suc (2 ^ suc h - suc (suc k))) (omega arith) ∙ e

-- what is 0 modulo m and below twice m is 0 or m
zero_sum : (m s : ℕ) → s < m + m → s % m ≡ 0 → (s ≡ 0) ⊎ (s ≡ m)
zero_sum m s b e = go (dec_lt s m)
  where
    go : Dec (s < m) → (s ≡ 0) ⊎ (s ≡ m)
    go (yes l) = inl (sym (mod-eq_of_lt l) ∙ e)
    go (no g) =
        let t : s ≡ m + (s - m) = omega arith in
        let l : s - m < m = omega arith in
        let z : s - m ≡ 0 = sym (mod-eq_of_lt l) ∙ sym (add-mod_left m (s - m)) ∙ ap (λ (x : ℕ). x % m) (sym t) ∙ e in
        inr (omega arith)

-- wrapping subtraction from zero negates
pub negated_is : (h n r : ℕ) → n < 2 ^ suc h → r < 2 ^ suc h → (r + n) % 2 ^ suc h ≡ 0 → r ≡ negated h n
negated_is h n r bn br e = ⊎_elim none some (zero_sum (2 ^ suc h) (r + n) (omega arith) e)
  where
    none : r + n ≡ 0 → r ≡ negated h n
    none z =
        let p : n ≡ 0 = omega arith in
        let q : r ≡ 0 = omega arith in
        q ∙ sym (ap (negated h) p ∙ negated_zero h)

    some : r + n ≡ 2 ^ suc h → r ≡ negated h n
    some z =
        let q : r ≡ 2 ^ suc h - n = omega arith in
        q ∙ sym (negated_above h n (omega arith) bn)

-- the lowest value negates to itself
pub negated_lowest : (h : ℕ) → negated h (2 ^ h) ≡ 2 ^ h
negated_lowest h =
    let e : 2 ^ suc h - 2 ^ h ≡ 2 ^ h = omega (arith, pow-suc 2 h) in
    negated_above h (2 ^ h) (pow_pos h) (omega (arith, pow-suc 2 h, pow_pos h)) ∙ e

-- the bits of any other negated integer are its negation
pub negated_signed : (h n : ℕ) → n < 2 ^ suc h → (n ≡ 2 ^ h → ⊥) → signed h (negated h n) ≡ neg_ℤ (signed h n)
negated_signed h n b x = go n b x (dec_lt n (2 ^ h))
  where
    go : (n : ℕ) → n < 2 ^ suc h → (n ≡ 2 ^ h → ⊥) → Dec (n < 2 ^ h) → signed h (negated h n) ≡ neg_ℤ (signed h n)
    go zero b x d = ap (signed h) (negated_zero h) ∙ signed_low h 0 (pow_pos h) ∙ sym (ap neg_ℤ (signed_low h 0 (pow_pos h)))
    go (suc k) b x (yes l) =
        let q : 2 ^ suc h - suc (2 ^ suc h - suc k) ≡ k = omega arith in
        ap (signed h) (negated_above h (suc k) (omega arith) b) ∙ signed_high h (2 ^ suc h - suc k) (omega (arith, pow-suc 2 h)) ∙ ap negsuc q ∙ sym (ap neg_ℤ (signed_low h (suc k) l))
    go (suc k) b x (no g) =
        let q : 2 ^ suc h - suc k ≡ suc (2 ^ suc h - suc (suc k)) = omega arith in
        ap (signed h) (negated_above h (suc k) (omega arith) b) ∙ signed_low h (2 ^ suc h - suc k) (omega (arith, pow-suc 2 h)) ∙ ap pos q ∙ sym (ap neg_ℤ (signed_high h (suc k) (omega arith)))

-- an Int32 as an Int64
pub widened_low : (n : ℕ) → n < 2 ^ 31 → bits_of 63 (signed 31 n) ≡ n
widened_low n b = ap (bits_of 63) (signed_low 31 n b) ∙ bits_of_pos 63 n (omega arith)

pub widened_high : (n : ℕ) → 2 ^ 31 ≤ n → n < 2 ^ 32 → bits_of 63 (signed 31 n) ≡ n + (2 ^ 64 - 2 ^ 32)
widened_high n a b =
    let e : 2 ^ 64 - suc (2 ^ 32 - suc n) ≡ n + (2 ^ 64 - 2 ^ 32) = omega arith in
    ap (bits_of 63) (signed_high 31 n a) ∙ bits_of_negsuc 63 (2 ^ 32 - suc n) (omega arith) ∙ e

-- and back it is the same number
pub widened_signed : (n : ℕ) → n < 2 ^ 32 → signed 63 (bits_of 63 (signed 31 n)) ≡ signed 31 n
widened_signed n b = signed_back 63 (signed 31 n) (go (dec_lt n (2 ^ 31)))
  where
    go : Dec (n < 2 ^ 31) → mag (signed 31 n) < 2 ^ 63
    go (yes l) = rw (signed_low 31 n l) (omega arith)
    go (no g) = rw (signed_high 31 n (omega arith)) (omega arith)

-- an Int64 that is not negative and in Int32's range
pub narrowed_low : (n : ℕ) → n < 2 ^ 31 → narrowed n ≡ entry (int32 n)
narrowed_low n b = rw (signed_low 63 n (omega arith)) (simp (lt-ltb n (2 ^ 31) b) (ap (λ (x : ℕ). entry (int32 x)) (bits_of_pos 31 n (omega arith))))

-- one outside of the range
pub narrowed_outside : (n : ℕ) → 2 ^ 31 ≤ n → n < 2 ^ 64 - 2 ^ 31 → narrowed n ≡ unfit
narrowed_outside n a b = go (dec_lt n (2 ^ 63))
  where
    go : Dec (n < 2 ^ 63) → narrowed n ≡ unfit
    go (yes l) = rw (signed_low 63 n l) (simp (le-ltb n (2 ^ 31) a))
    go (no g) =
        let m : 2 ^ 31 ≤ 2 ^ 64 - suc n = omega arith in
        rw (signed_high 63 n (omega arith)) (simp (le-ltb (2 ^ 64 - suc n) (2 ^ 31) m))

-- a negative one in the range
pub narrowed_high : (n : ℕ) → 2 ^ 64 - 2 ^ 31 ≤ n → n < 2 ^ 64 → narrowed n ≡ entry (int32 (n - (2 ^ 64 - 2 ^ 32)))
narrowed_high n a b =
    let m : 2 ^ 64 - suc n < 2 ^ 31 = omega arith in
    let e : 2 ^ 32 - suc (2 ^ 64 - suc n) ≡ n - (2 ^ 64 - 2 ^ 32) = omega arith in
    rw (signed_high 63 n (omega arith)) (simp (lt-ltb (2 ^ 64 - suc n) (2 ^ 31) m) (ap (λ (x : ℕ). entry (int32 x)) (bits_of_negsuc 31 (2 ^ 64 - suc n) (omega arith) ∙ e)))
