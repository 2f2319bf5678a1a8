-- A number times a power of two, divided by a power of two. Nothing here is at a fixed width. Assumes nothing.
use Rattle.std.proofs.Common.{◌≡◌, ℕ, ◌+◌, ◌-◌, ◌*◌, ◌/◌, ◌^◌, ◌<◌, ◌≤◌, sym, ap, ◌∙◌, le_trans, le_of_eq, lt_of_lt_of_le, mul-le-mul_right, mul_assoc, mul-lt-mul_of_pos_right, sub-add_cancel, mul-div_cancel, arith, pow_pos, pow-add}
use native.Mathlib.Nat.{pow-le-pow_right, mul-div-mul_right, div-eq_of_lt}

pub two_pos : (k : ℕ) → 0 < 2 ^ k
two_pos k = pow_pos k

rise : {i j : ℕ} → i ≤ j → 2 ^ i ≤ 2 ^ j
rise h = pow-le-pow_right {n = 2} (omega arith) h

-- shifted down
pub scaled_down : (m x c : ℕ) → x ≤ c → m * 2 ^ x / 2 ^ c ≡ m / 2 ^ (c - x)
scaled_down m x c h =
    ap (λ (n : ℕ). m * 2 ^ x / 2 ^ n) (sym (sub-add_cancel h)) ∙ ap (λ (n : ℕ). m * 2 ^ x / n) (pow-add 2 (c - x) x) ∙ mul-div-mul_right m (2 ^ (c - x)) (two_pos x)

-- shifted up
pub scaled_up : (m x c : ℕ) → c ≤ x → m * 2 ^ x / 2 ^ c ≡ m * 2 ^ (x - c)
scaled_up m x c h =
    ap (λ (n : ℕ). m * 2 ^ n / 2 ^ c) (sym (sub-add_cancel h)) ∙ ap (λ (n : ℕ). m * n / 2 ^ c) (pow-add 2 (x - c) c) ∙ ap (λ (n : ℕ). n / 2 ^ c) (sym (mul_assoc m (2 ^ (x - c)) (2 ^ c))) ∙ mul-div_cancel (m * 2 ^ (x - c)) (two_pos c)

-- below 1
pub scaled_away : (m x c p : ℕ) → m < 2 ^ p → p + x ≤ c → m * 2 ^ x / 2 ^ c ≡ 0
scaled_away m x c p h l = div-eq_of_lt (lt_of_lt_of_le (mul-lt-mul_of_pos_right h (two_pos x)) (le_trans (le_of_eq (sym (pow-add 2 p x))) (rise l)))

-- limits of what is shifted up
pub up_below : (m k p q : ℕ) → m < 2 ^ p → p + k ≤ q → m * 2 ^ k < 2 ^ q
up_below m k p q h l = lt_of_lt_of_le (mul-lt-mul_of_pos_right h (two_pos k)) (le_trans (le_of_eq (sym (pow-add 2 p k))) (rise l))

pub up_above : (m k p q : ℕ) → 2 ^ p ≤ m → q ≤ p + k → 2 ^ q ≤ m * 2 ^ k
up_above m k p q h l = le_trans (rise l) (le_trans (le_of_eq (pow-add 2 p k)) (mul-le-mul_right (2 ^ k) h))
