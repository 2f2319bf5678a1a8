-- How many bits of a bitmap are set: byte by byte. Assumes nothing.
use mathlib.Core.Path.{◌≡◌, refl, sym, ap, ap₂, ◌∙◌}
use mathlib.Core.Bool.{Bool, true, false, cond}
use mathlib.Core.List.{List}
use Prim.Native.Nat.{ℕ, zero, suc, ◌+◌, ◌-◌, ◌*◌, ◌/◌, ◌%◌, ◌^◌, ◌<◌, ◌≤◌}
use native.Mathlib.Nat.{add-zero, add-suc, zero-add, pow-suc, mod-lt}
use native.Mathlib.Omega.{arith}
use lib.Bits.{bit_and}
use lib.Count.{ones, ones_cat}
use lib.Dec.{eqb}
use lib.ListN.{length, take}
use lib.Seq.{drop-cons}
use lib.Pow.{mod-pow-add}
use Rattle.layout.specs.Bytes.{byte, number, number_at, bit_at, set_bits}
use Rattle.layout.proofs.BitLaws.{shift_mask, bit_behind}

-- a digit counts for itself
ones_digit : (d : ℕ) → d < 2 → ones d ≡ d
unfolding ones
ones_digit zero h = refl
ones_digit (suc zero) h = refl
ones_digit (suc (suc d)) h = absurd (omega arith)

-- and its test says so
digit_set : (d : ℕ) → d < 2 → cond (eqb d 1) 1 0 ≡ d
digit_set zero h = refl
digit_set (suc zero) h = refl
digit_set (suc (suc d)) h = absurd (omega arith)

-- nothing counts for nothing
ones_none : (n : ℕ) → ones (n % 1) ≡ 0
ones_none n = let e : n % 1 ≡ 0 = omega arith in ap ones e ∙ ones_digit 0 (omega arith)

-- a power of two is not 0
pub power_some : (k : ℕ) → 0 < 2 ^ k
power_some zero = omega arith
power_some (suc k) = omega (arith, pow-suc 2 k, power_some k)

-- one digit more
ones_more : (b k : ℕ) → ones (b % 2 ^ suc k) ≡ b / 2 ^ k % 2 + ones (b % 2 ^ k)
ones_more b k =
    let d : b / 2 ^ k % 2 < 2 = omega arith in
    let e : suc k ≡ 1 + k = omega arith in
    ap (λ (x : ℕ). ones (b % 2 ^ x)) e ∙ ap ones (mod-pow-add b 1 k) ∙ ones_cat k (b / 2 ^ k % 2) (b % 2 ^ k) (mod-lt b (power_some k)) ∙ ap (λ (x : ℕ). x + ones (b % 2 ^ k)) (ones_digit (b / 2 ^ k % 2) d)

-- the bits of a byte from its first row on
set_in_byte : (map : List ℕ) (i k : ℕ) → k ≤ 8 → set_bits map (8 * i + k) ≡ set_bits map (8 * i) + ones (byte map i % 2 ^ k)
unfolding set_bits
set_in_byte map i zero h = ap (set_bits map) (add-zero (8 * i)) ∙ sym (ap (λ (x : ℕ). set_bits map (8 * i) + x) (ones_none (byte map i)) ∙ add-zero (set_bits map (8 * i)))
set_in_byte map i (suc k) h =
    let q : (8 * i + k) / 8 ≡ i = omega arith in
    let r : (8 * i + k) % 8 ≡ k = omega arith in
    let d : byte map i / 2 ^ k % 2 < 2 = omega arith in
    let this : cond (bit_at map (8 * i + k)) 1 0 ≡ byte map i / 2 ^ k % 2 =
    ap₂ (λ (x y : ℕ). cond (eqb (byte map x / 2 ^ y % 2) 1) 1 0) q r ∙ digit_set (byte map i / 2 ^ k % 2) d in
    let more = ones_more (byte map i) k in
    let rest = set_in_byte map i k (omega arith) in
    ap (set_bits map) (add-suc (8 * i) k) ∙ omega arith

-- a byte more
pub set_byte : (map : List ℕ) (i : ℕ) → byte map i < 256 → set_bits map (8 * (i + 1)) ≡ set_bits map (8 * i) + ones (byte map i)
set_byte map i h =
    let e : 8 * (i + 1) ≡ 8 * i + 8 = omega arith in
    let whole : byte map i % 256 ≡ byte map i = omega arith in
    ap (set_bits map) e ∙ set_in_byte map i 8 (omega arith) ∙ ap (λ (x : ℕ). set_bits map (8 * i) + ones x) whole

-- a number of bytes, the lowest first
number_next : (l : List ℕ) (i k : ℕ) → i < length l → number_at (suc k) l i ≡ byte l i + 256 * number_at k l (suc i)
unfolding number
number_next l i k h = ap (λ (m : List ℕ). number (take (suc k) m)) (drop-cons l i 0 h)

-- the bits of so many bytes are those of their number
set_number : (map : List ℕ) (i k : ℕ) → ((j : ℕ) → byte map j < 256) → i + k ≤ length map → set_bits map (8 * (i + k)) ≡ set_bits map (8 * i) + ones (number_at k map i)
unfolding number
set_number map i zero b h = ap (λ (n : ℕ). set_bits map (8 * n)) (add-zero i) ∙ sym (ap (λ (x : ℕ). set_bits map (8 * i) + x) (ones_digit 0 (omega arith)) ∙ add-zero (set_bits map (8 * i)))
set_number map i (suc k) b h =
    let up : i + suc k ≡ suc i + k = omega arith in
    let one : suc i ≡ i + 1 = omega arith in
    let low = b i in
    let turn : byte map i + 256 * number_at k map (suc i) ≡ number_at k map (suc i) * 2 ^ 8 + byte map i = omega arith in
    let parts : ones (number_at (suc k) map i) ≡ ones (number_at k map (suc i)) + ones (byte map i) =
    ap ones (number_next map i k (omega arith) ∙ turn) ∙ ones_cat 8 (number_at k map (suc i)) (byte map i) low in
    let rest = set_number map (suc i) k b (omega arith) in
    let this : set_bits map (8 * suc i) ≡ set_bits map (8 * i) + ones (byte map i) = ap (λ (n : ℕ). set_bits map (8 * n)) one ∙ set_byte map i low in
    ap (λ (n : ℕ). set_bits map (8 * n)) up ∙ omega arith

-- a word more
pub set_word : (map : List ℕ) (i : ℕ) → ((j : ℕ) → byte map j < 256) → 8 * i + 8 ≤ length map → set_bits map (64 * (i + 1)) ≡ set_bits map (64 * i) + ones (number_at 8 map (8 * i))
set_word map i b h =
    let up : 64 * (i + 1) ≡ 8 * (8 * i + 8) = omega arith in
    let from : 8 * (8 * i) ≡ 64 * i = omega arith in
    ap (set_bits map) up ∙ set_number map (8 * i) 8 b h ∙ ap (λ (n : ℕ). set_bits map n + ones (number_at 8 map (8 * i))) from

-- of no rows none
pub set_none : (map : List ℕ) → 0 ≡ set_bits map 0
unfolding set_bits
set_none map = refl

-- no more bits are set than there are rows
pub set_most : (map : List ℕ) (n : ℕ) → set_bits map n ≤ n
unfolding set_bits
set_most map zero = omega arith
set_most map (suc n) = go (bit_at map n) (set_most map n)
  where
    go : (b : Bool) → set_bits map n ≤ n → cond b 1 0 + set_bits map n ≤ suc n
    go true h = omega arith
    go false h = omega arith

-- behind the end of a bitmap no more bits are set
set_behind : (map : List ℕ) (n d : ℕ) → 8 * length map ≤ n → set_bits map (n + d) ≡ set_bits map n
unfolding set_bits
set_behind map n zero h = ap (set_bits map) (add-zero n)
set_behind map n (suc d) h =
    ap (set_bits map) (add-suc n d) ∙ ap (λ (b : Bool). cond b 1 0 + set_bits map (n + d)) (bit_behind map (n + d) (omega arith)) ∙ zero-add (set_bits map (n + d)) ∙ set_behind map n d h

pub set_ended : (map : List ℕ) (n : ℕ) → length map ≤ n / 8 → set_bits map (8 * length map) ≡ set_bits map n
set_ended map n h =
    let e : 8 * length map + (n - 8 * length map) ≡ n = omega arith in
    sym (ap (set_bits map) (sym e) ∙ set_behind map (8 * length map) (n - 8 * length map) (omega arith))

-- whole bytes, and the lowest bits of the next
set_lowest : (map : List ℕ) (n : ℕ) → set_bits map n ≡ set_bits map (8 * (n / 8)) + ones (bit_and (byte map (n / 8)) (2 ^ (n % 8) - 1))
set_lowest map n =
    let e : 8 * (n / 8) + n % 8 ≡ n = omega arith in
    sym (ap (set_bits map) e) ∙ set_in_byte map (n / 8) (n % 8) (omega arith)
    ∙ ap (λ (x : ℕ). set_bits map (8 * (n / 8)) + ones x) (sym (shift_mask (byte map (n / 8)) (n % 8)).remainder)

-- the mask of fewer than eight bits, as a byte
pub mask_of : (k : ℕ) → k < 8 → (1 * 2 ^ k) % 256 ≡ 2 ^ k
mask_of zero h = refl
mask_of (suc zero) h = refl
mask_of (suc (suc zero)) h = refl
mask_of (suc (suc (suc zero))) h = refl
mask_of (suc (suc (suc (suc zero)))) h = refl
mask_of (suc (suc (suc (suc (suc zero))))) h = refl
mask_of (suc (suc (suc (suc (suc (suc zero)))))) h = refl
mask_of (suc (suc (suc (suc (suc (suc (suc zero))))))) h = refl
mask_of (suc (suc (suc (suc (suc (suc (suc (suc k)))))))) h = absurd (omega arith)

-- the sum of the whole bytes' bits and of those of the next under the mask
pub set_sum : (map : List ℕ) (rows whole low sum next : ℕ) → whole ≡ rows / 8 → low ≡ rows % 8 → sum ≡ set_bits map (8 * whole)
    → next ≡ ones (bit_and (byte map whole) ((1 * 2 ^ low) % 256 - 1)) → sum + next ≡ set_bits map rows
set_sum map rows whole low sum next w l s n =
    let short : low < 8 = omega arith in
    ap₂ ◌+◌ (s ∙ ap (λ (x : ℕ). set_bits map (8 * x)) w)
    (n ∙ ap (λ (x : ℕ). ones (bit_and (byte map whole) (x - 1))) (mask_of low short) ∙ ap₂ (λ (x y : ℕ). ones (bit_and (byte map x) (2 ^ y - 1))) w l)
    ∙ sym (set_lowest map rows)
