-- Bits in bytes and back. Assumes nothing.
use mathlib.Core.Path.{◌≡◌, refl, ap, sym, ◌∙◌}
use mathlib.Core.Bool.{Bool, true, false, cond}
use mathlib.Core.List.{List, [], ◌∷◌}
use Prim.Native.Nat.{ℕ, zero, suc, ◌+◌, ◌-◌, ◌*◌, ◌/◌, ◌%◌, ◌^◌, ◌<◌, ◌≤◌}
use native.Mathlib.Nat.{zero-div}
use native.Mathlib.Omega.{arith}
use lib.Bits.{bit_and, and_mask}
use lib.Dec.{eqb}
use lib.ListN.{length, get_or, get_or-eq_default}
use lib.Pow.{shr-shr, field, mod-mod-pow}
use Rattle.layout.specs.Bytes.{byte, number_bytes, byte_of_row, bit_of_row, bit_at, bitmap_length, bit_number, bitmap}
use Rattle.layout.proofs.BytesLaws.{length_number_bytes}

-- q and r are the quotient and the remainder of n by d
pub record Divided (n d q r : ℕ) : Type 0 where
  pub quotient : q ≡ n / d
  pub remainder : r ≡ n % d

-- by a power of two: a shift by k gives the quotient, `n >> k` being n / 2 ^ k in the logic, and a mask of the k lowest bits the remainder
pub shift_mask : (n k : ℕ) → Divided n (2 ^ k) (n / 2 ^ k) (bit_and n (2 ^ k - 1))
shift_mask n k = record { quotient = refl; remainder = and_mask n k }

-- a byte of a number
byte_of_number : (k n j : ℕ) → j < k → byte (number_bytes k n) j ≡ n / 2 ^ (8 * j) % 256
unfolding number_bytes
byte_of_number zero n j h = absurd (omega arith)
byte_of_number (suc k) n zero h = omega arith
byte_of_number (suc k) n (suc j) h =
    let e : 8 + 8 * j ≡ 8 * suc j = omega arith in
    byte_of_number k (n / 256) j (omega arith) ∙ ap (λ (x : ℕ). x % 256) (shr-shr n 8 (8 * j)) ∙ ap (λ (x : ℕ). n / 2 ^ x % 256) e

-- a bit of a byte is a bit of what the byte is cut from
bit_of_byte : (n r : ℕ) → r < 8 → n % 256 / 2 ^ r % 2 ≡ n / 2 ^ r % 2
bit_of_byte n r h =
    let e : 7 - r + 1 + r ≡ 8 = omega arith in
    ap (λ (x : ℕ). n % 2 ^ x / 2 ^ r % 2) (sym e) ∙ ap (λ (x : ℕ). x % 2) (field n (7 - r + 1) r) ∙ mod-mod-pow (n / 2 ^ r) (7 - r) 1

-- a bit of the number of bits
bit_of_bits : (bits : List Bool) (i : ℕ) → eqb (bit_number bits / 2 ^ i % 2) 1 ≡ get_or bits i false
unfolding bit_number
bit_of_bits [] i = rw (zero-div (2 ^ i))
bit_of_bits (b ∷ l) zero = first b
  where
    first : (c : Bool) → eqb ((cond c 1 0 + 2 * bit_number l) / 1 % 2) 1 ≡ c
    first true = let e : (1 + 2 * bit_number l) / 1 % 2 ≡ 1 = omega arith in ap (λ (x : ℕ). eqb x 1) e
    first false = let e : (0 + 2 * bit_number l) / 1 % 2 ≡ 0 = omega arith in ap (λ (x : ℕ). eqb x 1) e
bit_of_bits (b ∷ l) (suc i) =
    let e : suc i ≡ 1 + i = omega arith in
    rw (e, ← shr-shr (bit_number (b ∷ l)) 1 i, half b) (bit_of_bits l i)
  where
    half : (c : Bool) → (cond c 1 0 + 2 * bit_number l) / 2 ≡ bit_number l
    half true = omega arith
    half false = omega arith

-- the bits of a bitmap are the bits that it was made of
pub bit_of_bitmap : (bits : List Bool) (i : ℕ) → i < length bits → bit_at (bitmap bits) i ≡ get_or bits i false
bit_of_bitmap bits i h =
    let n = bit_number bits in
    let at : byte (bitmap bits) (i / 8) ≡ n / 2 ^ (8 * (i / 8)) % 256 = byte_of_number (bitmap_length (length bits)) n (i / 8) (omega arith) in
    let r : i % 8 < 8 = omega arith in
    let e : 8 * (i / 8) + i % 8 ≡ i = omega arith in
    ap (λ (x : ℕ). eqb (x / 2 ^ (i % 8) % 2) 1) at
    ∙ ap (λ (x : ℕ). eqb x 1) (bit_of_byte (n / 2 ^ (8 * (i / 8))) (i % 8) r)
    ∙ ap (λ (x : ℕ). eqb (x % 2) 1) (shr-shr n (8 * (i / 8)) (i % 8))
    ∙ ap (λ (x : ℕ). eqb (n / 2 ^ x % 2) 1) e
    ∙ bit_of_bits bits i

-- a bitmap takes an eighth of its bits, rounded up
pub length_bitmap : (bits : List Bool) → length (bitmap bits) ≡ bitmap_length (length bits)
length_bitmap bits = length_number_bytes (bitmap_length (length bits)) (bit_number bits)

-- behind a bitmap's end no bit is set
pub bit_behind : (map : List ℕ) (i : ℕ) → length map ≤ byte_of_row i → bit_at map i ≡ false
bit_behind map i h = rw (get_or-eq_default map 0 h, zero-div (2 ^ bit_of_row i))
