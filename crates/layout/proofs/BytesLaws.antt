-- Numbers in bytes and back. Assumes nothing.
use mathlib.Core.Path.{◌≡◌, refl, ap}
use mathlib.Core.List.{List, [], ◌∷◌}
use Prim.Native.Nat.{ℕ, zero, suc, ◌+◌, ◌*◌, ◌/◌, ◌%◌, ◌^◌, ◌<◌}
use native.Mathlib.Nat.{pow-suc}
use native.Mathlib.Omega.{arith}
use lib.ListN.{length, take, drop}
use lib.Seq.{get_or-drop}
use Rattle.layout.specs.Bytes.{Bytes, number, number_bytes}

-- a number in k bytes takes k of them
pub length_number_bytes : (k n : ℕ) → length (number_bytes k n) ≡ k
unfolding number_bytes
length_number_bytes zero n = refl
length_number_bytes (suc k) n = ap suc (length_number_bytes k (n / 256))

-- a number that fits is read back
pub number_number_bytes : (k n : ℕ) → n < 256 ^ k → number (number_bytes k n) ≡ n
unfolding number number_bytes
number_number_bytes zero n h = omega arith
number_number_bytes (suc k) n h =
    let r = number_number_bytes k (n / 256) (omega (arith, pow-suc 256 k)) in
    omega arith

-- behind the first byte
pub bytes_tail : (b : ℕ) (l : List ℕ) → Bytes (b ∷ l) → Bytes l
bytes_tail b l h i = h (suc i)

-- bytes that are read are written back
pub number_bytes_number : (l : List ℕ) → Bytes l → number_bytes (length l) (number l) ≡ l
unfolding number number_bytes
number_bytes_number [] h = refl
number_bytes_number (b ∷ l) h =
    let first = h 0 in
    let low : (b + 256 * number l) % 256 ≡ b = omega arith in
    let high : (b + 256 * number l) / 256 ≡ number l = omega arith in
    let later = number_bytes_number l (bytes_tail b l h) in
    rw (low, high, later)

-- k bytes are a number below 256 to the k
pub number_below : (l : List ℕ) → Bytes l → number l < 256 ^ length l
unfolding number
number_below [] h = omega arith
number_below (b ∷ l) h =
    let first = h 0 in
    let later = number_below l (bytes_tail b l h) in
    omega (arith, pow-suc 256 (length l))

-- the first n bytes
pub bytes_take : (n : ℕ) (l : List ℕ) → Bytes l → Bytes (take n l)
bytes_take zero l h i = omega arith
bytes_take (suc n) [] h i = omega arith
bytes_take (suc n) (b ∷ l) h zero = h 0
bytes_take (suc n) (b ∷ l) h (suc i) = bytes_take n l (bytes_tail b l h) i

-- the bytes behind the first n
pub bytes_drop : (n : ℕ) (l : List ℕ) → Bytes l → Bytes (drop n l)
bytes_drop n l h i = rw get_or-drop (h (n + i))
