-- Numbers at places of slices: read in parts, and written byte by byte. Assumes nothing.
use mathlib.Core.Path.{◌≡◌, refl, sym, ap, ◌∙◌}
use mathlib.Core.List.{List, [], ◌∷◌}
use Prim.Native.Nat.{ℕ, zero, suc, ◌+◌, ◌-◌, ◌*◌, ◌/◌, ◌%◌, ◌^◌, ◌≤◌}
use native.Mathlib.Nat.{add-zero, zero-add, suc-add, add_assoc, pow-suc, div-one, div-div-eq-div-mul}
use Rattle.std.specs.Int.{byte_at, bytes_low_first}
use native.Mathlib.Omega.{arith}
use lib.ListN.{length, take, drop, length-drop, drop_of_length-le}
use lib.Seq.{take_all, take-nil, get_or-drop, drop-drop}
use Rattle.layout.specs.Bytes.{byte, number, number_at, number_bytes}

-- a number is its lower bytes and, times 256 for each of them, its upper ones
pub number_split : (a b : ℕ) (l : List ℕ) → number (take (a + b) l) ≡ number (take a l) + 256 ^ a * number (take b (drop a l))
unfolding number
number_split zero b l = rw (zero-add b) (omega arith)
number_split (suc a) b [] = rw (take-nil (suc a + b), take-nil b) (omega arith)
number_split (suc a) b (x ∷ l) =
    let rest = number_split a b l in
    rw (suc-add, pow-suc 256 a) (omega arith)

-- one byte is its own number
number_byte : (l : List ℕ) → number (take 1 l) ≡ byte l 0
unfolding number
number_byte [] = refl
number_byte (b ∷ l) = omega arith

-- behind the end there is nothing but 0
pub number_behind : (k : ℕ) (l : List ℕ) (at : ℕ) → length l ≤ at → number_at k l at ≡ 0
unfolding number
number_behind k l at h = rw (drop_of_length-le l h, take-nil k)

-- two bytes at a place
pub number_two : (l : List ℕ) (at : ℕ) → byte l at + 256 * byte l (at + 1) ≡ number_at 2 l at
number_two l at =
    let m = drop at l in
    let low : number (take 1 m) ≡ byte l at = number_byte m ∙ get_or-drop at l 0 0 ∙ ap (byte l) (add-zero at) in
    let high : number (take 1 (drop 1 m)) ≡ byte l (at + 1) = number_byte (drop 1 m) ∙ get_or-drop 1 m 0 0 ∙ get_or-drop at l 1 0 in
    omega (arith, number_split 1 1 m)

-- the number at a place is that of its lower bytes and, times 256 for each of them, that of the bytes behind them
pub number_beside : (a b : ℕ) (l : List ℕ) (at : ℕ) → number_at (a + b) l at ≡ number_at a l at + 256 ^ a * number_at b l (at + a)
number_beside a b l at =
    number_split a b (drop at l)
    ∙ ap (λ (m : List ℕ). number_at a l at + 256 ^ a * number (take b m)) (drop-drop a at l)

-- four bytes at a place
pub number_four : (l : List ℕ) (at : ℕ) → byte l at + 256 * (byte l (at + 1) + 256 * (byte l (at + 2) + 256 * byte l (at + 3))) ≡ number_at 4 l at
number_four l at =
    let last : byte l (at + 2 + 1) ≡ byte l (at + 3) = ap (byte l) (add_assoc at 2 1) in
    omega (arith, last, number_two l at, number_two l (at + 2), number_beside 2 2 l at)

-- the number at a place, from the numbers of its halves
pub number_whole : (k : ℕ) (l : List ℕ) (at low high : ℕ) → low ≡ number_at k l at → high ≡ number_at k l (at + k) → low + 256 ^ k * high ≡ number_at (k + k) l at
number_whole k l at low high p q = rw (p, q) (sym (number_beside k k l at))

-- the number at a place, from the numbers of its halves: the upper one is read in what is left of the slice
pub number_halves : (k : ℕ) (l : List ℕ) (at low high : ℕ) → low ≡ number_at k l at → high ≡ number_at k (take (length l - at) (drop at l)) k
    → low + 256 ^ k * high ≡ number_at (k + k) l at
number_halves k l at low high p q =
    let rest : take (length l - at) (drop at l) ≡ drop at l = take_all (length l - at) (drop at l) (omega (arith, length-drop at l)) in
    rw (p, q, rest) (sym (number_split k k (drop at l)))

-- a byte of a number, by the bytes below it
byte_above : (i n : ℕ) → byte_at i n ≡ n / 256 ^ i % 256
byte_above zero n = ap (λ (m : ℕ). m % 256) (sym (div-one n))
byte_above (suc i) n = refl

-- the lowest bytes of a number, as std lists them, are the number in so many bytes
low_first : (i k n : ℕ) → bytes_low_first i k n ≡ number_bytes k (n / 256 ^ i)
unfolding number_bytes
low_first i zero n = refl
low_first i (suc k) n =
    let next : n / 256 ^ suc i ≡ n / 256 ^ i / 256 = ap (λ (m : ℕ). n / m) (pow-suc 256 i) ∙ sym (div-div-eq-div-mul n (256 ^ i) 256) in
    rw (byte_above i n, low_first (suc i) k n, next) refl

pub bytes_lowest : (k n : ℕ) → bytes_low_first 0 k n ≡ number_bytes k n
bytes_lowest k n = low_first 0 k n ∙ ap (number_bytes k) (div-one n)
