-- ASCII: byte by byte, eight bytes at a time, and that it is well-formed. Assumes nothing.
use mathlib.Core.Path.{◌≡◌, refl, sym, ap, subst, ◌∙◌}
use mathlib.Core.Bool.{Bool, true, false, cond}
use mathlib.Core.List.{List, [], ◌∷◌}
use mathlib.Core.Logic.{◌↔◌}
use Prim.Native.Nat.{ℕ, zero, suc, ◌+◌, ◌-◌, ◌*◌, ◌/◌, ◌^◌, ◌<◌, ◌≤◌}
use native.Mathlib.Decide.{dec_lt, ℕ_discrete}
use native.Mathlib.Omega.{arith}
use lib.Bits.{bit_and, and_block, and_high}
use lib.Dec.{eqb, leb, ltb}
use lib.ListN.{length, get_or, take, drop, length-drop}
use lib.Seq.{drop-cons, drop-drop, get_or-drop, take-take}
use borrow.Author.Tests.{leb-true, leb-false, le-leb, lt-leb, lt-ltb, le-ltb, eq-eqb, ne_eqb}
use Rattle.layout.specs.Bytes.{Bytes, number, number_at}
use Rattle.layout.proofs.BytesLaws.{bytes_drop}
use Rattle.utf8.specs.Ascii.{ascii_length, ascii_end, stretches_end}

-- ---- how far it goes

-- one byte more
ascii_more : (b : ℕ) (l : List ℕ) → b < 0x80 → ascii_length (b ∷ l) ≡ suc (ascii_length l)
unfolding ascii_length
ascii_more b l h = ap (λ (x : Bool). cond x (suc (ascii_length l)) 0) (lt-ltb b 0x80 h)

ascii_stops : (b : ℕ) (l : List ℕ) → 0x80 ≤ b → ascii_length (b ∷ l) ≡ 0
unfolding ascii_length
ascii_stops b l h = ap (λ (x : Bool). cond x (suc (ascii_length l)) 0) (le-ltb b 0x80 h)

-- no further than there are bytes
pub ascii_length_lem : (l : List ℕ) → ascii_length l ≤ length l
unfolding ascii_length
ascii_length_lem [] = omega arith
ascii_length_lem (b ∷ l) = go (ltb b 0x80) (ascii_length_lem l)
  where
    go : (t : Bool) → ascii_length l ≤ length l → cond t (suc (ascii_length l)) 0 ≤ suc (length l)
    go true r = omega arith
    go false r = omega arith

-- so many bytes on, what is left is as long as the rest
ascii_behind : (k : ℕ) (l : List ℕ) → k ≤ ascii_length l → ascii_length l ≡ k + ascii_length (drop k l)
ascii_behind zero l h = omega arith
ascii_behind (suc k) [] h = absurd (omega (arith, ascii_length_lem []))
ascii_behind (suc k) (b ∷ l) h = go (dec_lt b 0x80) (ascii_behind k l)
  where
    go : Dec (b < 0x80) → (k ≤ ascii_length l → ascii_length l ≡ k + ascii_length (drop k l)) → ascii_length (b ∷ l) ≡ suc k + ascii_length (drop k l)
    go (yes p) rest =
        let e = ascii_more b l p in
        let r : ascii_length l ≡ k + ascii_length (drop k l) = rest (omega arith) in
        omega arith
    go (no n) rest = let e = ascii_stops b l (omega arith) in absurd (omega arith)

-- the bytes of it are below 80
pub ascii_each : (l : List ℕ) (i : ℕ) → i < ascii_length l → get_or l i 0 < 0x80
ascii_each [] i h = absurd (omega (arith, ascii_length_lem []))
ascii_each (b ∷ l) i h = go (dec_lt b 0x80) i h (ascii_each l)
  where
    go : Dec (b < 0x80) → (i : ℕ) → i < ascii_length (b ∷ l) → ((j : ℕ) → j < ascii_length l → get_or l j 0 < 0x80) → get_or (b ∷ l) i 0 < 0x80
    go (yes p) zero k rest = p
    go (yes p) (suc j) k rest = let e = ascii_more b l p in rest j (omega arith)
    go (no n) j k rest = let e = ascii_stops b l (omega arith) in absurd (omega arith)

-- behind the first byte it goes on
pub ascii_rest : (b : ℕ) (l : List ℕ) (k : ℕ) → suc k ≤ ascii_length (b ∷ l) → k ≤ ascii_length l
ascii_rest b l k h = let low : b < 0x80 = ascii_each (b ∷ l) 0 (omega arith) in let e = ascii_more b l low in omega arith

-- where all bytes are below 80, it goes to the end
pub ascii_all : (l : List ℕ) → ((i : ℕ) → i < length l → get_or l i 0 < 0x80) → length l ≤ ascii_length l
ascii_all [] each = omega arith
ascii_all (b ∷ l) each =
    let e = ascii_more b l (each 0 (omega arith)) in
    let r = ascii_all l (λ i h. each (suc i) (omega arith)) in
    omega arith

-- from a place on up to where it ends
pub ascii_below : (bytes : List ℕ) (at i : ℕ) → at ≤ i → i < ascii_end bytes at → get_or bytes i 0 < 128
ascii_below bytes at i h k =
    let e : at + (i - at) ≡ i = omega arith in
    subst (λ (j : ℕ). get_or bytes j 0 < 128) e (subst (λ (x : ℕ). x < 128) (get_or-drop at bytes (i - at) 0) (ascii_each (drop at bytes) (i - at) (omega arith)))

-- ---- where it ends, turn by turn

pub end_at : (bytes : List ℕ) (at : ℕ) → length bytes ≤ at → ascii_end bytes at ≡ at
end_at bytes at h = let n = ascii_length_lem (drop at bytes) in let e = length-drop at bytes in omega arith

pub end_stops : (bytes : List ℕ) (at : ℕ) → at < length bytes → 0x80 ≤ get_or bytes at 0 → ascii_end bytes at ≡ at
end_stops bytes at h k =
    let e : ascii_length (drop at bytes) ≡ 0 = ap ascii_length (drop-cons bytes at 0 h) ∙ ascii_stops (get_or bytes at 0) (drop (suc at) bytes) k in
    omega arith

pub end_behind : (bytes : List ℕ) (at k : ℕ) → k ≤ ascii_length (drop at bytes) → ascii_end bytes (at + k) ≡ ascii_end bytes at
end_behind bytes at k h =
    let e = ascii_behind k (drop at bytes) h in
    let d : ascii_length (drop k (drop at bytes)) ≡ ascii_length (drop (at + k) bytes) = ap ascii_length (drop-drop k at bytes) in
    omega arith

pub end_next : (bytes : List ℕ) (at : ℕ) → at < length bytes → get_or bytes at 0 < 0x80 → ascii_end bytes (at + 1) ≡ ascii_end bytes at
end_next bytes at h k =
    let e : ascii_length (drop at bytes) ≡ suc (ascii_length (drop (suc at) bytes)) = ap ascii_length (drop-cons bytes at 0 h) ∙ ascii_more (get_or bytes at 0) (drop (suc at) bytes) k in
    end_behind bytes at 1 (omega arith)

pub end_word : (bytes : List ℕ) (at : ℕ) → leb 8 (ascii_length (drop at bytes)) ≡ true → ascii_end bytes (at + 8) ≡ ascii_end bytes at
end_word bytes at p = end_behind bytes at 8 (leb-true 8 (ascii_length (drop at bytes)) p)

-- eight bytes more, behind so many
words_more : (bytes : List ℕ) (at k : ℕ) → k ≤ ascii_length (drop at bytes) → leb 8 (ascii_length (drop (at + k) bytes)) ≡ leb (k + 8) (ascii_length (drop at bytes))
words_more bytes at k h = go (ascii_behind k (drop at bytes) h ∙ ap (λ (l : List ℕ). k + ascii_length l) (drop-drop k at bytes)) (dec_lt (ascii_length (drop (at + k) bytes)) 8)
  where
    go : ascii_length (drop at bytes) ≡ k + ascii_length (drop (at + k) bytes) → Dec (ascii_length (drop (at + k) bytes) < 8)
        → leb 8 (ascii_length (drop (at + k) bytes)) ≡ leb (k + 8) (ascii_length (drop at bytes))
    go e (yes p) = lt-leb 8 (ascii_length (drop (at + k) bytes)) p ∙ sym (lt-leb (k + 8) (ascii_length (drop at bytes)) (omega arith))
    go e (no n) = le-leb 8 (ascii_length (drop (at + k) bytes)) (omega arith) ∙ sym (le-leb (k + 8) (ascii_length (drop at bytes)) (omega arith))

-- ---- in stretches of 32

-- eight bytes and eight more: where some are not ASCII the stretch is not, and else the last decide
module _ (bytes : List ℕ) (at : ℕ) where
  abbrev far : ℕ
  far = ascii_length (drop at bytes)

  abbrev word : ℕ → Bool
  word k = leb 8 (ascii_length (drop (at + k) bytes))

  -- so far and no further
  cut : (k : ℕ) → k ≤ 24 → k ≤ far → word k ≡ false → false ≡ leb 32 far
  cut k h few p = let n : far < k + 8 = leb-false (k + 8) far (sym (words_more bytes at k few) ∙ p) in sym (lt-leb 32 far (omega arith))

  -- eight more
  gone : (k : ℕ) → k ≤ far → word k ≡ true → k + 8 ≤ far
  gone k few p = leb-true (k + 8) far (sym (words_more bytes at k few) ∙ p)

  at_first : leb 8 far ≡ word 0
  at_first = let e : at ≡ at + 0 = omega arith in ap (λ (i : ℕ). leb 8 (ascii_length (drop i bytes))) e

  pub stretch_first : leb 8 far ≡ false → false ≡ leb 32 far
  stretch_first p = cut 0 (omega arith) (omega arith) (sym at_first ∙ p)

  module _ (p : leb 8 far ≡ true) where
    one : 0 + 8 ≤ far
    one = gone 0 (omega arith) (sym at_first ∙ p)

    pub stretch_second : word 8 ≡ false → false ≡ leb 32 far
    stretch_second q = cut 8 (omega arith) (omega (arith, one)) q

    module _ (q : word 8 ≡ true) where
      two : 8 + 8 ≤ far
      two = gone 8 (omega (arith, one)) q

      pub stretch_third : word 16 ≡ false → false ≡ leb 32 far
      stretch_third r = cut 16 (omega arith) (omega (arith, two)) r

      pub stretch_whole : word 16 ≡ true → word 24 ≡ leb 32 far
      stretch_whole r = words_more bytes at 24 (omega (arith, gone 16 (omega (arith, two)) r))

-- it goes on behind them
pub end_stretches : (bytes : List ℕ) (at i : ℕ) → i ≡ stretches_end bytes at → ascii_end bytes i ≡ ascii_end bytes at
end_stretches bytes at i is =
    let k = ascii_length (drop at bytes) / 32 * 32 in
    let few : k ≤ ascii_length (drop at bytes) = omega arith in
    rw is (end_behind bytes at k few)

-- one stretch more, and no more
pub stretch_more : (bytes : List ℕ) (at : ℕ) → leb 32 (ascii_length (drop at bytes)) ≡ true → stretches_end bytes (at + 32) ≡ stretches_end bytes at
stretch_more bytes at p =
    let h : 32 ≤ ascii_length (drop at bytes) = leb-true 32 (ascii_length (drop at bytes)) p in
    let e = ascii_behind 32 (drop at bytes) h in
    let d : ascii_length (drop 32 (drop at bytes)) ≡ ascii_length (drop (at + 32) bytes) = ap ascii_length (drop-drop 32 at bytes) in
    omega arith

pub stretch_none : (bytes : List ℕ) (at : ℕ) → leb 32 (ascii_length (drop at bytes)) ≡ false → stretches_end bytes at ≡ at
stretch_none bytes at p = let h : ascii_length (drop at bytes) < 32 = leb-false 32 (ascii_length (drop at bytes)) p in omega arith

-- fewer bytes than that are left
pub stretch_short : (bytes : List ℕ) (at : ℕ) → length bytes < at + 32 → stretches_end bytes at ≡ at
stretch_short bytes at h = let n = ascii_length_lem (drop at bytes) in let e = length-drop at bytes in omega arith

-- behind a byte of it
pub end_rises : (bytes : List ℕ) (at end : ℕ) → at < length bytes → get_or bytes at 0 < 0x80 → end ≡ ascii_end bytes at → at < end
end_rises bytes at end h k is = let e = end_next bytes at h k in omega arith

-- it ends in the bytes
pub end_most : (bytes : List ℕ) (at : ℕ) → at ≤ length bytes → ascii_end bytes at ≤ length bytes
end_most bytes at h = let n = ascii_length_lem (drop at bytes) in let e = length-drop at bytes in omega arith

-- ---- eight bytes at a time

-- the highest bit of each of so many bytes
high_bits : ℕ → ℕ
high_bits zero = 0
high_bits (suc k) = high_bits k * 256 + 0x80

-- the highest bit of a byte
high_bit : (b : ℕ) → b < 256 → bit_and b 0x80 ≡ b / 128 * 128
high_bit b h = and_high b 1 7 ∙ omega arith

-- all of them are 0 exactly where so many bytes are ASCII
high_bits_lem : (k : ℕ) (l : List ℕ) → Bytes l → k ≤ length l → (bit_and (number (take k l)) (high_bits k) ≡ 0) ↔ (k ≤ ascii_length l)
unfolding number high_bits
high_bits_lem zero l b h = (λ p. omega arith, λ p. refl)
high_bits_lem (suc k) [] b h = absurd (omega arith)
high_bits_lem (suc k) (x ∷ l) b h = go (dec_lt x 0x80) (high_bits_lem k l (λ i. b (suc i)) (omega arith))
  where
    rest : ℕ
    rest = bit_and (number (take k l)) (high_bits k)

    split : bit_and (x + 256 * number (take k l)) (high_bits k * 256 + 0x80) ≡ rest * 256 + x / 128 * 128
    split =
        let low : x < 256 = b 0 in
        let turn : x + 256 * number (take k l) ≡ number (take k l) * 2 ^ 8 + x = omega arith in
        ap (λ (n : ℕ). bit_and n (high_bits k * 256 + 0x80)) turn ∙ and_block 8 (number (take k l)) (high_bits k) x 0x80 low (omega arith) ∙ ap (λ (n : ℕ). rest * 256 + n) (high_bit x low)

    go : Dec (x < 0x80) → (rest ≡ 0) ↔ (k ≤ ascii_length l) → (bit_and (x + 256 * number (take k l)) (high_bits k * 256 + 0x80) ≡ 0) ↔ (suc k ≤ ascii_length (x ∷ l))
    go (yes p) e =
        let n = ascii_more x l p in
        let s = split in (
          λ z. let r : rest ≡ 0 = omega arith in let m : k ≤ ascii_length l = e.0 r in omega arith,
          λ z. let m : k ≤ ascii_length l = omega arith in let r : rest ≡ 0 = e.1 m in omega arith,
        )
    go (no n) e =
        let o = ascii_stops x l (omega arith) in
        let s = split in (
          λ z. absurd (omega arith),
          λ z. absurd (omega arith),
        )

-- of eight bytes at a place, which are the number that is read there
pub ascii_word : (bytes : List ℕ) (at n : ℕ) → Bytes bytes → at + 8 ≤ length bytes → n ≡ number (take 8 (drop at bytes))
    → eqb (bit_and n 0x8080_8080_8080_8080) 0 ≡ leb 8 (ascii_length (drop at bytes))
unfolding high_bits
ascii_word bytes at n b h is = go (ℕ_discrete (bit_and n 0x8080_8080_8080_8080) 0)
  where
    all : (bit_and n 0x8080_8080_8080_8080 ≡ 0) ↔ (8 ≤ ascii_length (drop at bytes))
    all = let e = length-drop at bytes in rw is (high_bits_lem 8 (drop at bytes) (bytes_drop at bytes b) (omega arith))

    go : Dec (bit_and n 0x8080_8080_8080_8080 ≡ 0) → eqb (bit_and n 0x8080_8080_8080_8080) 0 ≡ leb 8 (ascii_length (drop at bytes))
    go (yes p) = eq-eqb _ _ p ∙ sym (le-leb 8 (ascii_length (drop at bytes)) (all.0 p))
    go (no p) = ne_eqb _ _ p ∙ sym (lt-leb 8 (ascii_length (drop at bytes)) (go2 (dec_lt (ascii_length (drop at bytes)) 8)))
      where
        go2 : Dec (ascii_length (drop at bytes) < 8) → ascii_length (drop at bytes) < 8
        go2 (yes q) = q
        go2 (no q) = absurd (p (all.1 (omega arith)))

-- the part of eight bytes at a place, as it is lent
pub part_of_eight : (bytes : List ℕ) (at : ℕ) → number_at 8 (take (at + 8 - at) (drop at bytes)) 0 ≡ number (take 8 (drop at bytes))
part_of_eight bytes at = let e : at + 8 - at ≡ 8 = omega arith in ap (λ (k : ℕ). number (take 8 (take k (drop at bytes)))) e ∙ ap number (take-take 8 8 (drop at bytes) (omega arith))
