-- Digits of a number in any base, how many a decimal has, and a text in hex. Assumes nothing.
use mathlib.Core.Path.{◌≡◌, refl, sym, ap, ap₂, subst, ◌∙◌}
use mathlib.Core.Bool.{Bool, true, false}
use mathlib.Core.List.{List, [], ◌∷◌, ◌++◌, append-nil, append_assoc}
use Prim.Native.Nat.{ℕ, zero, suc, ◌+◌, ◌*◌, ◌/◌, ◌%◌, ◌^◌, ◌<◌, ◌≤◌}
use native.Mathlib.Nat.{pow-suc}
use native.Mathlib.Decide.{dec_lt}
use native.Mathlib.Numerals.{add-one}
use native.Mathlib.Omega.{arith}
use lib.ListN.{length, take, get_or, length-append, set}
use lib.Seq.{take-suc, take-length, append_snoc}
use borrow.Author.Tests.{lt-ltb, le-ltb}
use Rattle.listing.specs.Listing.{digit, digits, places_within, places, decimal, hex_bytes}
use Rattle.layout.specs.Put.{Wrote}
use Rattle.layout.proofs.PutLaws.{wrote_none, wrote_long, wrote_then, wrote_before, wrote_as, wrote_sets}

-- ---- how many decimal digits a number has

-- below ten, one
within_one : (left n : ℕ) → n < 10 → places_within left n ≡ 1
unfolding places_within
within_one zero n h = refl
within_one (suc left) n h = ap (λ (b : Bool). elim b [ true ↦ 1 | false ↦ suc (places_within left (n / 10)) ]) (lt-ltb n 10 h)

-- from ten on, one more than a tenth of it
within_more : (left n : ℕ) → 10 ≤ n → places_within (suc left) n ≡ suc (places_within left (n / 10))
unfolding places_within
within_more left n h = ap (λ (b : Bool). elim b [ true ↦ 1 | false ↦ suc (places_within left (n / 10)) ]) (le-ltb n 10 h)

-- as many steps as the number are enough, and more give no other answer
within_enough : (f g n : ℕ) → n ≤ f → n ≤ g → places_within f n ≡ places_within g n
within_enough zero g n a b = within_one zero n (omega arith) ∙ sym (within_one g n (omega arith))
within_enough (suc f) zero n a b = within_one (suc f) n (omega arith) ∙ sym (within_one zero n (omega arith))
within_enough (suc f) (suc g) n a b = go (λ (h : 10 ≤ n). within_enough f g (n / 10) (omega arith) (omega arith)) (dec_lt n 10)
  where
    go : (10 ≤ n → places_within f (n / 10) ≡ places_within g (n / 10)) → Dec (n < 10) → places_within (suc f) n ≡ places_within (suc g) n
    go r (yes p) = within_one (suc f) n p ∙ sym (within_one (suc g) n p)
    go r (no p) =
        let more : 10 ≤ n = omega arith in
        within_more f n more ∙ ap suc (r more) ∙ sym (within_more g n more)

places_one : (n : ℕ) → n < 10 → places n ≡ 1
places_one n h = within_one n n h

places_more : (n : ℕ) → 10 ≤ n → places n ≡ suc (places (n / 10))
places_more zero h = absurd (omega arith)
places_more (suc n) h = within_more n (suc n) h ∙ ap suc (within_enough n (suc n / 10) (suc n / 10) (omega arith) (omega arith))

-- at least one
places_some : (n : ℕ) → 1 ≤ places n
places_some n = go (dec_lt n 10)
  where
    go : Dec (n < 10) → 1 ≤ places n
    go (yes p) = omega (arith, places_one n p)
    go (no p) = let more : 10 ≤ n = omega arith in omega (arith, places_more n more)

-- below a power of ten, no more than its exponent
pub places_most : (k n : ℕ) → n < 10 ^ suc k → places n ≤ suc k
places_most zero n h = omega (arith, places_one n h)
places_most (suc k) n h = go (places_most k (n / 10) (omega (arith, pow-suc 10 (suc k)))) (dec_lt n 10)
  where
    go : places (n / 10) ≤ suc k → Dec (n < 10) → places n ≤ suc (suc k)
    go r (yes p) = omega (arith, places_one n p)
    go r (no p) = let more : 10 ≤ n = omega arith in omega (arith, r, places_more n more)

-- where the count stands: k digits and those of what is left, one counted twice
pub record PlacesSoFar (n k rest : ℕ) : Type 0 where
  pub counts : k + places rest ≡ suc (places n)
  pub some : 1 ≤ places rest
  pub few : places n ≤ 20

pub places_start : (n : ℕ) → n < 18446744073709551616 → PlacesSoFar n 1 n
places_start n h = record { counts = omega arith; some = places_some n; few = places_most 19 n (omega arith) }

pub places_next : {n k rest : ℕ} → PlacesSoFar n k rest → 10 ≤ rest → PlacesSoFar n (k + 1) (rest / 10)
places_next {n} {k} {rest} s h = record { counts = omega (arith, s.counts, places_more rest h); some = places_some (rest / 10); few = s.few }

pub places_end : {n k rest : ℕ} → PlacesSoFar n k rest → rest < 10 → (k ≡ places n) × (k ≤ 20)
places_end {n} {k} {rest} s h =
    let e : k ≡ places n = omega (arith, s.counts, places_one rest h) in
    (e, omega (arith, s.few))

-- ---- digits in a base

-- as many as are asked for
pub length_digits : (base k n : ℕ) → length (digits base k n) ≡ k
unfolding digits
length_digits base zero n = refl
length_digits base (suc k) n = omega (arith, length-append (digits base k (n / base)) (digit (n % base) ∷ []), length_digits base k (n / base))

-- a decimal is as long as it has digits
pub length_decimal : (n : ℕ) → length (decimal n) ≡ places n
length_decimal n = length_digits 10 (places n) n

-- where the loop stands: the digits behind the first i are written, and those are the digits of what is left
pub record DigitsSoFar (out : List ℕ) (base k n at i rest : ℕ) (m : List ℕ) : Type 0 where
  pub tail : List ℕ
  pub few : i ≤ k
  pub spells : digits base k n ≡ digits base i rest ++ tail
  pub done : Wrote out (at + i) tail (at + k) m

pub digits_none : {out : List ℕ} {base k n at : ℕ} → at + k ≤ length out → DigitsSoFar out base k n at k n out
digits_none {out} {base} {k} {n} {at} h = record { tail = []; few = omega arith; spells = sym (append-nil (digits base k n)); done = wrote_none h }

pub digits_more : {out : List ℕ} {base k n at i rest : ℕ} {m : List ℕ} (j d : ℕ) → DigitsSoFar out base k n at i rest m → i ≡ suc j → d ≡ digit (rest % base)
    → DigitsSoFar out base k n at j (rest / base) (set m (at + j) d)
unfolding digits
digits_more {out} {base} {k} {n} {at} {i} {rest} {m} j d s e q =
    let few = s.few in
    record {
      tail = d ∷ s.tail;
      few = omega arith;
      spells = s.spells ∙ ap₂ (λ (a : ℕ) (b : List ℕ). digits base a rest ++ b) e refl
          ∙ ap (λ (b : ℕ). digits base j (rest / base) ++ (b ∷ []) ++ s.tail) (sym q)
          ∙ append_snoc (digits base j (rest / base)) d s.tail;
      done = wrote_before (omega arith) s.done (wrote_sets (d ∷ []) (omega (arith, s.done.fits, wrote_long s.done)) refl refl);
    }

pub digits_all : {out : List ℕ} {base k n at i rest : ℕ} {m : List ℕ} → DigitsSoFar out base k n at i rest m → i ≡ 0 → Wrote out at (digits base k n) (at + k) m
unfolding digits
digits_all {out} {base} {k} {n} {at} {i} {rest} {m} s e =
    let same : s.tail ≡ digits base k n = sym (s.spells ∙ ap (λ (a : ℕ). digits base a rest ++ s.tail) e) in
    let front : at + i ≡ at = omega arith in
    subst (λ (a : ℕ). Wrote out a (digits base k n) (at + k) m) front (wrote_as same s.done)

-- ---- a text in hex

hex_append : (xs ys : List ℕ) → hex_bytes (xs ++ ys) ≡ hex_bytes xs ++ hex_bytes ys
unfolding hex_bytes
hex_append [] ys = refl
hex_append (b ∷ xs) ys = ap (λ (l : List ℕ). digits 16 2 b ++ l) (hex_append xs ys) ∙ sym (append_assoc (digits 16 2 b) (hex_bytes xs) (hex_bytes ys))

-- two digits a byte
pub length_hex : (text : List ℕ) → length (hex_bytes text) ≡ 2 * length text
unfolding hex_bytes
length_hex [] = refl
length_hex (b ∷ text) = omega (arith, length-append (digits 16 2 b) (hex_bytes text), length_digits 16 2 b, length_hex text)

-- one byte more
hex_more : (text : List ℕ) (i : ℕ) → i < length text → hex_bytes (take (i + 1) text) ≡ hex_bytes (take i text) ++ digits 16 2 (get_or text i 0)
unfolding hex_bytes
hex_more text i h =
    ap (λ (k : ℕ). hex_bytes (take k text)) (add-one i) ∙ ap hex_bytes (take-suc text i 0 h) ∙ hex_append (take i text) (get_or text i 0 ∷ [])
    ∙ ap (λ (l : List ℕ). hex_bytes (take i text) ++ l) (append-nil (digits 16 2 (get_or text i 0)))

-- where the loop stands: i bytes are written
pub record HexSoFar (out : List ℕ) (at : ℕ) (text : List ℕ) (i p : ℕ) (m : List ℕ) : Type 0 where
  pub few : i ≤ length text
  pub behind : p ≡ at + 2 * i
  pub done : Wrote out at (hex_bytes (take i text)) p m

pub hex_none : {out : List ℕ} {at : ℕ} {text : List ℕ} → at + length (hex_bytes text) ≤ length out → HexSoFar out at text 0 at out
unfolding hex_bytes
hex_none h = record { few = omega arith; behind = omega arith; done = wrote_none (omega arith) }

module _ {out : List ℕ} {at : ℕ} {text : List ℕ} {i p : ℕ} {m : List ℕ} (s : HexSoFar out at text i p m) where
  -- the next byte's digits fit
  pub hex_room : at + length (hex_bytes text) ≤ length out → i < length text → p + 2 ≤ length m
  hex_room h more = omega (arith, s.behind, wrote_long s.done, length_hex text)

  pub hex_next : {b q : ℕ} {m' : List ℕ} → i < length text → b ≡ get_or text i 0 → Wrote m p (digits 16 2 b) q m' → HexSoFar out at text (i + 1) q m'
  hex_next {b} {q} {m'} more e w = record {
    few = omega arith;
    behind = omega (arith, s.behind, w.ends, length_digits 16 2 b);
    done = wrote_as (ap (λ (x : ℕ). hex_bytes (take i text) ++ digits 16 2 x) e ∙ sym (hex_more text i more)) (wrote_then s.done w);
  }

  pub hex_all : length text ≤ i → Wrote out at (hex_bytes text) p m
  hex_all h =
      let few = s.few in
      let e : i ≡ length text = omega arith in
      wrote_as (ap (λ (k : ℕ). hex_bytes (take k text)) e ∙ ap hex_bytes (take-length text)) s.done
