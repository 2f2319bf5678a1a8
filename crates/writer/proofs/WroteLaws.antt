-- Numbers, fields and rows written at a place. Assumes nothing.
use mathlib.Core.Path.{◌≡◌, refl, sym, ap, ap₂, ◌∙◌}
use mathlib.Core.Bool.{Bool, true, false}
use mathlib.Core.List.{List, ◌∷◌, ◌++◌}
use Prim.Native.Nat.{ℕ, zero, suc, ◌+◌, ◌*◌, ◌/◌, ◌%◌, ◌^◌, ◌<◌, ◌≤◌}
use native.Mathlib.Nat.{pow-suc}
use native.Mathlib.Decide.{dec_lt}
use native.Mathlib.Numerals.{add-one}
use native.Mathlib.Omega.{arith}
use lib.ListN.{length, take, drop, set, get_or, length-append, length-set}
use lib.Seq.{take-length, paste, paste-zero, paste-suc}
use Rattle.layout.specs.Bytes.{number_bytes}
use Rattle.layout.specs.Field.{field_bytes}
use Rattle.layout.specs.Put.{wrote, Wrote}
use Rattle.std.specs.Int.{bytes_low_first}
use Rattle.layout.proofs.BytesLaws.{length_number_bytes}
use Rattle.layout.proofs.NumberLaws.{bytes_lowest}
use Rattle.layout.proofs.PutLaws.{wrote_none, wrote_long, wrote_then, wrote_as}
use Rattle.writer.specs.Writing.{row_bytes, width_of, plain_numbers}

-- what lies above k bytes is not in them
above_bytes : (k n q : ℕ) → number_bytes k (n + 256 ^ k * q) ≡ number_bytes k n
unfolding number_bytes
above_bytes zero n q = refl
above_bytes (suc k) n q =
    let e : 256 ^ suc k * q ≡ 256 * (256 ^ k * q) = rw (pow-suc 256 k) (omega arith) in
    let low : (n + 256 ^ suc k * q) % 256 ≡ n % 256 = omega arith in
    let high : (n + 256 ^ suc k * q) / 256 ≡ n / 256 + 256 ^ k * q = omega arith in
    ap₂ ◌∷◌ low (ap (number_bytes k) high ∙ above_bytes k (n / 256) q)

-- a number's low four bytes are those of its low 32 bits
pub low_bytes : (n : ℕ) → number_bytes 4 (n % 4294967296) ≡ number_bytes 4 n
low_bytes n =
    let e : n % 4294967296 + 4294967296 * (n / 4294967296) ≡ n = omega arith in
    sym (above_bytes 4 (n % 4294967296) (n / 4294967296)) ∙ ap (number_bytes 4) e

-- a field: its header, then its content
pub wrote_field : {out : List ℕ} {at : ℕ} {tag size : ℕ} {content : List ℕ} {p q : ℕ} {m m' : List ℕ} → size ≡ length content
    → Wrote out at (tag ∷ number_bytes 2 size) p m → Wrote m p content q m' → Wrote out at (field_bytes tag content) q m'
unfolding field_bytes
wrote_field {out} {at} {tag} {size} {content} e a b =
    wrote_then (wrote_as (ap (λ (n : ℕ). tag ∷ number_bytes 2 n) e) a) b

-- a number's bytes, copied
pub wrote_lowest : {out : List ℕ} {at p : ℕ} {bytes m : List ℕ} (k n : ℕ) → bytes ≡ bytes_low_first 0 k n → Wrote out at bytes p m → Wrote out at (number_bytes k n) p m
wrote_lowest k n e w = wrote_as (e ∙ bytes_lowest k n) w

-- ---- some bytes, copied one by one

-- where the loop stands: i bytes are copied
pub record PastedSoFar (out : List ℕ) (at : ℕ) (text : List ℕ) (i : ℕ) (m : List ℕ) : Type 0 where
  pub few : i ≤ length text
  pub long : length m ≡ length out
  pub holds : m ≡ paste out at text i

pub pasted_none : {out : List ℕ} {at : ℕ} {text : List ℕ} → PastedSoFar out at text 0 out
pasted_none {out} {at} {text} = record { few = omega arith; long = refl; holds = paste-zero out at text }

pub pasted_more : {out : List ℕ} {at : ℕ} {text : List ℕ} {i : ℕ} {m : List ℕ} → PastedSoFar out at text i m → at + length text ≤ length out → i < length text
    → PastedSoFar out at text (i + 1) (set m (at + i) (get_or text i 0))
pasted_more {out} {at} {text} {i} {m} s room more = record {
  few = omega arith;
  long = length-set m (at + i) (get_or text i 0) ∙ s.long;
  holds = ap (λ (l : List ℕ). set l (at + i) (get_or text i 0)) s.holds ∙ paste-suc out at text i 0 (omega arith) more ∙ ap (paste out at text) (sym (add-one i));
}

pub pasted_all : {out : List ℕ} {at : ℕ} {text : List ℕ} {i : ℕ} {m : List ℕ} → PastedSoFar out at text i m → at + length text ≤ length out → length text ≤ i
    → Wrote out at text (at + length text) m
unfolding wrote
pasted_all {out} {at} {text} {i} {m} s room all =
    let few = s.few in
    let e : i ≡ length text = omega arith in
    record {
      fits = room;
      ends = refl;
      holds = s.holds ∙ ap (paste out at text) e ∙ ap (λ (l : List ℕ). take at out ++ l ++ drop (at + length text) out) (take-length text);
    }

-- ---- row by row

-- one row more
row_more : (f : ℕ → List ℕ) (n : ℕ) → row_bytes f (n + 1) ≡ row_bytes f n ++ f n
unfolding row_bytes
row_more f n = ap (row_bytes f) (add-one n)

-- the length of a row more
pub length_row_more : (f : ℕ → List ℕ) (n : ℕ) → length (row_bytes f (n + 1)) ≡ length (row_bytes f n) + length (f n)
length_row_more f n = ap length (row_more f n) ∙ length-append (row_bytes f n) (f n)

-- the bytes of some rows are no longer than those of all
pub rows_within : (f : ℕ → List ℕ) (i n : ℕ) → i < n → length (row_bytes f i) + length (f i) ≤ length (row_bytes f n)
unfolding row_bytes
rows_within f i zero h = absurd (omega arith)
rows_within f i (suc n) h = go (dec_lt i n) (λ p. rows_within f i n p)
  where
    go : Dec (i < n) → (i < n → length (row_bytes f i) + length (f i) ≤ length (row_bytes f n)) → length (row_bytes f i) + length (f i) ≤ length (row_bytes f n ++ f n)
    go (yes p) r = omega (arith, r p, length-append (row_bytes f n) (f n))
    go (no p) r =
        let e : i ≡ n = omega arith in
        let s : length (row_bytes f i) + length (f i) ≡ length (row_bytes f n) + length (f n) = ap (λ (k : ℕ). length (row_bytes f k) + length (f k)) e in
        omega (arith, length-append (row_bytes f n) (f n))

-- the same bytes for each row
pub rows_same : (f g : ℕ → List ℕ) (n : ℕ) → ((i : ℕ) → i < n → f i ≡ g i) → row_bytes f n ≡ row_bytes g n
unfolding row_bytes
rows_same f g zero h = refl
rows_same f g (suc n) h = ap₂ ◌++◌ (rows_same f g n (λ i b. h i (omega arith))) (h n (omega arith))

-- as many bytes for each row
pub length_rows : (f : ℕ → List ℕ) (k : ℕ) → ((i : ℕ) → length (f i) ≡ k) → (n : ℕ) → length (row_bytes f n) ≡ k * n
unfolding row_bytes
length_rows f k h zero = omega arith
length_rows f k h (suc n) = omega (arith, length-append (row_bytes f n) (f n), h n, length_rows f k h n)

-- where the loop stands: i of the n rows are written
pub record SoFar (f : ℕ → List ℕ) (out : List ℕ) (at n i p : ℕ) (m : List ℕ) : Type 0 where
  pub few : i ≤ n
  pub done : Wrote out at (row_bytes f i) p m

pub so_far_none : {f : ℕ → List ℕ} {out : List ℕ} {at n : ℕ} → at + length (row_bytes f n) ≤ length out → SoFar f out at n 0 at out
unfolding row_bytes
so_far_none h = record { few = omega arith; done = wrote_none (omega arith) }

module _ {f : ℕ → List ℕ} {out : List ℕ} {at n i p : ℕ} {m : List ℕ} (s : SoFar f out at n i p m) where
  -- the next row fits
  pub so_far_room : at + length (row_bytes f n) ≤ length out → i < n → p + length (f i) ≤ length m
  so_far_room h more = omega (arith, s.done.ends, wrote_long s.done, rows_within f i n more)

  pub so_far_more : {q : ℕ} {m' : List ℕ} → i < n → Wrote m p (f i) q m' → SoFar f out at n (i + 1) q m'
  so_far_more more w = record { few = omega arith; done = wrote_as (sym (row_more f i)) (wrote_then s.done w) }

  pub so_far_ends : n ≤ i → Wrote out at (row_bytes f n) p m
  so_far_ends h =
      let few = s.few in
      let e : i ≡ n = omega arith in
      wrote_as (ap (row_bytes f) e) s.done

-- ---- a number, of eight bytes or of four

pub width_bytes : {wide b : Bool} → wide ≡ b → {out : List ℕ} {at p : ℕ} {m : List ℕ} (n : ℕ) → Wrote out at (number_bytes (width_of b) n) p m → Wrote out at (number_bytes (width_of wide) n) p m
width_bytes e n w = rw e w

-- ---- room behind a run

-- behind a header
pub header_room : {out : List ℕ} {at tag p : ℕ} {m : List ℕ} (size : ℕ) → Wrote out at (tag ∷ number_bytes 2 size) p m → (k : ℕ) → at + 3 + k ≤ length out → p + k ≤ length m
header_room size w k h = omega (arith, w.ends, wrote_long w, length_number_bytes 2 size)

-- a number's room
pub number_room : (k x p n : ℕ) → p + length (number_bytes k x) ≤ n → p + k ≤ n
number_room k x p n h = let e = length_number_bytes k x in omega arith

-- ---- a number for each row

-- where the first ends
pub numbers_start : (wide : Bool) (at : ℕ) → at ≡ at + width_of wide * 0
numbers_start true at = omega arith
numbers_start false at = omega arith

-- room for the next
pub numbers_room : (wide : Bool) (at i rows : ℕ) {p long : ℕ} → p ≡ at + width_of wide * i → i < rows → at + width_of wide * rows ≤ long → p + width_of wide ≤ long
numbers_room true at i rows e h room = omega arith
numbers_room false at i rows e h room = omega arith

-- where it ends
pub numbers_next : (wide : Bool) (at i n : ℕ) {out m : List ℕ} {p q : ℕ} → p ≡ at + width_of wide * i → Wrote out p (number_bytes (width_of wide) n) q m → q ≡ at + width_of wide * (i + 1)
numbers_next true at i n e w = omega (arith, w.ends, length_number_bytes 8 n)
numbers_next false at i n e w = omega (arith, w.ends, length_number_bytes 4 n)

-- how long they are
pub numbers_long : (wide : Bool) (numbers : ℕ → ℕ) (rows : ℕ) → length (row_bytes (plain_numbers wide numbers) rows) ≡ width_of wide * rows
numbers_long wide numbers rows = length_rows (plain_numbers wide numbers) (width_of wide) (λ i. length_number_bytes (width_of wide) (numbers i)) rows
