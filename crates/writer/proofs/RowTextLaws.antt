-- The rows' texts: how long they are, and their offsets, row by row. Assumes nothing.
use mathlib.Core.Path.{◌≡◌, refl, ap}
use mathlib.Core.List.{List}
use Prim.Native.Nat.{ℕ, zero, suc, ◌+◌, ◌*◌, ◌^◌, ◌<◌, ◌≤◌}
use native.Mathlib.Omega.{arith}
use lib.ListN.{length, take, drop, length-append, length-take, length-drop}
use Rattle.layout.specs.Bytes.{number_bytes}
use Rattle.layout.specs.Put.{Wrote}
use Rattle.layout.proofs.PutLaws.{wrote_as}
use Rattle.scalar.specs.declared.value.Value.{Value}
use Rattle.scalar.specs.declared.value.Value.TheVariants.{Null, Boolean, Int32, Int64, Float64, Nan, RuleText, TableText, Failed}
use Rattle.scalar.specs.Order.{text_in}
use Rattle.writer.specs.Writing.{row_bytes, row_text, row_offset}
use Rattle.writer.proofs.WroteLaws.{SoFar, so_far_none, so_far_room, so_far_more, so_far_ends, length_row_more, rows_within, number_room}

-- ---- texts of values

-- no text is longer than the bytes that it stands in
place_short : (l : List ℕ) (start size : ℕ) → length (take size (drop start l)) ≤ length l
place_short l start size = omega (arith, length-take size (drop start l), length-drop start l)

text_short : (rule table : List ℕ) (v : Value) → length rule ≤ 65536 → length table ≤ 65536 → length (text_in rule table v) ≤ 65536
text_short rule table Null p q = omega arith
text_short rule table (Boolean b) p q = omega arith
text_short rule table (Int32 n) p q = omega arith
text_short rule table (Int64 n) p q = omega arith
text_short rule table (Float64 f) p q = omega arith
text_short rule table (Nan n) p q = omega arith
text_short rule table (RuleText start size) p q = omega (arith, place_short rule start size)
text_short rule table (TableText start size) p q = omega (arith, place_short table start size)
text_short rule table Failed p q = omega arith

texts_short : (rule table : List ℕ) (v : ℕ → Value) → length rule ≤ 65536 → length table ≤ 65536 → (n : ℕ) → length (row_bytes (row_text rule table v) n) ≤ 65536 * n
unfolding row_bytes
texts_short rule table v p q zero = omega arith
texts_short rule table v p q (suc n) =
    omega (arith, texts_short rule table v p q n, text_short rule table (v n) p q, length-append (row_bytes (row_text rule table v) n) (row_text rule table v n))

-- ---- the texts' length, row by row

-- where the loop stands: the length of i rows' bytes
pub record LengthSoFar (f : ℕ → List ℕ) (n i sum : ℕ) : Type 0 where
  pub few : i ≤ n
  pub sum_is : sum ≡ length (row_bytes f i)

pub length_none : {f : ℕ → List ℕ} {n : ℕ} → LengthSoFar f n 0 0
unfolding row_bytes
length_none = record { few = omega arith; sum_is = refl }

pub length_more : {f : ℕ → List ℕ} {n i sum size : ℕ} → LengthSoFar f n i sum → i < n → size ≡ length (f i) → LengthSoFar f n (i + 1) (sum + size)
length_more {f} {n} {i} s more e = record { few = omega arith; sum_is = omega (arith, s.sum_is, length_row_more f i) }

-- one text more is counted without passing 2 ^ 64
pub text_fits : (rule table : List ℕ) (v : ℕ → Value) {n i sum size : ℕ} → LengthSoFar (row_text rule table v) n i sum → i < n → n ≤ 512 → length rule ≤ 65536 → length table ≤ 65536
    → size ≡ length (row_text rule table v i) → sum + size < 2 ^ 64
text_fits rule table v {n} {i} s more few p q e =
    omega (arith, s.sum_is, texts_short rule table v p q i, text_short rule table (v i) p q)

-- nor 65,535, where all of them don't
pub text_within : (rule table : List ℕ) (v : ℕ → Value) {n i sum size : ℕ} → LengthSoFar (row_text rule table v) n i sum → i < n → length (row_bytes (row_text rule table v) n) ≤ 65535
    → size ≡ length (row_text rule table v i) → sum + size < 2 ^ 64
text_within rule table v {n} {i} s more h e = omega (arith, s.sum_is, rows_within (row_text rule table v) i n more)

-- ---- offsets

-- where the loop stands: i offsets are written, and the texts before the next one are counted
pub record OffsetsSoFar (rule table : List ℕ) (v : ℕ → Value) (out : List ℕ) (at n i sum p : ℕ) (m : List ℕ) : Type 0 where
  pub counted : LengthSoFar (row_text rule table v) n i sum
  pub done : SoFar (row_offset rule table v) out at (suc n) i p m

pub offsets_none : {rule table : List ℕ} {v : ℕ → Value} {out : List ℕ} {at n : ℕ} → at + length (row_bytes (row_offset rule table v) (suc n)) ≤ length out → OffsetsSoFar rule table v out at n 0 0 at out
offsets_none h = record { counted = length_none; done = so_far_none h }

module _ {rule table : List ℕ} {v : ℕ → Value} {out : List ℕ} {at n i sum p : ℕ} {m : List ℕ} (s : OffsetsSoFar rule table v out at n i sum p m) where
  -- the next offset fits
  pub offset_room : at + length (row_bytes (row_offset rule table v) (suc n)) ≤ length out → p + 4 ≤ length m
  offset_room h = let few = s.counted.few in number_room 4 (length (row_bytes (row_text rule table v) i)) p (length m) (so_far_room s.done h (omega arith))

  -- one offset more
  pub offset_put : {q : ℕ} {m' : List ℕ} → Wrote m p (number_bytes 4 sum) q m' → SoFar (row_offset rule table v) out at (suc n) (i + 1) q m'
  offset_put o = let few = s.counted.few in so_far_more s.done (omega arith) (wrote_as (ap (number_bytes 4) s.counted.sum_is) o)

  pub offsets_more : {q size : ℕ} {m' : List ℕ} → Wrote m p (number_bytes 4 sum) q m' → i < n → size ≡ length (row_text rule table v i)
      → OffsetsSoFar rule table v out at n (i + 1) (sum + size) q m'
  offsets_more o more e = record { counted = length_more s.counted more e; done = offset_put o }

  pub offsets_end_lem : {q : ℕ} {m' : List ℕ} → Wrote m p (number_bytes 4 sum) q m' → n ≤ i → Wrote out at (row_bytes (row_offset rule table v) (suc n)) q m'
  offsets_end_lem o h = so_far_ends (offset_put o) (omega arith)
