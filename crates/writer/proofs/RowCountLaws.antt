-- How many rows pass a test, and how many bits of their bitmap are set. Assumes nothing.
use mathlib.Core.Path.{◌≡◌, refl, sym, ap, ◌∙◌}
use mathlib.Core.Bool.{Bool, true, false, cond, not}
use mathlib.Core.List.{List, [], ◌∷◌}
use Prim.Native.Nat.{ℕ, zero, suc, ◌+◌, ◌-◌, ◌*◌, ◌/◌, ◌%◌, ◌<◌, ◌≤◌}
use native.Mathlib.Nat.{add-zero, zero-add}
use native.Mathlib.Omega.{arith}
use lib.Count.{ones, ones_step}
use lib.Dec.{eqb}
use lib.ListN.{length}
use borrow.Author.Tests.{lt-ltb}
use Rattle.layout.specs.Bytes.{bitmap_length}
use Rattle.layout.specs.Put.{Wrote}
use Rattle.layout.proofs.PutLaws.{wrote_byte, wrote_to}
use Rattle.scalar.specs.declared.value.Value.{Value}
use Rattle.scalar.specs.Value.{kind_of}
use Rattle.writer.specs.Writing.{BitsWrote, row_bytes, count_rows, some_of_kind, flag_of, flag_at, flag_count, row_nulls, bits_from, row_bits}
use Rattle.writer.proofs.RowBitLaws.{flag_out, bit_below, bits_size}
use Rattle.writer.proofs.RowKindLaws.{none_at}
use Rattle.writer.proofs.WroteLaws.{SoFar, so_far_none, so_far_more, so_far_ends}

-- ---- rows that pass a test

-- they are some of the rows
pub count_le : (f : ℕ → Bool) (n : ℕ) → count_rows f n ≤ n
unfolding count_rows
count_le f zero = omega arith
count_le f (suc n) = omega (arith, count_le f n, bit_below (f n))

-- with those that don't pass they are all rows
count_not : (f : ℕ → Bool) (n : ℕ) → count_rows (λ i. not (f i)) n + count_rows f n ≡ n
unfolding count_rows
count_not f zero = refl
count_not f (suc n) = omega (arith, count_not f n, one (f n))
  where
    one : (b : Bool) → ◌≡◌ {A = ℕ} (cond (not b) 1 0 + cond b 1 0) 1
    one true = refl
    one false = refl

-- none
count_none : (f : ℕ → Bool) (n : ℕ) → ((i : ℕ) → i < n → f i ≡ false) → count_rows f n ≡ 0
unfolding count_rows
count_none f zero h = refl
count_none f (suc n) h = rw (h n (omega arith)) (omega (arith, count_none f n (λ i b. h i (omega arith))))

-- the same test
count_same : (f g : ℕ → Bool) (n : ℕ) → ((i : ℕ) → i < n → f i ≡ g i) → count_rows f n ≡ count_rows g n
unfolding count_rows
count_same f g zero h = refl
count_same f g (suc n) h = rw (h n (omega arith)) (ap (λ (k : ℕ). cond (g n) 1 0 + k) (count_same f g n (λ i b. h i (omega arith))))

-- rows behind which none passes
count_past : (f : ℕ → Bool) (n d : ℕ) → ((i : ℕ) → n ≤ i → f i ≡ false) → count_rows f (n + d) ≡ count_rows f n
unfolding count_rows
count_past f n zero h = ap (count_rows f) (add-zero n)
count_past f n (suc d) h =
    let e : n + suc d ≡ suc (n + d) = omega arith in
    let step : count_rows f (n + suc d) ≡ cond (f (n + d)) 1 0 + count_rows f (n + d) = ap (count_rows f) e in
    let unset : cond {A = ℕ} (f (n + d)) 1 0 ≡ 0 = rw (h (n + d) (omega arith)) in
    omega (arith, count_past f n d h)

-- ---- nulls

module _ (v : ℕ → Value) (rows : ℕ) where
  -- rows that are not null are the others
  pub nulls_rest : {r : ℕ} → r ≡ flag_count false v rows → rows - r ≡ row_nulls v rows
  nulls_rest e = omega (arith, count_not (λ i. eqb (kind_of (v i)) 0) rows)

  -- no row is null
  pub nulls_none : some_of_kind v 0 rows ≡ false → row_nulls v rows ≡ 0
  nulls_none h = count_none (λ i. eqb (kind_of (v i)) 0) rows (λ i b. none_at (λ i. eqb (kind_of (v i)) 0) rows i h b)

-- ---- the bits of a bitmap

-- the bits that are set in a number of some rows' bits
count_bits : (f : ℕ → Bool) (a n : ℕ) → ones (bits_from f a n) + count_rows f a ≡ count_rows f (a + n)
unfolding bits_from count_rows ones
count_bits f a zero = zero-add (count_rows f a) ∙ ap (count_rows f) (sym (add-zero a))
count_bits f a (suc n) =
    let rest = bits_from f (suc a) n in
    let low : (cond (f a) 1 0 + 2 * rest) % 2 ≡ cond (f a) 1 0 = omega (arith, bit_below (f a)) in
    let high : (cond (f a) 1 0 + 2 * rest) / 2 ≡ rest = omega (arith, bit_below (f a)) in
    let e : suc a + n ≡ a + suc n = omega arith in
    omega (arith, ones_step (cond (f a) 1 0 + 2 * rest), ap ones high, count_bits f (suc a) n, ap (count_rows f) e)

-- where the loop stands: j bytes are written, and the bits set in them are counted
pub record BitsPut (truth : Bool) (v : ℕ → Value) (rows : ℕ) (out : List ℕ) (at j p set : ℕ) (m : List ℕ) : Type 0 where
  pub done : SoFar (row_bits truth v rows) out at (bitmap_length rows) j p m
  pub counted : set ≡ count_rows (flag_at truth v rows) (8 * j)

pub put_none : {truth : Bool} {v : ℕ → Value} {rows : ℕ} {out : List ℕ} {at : ℕ} → at + length (row_bytes (row_bits truth v rows) (bitmap_length rows)) ≤ length out → BitsPut truth v rows out at 0 at 0 out
unfolding count_rows
put_none h = record { done = so_far_none h; counted = refl }

module _ {truth : Bool} {v : ℕ → Value} {rows : ℕ} {out : List ℕ} {at j p set : ℕ} {m : List ℕ} (s : BitsPut truth v rows out at j p set m) where
  -- eight bits to a byte at most
  pub put_few : set ≤ 8 * j
  put_few = omega (arith, s.counted, count_le (flag_at truth v rows) (8 * j))

  pub put_more : {b q o : ℕ} {m' : List ℕ} → j < bitmap_length rows → b ≡ bits_from (flag_at truth v rows) (8 * j) 8 → Wrote m p (b ∷ []) q m' → o ≡ ones b → BitsPut truth v rows out at (j + 1) q (set + o) m'
  put_more h e w c =
      let next : 8 * j + 8 ≡ 8 * (j + 1) = omega arith in
      record {
        done = so_far_more s.done h (wrote_byte e w);
        counted = omega (arith, s.counted, c, ap ones e, count_bits (flag_at truth v rows) (8 * j) 8, ap (count_rows (flag_at truth v rows)) next);
      }

  pub put_ends : bitmap_length rows ≤ j → BitsWrote truth v rows out at set m
  put_ends h =
      let all = so_far_ends s.done h in
      let few = s.done.few in
      let far : rows + (8 * j - rows) ≡ 8 * j = omega arith in
      record {
        written = wrote_to (omega (arith, all.ends, bits_size truth v rows (bitmap_length rows))) all;
        counted =
            s.counted
            ∙ ap (count_rows (flag_at truth v rows)) (sym far)
            ∙ count_past (flag_at truth v rows) rows (8 * j - rows) (λ i b. flag_out truth v rows i b)
            ∙ count_same (flag_at truth v rows) (λ i. flag_of truth (v i)) rows (λ i b. rw (lt-ltb i rows b));
      }
