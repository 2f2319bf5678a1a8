-- The rows' bits, eight to a byte. Assumes nothing.
use mathlib.Core.Path.{◌≡◌, refl, sym, ap, ap₂, ◌∙◌}
use mathlib.Core.Bool.{Bool, true, false, cond}
use Prim.Native.Nat.{ℕ, zero, suc, ◌+◌, ◌-◌, ◌*◌, ◌^◌, ◌<◌, ◌≤◌}
use native.Mathlib.Nat.{pow-suc}
use native.Mathlib.Omega.{arith}
use lib.ListN.{length}
use lib.Pow.{pow_mono}
use borrow.Author.Tests.{le-ltb}
use Rattle.scalar.specs.declared.value.Value.{Value}
use Rattle.writer.specs.Writing.{row_bytes, flag_at, bits_from, row_bits}
use Rattle.writer.proofs.WroteLaws.{length_rows}

-- behind the last row
pub flag_out : (truth : Bool) (v : ℕ → Value) (rows row : ℕ) → rows ≤ row → flag_at truth v rows row ≡ false
flag_out truth v rows row h = rw (le-ltb row rows h)

pub bit_below : (b : Bool) → cond {A = ℕ} b 1 0 ≤ 1
bit_below true = omega arith
bit_below false = omega arith

-- n bits are a number below 2 ^ n
pub bits_lt : (f : ℕ → Bool) (a n : ℕ) → bits_from f a n < 2 ^ n
unfolding bits_from
bits_lt f a zero = omega arith
bits_lt f a (suc n) = omega (arith, bits_lt f (suc a) n, bit_below (f a), pow-suc 2 n)

-- a byte for each eight rows
pub bits_size : (truth : Bool) (v : ℕ → Value) (rows n : ℕ) → length (row_bytes (row_bits truth v rows) n) ≡ n
bits_size truth v rows n = let e = length_rows (row_bits truth v rows) 1 (λ i. refl) n in omega arith

-- where the loop stands: the bits from k on, of eight from a on
pub record BitsSoFar (f : ℕ → Bool) (a k n : ℕ) : Type 0 where
  pub few : k ≤ 8
  pub small : n < 256
  pub bits_are : n ≡ bits_from f (a + k) (8 - k)

pub bits_none : {f : ℕ → Bool} {a : ℕ} → BitsSoFar f a 8 0
unfolding bits_from
bits_none = record { few = omega arith; small = omega arith; bits_are = refl }

pub bits_more : {f : ℕ → Bool} {a k n b : ℕ} → BitsSoFar f a k n → 0 < k → b ≡ cond (f (a + (k - 1))) 1 0 → BitsSoFar f a (k - 1) (b + 2 * n)
unfolding bits_from
bits_more {f} {a} {k} {n} {b} s h e = record { few = omega arith; small = omega (arith, step, bits_lt f (a + (k - 1)) (8 - (k - 1)), pow_mono within); bits_are = step }
  where
    within : 8 - (k - 1) ≤ 8
    within = omega arith

    step : b + 2 * n ≡ bits_from f (a + (k - 1)) (8 - (k - 1))
    step =
        let p : suc (a + (k - 1)) ≡ a + k = omega arith in
        let q : 8 - (k - 1) ≡ suc (8 - k) = omega (arith, s.few) in
        let r : cond (f (a + (k - 1))) 1 0 + 2 * bits_from f (a + k) (8 - k) ≡ bits_from f (a + (k - 1)) (suc (8 - k)) =
        ap (λ (x : ℕ). cond (f (a + (k - 1))) 1 0 + 2 * bits_from f x (8 - k)) (sym p) in
        ap₂ (λ (x y : ℕ). x + 2 * y) e s.bits_are ∙ r ∙ ap (bits_from f (a + (k - 1))) (sym q)
