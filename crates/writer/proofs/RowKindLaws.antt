-- Whether some row has a value of a kind. Assumes nothing.
use mathlib.Core.Path.{◌≡◌, refl, sym, ap, ◌∙◌}
use mathlib.Core.Bool.{Bool, true, false, cond, false≢true}
use Prim.Native.Nat.{ℕ, zero, suc, ◌+◌, ◌<◌, ◌≤◌}
use native.Mathlib.Numerals.{add-one}
use native.Mathlib.Decide.{dec_lt}
use native.Mathlib.Omega.{arith}
use lib.Dec.{eqb}
use borrow.Author.Tests.{eq-eqb, ne_eqb}
use Rattle.scalar.specs.declared.value.Value.{Value}
use Rattle.scalar.specs.Value.{kind_of}
use Rattle.writer.specs.Writing.{any_row, some_of_kind}

-- where the loop stands: none of i rows passes
pub record NoneSoFar (f : ℕ → Bool) (n i : ℕ) : Type 0 where
  pub few : i ≤ n
  pub none : any_row f i ≡ false

pub none_yet : {f : ℕ → Bool} {n : ℕ} → NoneSoFar f n 0
unfolding any_row
none_yet = record { few = omega arith; none = refl }

-- a row that passes
any_found : (f : ℕ → Bool) (n i : ℕ) → i < n → f i ≡ true → any_row f n ≡ true
unfolding any_row
any_found f zero i h e = absurd (omega arith)
any_found f (suc n) i h e = go (dec_lt i n) (λ p. any_found f n i p e)
  where
    either : (b : Bool) → cond b true true ≡ true
    either true = refl
    either false = refl

    go : Dec (i < n) → (i < n → any_row f n ≡ true) → cond (f n) true (any_row f n) ≡ true
    go (yes p) r = ap (cond (f n) true) (r p) ∙ either (f n)
    go (no p) r =
        let k : i ≡ n = omega arith in
        rw (sym (ap f k) ∙ e)

pub kind_found : (v : ℕ → Value) (k n i : ℕ) {kd : ℕ} {x : Value} → i < n → kd ≡ kind_of x → x ≡ v i → kd ≡ k → true ≡ some_of_kind v k n
kind_found v k n i h p q e =
    sym (any_found (λ i. eqb (kind_of (v i)) k) n i h (eq-eqb (kind_of (v i)) k (sym (p ∙ ap kind_of q) ∙ e)))

pub kind_more : (v : ℕ → Value) (k : ℕ) {n i kd : ℕ} {x : Value} → NoneSoFar (λ i. eqb (kind_of (v i)) k) n i → i < n → kd ≡ kind_of x → x ≡ v i → (kd ≡ k → ⊥)
    → NoneSoFar (λ i. eqb (kind_of (v i)) k) n (i + 1)
unfolding any_row
kind_more v k {n} {i} s h p q e = record {
  few = omega arith;
  none = rw (add-one i, ne_eqb (kind_of (v i)) k (λ x. e (p ∙ ap kind_of q ∙ x))) s.none;
}

-- no row passes
pub any_none : (f : ℕ → Bool) (n : ℕ) → ((i : ℕ) → i < n → f i ≡ false) → any_row f n ≡ false
unfolding any_row
any_none f zero h = refl
any_none f (suc n) h = rw (h n (omega arith)) (any_none f n (λ i b. h i (omega arith)))

-- a row that does not pass
pub none_at : (f : ℕ → Bool) (n i : ℕ) → any_row f n ≡ false → i < n → f i ≡ false
none_at f n i h b = go (f i) refl
  where
    go : (t : Bool) → f i ≡ t → t ≡ false
    go true e = absurd (false≢true (sym h ∙ any_found f n i b e))
    go false e = refl

-- some row that passes
pub some_at : (f : ℕ → Bool) (n : ℕ) → any_row f n ≡ true → (i : ℕ) × (i < n) × (f i ≡ true)
unfolding any_row
some_at f zero h = absurd (false≢true h)
some_at f (suc n) h = go (f n) refl h (λ r. some_at f n r)
  where
    go : (t : Bool) → f n ≡ t → cond t true (any_row f n) ≡ true → (any_row f n ≡ true → (i : ℕ) × (i < n) × (f i ≡ true)) → (i : ℕ) × (i < suc n) × (f i ≡ true)
    go true e r s = (n, omega arith, e)
    go false e r s = let x = s r in (x.0, omega (arith, x.1), x.2)
