-- Rows that are sifted out of a list, one row a turn, and a row put in a list. Assumes nothing.
use Rattle.std.proofs.Common.{◌≡◌, ℕ, ◌+◌, ◌*◌, ◌/◌, ◌%◌, ◌<◌, ◌≤◌, ◌⊎◌, List, length, set, sym, ap, ◌∙◌, subst, inl, inr, ⊎_elim, arith, length-set, get_or-set_other, get_or-set_same}
use native.Mathlib.Decide.{ℕ_discrete}
use Rattle.layout.specs.Bytes.{byte}
use Rattle.layout.proofs.NumberLaws.{number_two}
use Rattle.case.specs.Frame.{row_at}
use Rattle.case.specs.Parting.{RowPut, Among, Sifted}
use Rattle.case.proofs.SlotLaws.{number_same}

-- ---- a row put in a list

pub put_row_lem : (w : List ℕ) (at i r : ℕ) → at + 2 * i + 2 ≤ length w → r < 65536
    → RowPut w at i r (set (set w (at + 2 * i) (r % 256)) (at + 2 * i + 1) (r / 256))
put_row_lem w at i r room small = record {
  long = simp length-set;
  here = sym (number_two m p) ∙ digits;
  before = λ j h. other j (λ e. omega arith) (λ e. omega arith);
  behind = λ j h. other j (λ e. omega arith) (λ e. omega arith);
}
  where
    p : ℕ
    p = at + 2 * i

    m : List ℕ
    m = set (set w p (r % 256)) (p + 1) (r / 256)

    other : (j : ℕ) → (j ≡ at + 2 * i → ⊥) → (j ≡ at + 2 * i + 1 → ⊥) → byte m j ≡ byte w j
    other j a b = get_or-set_other (set w p (r % 256)) (p + 1) j (r / 256) 0 b ∙ get_or-set_other w p j (r % 256) 0 a

    low : byte m p ≡ r % 256
    low = get_or-set_other (set w p (r % 256)) (p + 1) p (r / 256) 0 (λ e. omega arith) ∙ get_or-set_same w p (r % 256) 0 (omega arith)

    high : byte m (p + 1) ≡ r / 256
    high = get_or-set_same (set w p (r % 256)) (p + 1) (r / 256) 0 (simp length-set (omega arith))

    digits : byte m p + 256 * byte m (p + 1) ≡ r
    digits = omega (arith, low, high)

-- the rows before it are as they were
pub put_kept : {w : List ℕ} {at i r : ℕ} {w' : List ℕ} → RowPut w at i r w' → (k : ℕ) → k < i → row_at w' at k ≡ row_at w at k
put_kept {w} {at} {i} {r} {w'} put k h = number_same 2 w' w (at + 2 * k) (at + 2 * k) (λ j b. put.before (at + 2 * k + j) (omega arith))

-- ---- sifting

-- one row more, or one of the earlier
among_cases : (f : ℕ → ℕ) (n r : ℕ) → Among f (n + 1) r → Among f n r ⊎ (f n ≡ r)
among_cases f n r l = go (ℕ_discrete l.0 n)
  where
    go : Dec (l.0 ≡ n) → Among f n r ⊎ (f n ≡ r)
    go (yes e) = inr (sym (ap f e) ∙ l.2)
    go (no e) = inl (l.0, (let b = l.1 in omega arith), l.2)

among_more : (f : ℕ → ℕ) (n r : ℕ) → Among f n r → Among f (n + 1) r
among_more f n r l = (l.0, (let b = l.1 in omega arith), l.2)

pub sifted_none : {wanted : ℕ → Type 0} {from to : ℕ → ℕ} → Sifted wanted from 0 to 0
sifted_none = record {
  few = omega arith;
  taken = λ k h. absurd (omega arith);
  all = λ r l w. let h : l.0 < 0 = l.1 in absurd (omega arith);
  rising = λ k l a b. absurd (omega arith);
}

module _ {wanted : ℕ → Type 0} {from : ℕ → ℕ} {i : ℕ} {to : ℕ → ℕ} {m : ℕ} (s : Sifted wanted from i to m) {to' : ℕ → ℕ} (same : (k : ℕ) → k < m → to' k ≡ to k) where
  kept : (r : ℕ) → Among to m r → Among to' m r
  kept r l = (l.0, l.1, same l.0 l.1 ∙ l.2)

  old : (k : ℕ) → k < m → Among from (i + 1) (to' k) × wanted (to' k)
  old k h =
      subst (λ (x : ℕ). Among from (i + 1) x × wanted x) (sym (same k h))
      (among_more from i (to k) (s.taken k h).0, (s.taken k h).1)

  -- the next row is not wanted
  pub sifted_miss : (wanted (from i) → ⊥) → Sifted wanted from (i + 1) to' m
  sifted_miss miss = record {
    few = omega (arith, s.few);
    taken = old;
    all = λ r l w.
        ⊎_elim
        (λ (o : Among from i r). kept r (s.all r o w))
        (λ (e : from i ≡ r). absurd (miss (subst wanted (sym e) w)))
        (among_cases from i r l);
    rising = λ k l a b. omega (arith, same k (omega arith), same l b, s.rising k l a b);
  }

  -- the next row is wanted
  pub sifted_hit : to' m ≡ from i → wanted (from i) → ((k : ℕ) → k < i → from k < from i) → Sifted wanted from (i + 1) to' (m + 1)
  sifted_hit new hit top = record {
    few = omega (arith, s.few);
    taken = λ k h. taken_at k h (ℕ_discrete k m);
    all = λ r l w.
        ⊎_elim
        (λ (o : Among from i r). among_more to' m r (kept r (s.all r o w)))
        (λ (e : from i ≡ r). (m, omega arith, new ∙ e))
        (among_cases from i r l);
    rising = λ k l a b. rising_at k l a b (ℕ_discrete l m);
  }
    where
      last : Among from (i + 1) (to' m) × wanted (to' m)
      last = ((i, omega arith, sym new), subst wanted (sym new) hit)

      taken_at : (k : ℕ) → k < m + 1 → Dec (k ≡ m) → Among from (i + 1) (to' k) × wanted (to' k)
      taken_at k h (yes e) = subst (λ (x : ℕ). Among from (i + 1) (to' x) × wanted (to' x)) (sym e) last
      taken_at k h (no e) = old k (omega arith)

      below : (k : ℕ) → k < m → to' k < from i
      below k h =
          let t = (s.taken k h).0 in
          omega (arith, same k h, t.2, top t.0 t.1)

      rising_at : (k l : ℕ) → k < l → l < m + 1 → Dec (l ≡ m) → to' k < to' l
      rising_at k l a b (yes e) =
          subst (λ (x : ℕ). to' k < to' x) (sym e) (omega (arith, new, below k (omega arith)))
      rising_at k l a b (no e) = omega (arith, same k (omega arith), same l (omega arith), s.rising k l a (omega arith))
