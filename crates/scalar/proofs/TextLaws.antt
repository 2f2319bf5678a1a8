-- Two texts, compared from the back and from the front. Assumes nothing.
use Rattle.std.proofs.Common.{◌≡◌, ℕ, zero, suc, ◌+◌, ◌-◌, ◌<◌, ◌≤◌, Bool, true, false, ◌&&◌, eqb, ltb, List, [], ◌∷◌, length, get_or, drop, refl, ap, subst, add-one, arith, length-drop, drop_of_length-le, take_all, drop-cons, le-ltb, lt-ltb, eq-eqb, ne_eqb}
use native.Mathlib.Nat.{sub-zero}
use native.Mathlib.Decide.{dec_lt}
use Rattle.layout.specs.Bytes.{part}
use Rattle.scalar.specs.Text.{same_bytes, text_less}
use Rattle.scalar.specs.Value.{place_text}

-- the part of a place, in what is left of the bytes from its start on
pub place_part : (l m : List ℕ) (start size : ℕ) → m ≡ part l start (length l) → part m 0 size ≡ place_text l start size
place_part l m start size e = rw (e, sub-zero size, take_all (length l - start) (drop start l) (omega (arith, length-drop start l)))

-- one test that fails is enough
fails : (c : Bool) → (c && false) ≡ false
fails true = refl
fails false = refl

-- texts of unlike lengths are not the same
pub same_length : (s t : List ℕ) → (length s ≡ length t → ⊥) → same_bytes s t ≡ false
unfolding same_bytes
same_length [] [] n = absurd (n refl)
same_length [] (b ∷ t) n = refl
same_length (a ∷ s) [] n = refl
same_length (a ∷ s) (b ∷ t) n = rw (same_length s t (λ e. n (ap suc e))) (fails (eqb a b))

-- nor are texts that differ at a place of both
pub same_differ : (s t : List ℕ) (i : ℕ) → i < length s → i < length t → (get_or s i 0 ≡ get_or t i 0 → ⊥) → same_bytes s t ≡ false
unfolding same_bytes
same_differ [] t i p q n = absurd (omega arith)
same_differ (a ∷ s) [] i p q n = absurd (omega arith)
same_differ (a ∷ s) (b ∷ t) zero p q n = rw (ne_eqb a b n)
same_differ (a ∷ s) (b ∷ t) (suc i) p q n = rw (same_differ s t i (omega arith) (omega arith) n) (fails (eqb a b))

-- behind both ends nothing differs
pub same_none : (s t : List ℕ) (i : ℕ) → length s ≤ i → length t ≤ i → same_bytes (drop i s) (drop i t) ≡ true
unfolding same_bytes
same_none s t i p q = rw (drop_of_length-le s p, drop_of_length-le t q)

-- one byte more from the back
pub same_more : (s t : List ℕ) (i : ℕ) → 0 < i → i ≤ length s → i ≤ length t → get_or s (i - 1) 0 ≡ get_or t (i - 1) 0
    → same_bytes (drop i s) (drop i t) ≡ true → same_bytes (drop (i - 1) s) (drop (i - 1) t) ≡ true
unfolding same_bytes
same_more s t i z p q e h =
    let back : i ≡ suc (i - 1) = omega arith in
    rw (drop-cons s (i - 1) 0 (omega arith), drop-cons t (i - 1) 0 (omega arith), eq-eqb _ _ e)
    (subst (λ (k : ℕ). same_bytes (drop k s) (drop k t) ≡ true) back h)

-- up to the front
pub same_ends : (s t : List ℕ) (i : ℕ) → i ≤ 0 → same_bytes (drop i s) (drop i t) ≡ true → same_bytes s t ≡ true
same_ends s t zero z h = h
same_ends s t (suc i) z h = absurd (omega arith)

-- the second text is used up first
pub less_short : (s t : List ℕ) (i : ℕ) → i < length s → length t ≤ i → text_less (drop i s) (drop i t) ≡ false
unfolding text_less
less_short s t i p g = rw (drop-cons s i 0 p, drop_of_length-le t g)

-- the first is used up
pub less_over : (s t : List ℕ) (i : ℕ) → length s ≤ i → text_less (drop i s) (drop i t) ≡ ltb i (length t)
unfolding text_less
less_over s t i h = rw (drop_of_length-le s h) (go (dec_lt i (length t)))
  where
    go : Dec (i < length t) → text_less [] (drop i t) ≡ ltb i (length t)
    go (yes l) = rw (drop-cons t i 0 l, lt-ltb _ _ l)
    go (no n) =
        let g : length t ≤ i = omega arith in
        rw (drop_of_length-le t g, le-ltb _ _ g)

-- both have a byte left
module _ (s t : List ℕ) (i : ℕ) (p : i < length s) (q : i < length t) where
  pub less_step : get_or t i 0 ≤ get_or s i 0 → get_or s i 0 ≤ get_or t i 0 → text_less (drop i s) (drop i t) ≡ text_less (drop (i + 1) s) (drop (i + 1) t)
  unfolding text_less
  less_step g h =
      let e : get_or s i 0 ≡ get_or t i 0 = omega arith in
      rw (add-one i, drop-cons s i 0 p, drop-cons t i 0 q, eq-eqb _ _ e)

  pub less_differ : (get_or s i 0 ≡ get_or t i 0 → ⊥) → text_less (drop i s) (drop i t) ≡ ltb (get_or s i 0) (get_or t i 0)
  unfolding text_less
  less_differ n = rw (drop-cons s i 0 p, drop-cons t i 0 q, ne_eqb _ _ n)
