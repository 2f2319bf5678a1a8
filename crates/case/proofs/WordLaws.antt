-- Texts compared by numbers of four bytes. Assumes nothing.
use Rattle.std.proofs.Common.{◌≡◌, ℕ, zero, suc, ◌+◌, ◌-◌, ◌^◌, ◌<◌, ◌≤◌, Bool, true, false, eqb, List, [], ◌∷◌, ◌++◌, length, get_or, take, drop, sym, refl, ap, ◌∙◌, subst, ap₂, arith, length-drop, take-append-drop, drop_of_length-le, length-take-le, drop-cons, drop-drop, eq-eqb, ne_eqb}
use native.Mathlib.Decide.{ℕ_discrete}
use Rattle.layout.specs.Bytes.{Bytes, number, number_at, number_bytes}
use Rattle.layout.proofs.BytesLaws.{number_bytes_number, number_below, bytes_take, bytes_drop}
use Rattle.scalar.specs.Entry.{Entry, null, boolean, int32, int64, float64, utf8}
use Rattle.scalar.specs.Pair.{pair_of}
use Rattle.scalar.specs.Text.{same_bytes}
use Rattle.scalar.proofs.EntryLaws.{agree_eq, agree_refl}
use Rattle.scalar.proofs.TextLaws.{same_differ}

-- bytes are told by their number
same_number : (l m : List ℕ) → Bytes l → Bytes m → length l ≡ length m → number l ≡ number m → l ≡ m
same_number l m a b n e = sym (number_bytes_number l a) ∙ ap₂ number_bytes n e ∙ number_bytes_number m b

four_long : (l : List ℕ) (k : ℕ) → k + 4 ≤ length l → length (take 4 (drop k l)) ≡ 4
four_long l k h = length-take-le 4 (drop k l) (omega (arith, length-drop k l))

four_bytes : (l : List ℕ) (k : ℕ) → Bytes l → Bytes (take 4 (drop k l))
four_bytes l k h = bytes_take 4 (drop k l) (bytes_drop k l h)

pub four_below : (l : List ℕ) (k : ℕ) → Bytes l → k + 4 ≤ length l → number_at 4 l k < 2 ^ 32
four_below l k h r = subst (λ (n : ℕ). number (take 4 (drop k l)) < 256 ^ n) (four_long l k r) (number_below (take 4 (drop k l)) (four_bytes l k h))

-- four bytes at a place are told by their number
pub same_four : (t u : List ℕ) (j k : ℕ) → Bytes t → Bytes u → j + 4 ≤ length t → k + 4 ≤ length u → number_at 4 t j ≡ number_at 4 u k → take 4 (drop j t) ≡ take 4 (drop k u)
same_four t u j k a b p q e = same_number (take 4 (drop j t)) (take 4 (drop k u)) (four_bytes t j a) (four_bytes u k b) (four_long t j p ∙ sym (four_long u k q)) e

-- ---- two texts, from the back

-- texts that are the same bytes are one
bytes_of_lem : Entry → List ℕ
bytes_of_lem null = []
bytes_of_lem (boolean b) = []
bytes_of_lem (int32 n) = []
bytes_of_lem (int64 n) = []
bytes_of_lem (float64 n) = []
bytes_of_lem (utf8 t) = t

one_text : (a b : List ℕ) → same_bytes a b ≡ true → a ≡ b
unfolding pair_of bytes_of_lem
one_text a b h = ap bytes_of_lem (agree_eq (utf8 a) (utf8 b) h)

-- texts that differ in four bytes are not the same
pub words_unlike : (a b : List ℕ) (k : ℕ) {x y : ℕ} → x ≡ number_at 4 a k → y ≡ number_at 4 b k → (x ≡ y → ⊥) → false ≡ same_bytes a b
words_unlike a b k {x} {y} p q n = go (same_bytes a b) (one_text a b)
  where
    go : (s : Bool) → (s ≡ true → a ≡ b) → false ≡ s
    go true h = absurd (n (p ∙ ap (λ (l : List ℕ). number_at 4 l k) (h refl) ∙ sym q))
    go false h = refl

-- behind both ends nothing differs
pub backs_none : (a b : List ℕ) → length a ≡ length b → drop (length a) a ≡ drop (length a) b
backs_none a b n = drop_of_length-le a {i = length a} (omega arith) ∙ sym (drop_of_length-le b {i = length a} (omega arith))

module _ (a b : List ℕ) (p : Bytes a) (q : Bytes b) (n : length a ≡ length b) where
  -- four bytes more
  pub backs_more : (left : ℕ) {x y : ℕ} → 4 ≤ left → left ≤ length a → drop left a ≡ drop left b → x ≡ number_at 4 a (left - 4) → y ≡ number_at 4 b (left - 4) → x ≡ y
      → drop (left - 4) a ≡ drop (left - 4) b
  backs_more left some few same is also e =
      sym (take-append-drop 4 (drop (left - 4) a))
      ∙ ap₂ ◌++◌ (same_four a b (left - 4) (left - 4) p q (omega arith) (omega arith) (sym is ∙ e ∙ also)) (behind a ∙ same ∙ sym (behind b))
      ∙ take-append-drop 4 (drop (left - 4) b)
    where
      behind : (l : List ℕ) → drop 4 (drop (left - 4) l) ≡ drop left l
      behind l =
          let place : left - 4 + 4 ≡ left = omega arith in
          drop-drop 4 (left - 4) l ∙ ap (λ (k : ℕ). drop k l) place

  -- the first four tell the rest
  pub words_end : (left : ℕ) {x y : ℕ} → 4 ≤ length a → left ≤ 4 → drop left a ≡ drop left b → x ≡ number_at 4 a 0 → y ≡ number_at 4 b 0 → eqb x y ≡ same_bytes a b
  unfolding pair_of
  words_end left {x} {y} some few same is also = go (ℕ_discrete x y)
    where
      behind : (l : List ℕ) → drop (4 - left) (drop left l) ≡ drop 4 l
      behind l =
          let place : left + (4 - left) ≡ 4 = omega arith in
          drop-drop (4 - left) left l ∙ ap (λ (k : ℕ). drop k l) place

      one : x ≡ y → a ≡ b
      one e =
          sym (take-append-drop 4 a)
          ∙ ap₂ ◌++◌ (same_four a b 0 0 p q (omega arith) (omega arith) (sym is ∙ e ∙ also)) (sym (behind a) ∙ ap (drop (4 - left)) same ∙ behind b)
          ∙ take-append-drop 4 b

      go : Dec (x ≡ y) → eqb x y ≡ same_bytes a b
      go (yes e) = eq-eqb x y e ∙ sym (ap (same_bytes a) (sym (one e)) ∙ agree_refl (utf8 a))
      go (no d) = ne_eqb x y d ∙ words_unlike a b 0 is also d

-- from the front on nothing differs
pub backs_all : (a b : List ℕ) (left : ℕ) → left ≤ 0 → drop left a ≡ drop left b → true ≡ same_bytes a b
unfolding pair_of
backs_all a b zero h e = sym (ap (same_bytes a) (sym e) ∙ agree_refl (utf8 a))
backs_all a b (suc n) h e = absurd (omega arith)

-- ---- one byte

module _ (a b : List ℕ) (n : length a ≡ length b) where
  -- a byte that differs, and one that doesn't
  pub byte_unlike : {x y : ℕ} (k : ℕ) → k < length a → x ≡ get_or a k 0 → y ≡ get_or b k 0 → (x ≡ y → ⊥) → false ≡ same_bytes a b
  byte_unlike k h p q d = sym (same_differ a b k h (omega arith) (λ e. d (p ∙ e ∙ sym q)))

  pub byte_more : {x y left : ℕ} (k : ℕ) → k < length a → k + 1 ≡ left → drop left a ≡ drop left b → x ≡ get_or a k 0 → y ≡ get_or b k 0 → x ≡ y → drop k a ≡ drop k b
  byte_more {left = left} k h next same p q e =
      drop-cons a k 0 h
      ∙ ap₂ ◌∷◌ (sym p ∙ e ∙ q) (ap (λ (j : ℕ). drop j a) place ∙ same ∙ sym (ap (λ (j : ℕ). drop j b) place))
      ∙ sym (drop-cons b k 0 (omega arith))
    where
      place : suc k ≡ left
      place = omega arith
