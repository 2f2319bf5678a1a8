-- The sequence at the start of bytes, by its first four bytes. Assumes nothing.
use mathlib.Core.Path.{◌≡◌, refl, sym, ap, subst, ◌∙◌}
use mathlib.Core.Bool.{Bool, true, false, cond, ◌&&◌, false≢true}
use mathlib.Core.List.{List, [], ◌∷◌, ◌++◌, append-nil}
use Prim.Native.Nat.{ℕ, suc, ◌<◌, ◌≤◌}
use native.Mathlib.Decide.{dec_lt}
use native.Mathlib.Omega.{arith}
use lib.Dec.{leb, ltb}
use lib.ListN.{length, take, drop}
use borrow.Author.Tests.{leb-true, le-leb, lt-leb, lt-ltb, le-ltb, ne_eqb}
use Rattle.layout.specs.Bytes.{byte}
use Rattle.layout.proofs.TestLaws.{both_hold}
use Rattle.utf8.specs.WellFormed.{Range, ◌‥◌, within, Line, line, byte_sequences, begins_with, sequence_among, sequence_length}
use Rattle.utf8.specs.Sequence.{trailing_range, second_least, second_greatest, second_range}

-- bytes behind the end read as 0, and 0 trails nothing
pub by_four : (l : List ℕ) → 0 < length l → sequence_length (byte l 0 ∷ byte l 1 ∷ byte l 2 ∷ byte l 3 ∷ []) ≡ sequence_length l
unfolding sequence_among begins_with
by_four [] h = absurd (omega arith)
by_four (a ∷ []) h = refl
by_four (a ∷ b ∷ []) h = refl
by_four (a ∷ b ∷ c ∷ []) h = refl
by_four (a ∷ b ∷ c ∷ d ∷ l) h = refl

pub of_none : 0 ≡ sequence_length []
unfolding sequence_among begins_with
of_none = refl

-- ---- a number and a range

both_false : (p : Bool) → (p && false) ≡ false
both_false true = refl
both_false false = refl

pub above : (least greatest a : ℕ) → greatest < a → within (least ‥ greatest) a ≡ false
above l g a h = rw (lt-leb a g h) (both_false (leb l a))

pub below : (least greatest a : ℕ) → a < least → within (least ‥ greatest) a ≡ false
below l g a h = rw (lt-leb l a h)

pub inside : (least greatest a : ℕ) → least ≤ a → a ≤ greatest → within (least ‥ greatest) a ≡ true
inside l g a h k = rw (le-leb l a h, le-leb a g k)

-- a number from the least on is in the range where it isn't above the greatest
pub from_least : (least greatest a : ℕ) → least ≤ a → leb a greatest ≡ within (least ‥ greatest) a
from_least l g a h = rw (le-leb l a h)

-- ---- the line that a first byte belongs to

-- a test holds of the first range
of_first : (Range → Bool) → List Range → Bool
of_first test [] = false
of_first test (r ∷ rs) = test r

-- and of that of each of these lines
each_first : (Range → Bool) → List Line → Bool
each_first test [] = true
each_first test (l ∷ ls) = of_first test l.sequence && each_first test ls

-- a range that ends at a number or below it; one that begins at it or above it
abbrev ends_by : ℕ → Range → Bool
ends_by m r = leb r.greatest m

abbrev begins_by : ℕ → Range → Bool
begins_by m r = leb m r.least

-- a test that keeps a first byte out of a range
abbrev KeepsOut : (Range → Bool) → ℕ → Type 0
KeepsOut test a = (r : Range) → test r ≡ true → within r a ≡ false

ends_before : (m a : ℕ) → m < a → KeepsOut (ends_by m) a
ends_before m a h r p = let q : r.greatest ≤ m = leb-true _ _ p in above r.least r.greatest a (omega arith)

begins_behind : (m a : ℕ) → a < m → KeepsOut (begins_by m) a
begins_behind m a h r p = let q : m ≤ r.least = leb-true _ _ p in below r.least r.greatest a (omega arith)

-- so the line has no sequence that begins with it
kept_out : (test : Range → Bool) (a : ℕ) (l : List ℕ) → KeepsOut test a → (s : List Range) → of_first test s ≡ true → begins_with s (a ∷ l) ≡ false
unfolding begins_with of_first
kept_out test a l out [] p = absurd (false≢true p)
kept_out test a l out (r ∷ rs) p = ap (λ (x : Bool). x && begins_with rs l) (out r p)

-- and such lines are passed over
passed : (test : Range → Bool) (a : ℕ) (l : List ℕ) → KeepsOut test a → (front back : List Line) → each_first test front ≡ true
    → sequence_among (front ++ back) (a ∷ l) ≡ sequence_among back (a ∷ l)
unfolding sequence_among each_first
passed test a l out [] back p = refl
passed test a l out (x ∷ front) back p =
    let (this, rest) = both_hold (of_first test x.sequence) (each_first test front) p in
    ap (λ (b : Bool). cond b (length x.sequence) (sequence_among (front ++ back) (a ∷ l))) (kept_out test a l out x.sequence this)
    ∙ passed test a l out front back rest

-- a first byte in one line's range, above those before and below those behind: that line decides
by_line : (front : List Line) (c r : Range) (rs : List Range) (back : List Line) (m n a : ℕ) (l : List ℕ)
    → each_first (ends_by m) front ≡ true → each_first (begins_by n) back ≡ true → m < a → a < n → within r a ≡ true
    → sequence_among (front ++ (line c (r ∷ rs) ∷ back)) (a ∷ l) ≡ cond (begins_with rs l) (suc (length rs)) 0
unfolding sequence_among begins_with
by_line front c r rs back m n a l p q h k in-it =
    passed (ends_by m) a l (ends_before m a h) front (line c (r ∷ rs) ∷ back) p
    ∙ ap (λ (x : Bool). cond (x && begins_with rs l) (suc (length rs)) (sequence_among back (a ∷ l))) in-it
    ∙ ap (λ (x : ℕ). cond (begins_with rs l) (suc (length rs)) x)
    (ap (λ (ls : List Line). sequence_among ls (a ∷ l)) (sym (append-nil back)) ∙ passed (begins_by n) a l (begins_behind n a k) back [] q)

-- the first lines of the table, and the lines from one on
abbrev front : ℕ → List Line
front k = take k byte_sequences

abbrev back : ℕ → List Line
back k = drop k byte_sequences

-- a first byte below 80 is a sequence
pub of_ascii : (a : ℕ) (l : List ℕ) → a < 0x80 → sequence_length (a ∷ l) ≡ 1
unfolding begins_with each_first of_first sequence_among
of_ascii a l h =
    ap (λ (x : Bool). cond (x && true) 1 (sequence_among (back 1) (a ∷ l))) (inside 0 0x7F a (omega arith) (omega arith))

-- one from 80 on below C2, and one above F4, begins none
pub of_lone : (a : ℕ) (l : List ℕ) → 0x80 ≤ a → a < 0xC2 → 0 ≡ sequence_length (a ∷ l)
unfolding each_first of_first sequence_among
of_lone a l h k =
    sym (passed (ends_by 0x7F) a l (ends_before 0x7F a h) (front 1) (back 1) refl ∙ passed (begins_by 0xC2) a l (begins_behind 0xC2 a k) (back 1) [] refl)

pub of_high : (a : ℕ) (l : List ℕ) → 0xF4 < a → 0 ≡ sequence_length (a ∷ l)
unfolding each_first of_first sequence_among
of_high a l h = sym (passed (ends_by 0xF4) a l (ends_before 0xF4 a h) byte_sequences [] refl)

-- the ranges behind the second byte
trailers : ℕ → List Range
trailers a = cond (ltb a 0xE0) [] (cond (ltb a 0xF0) (trailing_range ∷ []) (trailing_range ∷ trailing_range ∷ []))

-- any other: the second byte by the first, and the trailing ones
abbrev Leads : ℕ → List ℕ → Type 0
Leads a l = sequence_length (a ∷ l) ≡ cond (begins_with (second_range a ∷ trailers a) l) (suc (suc (length (trailers a)))) 0

module _ (l : List ℕ) where
  -- behind the first bytes that the second hangs on
  at-E0 : Leads 0xE0 l
  unfolding each_first of_first second_least second_greatest trailers
  at-E0 = by_line (front 2) (0x0800 ‥ 0x0FFF) (0xE0 ‥ 0xE0) (0xA0 ‥ 0xBF ∷ trailing_range ∷ []) (back 3) 0xDF 0xE1 0xE0 l refl refl (omega arith) (omega arith) refl

  at-ED : Leads 0xED l
  unfolding each_first of_first second_least second_greatest trailers
  at-ED = by_line (front 4) (0xD000 ‥ 0xD7FF) (0xED ‥ 0xED) (0x80 ‥ 0x9F ∷ trailing_range ∷ []) (back 5) 0xEC 0xEE 0xED l refl refl (omega arith) (omega arith) refl

  at-F0 : Leads 0xF0 l
  unfolding each_first of_first second_least second_greatest trailers
  at-F0 = by_line (front 6) (0x10000 ‥ 0x3FFFF) (0xF0 ‥ 0xF0) (0x90 ‥ 0xBF ∷ trailing_range ∷ trailing_range ∷ []) (back 7) 0xEF 0xF1 0xF0 l refl refl (omega arith) (omega arith) refl

  at-F4 : Leads 0xF4 l
  unfolding each_first of_first second_least second_greatest trailers
  at-F4 = by_line (front 8) (0x100000 ‥ 0x10FFFF) (0xF4 ‥ 0xF4) (0x80 ‥ 0x8F ∷ trailing_range ∷ trailing_range ∷ []) (back 9) 0xF3 0xF5 0xF4 l refl refl (omega arith) (omega arith) refl

  -- and behind the others
  module _ (a : ℕ) where
    ranges : (r : List Range) → (a ≡ 0xE0 → ⊥) → (a ≡ 0xED → ⊥) → (a ≡ 0xF0 → ⊥) → (a ≡ 0xF4 → ⊥) → trailers a ≡ r
        → sequence_length (a ∷ l) ≡ cond (begins_with (trailing_range ∷ r) l) (suc (suc (length r))) 0 → Leads a l
    unfolding second_least second_greatest
    ranges r e0 ed f0 f4 is p =
        rw (ne_eqb a 0xE0 e0, ne_eqb a 0xED ed, ne_eqb a 0xF0 f0, ne_eqb a 0xF4 f4, is) p

    two : 0xC2 ≤ a → a ≤ 0xDF → Leads a l
    unfolding each_first of_first trailers
    two h k =
        ranges [] (λ e. omega arith) (λ e. omega arith) (λ e. omega arith) (λ e. omega arith) (rw (lt-ltb a 0xE0 (omega arith)))
        (by_line (front 1) (0x0080 ‥ 0x07FF) (0xC2 ‥ 0xDF) (trailing_range ∷ []) (back 2) 0x7F 0xE0 a l refl refl (omega arith) (omega arith) (inside 0xC2 0xDF a h k))

    three : 0xE0 ≤ a → a < 0xF0 → trailers a ≡ trailing_range ∷ []
    unfolding trailers
    three h k = rw (le-ltb a 0xE0 h, lt-ltb a 0xF0 k)

    three_low : 0xE1 ≤ a → a ≤ 0xEC → Leads a l
    unfolding each_first of_first
    three_low h k =
        ranges (trailing_range ∷ []) (λ e. omega arith) (λ e. omega arith) (λ e. omega arith) (λ e. omega arith) (three (omega arith) (omega arith))
        (by_line (front 3) (0x1000 ‥ 0xCFFF) (0xE1 ‥ 0xEC) (trailing_range ∷ trailing_range ∷ []) (back 4) 0xE0 0xED a l refl refl (omega arith) (omega arith) (inside 0xE1 0xEC a h k))

    three_high : 0xEE ≤ a → a ≤ 0xEF → Leads a l
    unfolding each_first of_first
    three_high h k =
        ranges (trailing_range ∷ []) (λ e. omega arith) (λ e. omega arith) (λ e. omega arith) (λ e. omega arith) (three (omega arith) (omega arith))
        (by_line (front 5) (0xE000 ‥ 0xFFFF) (0xEE ‥ 0xEF) (trailing_range ∷ trailing_range ∷ []) (back 6) 0xED 0xF0 a l refl refl (omega arith) (omega arith) (inside 0xEE 0xEF a h k))

    four : 0xF1 ≤ a → a ≤ 0xF3 → Leads a l
    unfolding each_first of_first trailers
    four h k =
        ranges (trailing_range ∷ trailing_range ∷ []) (λ e. omega arith) (λ e. omega arith) (λ e. omega arith) (λ e. omega arith)
        (rw (le-ltb a 0xE0 (omega arith), le-ltb a 0xF0 (omega arith)))
        (by_line (front 7) (0x40000 ‥ 0xFFFFF) (0xF1 ‥ 0xF3) (trailing_range ∷ trailing_range ∷ trailing_range ∷ []) (back 8) 0xF0 0xF4 a l refl refl (omega arith) (omega arith) (inside 0xF1 0xF3 a h k))

    -- a first byte from C2 to F4
    leads : 0xC2 ≤ a → a ≤ 0xF4 → Leads a l
    leads h k = go (dec_lt a 0xE0) (dec_lt a 0xE1) (dec_lt a 0xED) (dec_lt a 0xEE) (dec_lt a 0xF0) (dec_lt a 0xF1) (dec_lt a 0xF4)
      where
        at : (n : ℕ) → Leads n l → a ≡ n → Leads a l
        at n p e = subst (λ (x : ℕ). Leads x l) (sym e) p

        go : Dec (a < 0xE0) → Dec (a < 0xE1) → Dec (a < 0xED) → Dec (a < 0xEE) → Dec (a < 0xF0) → Dec (a < 0xF1) → Dec (a < 0xF4) → Leads a l
        go (yes p) d1 d2 d3 d4 d5 d6 = two h (omega arith)
        go (no n) (yes p) d2 d3 d4 d5 d6 = at 0xE0 at-E0 (omega arith)
        go (no n) (no m) (yes p) d3 d4 d5 d6 = three_low (omega arith) (omega arith)
        go (no n) (no m) (no o) (yes p) d4 d5 d6 = at 0xED at-ED (omega arith)
        go (no n) (no m) (no o) (no q) (yes p) d5 d6 = three_high (omega arith) (omega arith)
        go (no n) (no m) (no o) (no q) (no r) (yes p) d6 = at 0xF0 at-F0 (omega arith)
        go (no n) (no m) (no o) (no q) (no r) (no s) (yes p) = four (omega arith) (omega arith)
        go (no n) (no m) (no o) (no q) (no r) (no s) (no t) = at 0xF4 at-F4 (omega arith)

-- ---- four bytes of which the first is from C2 to F4, test by test

module _ (a b c d : ℕ) (h : 0xC2 ≤ a) (k : a ≤ 0xF4) where
  abbrev bytes : List ℕ
  bytes = b ∷ c ∷ d ∷ []

  pub second_unfit : within (second_range a) b ≡ false → 0 ≡ sequence_length (a ∷ bytes)
  unfolding begins_with
  second_unfit p = sym (leads bytes a h k ∙ ap (λ (x : Bool). cond (x && begins_with (trailers a) (c ∷ d ∷ [])) (suc (suc (length (trailers a)))) 0) p)

  module _ (p : within (second_range a) b ≡ true) where
    -- the second fits
    behind_second : sequence_length (a ∷ bytes) ≡ cond (begins_with (trailers a) (c ∷ d ∷ [])) (suc (suc (length (trailers a)))) 0
    unfolding begins_with
    behind_second = leads bytes a h k ∙ ap (λ (x : Bool). cond (x && begins_with (trailers a) (c ∷ d ∷ [])) (suc (suc (length (trailers a)))) 0) p

    pub of_two : a < 0xE0 → 2 ≡ sequence_length (a ∷ bytes)
    unfolding begins_with trailers
    of_two l = sym (behind_second ∙ rw (lt-ltb a 0xE0 l))

    pub third_unfit : 0xE0 ≤ a → within trailing_range c ≡ false → 0 ≡ sequence_length (a ∷ bytes)
    unfolding begins_with trailers
    third_unfit l q = sym (behind_second ∙ rw (le-ltb a 0xE0 l) (go (ltb a 0xF0)))
      where
        go : (t : Bool) → cond (begins_with (cond t (trailing_range ∷ []) (trailing_range ∷ trailing_range ∷ [])) (c ∷ d ∷ [])) (suc (suc (length (cond t (trailing_range ∷ []) (trailing_range ∷ trailing_range ∷ []))))) 0 ≡ 0
        go true = rw q
        go false = rw q

    pub of_three : 0xE0 ≤ a → a < 0xF0 → within trailing_range c ≡ true → 3 ≡ sequence_length (a ∷ bytes)
    unfolding begins_with trailers
    of_three l m q = sym (behind_second ∙ rw (le-ltb a 0xE0 l, lt-ltb a 0xF0 m, q))

    module _ (l : 0xF0 ≤ a) (q : within trailing_range c ≡ true) where
      behind_third : sequence_length (a ∷ bytes) ≡ cond (within trailing_range d && true) 4 0
      unfolding begins_with trailers
      behind_third = behind_second ∙ rw (le-ltb a 0xE0 (omega arith), le-ltb a 0xF0 l, q)

      pub of_four : within trailing_range d ≡ true → 4 ≡ sequence_length (a ∷ bytes)
      of_four r = sym (behind_third ∙ rw r)

      pub fourth_unfit : within trailing_range d ≡ false → 0 ≡ sequence_length (a ∷ bytes)
      fourth_unfit r = sym (behind_third ∙ rw r)

-- ---- the functions' answers

-- the second byte's range from its ends, as they were found
pub second_below : (a b least : ℕ) → least ≡ second_least a → b < least → false ≡ within (second_range a) b
second_below a b least is h = sym (below (second_least a) (second_greatest a) b (omega arith))

pub second_up_to : (a b least greatest : ℕ) → least ≡ second_least a → greatest ≡ second_greatest a → least ≤ b → leb b greatest ≡ within (second_range a) b
second_up_to a b least greatest is most h = ap (leb b) most ∙ from_least (second_least a) (second_greatest a) b (omega arith)

-- of no bytes none, of others by the first four
pub none_of : (l : List ℕ) → length l ≡ 0 → 0 ≡ sequence_length l
none_of [] h = of_none
none_of (b ∷ l) h = absurd (omega arith)

pub of_bytes : (l : List ℕ) (a b c d : ℕ) → a ≡ byte l 0 → b ≡ byte l 1 → c ≡ byte l 2 → d ≡ byte l 3 → (length l ≡ 0 → ⊥)
    → sequence_length (a ∷ b ∷ c ∷ d ∷ []) ≡ sequence_length l
of_bytes l a b c d p q r s h = rw (p, q, r, s) (by_four l (omega arith))

-- the ends by the first byte
pub least-E0 : (a : ℕ) → a ≡ 0xE0 → 0xA0 ≡ second_least a
unfolding second_least
least-E0 a e = rw e

pub least-F0 : (a : ℕ) → a ≡ 0xF0 → 0x90 ≡ second_least a
unfolding second_least
least-F0 a e = rw e

pub least_other : (a : ℕ) → ((Unit {0} × (a ≡ 0xE0 → ⊥)) × (a ≡ 0xF0 → ⊥)) → 0x80 ≡ second_least a
unfolding second_least
least_other a n = rw (ne_eqb a 0xE0 n.0.1, ne_eqb a 0xF0 n.1)

pub greatest-ED : (a : ℕ) → a ≡ 0xED → 0x9F ≡ second_greatest a
unfolding second_greatest
greatest-ED a e = rw e

pub greatest-F4 : (a : ℕ) → a ≡ 0xF4 → 0x8F ≡ second_greatest a
unfolding second_greatest
greatest-F4 a e = rw e

pub greatest_other : (a : ℕ) → ((Unit {0} × (a ≡ 0xED → ⊥)) × (a ≡ 0xF4 → ⊥)) → 0xBF ≡ second_greatest a
unfolding second_greatest
greatest_other a n = rw (ne_eqb a 0xED n.0.1, ne_eqb a 0xF4 n.1)
