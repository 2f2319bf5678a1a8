-- The table's lines: the sequences of each are the encodings of its code points, and the lines have each scalar value once. Assumes nothing.
use mathlib.Core.Path.{◌≡◌, refl, sym, ap, ap₂, ◌∙◌, subst}
use mathlib.Core.Bool.{Bool, true, false, cond, ◌&&◌, ◌||◌, false≢true}
use mathlib.Core.List.{List, [], ◌∷◌, ◌++◌, append-nil}
use mathlib.Core.Option.{some, none-ne-some, some-injective}
use Prim.Native.Nat.{ℕ, zero, suc, ◌+◌, ◌<◌, ◌≤◌}
use native.Mathlib.Omega.{arith}
use lib.Dec.{leb-suc-zero, leb, ltb, eqb}
use lib.ListN.{length, get_elem?, take, drop, length-append}
use borrow.Author.Tests.{ltb-true, leb-true, leb-false, eqb-true, lt-ltb, le-ltb, lt-leb, eq-eqb}
use Rattle.layout.proofs.TestLaws.{both_hold}
use Rattle.utf8.specs.WellFormed.{Range, ◌‥◌, within, Line, byte_sequences, begins_with}
use Rattle.utf8.specs.Encoding.{is_scalar_value, encoding, lines_with, LineExactly, EachOnce}
use Rattle.utf8.proofs.SequenceLaws.{inside}
use Rattle.utf8.proofs.WidthLaws.{Width, one, two, three, four, OfWidth, bytes_of, value_of, encoding_of}

-- ---- the lines have each scalar value once

-- 1 for what lies below a number
abbrev below : ℕ → ℕ → ℕ
below n c = cond (ltb c n) 1 0

-- a range is what lies below its end and not below its start
range_counts : (a b c : ℕ) → a ≤ suc b → cond (within (a ‥ b) c) 1 0 + below a c ≡ below (suc b) c
range_counts a b c h = cases (leb a c) refl (leb c b) refl
  where
    cases : (s : Bool) → leb a c ≡ s → (t : Bool) → leb c b ≡ t → cond (s && t) 1 0 + below a c ≡ below (suc b) c
    cases true p true q =
        let k : a ≤ c = leb-true a c p in let m : c < suc b = let n : c ≤ b = leb-true c b q in omega arith in
        rw (le-ltb c a k, lt-ltb c (suc b) m)
    cases true p false q =
        let k : a ≤ c = leb-true a c p in let m : suc b ≤ c = leb-false c b q in
        rw (le-ltb c a k, le-ltb c (suc b) m)
    cases false p t q =
        let k : c < a = leb-false a c p in let m : c < suc b = omega arith in
        rw (lt-ltb c a k, lt-ltb c (suc b) m)

-- the scalar values are those below the surrogates and those above
scalar_counts : (c : ℕ) → cond (is_scalar_value c) 1 0 ≡ below 0xD800 c + cond (within (0xE000 ‥ 0x10FFFF) c) 1 0
scalar_counts c = cases (ltb c 0xD800) refl
  where
    cases : (s : Bool) → ltb c 0xD800 ≡ s → cond (s || within (0xE000 ‥ 0x10FFFF) c) 1 0 ≡ cond s 1 0 + cond (within (0xE000 ‥ 0x10FFFF) c) 1 0
    cases true p = let h : c < 0xE000 = let k : c < 0xD800 = ltb-true c 0xD800 p in omega arith in rw (lt-leb 0xE000 c h)
    cases false p = omega arith

-- lines whose code points follow one another, from one on, and the code point behind them
abbrev Consecutive : ℕ → List Line → ℕ → Type 0
Consecutive from [] to = from ≡ to
Consecutive from (l ∷ ls) to = (l.code_points.least ≡ from) × (from ≤ suc l.code_points.greatest) × Consecutive (suc l.code_points.greatest) ls to

-- they have each of these code points once
lines_count : (c from : ℕ) (ls : List Line) (to : ℕ) → Consecutive from ls to → lines_with c ls + below from c ≡ below to c
unfolding lines_with
lines_count c from [] to e = rw e (omega arith)
lines_count c from (l ∷ ls) to h =
    let a = l.code_points.least in let b = l.code_points.greatest in
    let one : cond (within (a ‥ b) c) 1 0 + below a c ≡ below (suc b) c = range_counts a b c (omega arith) in
    let more : lines_with c ls + below (suc b) c ≡ below to c = lines_count c (suc b) ls to h.2 in
    rw (← h.0) (omega arith)

-- the lines have each scalar value once, and nothing else
pub each_once : EachOnce
unfolding lines_with
each_once c =
    let low : lines_with c (take 5 byte_sequences) + below 0 c ≡ below 0xD800 c = lines_count c 0 (take 5 byte_sequences) 0xD800 (omega arith) in
    let high : lines_with c (drop 5 byte_sequences) + below 0xE000 c ≡ below 0x110000 c = lines_count c 0xE000 (drop 5 byte_sequences) 0x110000 (omega arith) in
    let none : below 0 c ≡ 0 = rw (leb-suc-zero c) in
    omega (arith, range_counts 0xE000 0x10FFFF c (omega arith), scalar_counts c)

-- ---- the sequences of a line are the encodings of its code points

-- a number lies in a range
abbrev In : Range → ℕ → Type 0
In r n = (r.least ≤ n) × (n ≤ r.greatest)

-- by the test, and back
in_range_lem : (r : Range) (n : ℕ) → within r n ≡ true → In r n
in_range_lem r n e =
    let h = both_hold (leb r.least n) (leb n r.greatest) e in
    (leb-true r.least n h.0, leb-true n r.greatest h.1)

within_range : (r : Range) (n : ℕ) → In r n → within r n ≡ true
within_range r n h = inside r.least r.greatest n h.0 h.1

-- what holds of every sequence of these ranges
abbrev Every : List Range → (List ℕ → Type 0) → Type 0
Every [] P = P []
Every (r ∷ rs) P = (b : ℕ) → In r b → Every rs (λ bs. P (b ∷ bs))

-- bytes are a sequence of these ranges
abbrev Fits : List Range → List ℕ → Type 0
Fits [] [] = Unit
Fits [] (b ∷ bs) = ⊥
Fits (r ∷ rs) [] = ⊥
Fits (r ∷ rs) (b ∷ bs) = In r b × Fits rs bs

-- byte by byte the same
abbrev Alike : List ℕ → List ℕ → Type 0
Alike [] [] = Unit
Alike [] (b ∷ bs) = ⊥
Alike (a ∷ l) [] = ⊥
Alike (a ∷ l) (b ∷ bs) = (a ≡ b) × Alike l bs

-- so they are equal
alike : (l bs : List ℕ) → Alike l bs → l ≡ bs
alike [] [] h = refl
alike [] (b ∷ bs) h = absurd h
alike (a ∷ l) [] h = absurd h
alike (a ∷ l) (b ∷ bs) h = ap₂ ◌∷◌ h.0 (alike l bs h.1)

-- bytes that begin with a sequence of these ranges are it and what is behind it
every_begins : (rs : List Range) (P : List ℕ → Type 0) → Every rs P → (bytes : List ℕ) → begins_with rs bytes ≡ true
    → (bs : List ℕ) × (rest : List ℕ) × P bs × (bs ++ rest ≡ bytes)
unfolding begins_with
every_begins [] P h bytes e = ([], bytes, h, refl)
every_begins (r ∷ rs) P h [] e = absurd (false≢true e)
every_begins (r ∷ rs) P h (b ∷ bytes) e =
    let k = both_hold (within r b) (begins_with rs bytes) e in
    let g = every_begins rs (λ bs. P (b ∷ bs)) (h b (in_range_lem r b k.0)) bytes k.1 in
    (b ∷ g.0, g.1, g.2, ap (λ (l : List ℕ). b ∷ l) g.3)

-- and a sequence of these ranges, with anything behind it, begins with one
fits_begins : (rs : List Range) (bs rest : List ℕ) → Fits rs bs → begins_with rs (bs ++ rest) ≡ true
unfolding begins_with
fits_begins [] [] rest h = refl
fits_begins [] (b ∷ bs) rest h = refl
fits_begins (r ∷ rs) [] rest h = absurd h
fits_begins (r ∷ rs) (b ∷ bs) rest h = rw (within_range r b h.0) (fits_begins rs bs rest h.1)

-- it has a byte for each range
fits_length : (rs : List Range) (bs : List ℕ) → Fits rs bs → length bs ≡ length rs
fits_length [] [] h = refl
fits_length [] (b ∷ bs) h = absurd h
fits_length (r ∷ rs) [] h = absurd h
fits_length (r ∷ rs) (b ∷ bs) h = ap suc (fits_length rs bs h.1)

-- what begins with a sequence of a line begins with the encoding of one of its code points, and the other way round
pub record Exact (l : Line) : Type 0 where
  pub read : (bytes : List ℕ) → begins_with l.sequence bytes ≡ true → (c : ℕ) × (rest : List ℕ) × (within l.code_points c ≡ true) × (encoding c ++ rest ≡ bytes)
  pub written : (c : ℕ) → within l.code_points c ≡ true → (rest : List ℕ) → begins_with l.sequence (encoding c ++ rest) ≡ true
  pub long : (c : ℕ) → within l.code_points c ≡ true → length (encoding c) ≡ length l.sequence

-- a line of a width is, if its code points' bytes fit its ranges and the value of bytes that fit is a code point of it with these bytes
exact : {l : Line} (w : Width) → ((c : ℕ) → In l.code_points c → OfWidth w c × Fits l.sequence (bytes_of w c))
    → Every l.sequence (λ bs. In l.code_points (value_of w bs) × Alike (bytes_of w (value_of w bs)) bs) → Exact l
exact {l} w fits every = record {
  read = λ bytes e.
      let g = every_begins l.sequence (λ bs. In l.code_points (value_of w bs) × Alike (bytes_of w (value_of w bs)) bs) every bytes e in
      let c = value_of w g.0 in (
        c,
        g.1,
        within_range l.code_points c g.2.0,
        ap (λ (s : List ℕ). s ++ g.1) (encoding_of w c (fits c g.2.0).0 ∙ alike (bytes_of w c) g.0 g.2.1) ∙ g.3,
      );
  written = λ c e rest.
      let h = fits c (in_range_lem l.code_points c e) in
      rw (encoding_of w c h.0) (fits_begins l.sequence (bytes_of w c) rest h.1);
  long = λ c e.
      let h = fits c (in_range_lem l.code_points c e) in
      ap length (encoding_of w c h.0) ∙ fits_length l.sequence (bytes_of w c) h.1;
}

-- all of these lines are exact
pub data AllExact : List Line → Type 0 where
  none : AllExact []
  more : {l : Line} {ls : List Line} → Exact l → AllExact ls → AllExact (l ∷ ls)

infixr 20 ◌also◌
-- with one more line
◌also◌ : {l : Line} {ls : List Line} → Exact l → AllExact ls → AllExact (l ∷ ls)
x also xs = more x xs

-- those of the table are
pub table : AllExact byte_sequences
table =
    exact one (omega arith) (omega arith)
    also exact two (omega arith) (omega arith)
    also exact three (omega arith) (omega arith)
    also exact three (omega arith) (omega arith)
    also exact three (omega arith) (omega arith)
    also exact three (omega arith) (omega arith)
    also exact four (omega arith) (omega arith)
    also exact four (omega arith) (omega arith)
    also exact four (omega arith) (omega arith)
    also none

-- and so each by its place
exact_at : {ls : List Line} → AllExact ls → (i : ℕ) (l : Line) → get_elem? ls i ≡ some l → Exact l
exact_at none i l e = absurd (none-ne-some l e)
exact_at (more {l = k} x xs) zero l e = subst Exact (some-injective k l e) x
exact_at (more x xs) (suc i) l e = exact_at xs i l e

-- bytes no longer than what they begin with are that
whole : (s rest bytes : List ℕ) → s ++ rest ≡ bytes → length bytes ≡ length s → s ≡ bytes
whole s [] bytes e h = sym (append-nil s) ∙ e
whole s (b ∷ rest) bytes e h = absurd (omega (arith, simp length-append at (ap length e)))

-- each line's sequences are the encodings of the line's code points, and no others
pub line_exactly : LineExactly
line_exactly i l at bytes = (
  λ s.
      let h = both_hold (begins_with l.sequence bytes) (eqb (length bytes) (length l.sequence)) s in
      let g = x.read bytes h.0 in
      (g.0, g.2, whole (encoding g.0) g.1 bytes g.3 (eqb-true (length bytes) (length l.sequence) h.1 ∙ sym (x.long g.0 g.2))),
  λ g.
      let begins : begins_with l.sequence bytes ≡ true = subst (λ (s : List ℕ). begins_with l.sequence s ≡ true) (append-nil (encoding g.0) ∙ g.2) (x.written g.0 g.1 []) in
      let long : length bytes ≡ length l.sequence = ap length (sym g.2) ∙ x.long g.0 g.1 in
      rw (begins, eq-eqb (length bytes) (length l.sequence) long),
)
  where
    x : Exact l
    x = exact_at table i l at
