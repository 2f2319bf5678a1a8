-- A text is well-formed exactly where it is the encodings of scalar values, one behind another, and then of these alone. Assumes nothing.
use mathlib.Core.Path.{◌≡◌, refl, sym, ap, ap₂, ◌∙◌, subst}
use mathlib.Core.Bool.{Bool, true, false, cond, false≢true}
use mathlib.Core.List.{List, [], ◌∷◌, ◌++◌}
use mathlib.Core.Option.{Option, some}
use Prim.Native.Nat.{ℕ, zero, suc, ◌+◌, ◌-◌, ◌≤◌}
use native.Mathlib.Omega.{arith}
use lib.Dec.{eqb}
use lib.ListN.{length, length-append}
use lib.Seq.{drop_at}
use Rattle.layout.proofs.TestLaws.{both_hold}
use Rattle.utf8.specs.WellFormed.{within, Line, begins_with, sequence_among, sequence_length, ill_formed_from, is_none, well_formed}
use Rattle.utf8.specs.Encoding.{is_scalar_value, encoding, encodings, all_scalar_values, Encodes, WellFormedExactly, EncodesOnce, lines_with}
use Rattle.utf8.proofs.ValidationLaws.{behind_sequence}
use Rattle.utf8.proofs.WidthLaws.{some_byte, prefix_free}
use Rattle.utf8.proofs.LineLaws.{each_once, AllExact, none, more, table}

-- ---- the sequence at the start of bytes

-- by lines of which one has the code point, the sequence at the start is its encoding
among_encoding : {ls : List Line} → AllExact ls → (c : ℕ) (rest : List ℕ) → 1 ≤ lines_with c ls → sequence_among ls (encoding c ++ rest) ≡ length (encoding c)
unfolding lines_with sequence_among
among_encoding none c rest h = absurd (omega arith)
among_encoding (more {l = l} {ls = ls} x xs) c rest h =
    cases (λ k. among_encoding xs c rest k) (begins_with l.sequence (encoding c ++ rest)) refl (within l.code_points c) refl h
  where
    cases : (1 ≤ lines_with c ls → sequence_among ls (encoding c ++ rest) ≡ length (encoding c)) → (s : Bool) → begins_with l.sequence (encoding c ++ rest) ≡ s → (t : Bool) → within l.code_points c ≡ t
        → 1 ≤ cond t 1 0 + lines_with c ls → cond s (length l.sequence) (sequence_among ls (encoding c ++ rest)) ≡ length (encoding c)
    cases next true p t q k =
        let (d, behind, inside, is) = x.read (encoding c ++ rest) p in
        sym (x.long d inside) ∙ ap (λ (n : ℕ). length (encoding n)) (prefix_free d c behind rest is).0
    cases next false p true q k = absurd (false≢true (sym p ∙ x.written c q rest))
    cases next false p false q k = next (omega arith)

-- bytes begin with the encoding of a code point that one of these lines has
abbrev BeginWith : List Line → List ℕ → Type 0
BeginWith ls bytes = (c : ℕ) × (rest : List ℕ) × (1 ≤ lines_with c ls) × (encoding c ++ rest ≡ bytes)

-- they do where these lines find a sequence
among_read : {ls : List Line} → AllExact ls → (bytes : List ℕ) → 1 ≤ sequence_among ls bytes → BeginWith ls bytes
unfolding lines_with sequence_among
among_read none bytes h = absurd (omega arith)
among_read (more {l = l} {ls = ls} x xs) bytes h = cases (λ k. among_read xs bytes k) (begins_with l.sequence bytes) refl h
  where
    cases : (1 ≤ sequence_among ls bytes → BeginWith ls bytes) → (s : Bool) → begins_with l.sequence bytes ≡ s → 1 ≤ cond s (length l.sequence) (sequence_among ls bytes)
        → BeginWith (l ∷ ls) bytes
    cases next true p k = let (c, rest, inside, is) = x.read bytes p in (c, rest, rw inside (omega arith), is)
    cases next false p k = let (c, rest, once, is) = next k in (c, rest, omega arith, is)

-- the encoding of a scalar value is a sequence of the table, as long as it is
sequence_encoding : (c : ℕ) (rest : List ℕ) → is_scalar_value c ≡ true → sequence_length (encoding c ++ rest) ≡ length (encoding c)
sequence_encoding c rest e = among_encoding table c rest (rw (each_once c, e) (omega arith))

-- and a sequence of the table is the encoding of a scalar value
sequence_read : (bytes : List ℕ) → 1 ≤ sequence_length bytes → (c : ℕ) × (rest : List ℕ) × (is_scalar_value c ≡ true) × (encoding c ++ rest ≡ bytes)
sequence_read bytes h =
    let g = among_read table bytes h in
    (g.0, g.1, scalar (is_scalar_value g.0) (subst (λ (n : ℕ). 1 ≤ n) (each_once g.0) g.2), g.3)
  where
    scalar : (s : Bool) → 1 ≤ cond s 1 0 → s ≡ true
    scalar true k = refl
    scalar false k = absurd (omega arith)

-- ---- sequences one behind another

-- a sequence at the start is passed over
sequence_over : (at : ℕ) (s rest : List ℕ) → 1 ≤ length s → sequence_length (s ++ rest) ≡ length s → ill_formed_from at 0 (s ++ rest) ≡ ill_formed_from (at + length s) 0 rest
sequence_over at s rest h e = behind_sequence at (length s) (s ++ rest) (sym e) (λ z. omega arith) ∙ ap (ill_formed_from (at + length s) 0) (drop_at s rest (length s) refl)

-- whether there is an ill-formed sequence doesn't hang on the place where the bytes start
any_place : (at to left : ℕ) (bytes : List ℕ) → is_none (ill_formed_from at left bytes) ≡ is_none (ill_formed_from to left bytes)
unfolding ill_formed_from
any_place at to left [] = refl
any_place at to zero (b ∷ bytes) =
    either (eqb (sequence_length (b ∷ bytes)) 0) (ill_formed_from (suc at) (sequence_length (b ∷ bytes) - 1) bytes) (ill_formed_from (suc to) (sequence_length (b ∷ bytes) - 1) bytes)
    (any_place (suc at) (suc to) (sequence_length (b ∷ bytes) - 1) bytes)
  where
    either : (s : Bool) (x y : Option ℕ) → is_none x ≡ is_none y → is_none (cond s (some at) x) ≡ is_none (cond s (some to) y)
    either true x y e = refl
    either false x y e = e
any_place at to (suc left) (b ∷ bytes) = any_place (suc at) (suc to) left bytes

-- a text that begins with the encoding of a scalar value is well-formed where the rest is
well_formed_more : (c : ℕ) (rest : List ℕ) → is_scalar_value c ≡ true → well_formed (encoding c ++ rest) ≡ well_formed rest
unfolding well_formed
well_formed_more c rest e =
    ap is_none (sequence_over 0 (encoding c) rest (some_byte c) (sequence_encoding c rest e)) ∙ any_place (0 + length (encoding c)) 0 0 rest

-- a well-formed text that isn't empty begins with a sequence of the table
well_formed_begins : (b : ℕ) (bytes : List ℕ) → well_formed (b ∷ bytes) ≡ true → 1 ≤ sequence_length (b ∷ bytes)
unfolding well_formed ill_formed_from
well_formed_begins b bytes e = begun (sequence_length (b ∷ bytes)) (ill_formed_from 1 (sequence_length (b ∷ bytes) - 1) bytes) e
  where
    begun : (n : ℕ) (x : Option ℕ) → is_none (cond (eqb n 0) (some 0) x) ≡ true → 1 ≤ n
    begun zero x k = absurd (false≢true k)
    begun (suc n) x k = omega arith

-- encodings of scalar values are well-formed
encodings_well_formed : (values : List ℕ) → all_scalar_values values ≡ true → well_formed (encodings values) ≡ true
unfolding well_formed ill_formed_from encodings all_scalar_values
encodings_well_formed [] e = refl
encodings_well_formed (c ∷ values) e =
    let h = both_hold (is_scalar_value c) (all_scalar_values values) e in
    well_formed_more c (encodings values) h.0 ∙ encodings_well_formed values h.1

-- the scalar values of a well-formed text, by the most bytes that it may have
values_of : (most : ℕ) (text : List ℕ) → length text ≤ most → well_formed text ≡ true → (values : List ℕ) × Encodes values text
unfolding encodings all_scalar_values
values_of zero [] h e = ([], record { scalar = refl; bytes_are = refl })
values_of zero (b ∷ bytes) h e = absurd (omega arith)
values_of (suc most) [] h e = ([], record { scalar = refl; bytes_are = refl })
values_of (suc most) (b ∷ bytes) h e =
    let (c, rest, scalar, is) = sequence_read (b ∷ bytes) (well_formed_begins b bytes e) in
    let short : length rest ≤ most = omega (arith, some_byte c, simp length-append at (ap length is)) in
    let more = values_of most rest short (sym (well_formed_more c rest scalar) ∙ ap well_formed is ∙ e) in
    (c ∷ more.0, record { scalar = rw scalar more.1.scalar; bytes_are = ap (λ (s : List ℕ). encoding c ++ s) more.1.bytes_are ∙ is })

-- a text is well-formed exactly where it is the encodings of scalar values, one behind another
pub well_formed_exactly : WellFormedExactly
well_formed_exactly text = (
  λ e. values_of (length text) text (omega arith) e,
  λ g. subst (λ (s : List ℕ). well_formed s ≡ true) g.1.bytes_are (encodings_well_formed g.0 g.1.scalar),
)

-- ---- of one list of scalar values

-- code points with the same encodings are the same
encodings_once : (a b : List ℕ) → encodings a ≡ encodings b → a ≡ b
unfolding encodings
encodings_once [] [] e = refl
encodings_once [] (d ∷ b) e = absurd (omega (arith, some_byte d, simp length-append at (ap length e)))
encodings_once (c ∷ a) [] e = absurd (omega (arith, some_byte c, simp length-append at (ap length e)))
encodings_once (c ∷ a) (d ∷ b) e =
    let h = prefix_free c d (encodings a) (encodings b) e in
    ap₂ ◌∷◌ h.0 (encodings_once a b h.1)

-- a well-formed text has one list of scalar values
pub encodes_once : EncodesOnce
encodes_once a b text x y = encodings_once a b (x.bytes_are ∙ sym y.bytes_are)
