-- Sequence by sequence: where the first ill-formed one stands, and that ASCII has none. Assumes nothing.
use mathlib.Core.Path.{◌≡◌, refl, sym, ap, ◌∙◌}
use mathlib.Core.Bool.{Bool, true, false, cond, false≢true}
use mathlib.Core.List.{List, [], ◌∷◌}
use mathlib.Core.Option.{Option, some, none}
use Prim.Native.Nat.{ℕ, zero, suc, ◌+◌, ◌-◌, ◌<◌, ◌≤◌}
use native.Mathlib.Omega.{arith}
use lib.ListN.{length, get_or, take, drop, length-drop}
use lib.Seq.{drop-drop, take_all}
use borrow.Author.Tests.{eq-eqb, ne_eqb}
use Rattle.layout.proofs.TestLaws.{both_hold}
use Rattle.utf8.specs.WellFormed.{Range, within, Line, byte_sequences, begins_with, sequence_among, sequence_length, ill_formed_from, ill_formed, is_none, well_formed}
use Rattle.utf8.specs.Ascii.{ascii_length, ascii_end}
use Rattle.std.specs.Prelude.{Ok, Err, is_ok, Option as RustOption, Some, None}
use Rattle.utf8.specs.Answers.{validation, some_length}
use Rattle.utf8.proofs.SequenceLaws.{of_ascii}
use Rattle.utf8.proofs.AsciiLaws.{ascii_length_lem, ascii_each, ascii_rest, ascii_all, end_most}

-- ---- a sequence stands in its bytes

begins_most : (s : List Range) (l : List ℕ) → begins_with s l ≡ true → length s ≤ length l
unfolding begins_with
begins_most [] l p = omega arith
begins_most (r ∷ rs) [] p = absurd (false≢true p)
begins_most (r ∷ rs) (b ∷ l) p = let q = begins_most rs l (both_hold (within r b) (begins_with rs l) p).1 in omega arith

among_most : (ls : List Line) (l : List ℕ) → sequence_among ls l ≤ length l
unfolding sequence_among
among_most [] l = omega arith
among_most (x ∷ ls) l = go (begins_with x.sequence l) (begins_most x.sequence l) (among_most ls l)
  where
    go : (t : Bool) → (t ≡ true → length x.sequence ≤ length l) → sequence_among ls l ≤ length l → cond t (length x.sequence) (sequence_among ls l) ≤ length l
    go true p r = p refl
    go false p r = r

pub sequence_most : (l : List ℕ) → sequence_length l ≤ length l
sequence_most l = among_most byte_sequences l

-- ---- behind a sequence

-- what is left of a sequence is passed over
left_over : (at k : ℕ) (l : List ℕ) → k ≤ length l → ill_formed_from at k l ≡ ill_formed_from (at + k) 0 (drop k l)
unfolding ill_formed_from
left_over at zero l h = let e : at ≡ at + 0 = omega arith in ap (λ (n : ℕ). ill_formed_from n 0 l) e
left_over at (suc k) [] h = absurd (omega arith)
left_over at (suc k) (b ∷ l) h = let e : suc at + k ≡ at + suc k = omega arith in left_over (suc at) k l (omega arith) ∙ ap (λ (n : ℕ). ill_formed_from n 0 (drop k l)) e

-- behind a sequence the next one is looked at
pub behind_sequence : (at n : ℕ) (l : List ℕ) → n ≡ sequence_length l → (n ≡ 0 → ⊥) → ill_formed_from at 0 l ≡ ill_formed_from (at + n) 0 (drop n l)
unfolding ill_formed_from
behind_sequence at n [] is Some-of = absurd (Some-of (omega (arith, sequence_most [])))
behind_sequence at zero (b ∷ l) is Some-of = absurd (Some-of refl)
behind_sequence at (suc n) (b ∷ l) is Some-of =
    let m = sequence_most (b ∷ l) in
    let e : sequence_length (b ∷ l) - 1 ≡ n = omega arith in
    let up : suc at + n ≡ at + suc n = omega arith in
    ap (λ (x : Bool). cond x (some at) (ill_formed_from (suc at) (sequence_length (b ∷ l) - 1) l)) (ne_eqb (sequence_length (b ∷ l)) 0 (λ z. Some-of (is ∙ z)))
    ∙ ap (λ (k : ℕ). ill_formed_from (suc at) k l) e
    ∙ left_over (suc at) n l (omega arith)
    ∙ ap (λ (x : ℕ). ill_formed_from x 0 (drop n l)) up

-- where none begins, the first ill-formed one stands
pub no_sequence : (at : ℕ) (l : List ℕ) → 0 < length l → 0 ≡ sequence_length l → ill_formed_from at 0 l ≡ some at
unfolding ill_formed_from
no_sequence at [] h is = absurd (omega arith)
no_sequence at (b ∷ l) h is = ap (λ (x : Bool). cond x (some at) (ill_formed_from (suc at) (sequence_length (b ∷ l) - 1) l)) (eq-eqb (sequence_length (b ∷ l)) 0 (sym is))

-- at the end there is none
pub at_end : (at : ℕ) (l : List ℕ) → length l ≡ 0 → ill_formed_from at 0 l ≡ none
unfolding ill_formed_from
at_end at [] h = refl
at_end at (b ∷ l) h = absurd (omega arith)

-- ASCII is passed over
over_ascii : (at k : ℕ) (l : List ℕ) → k ≤ ascii_length l → ill_formed_from at 0 l ≡ ill_formed_from (at + k) 0 (drop k l)
over_ascii at zero l h = let e : at ≡ at + 0 = omega arith in ap (λ (n : ℕ). ill_formed_from n 0 l) e
over_ascii at (suc k) [] h = absurd (omega (arith, ascii_length_lem []))
over_ascii at (suc k) (b ∷ l) h =
    let low : b < 0x80 = ascii_each (b ∷ l) 0 (omega arith) in
    let one : 1 ≡ sequence_length (b ∷ l) = sym (of_ascii b l low) in
    let up : at + 1 + k ≡ at + suc k = omega arith in
    let rest : k ≤ ascii_length l = ascii_rest b l k h in
    behind_sequence at 1 (b ∷ l) one (λ z. omega arith) ∙ over_ascii (at + 1) k l rest ∙ ap (λ (x : ℕ). ill_formed_from x 0 (drop k l)) up

-- ---- turn by turn

-- the text from a place on decides
abbrev pub From : List ℕ → ℕ → Type 0
From text at = ill_formed text ≡ ill_formed_from at 0 (drop at text)

-- from a place on to the end of the ASCII there
pub from_ascii : (text : List ℕ) (at end : ℕ) → From text at → end ≡ ascii_end text at → From text end
from_ascii text at end h is =
    let n = ascii_length (drop at text) in
    rw is (h ∙ over_ascii at n (drop at text) (omega arith) ∙ ap (ill_formed_from (at + n) 0) (drop-drop n at text))

pub from_start : (text : List ℕ) → From text 0
from_start text = refl

-- behind a sequence
pub from_sequence : (text : List ℕ) (at size : ℕ) → From text at → size ≡ sequence_length (drop at text) → (size ≡ 0 → ⊥) → From text (at + size)
from_sequence text at size h is more = h ∙ behind_sequence at size (drop at text) is more ∙ ap (ill_formed_from (at + size) 0) (drop-drop size at text)

pub from_size : (text : List ℕ) (at size : ℕ) → at ≤ length text → size ≡ sequence_length (drop at text) → at + size ≤ length text
from_size text at size h is = let m = sequence_most (drop at text) in let e = length-drop at text in omega arith

-- what is left of a text, as it is lent
pub rest_of : (text : List ℕ) (at : ℕ) → sequence_length (take (length text - at) (drop at text)) ≡ sequence_length (drop at text)
rest_of text at = let e = length-drop at text in ap sequence_length (take_all (length text - at) (drop at text) (omega arith))

-- from a place in the text on to the end of the ASCII there, which is in the text
pub from_here : (text : List ℕ) (at end : ℕ) → From text at → at ≤ length text → end ≡ ascii_end text at → From text end × (end ≤ length text)
from_here text at end h k is = let m = end_most text at k in (from_ascii text at end h is, omega arith)

-- a sequence that is there has its length, and one that isn't has none
pub length_there : (n : ℕ) {o : RustOption ℕ} {size : ℕ} → o ≡ some_length n → o ≡ Some size → (size ≡ n) × (size ≡ 0 → ⊥)
length_there n {o} {size} e is = go n (sym is ∙ e)
  where
    go : (n : ℕ) → Some size ≡ some_length n → (size ≡ n) × (size ≡ 0 → ⊥)
    go zero p = let z : ◌≡◌ {A = ℕ} 0 1 = cc in absurd (omega arith)
    go (suc n) p = let same : size ≡ suc n = cc in (same, λ z. omega arith)

pub length_missing : (n : ℕ) {o : RustOption ℕ} → o ≡ some_length n → o ≡ None → 0 ≡ n
length_missing n {o} e is = go n (sym is ∙ e)
  where
    go : (n : ℕ) → None ≡ some_length n → 0 ≡ n
    go zero p = refl
    go (suc n) p = let z : ◌≡◌ {A = ℕ} 0 1 = cc in absurd (omega arith)

-- the answers
pub found_ill : (text : List ℕ) (at size : ℕ) → From text at → at < length text → size ≡ sequence_length (drop at text) → size ≡ 0 → Err (record { place = at }) ≡ validation (ill_formed text)
found_ill text at size h k is z =
    let e = length-drop at text in
    ap validation (sym (h ∙ no_sequence at (drop at text) (omega arith) (sym z ∙ is)))

pub found_none : (text : List ℕ) (at : ℕ) → From text at → length text ≤ at → Ok tt ≡ validation (ill_formed text)
found_none text at h k = let e = length-drop at text in ap validation (sym (h ∙ at_end at (drop at text) (omega arith)))

-- as a test
pub told : (text : List ℕ) → is_ok (validation (ill_formed text)) ≡ well_formed text
unfolding well_formed
told text = go (ill_formed text)
  where
    go : (o : Option ℕ) → is_ok (validation o) ≡ is_none o
    go none = refl
    go (some n) = refl

-- a text of ASCII alone is well-formed
pub ascii_well_formed : (text : List ℕ) → ((i : ℕ) → i < length text → get_or text i 0 < 128) → well_formed text ≡ true
unfolding well_formed
ascii_well_formed text each =
    let all : length text ≤ ascii_length text = ascii_all text each in
    let e = length-drop (length text) text in
    ap is_none (over_ascii 0 (length text) text all ∙ at_end (0 + length text) (drop (length text) text) (omega arith))
