-- Parts of slices. Assumes nothing.
use mathlib.Core.Path.{◌≡◌, refl, sym, ap, subst, ◌∙◌}
use mathlib.Core.Bool.{Bool, true, false, cond}
use mathlib.Core.List.{List, ◌++◌}
use Prim.Native.Nat.{ℕ, ◌+◌, ◌-◌, ◌<◌, min}
use native.Mathlib.Omega.{arith}
use lib.ListN.{length, take, drop, length-take, length-drop}
use lib.Dec.{leb}
use lib.Seq.{get_or-take, get_or-drop, ext_get_or, sets}
use Rattle.std.proofs.lemmas.List.Edits.{sets-eq}
use borrow.Author.Tests.{leb-true}
use Rattle.layout.specs.Bytes.{byte, part, number_bytes, Written, PartWritten}

-- how long a part is
pub length_part : (l : List ℕ) (from to : ℕ) → length (part l from to) ≡ min (to - from) (length l - from)
length_part l from to = simp (length-take, length-drop)

-- a byte of a part is a byte of the slice
pub part_byte : (l : List ℕ) (from to i : ℕ) → i < to - from → byte (part l from to) i ≡ byte l (from + i)
part_byte l from to i h = rw (get_or-take, get_or-drop)

-- a part, cut at the slice's end
pub part_cut : (l : List ℕ) (from to end start : ℕ) → end ≡ min to (length l) → start ≡ min from end → part l start end ≡ part l from to
part_cut l from to end start e s =
    let size : length (part l start end) ≡ end - start = length_part l start end ∙ within in
    ext_get_or 0 (part l start end) (part l from to) (size ∙ asked ∙ sym (length_part l from to)) (λ i h. byte_at i (subst (λ (n : ℕ). i < n) size h))
  where
    within : min (end - start) (length l - start) ≡ end - start
    within = omega arith

    asked : end - start ≡ min (to - from) (length l - from)
    asked = omega arith

    byte_at : (i : ℕ) → i < end - start → byte (part l start end) i ≡ byte (part l from to) i
    byte_at i h =
        let same : start + i ≡ from + i = omega arith in
        part_byte l start end i h ∙ ap (byte l) same ∙ sym (part_byte l from to i (omega arith))

-- a number's bytes in a part
pub number_written : (k : ℕ) {l : List ℕ} {at n : ℕ} {bytes : List ℕ} {done : Bool} {l' : List ℕ} → bytes ≡ number_bytes k n → length bytes ≡ k → PartWritten l at bytes done l'
    → Written k l at n done l'
number_written k {l} {at} {n} {bytes} {done} {l'} same size p = record {
  says = p.says ∙ ap (λ (m : ℕ). leb (at + m) (length l)) size;
  holds = p.holds ∙ go done p.says;
}
  where
    go : (t : Bool) → t ≡ leb (at + length bytes) (length l) → cond t (take at l ++ bytes ++ drop (at + length bytes) l) l ≡ cond t (sets l at (number_bytes k n)) l
    go false e = refl
    go true e = sym (sets-eq bytes l at (leb-true _ _ (sym e))) ∙ ap (sets l at) same
