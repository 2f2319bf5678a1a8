-- Offsets that never fall, from one of them on. Assumes nothing.
use mathlib.Core.Path.{◌≡◌, sym, ap, ◌∙◌}
use mathlib.Core.Bool.{Bool, true, false, ◌&&◌}
use mathlib.Core.List.{List}
use Prim.Native.Nat.{ℕ, suc, ◌+◌, ◌-◌, ◌*◌, ◌<◌, ◌≤◌}
use native.Mathlib.Omega.{arith}
use lib.Dec.{leb}
use lib.ListN.{take, drop, length-take}
use lib.Seq.{drop-drop, take_all}
use borrow.Author.Tests.{le-leb, lt-leb}
use Rattle.layout.specs.Bytes.{number, number_at, part}
use Rattle.table.specs.Column.{offset_at}
use Rattle.table.specs.Reading.{never_falls}

-- a number at a place of what is left
pub number_drop : (k : ℕ) (l : List ℕ) (a b : ℕ) → number_at k (drop a l) b ≡ number_at k l (a + b)
number_drop k l a b = ap (λ (m : List ℕ). number (take k m)) (drop-drop b a l)

-- a number of four bytes is that of the part which they are
pub offset_part : (l : List ℕ) (at : ℕ) → number_at 4 (part l at (at + 4)) 0 ≡ number_at 4 l at
offset_part l at =
    let four : at + 4 - at ≡ 4 = omega arith in
    ap (λ (k : ℕ). number (take 4 (take k (drop at l)))) four ∙ ap number (take_all 4 (take 4 (drop at l)) (omega (arith, length-take 4 (drop at l))))

-- what is left from the i-th offset on never falls
abbrev pub Left : List ℕ → ℕ → ℕ → Bool
Left l count i = never_falls (count - i) (drop (4 * i) l)

-- the first test of what is left
left_is : (l : List ℕ) (count i n : ℕ) → count - i ≡ suc n → Left l count i ≡ (leb (offset_at l i) (offset_at l (i + 1)) && Left l count (i + 1))
unfolding never_falls
left_is l count i n e =
    let here : number_at 4 (drop (4 * i) l) 0 ≡ offset_at l i = number_drop 4 l (4 * i) 0 ∙ ap (number_at 4 l) zero_more in
    let next : number_at 4 (drop (4 * i) l) 4 ≡ offset_at l (i + 1) = number_drop 4 l (4 * i) 4 ∙ ap (number_at 4 l) four_more in
    let rest : drop 4 (drop (4 * i) l) ≡ drop (4 * (i + 1)) l = drop-drop 4 (4 * i) l ∙ ap (λ (k : ℕ). drop k l) four_more in
    ap (λ (k : ℕ). never_falls k (drop (4 * i) l)) e
    ∙ (λ j. leb (here j) (next j) && never_falls (fewer j) (rest j))
  where
    zero_more : 4 * i + 0 ≡ 4 * i
    zero_more = omega arith

    four_more : 4 * i + 4 ≡ 4 * (i + 1)
    four_more = omega arith

    fewer : n ≡ count - (i + 1)
    fewer = omega arith

-- one less is left
some_left : (count i : ℕ) → i < count → count - i ≡ suc (count - (i + 1))
some_left count i h = omega arith

pub falls_start : (l : List ℕ) (count : ℕ) → never_falls count l ≡ Left l count 0
falls_start l count = ap (λ (k : ℕ). never_falls k l) (omega arith)

pub falls_next : (l : List ℕ) (count i : ℕ) → i < count → offset_at l i ≤ offset_at l (i + 1) → Left l count i ≡ Left l count (i + 1)
falls_next l count i h p = left_is l count i (count - (i + 1)) (some_left count i h) ∙ simp (le-leb _ _ p)

pub falls_here : (l : List ℕ) (count i : ℕ) → i < count → offset_at l (i + 1) < offset_at l i → Left l count i ≡ false
falls_here l count i h p = left_is l count i (count - (i + 1)) (some_left count i h) ∙ simp (lt-leb _ _ p)

pub falls_end : (l : List ℕ) (count i : ℕ) → count ≤ i → Left l count i ≡ true
unfolding never_falls
falls_end l count i h = ap (λ (k : ℕ). never_falls k (drop (4 * i) l)) none
  where
    none : count - i ≡ 0
    none = omega arith

-- where a loop over the offsets stands: the first i + 1 never fall, and `last` is the i-th
pub record FallsSoFar (l : List ℕ) (count last i : ℕ) : Type 0 where
  pub few : i ≤ count
  pub last_is : last ≡ offset_at l i
  pub same : never_falls count l ≡ Left l count i

pub falls_none : (l : List ℕ) (count last : ℕ) → last ≡ number_at 4 l 0 → FallsSoFar l count last 0
falls_none l count last e = record { few = omega arith; last_is = e; same = falls_start l count }

-- the next offset stands four bytes behind
next_offset : (l : List ℕ) (i next : ℕ) → next ≡ number_at 4 l (4 * i + 4) → next ≡ offset_at l (i + 1)
next_offset l i next e = let four : 4 * i + 4 ≡ 4 * (i + 1) = omega arith in e ∙ ap (number_at 4 l) four

pub falls_more : (l : List ℕ) (count last i next : ℕ) → FallsSoFar l count last i → i < count → next ≡ number_at 4 l (4 * i + 4) → last ≤ next → FallsSoFar l count next (i + 1)
falls_more l count last i next f h e p =
    let is = next_offset l i next e in
    record { few = omega arith; last_is = is; same = f.same ∙ falls_next l count i h (omega (arith, f.last_is, is)) }

pub falls_found : (l : List ℕ) (count last i next : ℕ) → FallsSoFar l count last i → i < count → next ≡ number_at 4 l (4 * i + 4) → next < last → false ≡ never_falls count l
falls_found l count last i next f h e p = sym (f.same ∙ falls_here l count i h (omega (arith, f.last_is, next_offset l i next e)))

pub falls_all : (l : List ℕ) (count last i : ℕ) → FallsSoFar l count last i → count ≤ i → true ≡ never_falls count l
falls_all l count last i f h = sym (f.same ∙ falls_end l count i h)
