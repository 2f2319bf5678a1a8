-- The header at a place of a slice. Assumes nothing.
use mathlib.Core.Path.{◌≡◌, refl, sym, ap, subst, ◌∙◌}
use mathlib.Core.Bool.{Bool, true, false, cond}
use mathlib.Core.List.{List}
use Prim.Native.Nat.{ℕ, ◌+◌, ◌-◌, ◌<◌, ◌≤◌}
use native.Mathlib.Nat.{add-zero}
use native.Mathlib.Omega.{arith}
use lib.Dec.{ltb}
use lib.ListN.{length, take, drop, length-drop}
use lib.Seq.{length-take-le, drop-drop, get_or-drop}
use borrow.Author.Tests.{lt-ltb}
use Rattle.layout.specs.declared.field.FieldPlace.{FieldPlace}
use Rattle.std.specs.Prelude.{Some, None}
use Rattle.layout.specs.Result.{Result, refused, ok}
use Rattle.layout.specs.Bytes.{byte, number, number_at, part}
use Rattle.layout.specs.Field.{Field, content_length, field_at, header}
use Rattle.layout.specs.Place.{placed, header_of, header_at}
use Rattle.layout.proofs.FieldLaws.{header_ok, header_fits}
use Rattle.layout.proofs.ResultLaws.{refused_not_ok}

-- the length in the header at a place
content_at : (l : List ℕ) (at : ℕ) → content_length (drop at l) ≡ number_at 2 l (at + 1)
content_at l at = ap (λ (m : List ℕ). number (take 2 m)) (drop-drop 1 at l)

-- a slice with no room at a place for a header and the content that it says
pub header_cut : (l : List ℕ) (at : ℕ) → length l < at + 3 + number_at 2 l (at + 1) → header_at l at ≡ None
unfolding header
header_cut l at h =
    let m = drop at l in
    let s : length m < 3 + content_length m = omega (arith, length-drop at l, content_at l at) in
    simp (lt-ltb _ _ s) (either (ltb (length m) 3))
  where
    either : (t : Bool) → header_of at (cond t (refused 2) (refused 2)) ≡ None
    either true = refl
    either false = refl

-- a slice with room for them
pub header_found : (l : List ℕ) (at : ℕ) → at + 3 + number_at 2 l (at + 1) ≤ length l
    → header_at l at ≡ Some (record { tag = byte l at; start = at + 3; end = at + 3 + number_at 2 l (at + 1) })
header_found l at h =
    let m = drop at l in
    let k = content_at l at in
    let d = length-drop at l in
    let first : byte m 0 ≡ byte l at = get_or-drop at l 0 0 ∙ ap (byte l) (add-zero at) in
    let size : length (field_at m).content ≡ number_at 2 l (at + 1) = length-take-le (content_length m) (drop 3 m) (omega (arith, length-drop 3 m)) ∙ k in
    ap (header_of at) (header_fits 2 m (omega arith) (omega arith))
    ∙ (λ i. Some (record { tag = first i; start = at + 3; end = at + 3 + size i }))

-- a header that is refused with one number is refused with any other
header_refused : (n m k : ℕ) (l : List ℕ) → header n l ≡ refused k → header m l ≡ refused m
unfolding header
header_refused n m k l p = go (ltb (length l) 3) (ltb (length l) (3 + content_length l)) p
  where
    go : (a b : Bool) → cond a (refused n) (cond b (refused n) (ok (field_at l))) ≡ refused k → cond a (refused m) (cond b (refused m) (ok (field_at l))) ≡ refused m
    go true b q = refl
    go false true q = refl
    go false false q = absurd (refused_not_ok k (field_at l) (sym q))

-- a field that is cut at a place
pub place_cut : (l : List ℕ) (at : ℕ) → header_at l at ≡ None → (n : ℕ) → header n (drop at l) ≡ refused n
place_cut l at p n = go (header 2 (drop at l)) refl p
  where
    go : (r : Result Field) → header 2 (drop at l) ≡ r → header_of at r ≡ None → header n (drop at l) ≡ refused n
    go (refused k) e q = header_refused 2 n k (drop at l) e
    go (ok f) e q = let z : ◌≡◌ {A = ℕ} 0 1 = cc in absurd (omega arith)

-- a field that is found at a place, by its place
pub record FieldThere (l : List ℕ) (at : ℕ) (p : FieldPlace) : Type 0 where
  pub starts : p.start ≡ at + 3
  pub ordered : p.start ≤ p.end
  pub inside : p.end ≤ length l
  pub reads : (n : ℕ) → header n (drop at l) ≡ ok (record { tag = p.tag; content = part l p.start p.end; rest = drop p.end l })

found_injective : {p q : FieldPlace} → Some p ≡ Some q → p ≡ q
found_injective e = cc

-- a field that the header gives, in the slice's terms
there : (l : List ℕ) (at : ℕ) → 3 + content_length (drop at l) ≤ length (drop at l) → FieldThere l at (placed at (field_at (drop at l)))
there l at fits =
    let m = drop at l in
    let k = content_length m in
    let d : length m ≡ length l - at = length-drop at l in
    let size : length (field_at m).content ≡ k = length-take-le k (drop 3 m) (omega (arith, length-drop 3 m)) in
    let wide : at + 3 + length (field_at m).content - (at + 3) ≡ k = omega arith in
    let back : drop 3 m ≡ drop (at + 3) l = drop-drop 3 at l in
    let far : at + (3 + k) ≡ at + 3 + length (field_at m).content = omega arith in
    let behind : drop (3 + k) m ≡ drop (at + 3 + length (field_at m).content) l = drop-drop (3 + k) at l ∙ ap (λ (n : ℕ). drop n l) far in
    let inner : take k (drop 3 m) ≡ part l (at + 3) (at + 3 + length (field_at m).content) =
    ap (take k) back ∙ ap (λ (n : ℕ). take n (drop (at + 3) l)) (sym wide) in
    record {
      starts = refl;
      ordered = omega arith;
      inside = omega arith;
      reads = λ n. header_fits n m (omega arith) fits ∙ (λ i. ok (record { tag = byte m 0; content = inner i; rest = behind i }));
    }

pub place_found : (l : List ℕ) (at : ℕ) (p : FieldPlace) → header_at l at ≡ Some p → FieldThere l at p
place_found l at p h = go (header 2 (drop at l)) refl h
  where
    go : (r : Result Field) → header 2 (drop at l) ≡ r → header_of at r ≡ Some p → FieldThere l at p
    go (refused k) e q = let z : ◌≡◌ {A = ℕ} 0 1 = cc in absurd (omega arith)
    go (ok f) e q =
        let i = header_ok 2 (drop at l) f e in
        let same : placed at (field_at (drop at l)) ≡ p = ap (placed at) (sym i.2) ∙ found_injective q in
        subst (FieldThere l at) same (there l at i.1)
