-- Bytes written at a place: one run behind another. Assumes nothing.
use mathlib.Core.Path.{◌≡◌, refl, sym, ap, ap₂, subst, ◌∙◌}
use mathlib.Core.List.{List, [], ◌∷◌, ◌++◌, append-nil, append_assoc}
use Prim.Native.Nat.{ℕ, ◌+◌, ◌-◌, ◌≤◌}
use native.Mathlib.Nat.{add-zero}
use native.Mathlib.Omega.{arith}
use lib.ListN.{length, take, drop, length-append, length-drop, take-append-drop}
use lib.Seq.{length-take-le, take-append-le, take-take, take_at, drop_at, drop-drop, sets, sets-eq}
use borrow.Rule.Slice.PartMut.{put_mid}
use Rattle.layout.specs.Put.{wrote, Wrote}

-- what stands before the end
front : (out : List ℕ) (at : ℕ) (xs : List ℕ) → at + length xs ≤ length out → length (take at out ++ xs) ≡ at + length xs
front out at xs h = length-append (take at out) xs ∙ ap (λ (n : ℕ). n + length xs) (length-take-le at out (omega arith))

-- writing keeps the length
length_wrote : (out : List ℕ) (at : ℕ) (xs : List ℕ) → at + length xs ≤ length out → length (wrote out at xs) ≡ length out
unfolding wrote
length_wrote out at xs h = omega (arith, length-append (take at out ++ xs) (drop (at + length xs) out), front out at xs h, length-drop (at + length xs) out)

-- two runs side by side are one
side_by_side : (out : List ℕ) (at : ℕ) (xs ys : List ℕ) → take at out ++ xs ++ ys ++ drop (at + length xs + length ys) out ≡ wrote out at (xs ++ ys)
unfolding wrote
side_by_side out at xs ys =
    let n = at + length xs + length ys in
    let size : n ≡ at + length (xs ++ ys) = omega (arith, length-append xs ys) in
    ap (λ (l : List ℕ). l ++ drop n out) (append_assoc (take at out) xs ys) ∙ ap (λ (k : ℕ). take at out ++ (xs ++ ys) ++ drop k out) size

-- one run, then another behind it
wrote_wrote : (out : List ℕ) (at : ℕ) (xs ys : List ℕ) → at + length xs ≤ length out → wrote (wrote out at xs) (at + length xs) ys ≡ wrote out at (xs ++ ys)
unfolding wrote
wrote_wrote out at xs ys h =
    let n = at + length xs in
    let before : take n (wrote out at xs) ≡ take at out ++ xs = take_at (take at out ++ xs) (drop n out) n (front out at xs h) in
    let behind : drop n (wrote out at xs) ≡ drop n out = drop_at (take at out ++ xs) (drop n out) n (front out at xs h) in
    let far : drop (n + length ys) (wrote out at xs) ≡ drop (n + length ys) out =
    sym (drop-drop (length ys) n (wrote out at xs)) ∙ ap (drop (length ys)) behind ∙ drop-drop (length ys) n out in
    ap₂ (λ (a b : List ℕ). a ++ ys ++ b) before far ∙ side_by_side out at xs ys

-- one run, then another right before it
before_wrote : (out : List ℕ) (at : ℕ) (xs ys : List ℕ) → at + length xs ≤ length out → wrote (wrote out (at + length xs) ys) at xs ≡ wrote out at (xs ++ ys)
unfolding wrote
before_wrote out at xs ys h =
    let n = at + length xs in
    let rest = drop (n + length ys) out in
    let long : length (take n out) ≡ n = length-take-le n out h in
    let before : take at (wrote out n ys) ≡ take at out =
    take-append-le at (take n out ++ ys) rest (omega (arith, length-append (take n out) ys)) ∙ take-append-le at (take n out) ys (omega arith) ∙ take-take at n out (omega arith) in
    let behind : drop n (wrote out n ys) ≡ ys ++ rest = ap (drop n) (append_assoc (take n out) ys rest) ∙ drop_at (take n out) (ys ++ rest) n long in
    ap₂ (λ (a b : List ℕ). a ++ xs ++ b) before behind ∙ sym (append_assoc (take at out ++ xs) ys rest) ∙ side_by_side out at xs ys

-- writing nothing
pub wrote_none : {out : List ℕ} {at : ℕ} → at ≤ length out → Wrote out at [] at out
unfolding wrote
wrote_none {out} {at} h = record {
  fits = omega arith;
  ends = sym (add-zero at);
  holds = sym (ap (λ (k : ℕ). take at out ++ [] ++ drop k out) (add-zero at) ∙ ap (λ (l : List ℕ). l ++ drop at out) (append-nil (take at out)) ∙ take-append-drop at out);
}

-- the buffer keeps its length
pub wrote_long : {out : List ℕ} {at : ℕ} {xs : List ℕ} {p : ℕ} {m : List ℕ} → Wrote out at xs p m → length m ≡ length out
wrote_long {out} {at} {xs} w = ap length w.holds ∙ length_wrote out at xs w.fits

-- one run, then another behind it
pub wrote_then : {out : List ℕ} {at : ℕ} {xs ys : List ℕ} {p q : ℕ} {m m' : List ℕ} → Wrote out at xs p m → Wrote m p ys q m' → Wrote out at (xs ++ ys) q m'
wrote_then {out} {at} {xs} {ys} {p} {q} {m} {m'} a b = record {
  fits = omega (arith, length-append xs ys, wrote_long a, a.ends, b.fits);
  ends = omega (arith, length-append xs ys, a.ends, b.ends);
  holds = b.holds ∙ ap₂ (λ (l : List ℕ) (k : ℕ). wrote l k ys) a.holds a.ends ∙ wrote_wrote out at xs ys a.fits;
}

-- one run, then another right before it
pub wrote_before : {out : List ℕ} {at k : ℕ} {xs ys : List ℕ} {p q : ℕ} {m m' : List ℕ} → k ≡ at + length xs → Wrote out k ys q m → Wrote m at xs p m' → Wrote out at (xs ++ ys) q m'
wrote_before {out} {at} {k} {xs} {ys} e a b = record {
  fits = omega (arith, length-append xs ys, a.fits);
  ends = omega (arith, length-append xs ys, a.ends);
  holds = b.holds ∙ ap (λ (l : List ℕ). wrote l at xs) (a.holds ∙ ap (λ (n : ℕ). wrote out n ys) e) ∙ before_wrote out at xs ys (omega (arith, a.fits));
}

-- the same end by another name
pub wrote_to : {out : List ℕ} {at : ℕ} {xs : List ℕ} {p q : ℕ} {m : List ℕ} → q ≡ p → Wrote out at xs p m → Wrote out at xs q m
wrote_to e w = record { fits = w.fits; ends = e ∙ w.ends; holds = w.holds }

-- the same bytes by another name
pub wrote_as : {out : List ℕ} {at : ℕ} {xs ys : List ℕ} {p : ℕ} {m : List ℕ} → xs ≡ ys → Wrote out at xs p m → Wrote out at ys p m
wrote_as {out} {at} {xs} {ys} {p} {m} e w = subst (λ (l : List ℕ). Wrote out at l p m) e w

-- a byte by what it is
pub wrote_byte : {out : List ℕ} {at a b : ℕ} {p : ℕ} {m : List ℕ} → a ≡ b → Wrote out at (a ∷ []) p m → Wrote out at (b ∷ []) p m
wrote_byte e w = wrote_as (ap (λ (x : ℕ). x ∷ []) e) w

-- bytes stored one by one
pub wrote_sets : {out : List ℕ} {at : ℕ} {p : ℕ} {m : List ℕ} (xs : List ℕ) → at + length xs ≤ length out → p ≡ at + length xs → m ≡ sets out at xs → Wrote out at xs p m
unfolding wrote
wrote_sets {out} {at} xs h e s = record { fits = h; ends = e; holds = s ∙ sets-eq xs out at h }

-- some bytes, copied
pub wrote_mid : {out : List ℕ} {at : ℕ} {bytes m : List ℕ} → at + length bytes ≤ length out → m ≡ bytes → Wrote out at bytes (at + length bytes) (put_mid at (at + length bytes - at) out m)
unfolding wrote
wrote_mid {out} {at} {bytes} {m} room e =
    let size : at + length bytes - at ≡ length bytes = omega arith in
    record {
      fits = room;
      ends = refl;
      holds = (λ i. take at out ++ (e i ++ drop (size i) (drop at out))) ∙ ap (λ (rest : List ℕ). take at out ++ (bytes ++ rest)) (drop-drop (length bytes) at out)
          ∙ sym (append_assoc (take at out) bytes (drop (at + length bytes) out));
    }

-- the same room by another name of the bytes
pub room_as : (at n : ℕ) {xs ys : List ℕ} → xs ≡ ys → at + length ys ≤ n → at + length xs ≤ n
room_as at n e h = subst (λ (l : List ℕ). at + length l ≤ n) (sym e) h
