-- The marks of the columns met. Assumes nothing.
use mathlib.Core.Path.{◌≡◌, refl, ap, sym, ◌∙◌}
use mathlib.Core.Bool.{Bool, true, false, cond, not, ◌&&◌, ◌||◌}
use mathlib.Core.List.{List, [], ◌∷◌}
use Prim.Native.Nat.{ℕ, zero, suc, ◌<◌}
use native.Mathlib.Omega.{arith}
use lib.Dec.{eqb}
use lib.ListN.{get_or, set, replicate, length-set, length-replicate}
use lib.Seq.{get_or-set_same, get_or-set_other}
use borrow.Author.Tests.{eqb-true, eqb-false, eq-eqb, ne_eqb, not-true}
use Rattle.layout.proofs.TestLaws.{both_hold}
use Rattle.scalar.specs.declared.types.DataType.{DataType}
use Rattle.scalar.specs.declared.types.DataType.TheVariants.{Boolean, Int32, Int64, Float64, Utf8}
use Rattle.scalar.specs.Types.{type_number, mark_number, same_type}
use Rattle.scalar.proofs.TypeLaws.{same_type_eq}
use Rattle.rule.specs.Tree.{Column}
use Rattle.rule.specs.Reading.{unlike_earlier}
use Rattle.rule.specs.Seen.{mark_of, mark_at, alike, Marked}

-- a type's number is 1 to 5
pub type_bounds : (t : DataType) → (0 < type_number t) × (type_number t < 8)
type_bounds Boolean = (omega arith, omega arith)
type_bounds Int32 = (omega arith, omega arith)
type_bounds Int64 = (omega arith, omega arith)
type_bounds Float64 = (omega arith, omega arith)
type_bounds Utf8 = (omega arith, omega arith)

mark_injective : (a b : Bool) → mark_number a ≡ mark_number b → a ≡ b
mark_injective true true e = refl
mark_injective true false e = absurd (omega arith)
mark_injective false true e = absurd (omega arith)
mark_injective false false e = refl

-- the mark of a column tells its type and whether it is nullable
mark_parts : (c d : Column) → mark_of c ≡ mark_of d → (type_number c.type ≡ type_number d.type) × (mark_number c.nullable ≡ mark_number d.nullable)
mark_parts c d e =
    let a = (type_bounds c.type).1 in
    let b = (type_bounds d.type).1 in
    (omega arith, omega arith)

pub mark_some : (c : Column) → eqb (mark_of c) 0 ≡ false
mark_some c = let a = (type_bounds c.type).0 in ne_eqb (mark_of c) 0 (λ e. omega arith)

like : Column → Column → Bool
like c d = same_type c.type d.type && eqb (mark_number c.nullable) (mark_number d.nullable)

like_marks : (c d : Column) → like c d ≡ eqb (mark_of c) (mark_of d)
unfolding like
like_marks c d = go (eqb (mark_of c) (mark_of d)) refl
  where
    go : (t : Bool) → eqb (mark_of c) (mark_of d) ≡ t → like c d ≡ t
    go true e = let p = mark_parts c d (eqb-true _ _ e) in rw (eq-eqb _ _ p.0, eq-eqb _ _ p.1) refl
    go false e = not_like (like c d) refl
      where
        not_like : (t : Bool) → like c d ≡ t → like c d ≡ false
        not_like false h = h
        not_like true h =
            let b = both_hold (same_type c.type d.type) _ h in
            let p = eqb-true (type_number c.type) (type_number d.type) b.0 in
            let q = eqb-true (mark_number c.nullable) (mark_number d.nullable) b.1 in
            absurd (eqb-false (mark_of c) (mark_of d) e (omega arith))

same_column : (c d : Column) → c.index ≡ d.index → like c d ≡ true → c ≡ d
unfolding like
same_column c d e h =
    let b = both_hold (same_type c.type d.type) _ h in
    let t = same_type_eq c.type d.type b.0 in
    let n = mark_injective c.nullable d.nullable (eqb-true _ _ b.1) in
    λ i. record { index = e i; type = t i; nullable = n i }

-- a column is unlike an earlier one where there is a mark at its index, and not its own
pub unlike_marks : (cols : List Column) (c : Column) → alike cols ≡ true
    → unlike_earlier c cols ≡ (not (eqb (mark_at cols c.index) 0) && not (eqb (mark_at cols c.index) (mark_of c)))
unfolding unlike_earlier mark_at alike like
unlike_marks [] c h = refl
unlike_marks (d ∷ l) c h = go (eqb c.index d.index) refl (unlike_marks l c)
  where
    before : (not (unlike_earlier d l) ≡ true) × (alike l ≡ true)
    before = both_hold (not (unlike_earlier d l)) (alike l) h

    at : (t : Bool) → eqb (mark_of c) (mark_of d) ≡ t → c.index ≡ d.index → (not t || unlike_earlier c l) ≡ not (eqb (mark_of d) (mark_of c))
    at true e i =
        let is = same_column c d i (like_marks c d ∙ e) in
        ap (λ (x : Column). unlike_earlier x l) is ∙ not-true (unlike_earlier d l) before.0 ∙ ap not (sym (eq-eqb (mark_of d) (mark_of c) (sym (eqb-true (mark_of c) (mark_of d) e))))
    at false e i = ap not (sym (ne_eqb (mark_of d) (mark_of c) (λ q. eqb-false (mark_of c) (mark_of d) e (sym q))))

    go : (t : Bool) → eqb c.index d.index ≡ t
        → (alike l ≡ true → unlike_earlier c l ≡ (not (eqb (mark_at l c.index) 0) && not (eqb (mark_at l c.index) (mark_of c))))
        → ((t && not (like c d)) || unlike_earlier c l) ≡ (not (eqb (cond t (mark_of d) (mark_at l c.index)) 0) && not (eqb (cond t (mark_of d) (mark_at l c.index)) (mark_of c)))
    go true e later =
        rw (mark_some d, like_marks c d) (at (eqb (mark_of c) (mark_of d)) refl (eqb-true _ _ e))
    go false e later = later before.1

-- no column met
pub seen_none : Marked [] (replicate 256 0)
unfolding mark_at alike
seen_none = record {
  sized = length-replicate {A = ℕ} 256 0;
  marked = zeros 256;
  all_alike = refl;
}
  where
    zeros : (n i : ℕ) → get_or {A = ℕ} (replicate n 0) i 0 ≡ 0
    zeros zero i = refl
    zeros (suc n) zero = refl
    zeros (suc n) (suc i) = zeros n i

-- one more
pub seen_met : (cols : List Column) (marks : List ℕ) (c : Column) → Marked cols marks → c.index < 256 → unlike_earlier c cols ≡ false
    → Marked (c ∷ cols) (set marks c.index (mark_of c))
unfolding mark_at alike
seen_met cols marks c s k u = record {
  sized = length-set marks c.index (mark_of c) ∙ s.sized;
  marked = λ i. go i (eqb i c.index) refl;
  all_alike = rw u s.all_alike;
}
  where
    go : (i : ℕ) (t : Bool) → eqb i c.index ≡ t → get_or (set marks c.index (mark_of c)) i 0 ≡ cond t (mark_of c) (mark_at cols i)
    go i true e =
        let size = s.sized in
        ap (λ (j : ℕ). get_or (set marks c.index (mark_of c)) j 0) (eqb-true _ _ e)
        ∙ get_or-set_same marks c.index (mark_of c) 0 (omega arith)
    go i false e = get_or-set_other marks c.index i (mark_of c) 0 (eqb-false _ _ e) ∙ s.marked i
