-- The steps of reading a column, beside their definitions. Assumes nothing.
use mathlib.Core.Path.{◌≡◌, sym, ap, ◌∙◌}
use mathlib.Core.Bool.{Bool, true, false, ◌||◌}
use mathlib.Core.List.{List, []}
use Prim.Native.Nat.{ℕ, suc, ◌+◌, ◌-◌, ◌*◌, ◌≤◌}
use native.Mathlib.Omega.{arith}
use lib.Dec.{eqb}
use lib.ListN.{length, take, drop}
use borrow.Author.Tests.{eq-eqb, ne_eqb}
use Rattle.std.specs.Prelude.{Ok, Err, Some, None}
use Rattle.layout.specs.declared.refusal.Refusal.{Refusal}
use Rattle.layout.specs.declared.refusal.Refusal.TheVariants.{TableFields, TableContent}
use Rattle.layout.specs.Refusals.{number_of}
use Rattle.layout.specs.Result.{Result, refused, ok, ◌>>=◌, require}
use Rattle.layout.specs.Bytes.{part, bitmap_length}
use Rattle.layout.specs.Field.{Field}
use Rattle.layout.specs.Place.{header_at}
use Rattle.layout.specs.declared.field.FieldPlace.{FieldPlace}
use Rattle.layout.proofs.PlaceLaws.{place_cut, place_found}
use Rattle.layout.proofs.PartLaws.{length_part}
use Rattle.table.specs.declared.places.Part.{Part as PartPlace}
use Rattle.table.specs.Column.{offset_at}
use Rattle.table.specs.Reading.{Part, tagged, tagged_pair, read_validity, never_falls, read_text_offsets}
use Rattle.table.specs.Places.{Inside}
use Rattle.table.specs.Parts.{FieldGives, PartGives, values_of_length}

-- ---- the field of a tag

pub field_cut : (l : List ℕ) (at tag : ℕ) → header_at l at ≡ None → FieldGives l tag (tagged tag (drop at l)) (Err TableFields)
unfolding tagged
field_cut l at tag p = record { says = sym (ap (λ (r : Result Field). r >>= λ f. require (eqb f.tag tag) 9 >>= λ _. ok f) (place_cut l at p 9)); inside = tt }

-- what a field that was found gives behind its header
tagged_is : (l : List ℕ) (at tag : ℕ) (p : FieldPlace) → header_at l at ≡ Some p
    → tagged tag (drop at l) ≡ (require (eqb p.tag tag) 9 >>= λ _. ok (record { tag = p.tag; content = part l p.start p.end; rest = drop p.end l }))
unfolding tagged
tagged_is l at tag p h = ap (λ (r : Result Field). r >>= λ f. require (eqb f.tag tag) 9 >>= λ _. ok f) ((place_found l at p h).reads 9)

pub field_found : (l : List ℕ) (at tag : ℕ) (p : FieldPlace) → header_at l at ≡ Some p → p.tag ≡ tag
    → FieldGives l tag (tagged tag (drop at l)) (Ok (record { start = p.start; end = p.end }))
field_found l at tag p h e = record {
  says = sym (tagged_is l at tag p h ∙ simp (eq-eqb _ _ e) (λ i. ok (record { tag = e i; content = part l p.start p.end; rest = drop p.end l })));
  inside = record { ordered = (place_found l at p h).ordered; in_bytes = (place_found l at p h).inside };
}

pub field_other : (l : List ℕ) (at tag : ℕ) (p : FieldPlace) → header_at l at ≡ Some p → (p.tag ≡ tag → ⊥) → FieldGives l tag (tagged tag (drop at l)) (Err TableFields)
field_other l at tag p h n = record { says = sym (tagged_is l at tag p h ∙ simp (ne_eqb _ _ n)); inside = tt }

-- ---- a step behind the field of a tag

-- the field was refused
pub behind_refused : {l : List ℕ} {tag : ℕ} {definition : Result Field} {e : Refusal} → FieldGives l tag definition (Err e) → {B : Type 0} (step : Field → Result B)
    → (definition >>= step) ≡ refused (number_of e)
behind_refused g step = ap (λ (d : Result Field). d >>= step) (sym g.says)

-- the field stands at a place
pub behind_field : {l : List ℕ} {tag : ℕ} {definition : Result Field} {p : PartPlace} → FieldGives l tag definition (Ok p) → {B : Type 0} (step : Field → Result B)
    → (definition >>= step) ≡ step (record { tag = tag; content = part l p.start p.end; rest = drop p.end l })
behind_field g step = ap (λ (d : Result Field). d >>= step) (sym g.says)

-- the length of a part that lies in the bytes
pub inside_length : (l : List ℕ) (p : PartPlace) → Inside (length l) p.start p.end → length (part l p.start p.end) ≡ p.end - p.start
inside_length l p i = length_part l p.start p.end ∙ omega (arith, i.ordered, i.in_bytes)

-- ---- tag 1 or 2 of two bytes

module _ {l : List ℕ} (at : ℕ) {tag : ℕ} where
  pub pair_refused : {e : Refusal} → FieldGives l tag (tagged tag (drop at l)) (Err e) → FieldGives l tag (tagged_pair tag (drop at l)) (Err e)
  unfolding tagged_pair
  pair_refused g = record { says = sym (behind_refused g _); inside = tt }

  pub pair_two : {p : PartPlace} → FieldGives l tag (tagged tag (drop at l)) (Ok p) → p.end - p.start ≡ 2 → FieldGives l tag (tagged_pair tag (drop at l)) (Ok p)
  unfolding tagged_pair
  pair_two {p} g two =
      let size : length (part l p.start p.end) ≡ 2 = inside_length l p g.inside ∙ two in
      record { says = sym (behind_field g _ ∙ simp (eq-eqb _ _ size)); inside = g.inside }

  pub pair_other : {p : PartPlace} → FieldGives l tag (tagged tag (drop at l)) (Ok p) → (p.end - p.start ≡ 2 → ⊥) → FieldGives l tag (tagged_pair tag (drop at l)) (Err TableFields)
  unfolding tagged_pair
  pair_other {p} g n =
      let size : length (part l p.start p.end) ≡ 2 → ⊥ = λ q. n (sym (inside_length l p g.inside) ∙ q) in
      record { says = sym (behind_field g _ ∙ simp (ne_eqb _ _ size)); inside = tt }

-- ---- parts

-- a part of a column behind its tag, if its length passes a test
abbrev part_behind : (ℕ → Bool) → Field → Result (Part (List ℕ))
part_behind test f = require (test (length f.content)) 11 >>= λ _. ok (record { part = f.content; rest = f.rest })

module _ {l : List ℕ} (at : ℕ) {tag : ℕ} (test : ℕ → Bool) where
  part_refused : {e : Refusal} → FieldGives l tag (tagged tag (drop at l)) (Err e) → PartGives l (tagged tag (drop at l) >>= part_behind test) (Err e)
  part_refused g = record { says = sym (behind_refused g _); inside = tt }

  module _ {p : PartPlace} (g : FieldGives l tag (tagged tag (drop at l)) (Ok p)) where
    part_taken : test (p.end - p.start) ≡ true → PartGives l (tagged tag (drop at l) >>= part_behind test) (Ok p)
    part_taken t =
        let t' : test (length (part l p.start p.end)) ≡ true = ap test (inside_length l p g.inside) ∙ t in
        record { says = sym (behind_field g _ ∙ simp t'); inside = g.inside }

    part_left : test (p.end - p.start) ≡ false → PartGives l (tagged tag (drop at l) >>= part_behind test) (Err TableContent)
    part_left t =
        let t' : test (length (part l p.start p.end)) ≡ false = ap test (inside_length l p g.inside) ∙ t in
        record { says = sym (behind_field g _ ∙ simp t'); inside = tt }

-- tag 3
abbrev validity_test : ℕ → ℕ → Bool
validity_test rows n = eqb n 0 || eqb n (bitmap_length rows)

module _ {l : List ℕ} (at rows : ℕ) where
  pub validity_refused : {e : Refusal} → FieldGives l 3 (tagged 3 (drop at l)) (Err e) → PartGives l (read_validity rows (drop at l)) (Err e)
  unfolding read_validity
  validity_refused = part_refused at (validity_test rows)

  module _ {p : PartPlace} (g : FieldGives l 3 (tagged 3 (drop at l)) (Ok p)) where
    pub validity_none : p.end - p.start ≡ 0 → PartGives l (read_validity rows (drop at l)) (Ok p)
    unfolding read_validity
    validity_none z = part_taken at (validity_test rows) g (simp (eq-eqb _ _ z))

    pub validity_bits : (p.end - p.start ≡ 0 → ⊥) → p.end - p.start ≡ bitmap_length rows → PartGives l (read_validity rows (drop at l)) (Ok p)
    unfolding read_validity
    validity_bits n q = part_taken at (validity_test rows) g (simp (ne_eqb _ _ n, eq-eqb _ _ q))

    pub validity_other : (p.end - p.start ≡ 0 → ⊥) → (p.end - p.start ≡ bitmap_length rows → ⊥) → PartGives l (read_validity rows (drop at l)) (Err TableContent)
    unfolding read_validity
    validity_other n m = part_left at (validity_test rows) g (simp (ne_eqb _ _ n, ne_eqb _ _ m))

-- tag 4
module _ {l : List ℕ} (at size : ℕ) where
  pub values_refused : {e : Refusal} → FieldGives l 4 (tagged 4 (drop at l)) (Err e) → PartGives l (values_of_length size (drop at l)) (Err e)
  unfolding values_of_length
  values_refused = part_refused at (λ n. eqb n size)

  module _ {p : PartPlace} (g : FieldGives l 4 (tagged 4 (drop at l)) (Ok p)) where
    pub values_taken : p.end - p.start ≡ size → PartGives l (values_of_length size (drop at l)) (Ok p)
    unfolding values_of_length
    values_taken q = part_taken at (λ n. eqb n size) g (eq-eqb _ _ q)

    pub values_other : (p.end - p.start ≡ size → ⊥) → PartGives l (values_of_length size (drop at l)) (Err TableContent)
    unfolding values_of_length
    values_other n = part_left at (λ n. eqb n size) g (ne_eqb _ _ n)

-- tag 5
module _ {l : List ℕ} (at rows : ℕ) where
  pub offsets_refused : {e : Refusal} → FieldGives l 5 (tagged 5 (drop at l)) (Err e) → PartGives l (read_text_offsets rows (drop at l)) (Err e)
  unfolding read_text_offsets
  offsets_refused g = record { says = sym (behind_refused g _); inside = tt }

  module _ {p : PartPlace} (g : FieldGives l 5 (tagged 5 (drop at l)) (Ok p)) where
    pub offsets_length : (p.end - p.start ≡ 4 * (rows + 1) → ⊥) → PartGives l (read_text_offsets rows (drop at l)) (Err TableContent)
    unfolding read_text_offsets
    offsets_length n =
        let n' : length (part l p.start p.end) ≡ 4 * suc rows → ⊥ = λ q. n (sym (inside_length l p g.inside) ∙ q ∙ omega arith) in
        record { says = sym (behind_field g _ ∙ simp (ne_eqb _ _ n')); inside = tt }

    module _ (size : p.end - p.start ≡ 4 * (rows + 1)) where
      long : length (part l p.start p.end) ≡ 4 * suc rows
      long = inside_length l p g.inside ∙ size ∙ omega arith

      pub offsets_first : (offset_at (part l p.start p.end) 0 ≡ 0 → ⊥) → PartGives l (read_text_offsets rows (drop at l)) (Err TableContent)
      unfolding read_text_offsets
      offsets_first n = record { says = sym (behind_field g _ ∙ simp (eq-eqb _ _ long, ne_eqb _ _ n)); inside = tt }

      module _ (z : offset_at (part l p.start p.end) 0 ≡ 0) where
        pub offsets_fall : never_falls rows (part l p.start p.end) ≡ false → PartGives l (read_text_offsets rows (drop at l)) (Err TableContent)
        unfolding read_text_offsets
        offsets_fall f = record { says = sym (behind_field g _ ∙ simp (eq-eqb _ _ long, eq-eqb _ _ z, f)); inside = tt }

        pub offsets_taken : never_falls rows (part l p.start p.end) ≡ true → PartGives l (read_text_offsets rows (drop at l)) (Ok p)
        unfolding read_text_offsets
        offsets_taken f = record { says = sym (behind_field g _ ∙ simp (eq-eqb _ _ long, eq-eqb _ _ z, f)); inside = g.inside }

-- a column that has no tag 5
pub offsets_none : (l : List ℕ) (at : ℕ) → at ≤ length l → PartGives l (ok (record { part = []; rest = drop at l })) (Ok (record { start = at; end = at }))
offsets_none l at h =
    let none : at - at ≡ 0 = omega arith in
    record {
      says = λ i. ok (record { part = take (none i) (drop at l); rest = drop at l });
      inside = record { ordered = omega arith; in_bytes = h };
    }
