-- The entries of a column in slots. Assumes nothing.
use Rattle.std.proofs.Common.{◌≡◌, ℕ, ◌+◌, ◌*◌, ◌%◌, ◌^◌, ◌<◌, Bool, true, false, cond, eqb, List, [], ◌∷◌, sym, refl, ap, ◌∙◌, subst, mod-eq_of_lt}
use types.Run.{OneOf, miss}
use denote.Enum.Declared.{tag_of}
use Rattle.layout.specs.Bytes.{number_at, bit_at}
use Rattle.scalar.specs.contracts.types.DataType.{the_type}
use Rattle.scalar.proofs.FloatLaws.{float_means}
use Rattle.scalar.specs.declared.types.DataType.{DataType}
use Rattle.scalar.specs.declared.types.DataType.TheVariants.{Boolean, Int32, Int64, Float64, Utf8}
use Rattle.scalar.specs.declared.value.Value.{Value}
use Rattle.scalar.specs.declared.value.Value.TheVariants.{Null}
use Rattle.scalar.specs.Entry.{null, boolean, int32, int64, float64, utf8, entry}
use Rattle.scalar.specs.Types.{type_number, mark_number}
use Rattle.scalar.specs.Value.{meaning, value_of}
use Rattle.table.specs.declared.places.ColumnPlace.{ColumnPlace}
use Rattle.table.specs.Column.{valid_in, text_between, value_at, entry_at}
use Rattle.table.specs.Places.{column_in}
use Rattle.table.specs.Parts.{ValueGives}
use Rattle.table.proofs.EntryLaws.{text_row}
use Rattle.case.specs.Frame.{Filled}
use Rattle.case.specs.Taking.{EntryRight}
use Rattle.case.specs.ColumnSlots.{PayloadRight, NumberRight, text_entry, TextRight}
use Rattle.case.proofs.RowsLaws.{filled_as}

-- ---- the payload of a row's value, type by type

-- a mark comes out of its number
mark_back : (b : Bool) → eqb (mark_number b % 2) 1 ≡ b
mark_back true = refl
mark_back false = refl

module _ (t : DataType) (values : List ℕ) (r p : ℕ) where
  of_type_lem : (d : DataType) → t ≡ d → PayloadRight d values r p → PayloadRight t values r p
  of_type_lem d e = subst (λ (x : DataType). PayloadRight x values r p) (sym e)

  pub boolean_payload : (b : Bool) → t ≡ Boolean → b ≡ bit_at values r → p ≡ mark_number b → PayloadRight t values r p
  unfolding value_of value_at
  boolean_payload b e q m = of_type_lem Boolean e (λ n rule table offsets. ap (λ (x : ℕ). meaning rule table (value_of 1 x)) m ∙ ap (λ (x : Bool). entry (boolean x)) (mark_back b ∙ q))

  pub int32_payload : t ≡ Int32 → p ≡ number_at 4 values (4 * r) → p < 2 ^ 32 → PayloadRight t values r p
  unfolding value_of value_at
  int32_payload e q b = of_type_lem Int32 e (λ n rule table offsets. ap (λ (x : ℕ). entry (int32 x)) (mod-eq_of_lt b ∙ q))

  pub int64_payload : t ≡ Int64 → p ≡ number_at 8 values (8 * r) → PayloadRight t values r p
  unfolding value_of value_at
  int64_payload e q = of_type_lem Int64 e (λ n rule table offsets. ap (λ (x : ℕ). entry (int64 x)) q)

  pub float64_payload : t ≡ Float64 → p ≡ number_at 8 values (8 * r) → p < 2 ^ 64 → PayloadRight t values r p
  unfolding value_of value_at
  float64_payload e q b = of_type_lem Float64 e (λ n rule table offsets. float_means p b rule table ∙ ap (λ (x : ℕ). entry (float64 x)) q)

-- ---- by the validity

-- kind and payload of a row's entry
pub number_right : (t : DataType) (validity values : List ℕ) (r k p : ℕ) → k ≡ cond (valid_in validity r) (type_number t) 0 → PayloadRight t values r p → NumberRight t validity values r (value_of k p)
unfolding value_of
number_right t validity values r k p e h n rule table offsets = ap (λ (x : ℕ). meaning rule table (value_of x p)) e ∙ go (valid_in validity r)
  where
    go : (v : Bool) → meaning rule table (value_of (cond v (type_number t) 0) p) ≡ entry (cond v (value_at t offsets values r) null)
    go true = h n rule table offsets
    go false = refl

-- ---- the text of a row

module _ (table validity offsets values : List ℕ) (r : ℕ) {b : Bool} (is : b ≡ valid_in validity r) where
  pub text_valid : (from to : ℕ) (v : Value) → b ≡ true → from ≡ number_at 4 offsets (4 * r) → to ≡ number_at 4 offsets (4 * (r + 1))
      → ValueGives table (utf8 (text_between from to values)) v → ValueGives table (text_entry validity offsets values r) v
  text_valid from to v q p s g =
      subst (λ (x : Bool). ValueGives table (cond x (value_at Utf8 offsets values r) null) v) (sym q ∙ is)
      (text_row table offsets values r from to p s v g)

  pub text_null : b ≡ false → ValueGives table (text_entry validity offsets values r) Null
  text_null q =
      subst (λ (x : Bool). ValueGives table (cond x (value_at Utf8 offsets values r) null) Null) (sym q ∙ is)
      (record { says = λ rule. refl; stores = λ h. tt })

-- ---- a column at its place

-- what the last arm of a `match` on text leaves
abbrev NotText : DataType → Type 0
NotText t = OneOf (0 ∷ 1 ∷ 2 ∷ 3 ∷ []) (tag_of the_type t)

not_text : (t : DataType) → NotText t → t ≡ Utf8 → ⊥
not_text t h e = miss (0 ∷ 1 ∷ 2 ∷ 3 ∷ []) 4 tt (subst NotText e h)

-- the entries of its validity and values are the column's
pub column_filled : (table : List ℕ) (place : ColumnPlace) (validity values : List ℕ) {w : List ℕ} {n : ℕ} {w' : List ℕ}
    → validity ≡ (column_in table place).validity → values ≡ (column_in table place).values → NotText place.data_type
    → Filled (NumberRight place.data_type validity values) w n w' → Filled (EntryRight table place) w n w'
unfolding entry_at
column_filled table place validity values p q h d = filled_as d (λ r v f rule.
    f (not_text place.data_type h) rule table (column_in table place).offsets
    ∙ (λ i. entry (cond (valid_in (p i) r) (value_at place.data_type (column_in table place).offsets (q i) r) null)))

-- and so are the texts of its validity and offsets
pub texts_filled : (table : List ℕ) (place : ColumnPlace) (validity offsets : List ℕ) {w : List ℕ} {n : ℕ} {w' : List ℕ}
    → validity ≡ (column_in table place).validity → offsets ≡ (column_in table place).offsets → place.data_type ≡ Utf8
    → Filled (TextRight table validity offsets (column_in table place).values) w n w' → Filled (EntryRight table place) w n w'
unfolding entry_at
texts_filled table place validity offsets p q t d = filled_as d (λ r v f rule.
    f rule ∙ (λ i. entry (cond (valid_in (p i) r) (value_at (sym t i) (q i) (column_in table place).values r) null)))
