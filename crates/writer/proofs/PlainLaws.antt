-- Rows that each have a number of the answer's type: their payloads are its column. Assumes nothing.
use mathlib.Core.Path.{◌≡◌, refl, sym, ap, ap₂, ◌∙◌}
use mathlib.Core.Bool.{Bool, true, false, cond, not}
use mathlib.Core.List.{List, [], ◌∷◌, ◌++◌, append_assoc}
use Prim.Native.Nat.{ℕ, zero, suc, ◌+◌, ◌-◌, ◌*◌, ◌^◌, ◌<◌, ◌≤◌}
use native.Mathlib.Nat.{pow-le-pow_right}
use native.Mathlib.Omega.{arith}
use lib.Dec.{eqb}
use lib.Ieee.{binary64, of_bits, nan_bits}
use lib.ListN.{length, take, drop, get_or, length-append, length-take}
use borrow.Author.Tests.{ne_eqb}
use Rattle.layout.specs.Bytes.{Bytes, number, number_bytes}
use Rattle.layout.specs.Field.{field_bytes}
use Rattle.layout.proofs.BytesLaws.{length_number_bytes, number_below, bytes_take, bytes_drop}
use Rattle.scalar.specs.declared.types.DataType.{DataType}
use Rattle.scalar.specs.declared.value.Value.{Value}
use Rattle.scalar.specs.declared.value.Value.TheVariants.{Float64, Nan}
use Rattle.scalar.specs.Types.{type_number, mark_number}
use Rattle.scalar.specs.Entry.{Outcome}
use Rattle.scalar.specs.Value.{float_value, value_of, kind_of}
use Rattle.scalar.specs.Order.{text_in}
use Rattle.scalar.specs.TryCast.{or_null}
use Rattle.scalar.proofs.FloatLaws.{float_means}
use Rattle.std.specs.Prelude.{Ok, Err}
use Rattle.layout.specs.declared.refusal.Refusal.TheVariants.{OutputSize}
use Rattle.layout.specs.Put.{Wrote}
use Rattle.writer.specs.Answer.{number_in}
use Rattle.writer.specs.Write.{WriteGives, ClassesAsk, PlainRows, slot_kind, slot_payload, class_payload}
use Rattle.writer.specs.Writing.{row_bytes, some_of_kind, number_of, width_of, row_numbers, row_text, row_values, row_column, plain_numbers, plain_front, validity_size, values_size}
use Rattle.layout.proofs.FieldLaws.{length_field}
use Rattle.layout.proofs.PutLaws.{wrote_as, wrote_then, wrote_long}
use Rattle.writer.proofs.WroteLaws.{length_rows, rows_same, numbers_long, low_bytes}
use Rattle.writer.proofs.RowKindLaws.{any_none}
use Rattle.writer.proofs.ColumnPutLaws.{rows_empty, empty_field, count_size_lem}
use Rattle.writer.proofs.RowCountLaws.{nulls_none}
use Rattle.writer.proofs.ColumnLaws.{number_of_lem}
use Rattle.writer.proofs.SlotRunLaws.{gives_17, gives_answer}

-- ---- the value of a number's kind and a payload

-- its kind, its bytes, and no text
record NumberIs (k p : ℕ) (v : Value) : Type 0 where
  kind_is : kind_of v ≡ k
  no_text : (rule table : List ℕ) → text_in rule table v ≡ []
  bytes_are : (wide : Bool) → wide ≡ not (eqb k 2) → number_bytes (width_of wide) (number_of v) ≡ number_bytes (width_of wide) p

-- a float's
float_is : (p : ℕ) → p < 2 ^ 64 → NumberIs 4 p (float_value p)
float_is p h = record { kind_is = kind (nan_bits binary64 p); no_text = λ rule table. text rule table (nan_bits binary64 p); bytes_are = λ wide w. ap (number_bytes (width_of wide)) number }
  where
    kind : (nan : Bool) → kind_of (cond nan (Nan p) (Float64 (of_bits binary64 p))) ≡ 4
    kind true = refl
    kind false = refl

    text : (rule table : List ℕ) (nan : Bool) → text_in rule table (cond nan (Nan p) (Float64 (of_bits binary64 p))) ≡ []
    text rule table true = refl
    text rule table false = refl

    number : number_of (float_value p) ≡ p
    number = sym (number_of_lem [] [] (float_value p)) ∙ ap (λ (o : Outcome). number_in (or_null o)) (float_means p h [] [])

-- any number's
number_is : (k p : ℕ) → 2 ≤ k → k ≤ 4 → p < 2 ^ 64 → NumberIs k p (value_of k p)
unfolding value_of
number_is zero p a b h = absurd (omega arith)
number_is (suc zero) p a b h = absurd (omega arith)
number_is (suc (suc zero)) p a b h = record { kind_is = refl; no_text = λ rule table. refl; bytes_are = λ wide w. rw w (low_bytes p) }
number_is (suc (suc (suc zero))) p a b h = record { kind_is = refl; no_text = λ rule table. refl; bytes_are = λ wide w. refl }
number_is (suc (suc (suc (suc zero)))) p a b h = float_is p h
number_is (suc (suc (suc (suc (suc k))))) p a b h = absurd (omega arith)

-- ---- how wide a type's numbers are

-- all but Int32 take eight bytes
abbrev wide_type : DataType → Bool
wide_type t = not (eqb (type_number t) 2)

-- by the type's number
pub wide_is : {n : ℕ} (t : DataType) → n ≡ type_number t → not (eqb n 2) ≡ wide_type t
wide_is t e = ap (λ (k : ℕ). not (eqb k 2)) e

-- the fields of a number type
values_number : (rule table : List ℕ) (v : ℕ → Value) (rows : ℕ) (t : DataType) → 2 ≤ type_number t → type_number t ≤ 4
    → row_values rule table v rows t ≡ field_bytes 4 (row_bytes (row_numbers (wide_type t) v) rows)
values_number rule table v rows DataType.Boolean a b = absurd (omega arith)
values_number rule table v rows DataType.Int32 a b = refl
values_number rule table v rows DataType.Int64 a b = refl
values_number rule table v rows DataType.Float64 a b = refl
values_number rule table v rows DataType.Utf8 a b = absurd (omega arith)

-- and their size
values_width : (rows : ℕ) (t : DataType) → 2 ≤ type_number t → type_number t ≤ 4 → values_size t rows 0 ≡ 3 + width_of (wide_type t) * rows
values_width rows DataType.Boolean a b = absurd (omega arith)
values_width rows DataType.Int32 a b = refl
values_width rows DataType.Int64 a b = refl
values_width rows DataType.Float64 a b = refl
values_width rows DataType.Utf8 a b = absurd (omega arith)

-- ---- the fields before the numbers

-- the size of tag 4 is small, and more than its head
pub values_small : (rows : ℕ) (t : DataType) → rows ≤ 512 → (3 ≤ values_size t rows 0) × (values_size t rows 0 < 65536)
values_small rows DataType.Boolean h = (omega arith, omega arith)
values_small rows DataType.Int32 h = (omega arith, omega arith)
values_small rows DataType.Int64 h = (omega arith, omega arith)
values_small rows DataType.Float64 h = (omega arith, omega arith)
values_small rows DataType.Utf8 h = (omega arith, omega arith)

-- tags 2, 6 and 3 and the head of tag 4, one behind the other
pub front_put : {out m m' m'' m''' : List ℕ} {p q s r size : ℕ} (rows : ℕ) (t : DataType) (nullable : Bool) → size ≡ values_size t rows 0
    → Wrote out 0 (field_bytes 2 (type_number t ∷ mark_number nullable ∷ [])) p m → Wrote m p (field_bytes 6 (number_bytes 2 0)) q m' → Wrote m' q (3 ∷ number_bytes 2 0) s m'' → Wrote m'' s (4 ∷ number_bytes 2 (size - 3)) r m'''
    → Wrote out 0 (plain_front t nullable (values_size t rows 0 - 3)) r m'''
front_put rows t nullable e a b c d = wrote_then (wrote_then (wrote_then a b) (empty_field c)) (wrote_as (ap (λ (n : ℕ). 4 ∷ number_bytes 2 (n - 3)) e) d)

-- ---- the rows

-- a row's payload is of 64 bits
pub slot_fits_lem : (w : List ℕ) → Bytes w → (i : ℕ) → slot_payload w i < 2 ^ 64
slot_fits_lem w bytes i =
    let l = take 8 (drop (1025 + 9 * i) w) in
    let short : length l ≤ 8 = omega (arith, length-take 8 (drop (1025 + 9 * i) w)) in
    let below : number l < 256 ^ length l = number_below l (bytes_take 8 (drop (1025 + 9 * i) w) (bytes_drop (1025 + 9 * i) w bytes)) in
    let wide : 256 ^ length l ≤ 256 ^ 8 = pow-le-pow_right (omega arith) short in
    omega arith

-- the classes' numbers, of the type's kind
pub classes_plain : {rows : ℕ} {t : DataType} {classes payloads : List ℕ} → ClassesAsk rows t classes payloads → PlainRows (λ i. type_number t) rows t
classes_plain ask = record { few = ask.inside.few; number = ask.number; kind_is = λ i h. refl }

-- which are of 64 bits
pub class_fits : (classes payloads : List ℕ) → ((i : ℕ) → get_or payloads i 0 < 2 ^ 64) → (i : ℕ) → class_payload classes payloads i < 2 ^ 64
class_fits classes payloads fit i = fit (get_or classes i 0)

module _ {kind : ℕ → ℕ} {rows : ℕ} {t : DataType} (plain : PlainRows kind rows t) (payload : ℕ → ℕ) (fit : (i : ℕ) → payload i < 2 ^ 64) where
  -- a row's value
  abbrev plain_value : ℕ → Value
  plain_value i = value_of (kind i) (payload i)

  -- it is a number
  row_is : (i : ℕ) → i < rows → NumberIs (kind i) (payload i) (plain_value i)
  row_is i h =
      let k = plain.kind_is i h in
      let a = plain.number in
      number_is (kind i) (payload i) (omega arith) (omega arith) (fit i)

  -- its kind is the type's number
  pub kind_plain : (i : ℕ) → i < rows → kind_of (plain_value i) ≡ type_number t
  kind_plain i h = (row_is i h).kind_is ∙ plain.kind_is i h

  -- no row is of a kind that is no number's
  none_other : (k : ℕ) → (type_number t ≡ k → ⊥) → false ≡ some_of_kind plain_value k rows
  none_other k n =
      sym (any_none (λ i. eqb (kind_of (plain_value i)) k) rows
      (λ i h. ne_eqb (kind_of (plain_value i)) k (λ e. n (sym (kind_plain i h) ∙ e))))

  -- none failed
  none_failed : false ≡ some_of_kind plain_value 7 rows
  none_failed = none_other 7 (λ e. omega (arith, plain.number.1))

  -- none is null
  none_null : false ≡ some_of_kind plain_value 0 rows
  none_null = none_other 0 (λ e. omega (arith, plain.number.0))

  -- none is a text
  no_texts : (rule table : List ℕ) → 0 ≡ length (row_bytes (row_text rule table plain_value) rows)
  no_texts rule table = sym (rows_empty (row_text rule table plain_value) rows (λ i h. (row_is i h).no_text rule table))

  module _ (nullable : Bool) {output : List ℕ} {size : ℕ} (s : size ≡ 13 + validity_size rows false + values_size t rows 0) where
    -- too short an output
    pub plain_17 : length output < size → (rule table : List ℕ) → WriteGives rule table plain_value rows t nullable output (Err OutputSize) output
    plain_17 h rule table = gives_17 rule table plain_value rows t nullable output none_failed refl (no_texts rule table) (omega arith) none_null s h

    module _ (h : size ≤ length output) {p : ℕ} {m : List ℕ} (a : Wrote output 0 (plain_front t nullable (values_size t rows 0 - 3)) p m) {wide : Bool} (w : wide ≡ wide_type t) where
      -- as many bytes as tag 4's head says
      content_size : values_size t rows 0 - 3 ≡ length (row_bytes (plain_numbers wide payload) rows)
      content_size =
          let e : values_size t rows 0 ≡ 3 + width_of wide * rows = values_width rows t plain.number.0 plain.number.1 ∙ ap (λ (b : Bool). 3 + width_of b * rows) (sym w) in
          omega (arith, length_rows (plain_numbers wide payload) (width_of wide) (λ i. length_number_bytes (width_of wide) (payload i)) rows)

      -- the front takes sixteen
      front_ends : p ≡ 16
      front_ends =
          let x = field_bytes 2 (type_number t ∷ mark_number nullable ∷ []) in
          let y = field_bytes 6 (number_bytes 2 0) in
          let z : List ℕ = 4 ∷ number_bytes 2 (values_size t rows 0 - 3) in
          omega (arith, a.ends, length-append (x ++ y ++ field_bytes 3 []) z, length-append (x ++ y) (field_bytes 3 []), length-append x y, length_field 2 (type_number t ∷ mark_number nullable ∷ []), count_size_lem 0, length_field 3 [], length_number_bytes 2 (values_size t rows 0 - 3))

      -- room for the numbers
      pub plain_room : p + width_of wide * rows ≤ length m
      plain_room = omega (arith, front_ends, wrote_long a, content_size, numbers_long wide payload rows, (values_small rows t plain.few).0)

      -- the rows' numbers are those of tag 4
      field_is : (rule table : List ℕ) → field_bytes 4 (row_bytes (plain_numbers wide payload) rows) ≡ row_values rule table plain_value rows t
      field_is rule table =
          ap (field_bytes 4) (rows_same (plain_numbers wide payload) (row_numbers wide plain_value) rows
          (λ i b. sym ((row_is i b).bytes_are wide (w ∙ ap (λ (k : ℕ). not (eqb k 2)) (sym (plain.kind_is i b))))))
          ∙ ap (λ (b : Bool). field_bytes 4 (row_bytes (row_numbers b plain_value) rows)) w
          ∙ sym (values_number rule table plain_value rows t plain.number.0 plain.number.1)

      -- the whole column
      column_as : (rule table : List ℕ) → plain_front t nullable (values_size t rows 0 - 3) ++ row_bytes (plain_numbers wide payload) rows ≡ row_column rule table plain_value rows t nullable false
      unfolding field_bytes
      column_as rule table =
          let x = field_bytes 2 (type_number t ∷ mark_number nullable ∷ []) in
          let front = x ++ field_bytes 6 (number_bytes 2 0) ++ field_bytes 3 [] in
          let c = row_bytes (plain_numbers wide payload) rows in
          append_assoc front (4 ∷ number_bytes 2 (values_size t rows 0 - 3)) c
          ∙ ap (λ (n : ℕ). front ++ ((4 ∷ number_bytes 2 n) ++ c)) content_size
          ∙ ap₂ (λ (n : ℕ) (l : List ℕ). x ++ field_bytes 6 (number_bytes 2 n) ++ field_bytes 3 [] ++ l) (sym (nulls_none plain_value rows (sym none_null))) (field_is rule table)

      -- which is the answer
      pub plain_answer : {end : ℕ} {output' : List ℕ} → Wrote m p (row_bytes (plain_numbers wide payload) rows) end output'
          → (rule table : List ℕ) → WriteGives rule table plain_value rows t nullable output (Ok end) output'
      plain_answer c rule table =
          gives_answer rule table plain_value rows t nullable output none_failed refl (no_texts rule table) (omega arith) none_null (wrote_as (column_as rule table) (wrote_then a c))

-- ---- the scan of the kinds

-- where the loop stands: i rows are of the kind
pub record AllSoFar (w : List ℕ) (k n i : ℕ) : Type 0 where
  pub few : i ≤ n
  pub so_far : (j : ℕ) → j < i → slot_kind w j ≡ k
