-- Writing the answer: which of 15, 16, 17 and the answer the rows give. Assumes nothing.
use mathlib.Core.Path.{◌≡◌, refl, sym, ap, ◌∙◌}
use mathlib.Core.Bool.{Bool, true, false, false≢true}
use mathlib.Core.List.{List, [], ◌∷◌, ◌++◌, map}
use Prim.Native.Nat.{ℕ, zero, suc, ◌+◌, ◌<◌, ◌≤◌}
use native.Mathlib.Nat.{zero-add}
use native.Mathlib.Omega.{arith}
use lib.Dec.{eqb}
use lib.ListN.{length, drop, length-append}
use borrow.Author.Tests.{eqb-true, le-leb, lt-leb}
use Rattle.layout.specs.Result.{Result, refused, ok, ◌>>=◌}
use Rattle.layout.specs.Bytes.{number_bytes, bitmap_length}
use Rattle.layout.specs.Field.{field_bytes}
use Rattle.scalar.specs.declared.types.DataType.{DataType}
use Rattle.scalar.specs.declared.value.Value.{Value}
use Rattle.scalar.specs.declared.value.Value.TheVariants.{Null, Boolean, Int32, Int64, Float64, Nan, RuleText, TableText, Failed}
use Rattle.scalar.specs.Entry.{Entry, Outcome, entry, unfit}
use Rattle.scalar.specs.Value.{meaning, kind_of}
use Rattle.scalar.specs.Order.{text_in}
use Rattle.scalar.specs.TryCast.{or_null}
use Rattle.scalar.specs.Types.{type_number, mark_number}
use Rattle.std.specs.Prelude.{Result as RustResult, Ok, Err}
use Rattle.layout.specs.declared.refusal.Refusal.{Refusal}
use Rattle.layout.specs.declared.refusal.Refusal.TheVariants.{Cast, TextSize, OutputSize}
use Rattle.layout.specs.Put.{wrote, Wrote}
use Rattle.table.specs.TableBytes.{column_bytes}
use Rattle.layout.proofs.FieldLaws.{length_field}
use Rattle.layout.proofs.PutLaws.{wrote_as}
use Rattle.writer.specs.Answer.{column_of, text_length}
use Rattle.writer.specs.Written.{rows_from, entries_of, text_most, written_as, run_answer, output_after}
use Rattle.writer.specs.Slots.{slot_at}
use Rattle.writer.specs.Write.{row_outcomes, rows_run, WriteGives, WriteAsks, kind_fits}
use Rattle.writer.specs.Writing.{row_bytes, some_of_kind, row_entries, row_nulls, row_text, row_offset, row_validity, row_values, row_column, validity_size, values_size}
use Rattle.writer.proofs.ColumnPutLaws.{numbers_size, offsets_size, rows_empty, validity_size_lem, count_size_lem}
use Rattle.writer.proofs.RowBitLaws.{bits_size}
use Rattle.writer.proofs.RowKindLaws.{none_at, some_at}
use Rattle.writer.proofs.ColumnLaws.{texts_rows, column_rows}

-- ---- the outcomes of the rows

-- a value fails just where its kind is 7
failed_of : (rule table : List ℕ) (v : Value) → eqb (kind_of v) 7 ≡ true → meaning rule table v ≡ unfit
failed_of rule table Null h = absurd (false≢true h)
failed_of rule table (Boolean b) h = absurd (false≢true h)
failed_of rule table (Int32 n) h = absurd (false≢true h)
failed_of rule table (Int64 n) h = absurd (false≢true h)
failed_of rule table (Float64 f) h = absurd (false≢true h)
failed_of rule table (Nan n) h = absurd (false≢true h)
failed_of rule table (RuleText start size) h = absurd (false≢true h)
failed_of rule table (TableText start size) h = absurd (false≢true h)
failed_of rule table Failed h = refl

-- a value of any other kind is an entry
entry_of : (rule table : List ℕ) (v : Value) → eqb (kind_of v) 7 ≡ false → meaning rule table v ≡ entry (or_null (meaning rule table v))
entry_of rule table Null h = refl
entry_of rule table (Boolean b) h = refl
entry_of rule table (Int32 n) h = refl
entry_of rule table (Int64 n) h = refl
entry_of rule table (Float64 f) h = refl
entry_of rule table (Nan n) h = refl
entry_of rule table (RuleText start size) h = refl
entry_of rule table (TableText start size) h = refl
entry_of rule table Failed h = absurd (false≢true (sym h))

-- an outcome in front that is an entry
entries_next : (o : Outcome) (os : List Outcome) → o ≡ entry (or_null o) → entries_of (o ∷ os) ≡ (entries_of os >>= λ es. ok (or_null o ∷ es))
unfolding entries_of
entries_next (entry v) os h = refl
entries_next unfit os h = let z : ◌≡◌ {A = ℕ} 0 1 = cc in absurd (omega arith)

-- where each outcome is an entry, they are the entries
entries_all : (f : ℕ → Outcome) (a n : ℕ) → ((i : ℕ) → a ≤ i → i < a + n → f i ≡ entry (or_null (f i)))
    → entries_of (map f (rows_from a n)) ≡ ok (map (λ i. or_null (f i)) (rows_from a n))
unfolding entries_of rows_from
entries_all f a zero h = refl
entries_all f a (suc n) h =
    entries_next (f a) (map f (rows_from (suc a) n)) (h a (omega arith) (omega arith))
    ∙ ap (λ (r : Result (List Entry)). r >>= λ es. ok (or_null (f a) ∷ es)) (entries_all f (suc a) n (λ i p q. h i (omega arith) (omega arith)))

-- where one is not, 15
entries_one : (o : Outcome) (os : List Outcome) → entries_of os ≡ refused 15 → entries_of (o ∷ os) ≡ refused 15
unfolding entries_of
entries_one (entry v) os h = rw h
entries_one unfit os h = refl

-- wherever that is
entries_fail : (f : ℕ → Outcome) (a n i : ℕ) → i < n → f (a + i) ≡ unfit → entries_of (map f (rows_from a n)) ≡ refused 15
unfolding entries_of rows_from
entries_fail f a zero i h e = absurd (omega arith)
entries_fail f a (suc n) zero h e = let z : a ≡ a + 0 = omega arith in rw (ap f z ∙ e)
entries_fail f a (suc n) (suc i) h e =
    let z : suc a + i ≡ a + suc i = omega arith in
    entries_one (f a) (map f (rows_from (suc a) n)) (entries_fail f (suc a) n i (omega arith) (ap f z ∙ e))

module _ (rule table : List ℕ) (v : ℕ → Value) (rows : ℕ) where
  -- a row that failed
  rows_fail : some_of_kind v 7 rows ≡ true → entries_of (row_outcomes rule table v rows) ≡ refused 15
  rows_fail h =
      let s = some_at (λ i. eqb (kind_of (v i)) 7) rows h in
      let z : 0 + s.0 ≡ s.0 = omega arith in
      entries_fail (λ i. meaning rule table (v i)) 0 rows s.0 s.1
      (ap (λ (i : ℕ). meaning rule table (v i)) z ∙ failed_of rule table (v s.0) s.2)

  -- none that did
  entries_are : some_of_kind v 7 rows ≡ false → entries_of (row_outcomes rule table v rows) ≡ ok (row_entries rule table v rows)
  entries_are h =
      entries_all (λ i. meaning rule table (v i)) 0 rows
      (λ i a b. entry_of rule table (v i) (none_at (λ i. eqb (kind_of (v i)) 7) rows i h (omega arith)))

-- ---- how long the answer is

-- the bytes of tag 4, with tag 5 for text
values_size_lem : (rule table : List ℕ) (v : ℕ → Value) (rows : ℕ) (t : DataType) → length (row_values rule table v rows t) ≡ values_size t rows (length (row_bytes (row_text rule table v) rows))
values_size_lem rule table v rows DataType.Boolean = length_field 4 _ ∙ ap (λ (n : ℕ). 3 + n) (bits_size true v rows (bitmap_length rows))
values_size_lem rule table v rows DataType.Int32 = length_field 4 _ ∙ ap (λ (n : ℕ). 3 + n) (numbers_size false v rows)
values_size_lem rule table v rows DataType.Int64 = length_field 4 _ ∙ ap (λ (n : ℕ). 3 + n) (numbers_size true v rows)
values_size_lem rule table v rows DataType.Float64 = length_field 4 _ ∙ ap (λ (n : ℕ). 3 + n) (numbers_size true v rows)
values_size_lem rule table v rows DataType.Utf8 =
    let os = row_bytes (row_offset rule table v) (suc rows) in
    let ts = row_bytes (row_text rule table v) rows in
    omega (arith, length-append (field_bytes 5 os) (field_bytes 4 ts), length_field 5 os, length_field 4 ts, offsets_size rule table v (suc rows))

-- the bytes of the column
column_size : (rule table : List ℕ) (v : ℕ → Value) (rows : ℕ) (t : DataType) (nullable null : Bool)
    → length (row_column rule table v rows t nullable null) ≡ 13 + validity_size rows null + values_size t rows (length (row_bytes (row_text rule table v) rows))
column_size rule table v rows t nullable null =
    let a = field_bytes 2 (type_number t ∷ mark_number nullable ∷ []) in
    let b = field_bytes 6 (number_bytes 2 (row_nulls v rows)) in
    let c = field_bytes 3 (row_validity null v rows) in
    omega (arith, length-append (a ++ b ++ c) (row_values rule table v rows t), length-append (a ++ b) c, length-append a b, length_field 2 (type_number t ∷ mark_number nullable ∷ []), count_size_lem (row_nulls v rows), length_field 3 (row_validity null v rows), validity_size_lem null v rows, values_size_lem rule table v rows t)

-- ---- what is written

module _ (t : DataType) (n : Bool) (es : List Entry) (output : ℕ) where
  -- text above its limit
  written_16 : text_most < text_length es → written_as t n es output ≡ refused 16
  unfolding written_as
  written_16 h = rw (lt-leb (text_length es) text_most h)

  -- output shorter than the answer
  written_17 : text_length es ≤ text_most → output < length (column_bytes (column_of t n es)) → written_as t n es output ≡ refused 17
  unfolding written_as
  written_17 h k = rw (le-leb (text_length es) text_most h, lt-leb (length (column_bytes (column_of t n es))) output k)

  -- neither
  written_all : text_length es ≤ text_most → length (column_bytes (column_of t n es)) ≤ output → written_as t n es output ≡ ok (column_bytes (column_of t n es))
  unfolding written_as
  written_all h k = rw (le-leb (text_length es) text_most h, le-leb (length (column_bytes (column_of t n es))) output k)

module _ (rule table : List ℕ) (v : ℕ → Value) (rows : ℕ) (t : DataType) (n : Bool) (output : List ℕ) where
  -- what a run that is known promises
  gives_as : {r : RustResult ℕ Refusal} {output' : List ℕ} (x : Result (List ℕ)) → rows_run rule table v rows t n (length output) ≡ x → r ≡ run_answer x → output' ≡ output_after x output
      → WriteGives rule table v rows t n output r output'
  gives_as x e p q = record { says = p ∙ ap run_answer (sym e); output_is = q ∙ ap (λ (y : Result (List ℕ)). output_after y output) (sym e) }

  -- some row failed
  pub gives_15 : {b : Bool} → b ≡ some_of_kind v 7 rows → b ≡ true → WriteGives rule table v rows t n output (Err Cast) output
  unfolding output_after
  gives_15 p q =
      gives_as (refused 15) (ap (λ (r : Result (List Entry)). r >>= λ es. written_as t n es (length output)) (rows_fail rule table v rows (sym p ∙ q))) refl refl

  module _ {b : Bool} (p : b ≡ some_of_kind v 7 rows) (q : b ≡ false) {text : ℕ} (e : text ≡ length (row_bytes (row_text rule table v) rows)) where
    -- none failed
    fine : some_of_kind v 7 rows ≡ false
    fine = sym p ∙ q

    -- so the run is the writing of the entries
    run_is : rows_run rule table v rows t n (length output) ≡ written_as t n (row_entries rule table v rows) (length output)
    run_is = ap (λ (r : Result (List Entry)). r >>= λ es. written_as t n es (length output)) (entries_are rule table v rows fine)

    -- whose text was counted
    text_is : text ≡ text_length (row_entries rule table v rows)
    text_is = e ∙ ap length (texts_rows rule table v rows)

    -- too much text
    pub gives_16 : text_most < text → WriteGives rule table v rows t n output (Err TextSize) output
    unfolding output_after
    gives_16 h = gives_as (refused 16) (run_is ∙ written_16 t n (row_entries rule table v rows) (length output) (omega (arith, text_is))) refl refl

    module _ (few : text ≤ text_most) {null : Bool} (z : null ≡ some_of_kind v 0 rows) where
      -- the column by its bytes
      column_is : row_column rule table v rows t n null ≡ column_bytes (column_of t n (row_entries rule table v rows))
      column_is = ap (row_column rule table v rows t n) z ∙ column_rows rule table v rows fine t n

      -- and by its size
      size_is : {size : ℕ} → size ≡ 13 + validity_size rows null + values_size t rows text → size ≡ length (column_bytes (column_of t n (row_entries rule table v rows)))
      size_is s = s ∙ ap (λ (k : ℕ). 13 + validity_size rows null + values_size t rows k) e ∙ sym (column_size rule table v rows t n null) ∙ ap length column_is

      -- too short an output
      pub gives_17 : {size : ℕ} → size ≡ 13 + validity_size rows null + values_size t rows text → length output < size → WriteGives rule table v rows t n output (Err OutputSize) output
      unfolding output_after
      gives_17 s h =
          gives_as (refused 17) (run_is ∙ written_17 t n (row_entries rule table v rows) (length output) (omega (arith, text_is)) (omega (arith, size_is s))) refl refl

      -- the answer
      pub gives_answer : {end : ℕ} {output' : List ℕ} → Wrote output 0 (row_column rule table v rows t n null) end output' → WriteGives rule table v rows t n output (Ok end) output'
      unfolding output_after wrote
      gives_answer o =
          let bytes = column_bytes (column_of t n (row_entries rule table v rows)) in
          let a : Wrote output 0 bytes _ _ = wrote_as column_is o in
          gives_as (ok bytes) (run_is ∙ written_all t n (row_entries rule table v rows) (length output) (omega (arith, text_is)) (omega (arith, a.fits)))
          (ap Ok (a.ends ∙ zero-add (length bytes))) (a.holds ∙ ap (λ (k : ℕ). bytes ++ drop k output) (zero-add (length bytes)))

-- ---- text only in a column of text

-- a value of a kind that fits a type that is not text has none
text_typed : (rule table : List ℕ) (code : ℕ) (v : Value) → (code ≡ 5 → ⊥) → kind_fits code (kind_of v) ≡ true → text_in rule table v ≡ []
text_typed rule table code Null never h = refl
text_typed rule table code (Boolean b) never h = refl
text_typed rule table code (Int32 n) never h = refl
text_typed rule table code (Int64 n) never h = refl
text_typed rule table code (Float64 f) never h = refl
text_typed rule table code (Nan n) never h = refl
text_typed rule table code (RuleText start size) never h = absurd (never (sym (eqb-true 5 code h)))
text_typed rule table code (TableText start size) never h = absurd (never (eqb-true code 5 h))
text_typed rule table code Failed never h = refl

module _ {rule table w : List ℕ} {rows : ℕ} {t : DataType} (ask : WriteAsks rule table w rows t) where
  -- nor have the rows
  no_texts : (s : DataType) → t ≡ s → (type_number s ≡ 5 → ⊥) → 0 ≡ length (row_bytes (row_text rule table (slot_at w)) rows)
  no_texts s e never =
      sym (rows_empty (row_text rule table (slot_at w)) rows (λ i h. text_typed rule table (type_number t) (slot_at w i) (λ x. never (ap type_number (sym e) ∙ x)) (ask.each i h)))

  -- of any other type
  pub other_text : (t ≡ DataType.Utf8 → ⊥) → 0 ≡ length (row_bytes (row_text rule table (slot_at w)) rows)
  other_text n = go t refl
    where
      go : (s : DataType) → t ≡ s → 0 ≡ length (row_bytes (row_text rule table (slot_at w)) rows)
      go DataType.Boolean e = no_texts DataType.Boolean e (λ x. omega arith)
      go DataType.Int32 e = no_texts DataType.Int32 e (λ x. omega arith)
      go DataType.Int64 e = no_texts DataType.Int64 e (λ x. omega arith)
      go DataType.Float64 e = no_texts DataType.Float64 e (λ x. omega arith)
      go DataType.Utf8 e = absurd (n e)
