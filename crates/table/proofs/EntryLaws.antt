-- The entry of a column at a row, beside its definition. Assumes nothing.
use mathlib.Core.Path.{◌≡◌, refl, sym, ap, subst, ◌∙◌}
use mathlib.Core.Bool.{Bool, true, false, cond}
use mathlib.Core.List.{List, [], ◌∷◌, map}
use mathlib.Core.Option.{Option, some, none}
use Prim.Native.Nat.{ℕ, zero, suc, ◌+◌, ◌-◌, ◌*◌, ◌/◌, ◌<◌, ◌≤◌, min}
use native.Mathlib.Omega.{arith}
use lib.Dec.{leb, ltb}
use lib.ListN.{length, get_elem?, take, drop, length-take, length-drop}
use lib.Seq.{get_or-take, get_or-drop, ext_get_or}
use borrow.Author.Tests.{lt-ltb, le-ltb, le-leb, lt-leb, leb-true, leb-false}
use Rattle.std.specs.Prelude.{slice_get, Option as RustOption, Some, None, Result as RustResult, Ok, Err}
use Rattle.layout.specs.declared.refusal.Refusal.{Refusal}
use Rattle.layout.specs.Result.{Result, refused, ok}
use Rattle.layout.specs.Bytes.{Bytes, byte, number_at, bit_at, part}
use Rattle.layout.proofs.BytesLaws.{bytes_take, bytes_drop}
use Rattle.layout.proofs.NumberLaws.{number_behind}
use Rattle.layout.proofs.PartLaws.{length_part, part_byte, part_cut}
use Rattle.scalar.specs.declared.types.DataType.{DataType}
use Rattle.scalar.specs.declared.types.DataType.TheVariants as types
use Rattle.scalar.specs.declared.value.Value.{Value}
use Rattle.scalar.specs.declared.value.Value.TheVariants.{Null, Boolean, Int32, Int64, TableText}
use Rattle.scalar.specs.Entry.{Entry, null, utf8, entry}
use Rattle.scalar.specs.Value.{float_value}
use Rattle.scalar.proofs.FloatLaws.{float_stores, float_means}
use Rattle.table.specs.declared.places.ColumnPlace.{ColumnPlace}
use Rattle.table.specs.declared.places.Table.{Table}
use Rattle.table.specs.declared.entry.EntryError.{EntryError}
use Rattle.table.specs.declared.entry.EntryError.TheVariants.{NoColumn, NoRow, Refused}
use Rattle.table.specs.Column.{TableColumn, valid_in, offset_at, text_between, value_at, entry_at}
use Rattle.table.specs.Reading.{Table as TableOf, read_table}
use Rattle.table.specs.Answers.{table_refused, has, no_row, entry_of_column, entry_of_table, text_from, text_between_value, value_in, entry_value, entry_of_place, entry_at_places, entry_of_reading, entry_of_bytes, EntryGives}
use Rattle.table.specs.Places.{column_in, table_in, column_of, table_from, table_answer_from, table_answer}
use Rattle.table.specs.Parts.{ValueGives}
use Rattle.table.proofs.TableTyped.{number_at_below}
use Rattle.layout.proofs.AnswerLaws.{answered_ok, answered_err}
use Rattle.table.proofs.RefusalLaws.{table_number}
use Rattle.table.proofs.StandLaws.{table_read}

-- no validity means no null
pub valid_none : (validity : List ℕ) (i : ℕ) → length validity ≡ 0 → true ≡ valid_in validity i
valid_none [] i e = refl
valid_none (b ∷ v) i e = absurd (omega arith)

-- ---- what a value means

-- no text
text_none : (l t : List ℕ) → [] ≡ t → ValueGives l (utf8 t) (TableText 0 0)
text_none l t e = record { says = λ _. ap (λ (x : List ℕ). entry (utf8 x)) e; stores = λ _. (omega arith, omega arith) }

-- a part of a part, by its place in the whole
part_part : (l : List ℕ) (start end from last : ℕ) → last ≤ length (part l start end)
    → take (last - from) (drop (start + from) l) ≡ part (part l start end) from last
part_part l start end from last h =
    ext_get_or 0 _ _ (length-take (last - from) (drop (start + from) l) ∙ whole ∙ part_of_it ∙ sym (length_part (part l start end) from last)) byte_at
  where
    enough : last ≤ length l - start
    enough = omega (arith, length_part l start end)

    whole : min (last - from) (length (drop (start + from) l)) ≡ last - from
    whole = omega (arith, length-drop (start + from) l, enough)

    part_of_it : last - from ≡ min (last - from) (length (part l start end) - from)
    part_of_it = omega arith

    byte_at : (i : ℕ) → i < length (take (last - from) (drop (start + from) l)) → byte (take (last - from) (drop (start + from) l)) i ≡ byte (part (part l start end) from last) i
    byte_at i p =
        let n : i < last - from = omega (arith, length-take (last - from) (drop (start + from) l)) in
        let same : start + from + i ≡ start + (from + i) = omega arith in
        get_or-take (last - from) (drop (start + from) l) i 0 n ∙ get_or-drop (start + from) l i 0 ∙ ap (byte l) same
        ∙ sym (part_byte l start end (from + i) (omega (arith, length_part l start end))) ∙ sym (part_byte (part l start end) from last i n)

-- cut at the end of the part
text_cut : (l : List ℕ) (start end from to last : ℕ) → last ≡ min to (length (part l start end)) → part (part l start end) (min from last) last ≡ part (part l start end) from to
text_cut l start end from to last e = part_cut (part l start end) from to last (min from last) e refl

-- the text between two offsets
text_means : (l : List ℕ) (start end from to last : ℕ) → last ≡ min to (length (part l start end)) → ValueGives l (utf8 (text_between from to (part l start end))) (text_from start from last)
text_means l start end from to last e = go (leb last from) refl
  where
    go : (b : Bool) → leb last from ≡ b → ValueGives l (utf8 (text_between from to (part l start end))) (cond b (TableText 0 0) (TableText (start + from) (last - from)))
    go true p = text_none l _ (ap (λ (k : ℕ). take k (drop (min from last) (part l start end))) nothing ∙ text_cut l start end from to last e)
      where
        nothing : 0 ≡ last - min from last
        nothing = omega (arith, leb-true last from p)
    go false p = record {
      says = λ _. ap (λ (x : List ℕ). entry (utf8 x)) (part_part l start end from last (omega (arith, e)) ∙ ap (λ (k : ℕ). part (part l start end) k last) whole ∙ text_cut l start end from to last e);
      stores = λ b. (omega (arith, h, e, length_part l start end), omega (arith, h, e, length_part l start end));
    }
      where
        h : from < last
        h = leb-false last from p

        whole : from ≡ min from last
        whole = omega (arith, h)

pub text_between_gives : (l : List ℕ) (start end from to : ℕ) {v : Value} → v ≡ text_between_value l start end from to → ValueGives l (utf8 (text_between from to (part l start end))) v
unfolding text_between_value
text_between_gives l start end from to e =
    subst (ValueGives l (utf8 (text_between from to (part l start end)))) (sym e) (text_means l start end from to (min to (length (part l start end))) refl)

-- a row's text, by its two offsets
pub text_row : (l offsets values : List ℕ) (row : ℕ) (from to : ℕ) → from ≡ number_at 4 offsets (4 * row) → to ≡ number_at 4 offsets (4 * (row + 1)) → (v : Value)
    → ValueGives l (utf8 (text_between from to values)) v → ValueGives l (value_at types.Utf8 offsets values row) v
unfolding value_at
text_row l offsets values row from to p q v =
    let one : 4 * (row + 1) ≡ 4 * suc row = omega arith in
    let next : to ≡ offset_at offsets (suc row) = q ∙ ap (number_at 4 offsets) one in
    subst (λ (x : Entry). ValueGives l x v) (λ i. utf8 (text_between (p i) (next i) values))

module _ (l : List ℕ) (h : Bytes l) (p : ColumnPlace) (row : ℕ) where
  -- the bytes of the values are bytes
  part_bytes : Bytes (column_in l p).values
  part_bytes = bytes_take (p.values.end - p.values.start) (drop p.values.start l) (bytes_drop p.values.start l h)

  -- the value of a row, type by type
  value_means : (t : DataType) → ValueGives l (value_at t (column_in l p).offsets (column_in l p).values row) (value_in t l p row)
  unfolding value_at value_in
  value_means types.Boolean = record { says = λ _. refl; stores = λ _. tt }
  value_means types.Int32 = record { says = λ _. refl; stores = λ _. number_at_below 4 (column_in l p).values (4 * row) part_bytes }
  value_means types.Int64 = record { says = λ _. refl; stores = λ _. number_at_below 8 (column_in l p).values (8 * row) part_bytes }
  value_means types.Float64 =
      let b = number_at_below 8 (column_in l p).values (8 * row) part_bytes in
      record { says = λ rule. float_means _ b rule l; stores = λ _. float_stores _ b }
  value_means types.Utf8 = text_between_gives l p.values.start p.values.end _ _ refl

  -- the entry of a row
  pub entry_in_gives : {v : Value} → v ≡ entry_value l p row → ValueGives l (entry_at (column_in l p) row) v
  unfolding entry_at entry_value
  entry_in_gives e = subst (ValueGives l (entry_at (column_in l p) row)) (sym e) (go (valid_in (column_in l p).validity row))
    where
      go : (b : Bool) → ValueGives l (cond b (value_at p.data_type (column_in l p).offsets (column_in l p).values row) null) (cond b (value_in p.data_type l p row) Null)
      go true = value_means p.data_type
      go false = record { says = λ _. refl; stores = λ _. tt }

-- ---- what an answer means

-- the column of a place, or none
abbrev column_of_place : List ℕ → Option ColumnPlace → Option TableColumn
column_of_place l none = none
column_of_place l (some p) = some (column_in l p)

elem_column : (l : List ℕ) (ps : List ColumnPlace) (i : ℕ) → get_elem? (map (column_in l) ps) i ≡ column_of_place l (get_elem? ps i)
elem_column l [] i = refl
elem_column l (p ∷ ps) zero = refl
elem_column l (p ∷ ps) (suc i) = elem_column l ps i

module _ (l : List ℕ) (h : Bytes l) (column row : ℕ) where
  -- the answer of a place
  place_means : (t : Table) (o : Option ColumnPlace) → get_elem? (map (column_in l) (take t.count t.columns)) column ≡ column_of_place l o
      → EntryGives l (ok (table_in l t)) column row (entry_of_place l o t.rows row)
  place_means t none e = record { says = λ _. sym (ap (λ (c : Option TableColumn). entry_of_column c t.rows row) e); stores = λ _. tt }
  place_means t (some p) e = go (ltb row t.rows) refl
    where
      is : (b : Bool) → ltb row t.rows ≡ b → entry_of_table (ok (table_in l t)) column row ≡ cond b (has (entry (entry_at (column_in l p) row))) no_row
      is b q = ap (λ (c : Option TableColumn). entry_of_column c t.rows row) e ∙ ap (λ (x : Bool). cond x (has (entry (entry_at (column_in l p) row))) no_row) q

      go : (b : Bool) → ltb row t.rows ≡ b → EntryGives l (ok (table_in l t)) column row (cond b (Ok (entry_value l p row)) (Err NoRow))
      go true q =
          let g = entry_in_gives l h p row refl in
          record { says = λ rule. ap has (g.says rule) ∙ sym (is true q); stores = g.stores }
      go false q = record { says = λ _. sym (is false q); stores = λ _. tt }

  pub entry_at_gives : (t : Table) {r : RustResult Value EntryError} → r ≡ entry_at_places l t column row → EntryGives l (ok (table_in l t)) column row r
  unfolding entry_at_places
  entry_at_gives t e =
      let places = take t.count t.columns in
      subst (EntryGives l (ok (table_in l t)) column row) (sym e) (place_means t (get_elem? places column) (elem_column l places column))

  pub entry_gives : {r : RustResult Value EntryError} → r ≡ entry_of_bytes l column row → EntryGives l (read_table l) column row r
  unfolding entry_of_bytes table_answer
  entry_gives e = subst (EntryGives l (read_table l) column row) (sym e) (go (read_table l) refl)
    where
      go : (d : Result TableOf) → read_table l ≡ d → EntryGives l (read_table l) column row (entry_of_reading l d column row)
      go (refused n) p = record { says = λ _. ap table_refused (table_number l n p) ∙ sym (ap (λ (d : Result TableOf). entry_of_table d column row) p); stores = λ _. tt }
      go (ok t) p =
          subst (λ (d : Result TableOf). EntryGives l d column row (entry_at_places l (table_from 5 t) column row))
          (table_read {r = Ok (table_from 5 t)} (ap (table_answer_from 5) (sym p))).says (entry_at_gives (table_from 5 t) refl)

-- ---- a text, in the code's terms

module _ (l : List ℕ) (start end from to last : ℕ) (m : List ℕ) (is : m ≡ part l start end) (e : last ≡ min to (length m)) where
  last_is : last ≡ min to (length (part l start end))
  last_is = e ∙ ap (λ (x : List ℕ). min to (length x)) is

  between_is : (b : Bool) → leb last from ≡ b → cond b (TableText 0 0) (TableText (start + from) (last - from)) ≡ text_between_value l start end from to
  unfolding text_between_value
  between_is b p = ap (λ (x : Bool). cond x (TableText 0 0) (TableText (start + from) (last - from))) (sym p) ∙ ap (text_from start from) last_is

  pub text_empty : last ≤ from → TableText 0 0 ≡ text_between_value l start end from to
  text_empty h = between_is true (le-leb last from h)

  module _ (h : from < last) where
    pub text_inside : start + from < length l
    text_inside = omega (arith, last_is, length_part l start end)

    pub text_there : TableText (start + from) (last - from) ≡ text_between_value l start end from to
    text_there = between_is false (lt-leb last from h)

-- ---- a value of a type, in the code's terms

module _ (l : List ℕ) (p : ColumnPlace) (row : ℕ) where
  module _ (m : List ℕ) (e : m ≡ (column_in l p).offsets) where
    -- both offsets lie behind the end
    pub text_behind : length m / 4 < row → TableText 0 0 ≡ value_in types.Utf8 l p row
    unfolding value_in
    text_behind h =
        text_empty l p.values.start p.values.end 0 0 0 _ refl (omega arith) (omega arith)
        ∙ (λ i. text_between_value l p.values.start p.values.end (first i) (next i))
      where
        first : 0 ≡ offset_at (column_in l p).offsets row
        first = sym (number_behind 4 (column_in l p).offsets (4 * row) (omega (arith, ap length e)))

        next : 0 ≡ offset_at (column_in l p).offsets (suc row)
        next = sym (number_behind 4 (column_in l p).offsets (4 * suc row) (omega (arith, ap length e)))

    pub text_by_offsets : (from to : ℕ) → from ≡ number_at 4 m (4 * row) → to ≡ number_at 4 m (4 * (row + 1)) → (v : Value)
        → v ≡ text_between_value l p.values.start p.values.end from to → v ≡ value_in types.Utf8 l p row
    unfolding value_in
    text_by_offsets from to a b v g = g ∙ (λ i. text_between_value l p.values.start p.values.end (first i) (next i))
      where
        one : 4 * (row + 1) ≡ 4 * suc row
        one = omega arith

        first : from ≡ offset_at (column_in l p).offsets row
        first = a ∙ ap (λ (x : List ℕ). number_at 4 x (4 * row)) e

        next : to ≡ offset_at (column_in l p).offsets (suc row)
        next = b ∙ ap (number_at 4 m) one ∙ ap (λ (x : List ℕ). number_at 4 x (4 * suc row)) e

  pub value_of_type : (t d : DataType) (v : Value) → t ≡ d → v ≡ value_in d l p row → v ≡ value_in t l p row
  value_of_type t d v e g = g ∙ ap (λ (x : DataType). value_in x l p row) (sym e)

  module _ (t : DataType) (m : List ℕ) (e : m ≡ (column_in l p).values) where
    pub boolean_value : (b : Bool) → t ≡ types.Boolean → b ≡ bit_at m row → Boolean b ≡ value_in t l p row
    unfolding value_in
    boolean_value b k q = value_of_type t types.Boolean (Boolean b) k (ap Boolean (q ∙ ap (λ (x : List ℕ). bit_at x row) e))

    pub int32_value : (n : ℕ) → t ≡ types.Int32 → n ≡ number_at 4 m (4 * row) → Int32 n ≡ value_in t l p row
    unfolding value_in
    int32_value n k q = value_of_type t types.Int32 (Int32 n) k (ap Int32 (q ∙ ap (λ (x : List ℕ). number_at 4 x (4 * row)) e))

    pub int64_value : (n : ℕ) → t ≡ types.Int64 → n ≡ number_at 8 m (8 * row) → Int64 n ≡ value_in t l p row
    unfolding value_in
    int64_value n k q = value_of_type t types.Int64 (Int64 n) k (ap Int64 (q ∙ ap (λ (x : List ℕ). number_at 8 x (8 * row)) e))

    pub float_value_lem : (n : ℕ) (v : Value) → t ≡ types.Float64 → n ≡ number_at 8 m (8 * row) → v ≡ float_value n → v ≡ value_in t l p row
    unfolding value_in
    float_value_lem n v k q f = value_of_type t types.Float64 v k (f ∙ ap float_value (q ∙ ap (λ (x : List ℕ). number_at 8 x (8 * row)) e))

  -- ---- an entry, in the code's terms

  module _ (m : List ℕ) (e : m ≡ (column_in l p).validity) (b : Bool) (is : b ≡ valid_in m row) where
    -- by the validity
    entry_is : (t : Bool) → b ≡ t → cond t (value_in p.data_type l p row) Null ≡ entry_value l p row
    unfolding entry_value
    entry_is t q = ap (λ (x : Bool). cond x (value_in p.data_type l p row) Null) (sym q ∙ is ∙ ap (λ (x : List ℕ). valid_in x row) e)

    pub entry_valid : b ≡ true → (v : Value) → v ≡ value_in p.data_type l p row → v ≡ entry_value l p row
    entry_valid q v g = g ∙ entry_is true q

    pub entry_null : b ≡ false → Null ≡ entry_value l p row
    entry_null q = entry_is false q

-- ---- in a table

-- an element of a list, as the definitions of a table say it
abbrev element : {A : Type 0} → RustOption A → Option A
element None = none
element (Some x) = some x

elem_get : {A : Type 0} (l : List A) (i : ℕ) → get_elem? l i ≡ element (slice_get l i)
elem_get [] i = refl
elem_get (x ∷ l) zero = refl
elem_get (x ∷ l) (suc i) = elem_get l i

module _ {o : RustOption ColumnPlace} (l : List ℕ) (t : Table) (column : ℕ) (is : o ≡ column_of t column) where
  place_is : get_elem? (take t.count t.columns) column ≡ element o
  place_is = elem_get (take t.count t.columns) column ∙ ap element (sym is)

  -- the column at a place, or none
  pub column_is : get_elem? (table_in l t).columns column ≡ column_of_place l (element o)
  column_is = elem_column l (take t.count t.columns) column ∙ ap (column_of_place l) place_is

  -- and its entry
  entry_in_place : (row : ℕ) → entry_of_place l (element o) t.rows row ≡ entry_at_places l t column row
  unfolding entry_at_places
  entry_in_place row = sym (ap (λ (x : Option ColumnPlace). entry_of_place l x t.rows row) place_is)

pub no_column_lem : (l : List ℕ) (t : Table) (column row : ℕ) → None ≡ column_of t column → Err NoColumn ≡ entry_at_places l t column row
no_column_lem l t column row is = entry_in_place l t column is row

module _ {p : ColumnPlace} (l : List ℕ) (t : Table) (column row : ℕ) (is : Some p ≡ column_of t column) where
  -- by its row
  row_is : (b : Bool) → ltb row t.rows ≡ b → cond b (Ok (entry_value l p row)) (Err NoRow) ≡ entry_at_places l t column row
  row_is b q = ap (λ (x : Bool). cond x (Ok (entry_value l p row)) (Err NoRow)) (sym q) ∙ entry_in_place l t column is row

  pub no_row_lem : t.rows ≤ row → Err NoRow ≡ entry_at_places l t column row
  no_row_lem m = row_is false (le-ltb row t.rows m)

  pub has_entry : row < t.rows → (v : Value) → v ≡ entry_value l p row → Ok v ≡ entry_at_places l t column row
  has_entry m v g = ap Ok g ∙ row_is true (lt-ltb row t.rows m)

-- ---- in the bytes of a table

module _ (l : List ℕ) (column row : ℕ) where
  pub table_no : {e : Refusal} → Err e ≡ table_answer (read_table l) → Err (Refused e) ≡ entry_of_bytes l column row
  unfolding entry_of_bytes table_answer
  table_no g =
      let d = answered_err (table_from 5) (read_table l) g in
      ap (λ x. Err (Refused x)) d.2 ∙ sym (ap (λ (x : Result TableOf). entry_of_reading l x column row) d.1)

  pub table_yes : {t : Table} → Ok t ≡ table_answer (read_table l) → (a : RustResult Value EntryError) → a ≡ entry_at_places l t column row → a ≡ entry_of_bytes l column row
  unfolding entry_of_bytes table_answer
  table_yes g a u =
      let d = answered_ok (table_from 5) (read_table l) g in
      u ∙ ap (λ (x : Table). entry_at_places l x column row) d.2 ∙ sym (ap (λ (x : Result TableOf). entry_of_reading l x column row) d.1)
