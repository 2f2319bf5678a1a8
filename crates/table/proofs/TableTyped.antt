-- The entries of an accepted table are of their columns' types. Assumes nothing.
use mathlib.Core.Bool.{Bool, true, false, cond, ◌||◌}
use mathlib.Core.Path.{◌≡◌, refl, subst}
use mathlib.Core.List.{List, [], ◌∷◌}
use mathlib.Core.Option.{Option, some, none}
use Prim.Native.Nat.{ℕ, zero, suc, ◌*◌, ◌^◌, ◌<◌, ◌≤◌}
use native.Mathlib.Nat.{pow-le-pow_right}
use native.Mathlib.Omega.{arith}
use lib.Dec.{eqb}
use lib.ListN.{length, take, drop, get_elem?, length-take}
use borrow.Author.Tests.{lt-ltb}
use Rattle.table.proofs.TableInversions.{table_inv}
use Rattle.layout.specs.Result.{Result, ok, ◌>>=◌}
use Rattle.layout.specs.Bytes.{Bytes, byte, number, number_at, bitmap_length}
use Rattle.layout.specs.Field.{Field, header}
use Rattle.layout.proofs.ResultLaws.{refused_not_ok, ok_injective, bind_ok, require_then}
use Rattle.layout.proofs.BytesLaws.{number_below, bytes_take, bytes_drop}
use Rattle.layout.proofs.FieldLaws.{header_bytes_parts}
use Rattle.scalar.specs.declared.types.DataType.{DataType}
use Rattle.scalar.specs.declared.types.DataType.TheVariants.{Boolean, Int32, Int64, Float64, Utf8}
use Rattle.scalar.specs.Types.{type_numbered, mark_numbered}
use Rattle.scalar.specs.Entry.{null, of_type}
use Rattle.table.specs.Column.{TableColumn, valid_in, offset_at, value_at, entry_at}
use Rattle.table.specs.Reading.{Part, never_falls, values_length, no_null, count_right, columns_most, tagged, tagged_pair, read_count, read_validity, read_text_offsets, read_offsets, read_values, read_body, read_parts, read_column, read_columns, Table, read_table}

-- a number in k bytes is below 256 to the k
pub number_at_below : (k : ℕ) (l : List ℕ) (at : ℕ) → Bytes l → number_at k l at < 256 ^ k
number_at_below k l at h =
    let n = number_below (take k (drop at l)) (bytes_take k (drop at l) (bytes_drop at l h)) in
    let m = length-take k (drop at l) in
    let p : 256 ^ length (take k (drop at l)) ≤ 256 ^ k = pow-le-pow_right (omega arith) (omega arith) in
    omega arith

-- a value out of bytes is of its type
value_typed : (t : DataType) (offsets values : List ℕ) (i : ℕ) → Bytes values → of_type t (value_at t offsets values i) ≡ true
unfolding of_type value_at
value_typed Boolean offsets values i h = refl
value_typed Int32 offsets values i h = lt-ltb _ _ (number_at_below 4 values (4 * i) h)
value_typed Int64 offsets values i h = lt-ltb _ _ (number_at_below 8 values (8 * i) h)
value_typed Float64 offsets values i h = lt-ltb _ _ (number_at_below 8 values (8 * i) h)
value_typed Utf8 offsets values i h = refl

-- and so is an entry, null or not
entry_typed : (d : TableColumn) (i : ℕ) → Bytes d.values → of_type d.type (entry_at d i) ≡ true
unfolding of_type entry_at
entry_typed d i h = go (valid_in d.validity i)
  where
    go : (v : Bool) → of_type d.type (cond v (value_at d.type d.offsets d.values i) null) ≡ true
    go true = value_typed d.type d.offsets d.values i h
    go false = refl

-- the parts of a field of bytes are bytes
abbrev FieldBytes : Field → Type 0
FieldBytes f = Bytes f.content × Bytes f.rest

-- a field of a tag has such parts
tagged_bytes : (tag : ℕ) (bytes : List ℕ) (f : Field) → Bytes bytes → tagged tag bytes ≡ ok f → FieldBytes f
unfolding tagged
tagged_bytes tag bytes f h p =
    let a = bind_ok (header 9 bytes) _ f p in
    let b = (require_then (eqb a.0.tag tag) 9 _ f a.2).1 in
    subst FieldBytes (ok_injective b) (header_bytes_parts 9 bytes a.0 h a.1)

-- and so has one of two bytes
pub pair_bytes : (tag : ℕ) (bytes : List ℕ) (f : Field) → Bytes bytes → tagged_pair tag bytes ≡ ok f → FieldBytes f
unfolding tagged_pair
pair_bytes tag bytes f h p =
    let a = bind_ok (tagged tag bytes) _ f p in
    let b = (require_then (eqb (length a.0.content) 2) 9 _ f a.2).1 in
    subst FieldBytes (ok_injective b) (tagged_bytes tag bytes a.0 h a.1)

-- what holds of a null count that is the field of tag 6, and of one that isn't written, holds of one that is read
pub count_cases : (holds : Part (Option (List ℕ)) → Type 0) (bytes : List ℕ) (r : Part (Option (List ℕ))) → read_count bytes ≡ ok r
    → ((f : Field) → tagged 6 bytes ≡ ok f → holds (record { part = some f.content; rest = f.rest })) → holds (record { part = none; rest = bytes }) → holds r
unfolding read_count
count_cases holds bytes r p written absent = go (eqb (byte bytes 0) 6) p
  where
    counted : Field → Result (Part (Option (List ℕ)))
    counted f = ok (record { part = some f.content; rest = f.rest })

    go : (t : Bool) → cond t (tagged 6 bytes >>= counted) (ok (record { part = none; rest = bytes })) ≡ ok r → holds r
    go true e =
        let f = bind_ok (tagged 6 bytes) counted r e in
        subst holds (ok_injective f.2) (written f.0 f.1)
    go false e = subst holds (ok_injective e) absent

-- the bytes behind a null count, validity bits and offsets
abbrev RestBytes : {A : Type 0} → Part A → Type 0
RestBytes r = Bytes r.rest

pub count_rest : (bytes : List ℕ) (r : Part (Option (List ℕ))) → Bytes bytes → read_count bytes ≡ ok r → RestBytes r
count_rest bytes r h p = count_cases RestBytes bytes r p (λ f e. (tagged_bytes 6 bytes f h e).1) h

pub validity_rest : (rows : ℕ) (bytes : List ℕ) (r : Part (List ℕ)) → Bytes bytes → read_validity rows bytes ≡ ok r → RestBytes r
unfolding read_validity
validity_rest rows bytes r h p =
    let f = bind_ok (tagged 3 bytes) _ r p in
    let a = (require_then (eqb (length f.0.content) 0 || eqb (length f.0.content) (bitmap_length rows)) 11 _ r f.2).1 in
    subst RestBytes (ok_injective a) (tagged_bytes 3 bytes f.0 h f.1).1

pub offsets_rest : (t : DataType) (rows : ℕ) (bytes : List ℕ) (r : Part (List ℕ)) → Bytes bytes → read_offsets t rows bytes ≡ ok r → RestBytes r
unfolding read_text_offsets
offsets_rest Boolean rows bytes r h p = subst RestBytes (ok_injective p) h
offsets_rest Int32 rows bytes r h p = subst RestBytes (ok_injective p) h
offsets_rest Int64 rows bytes r h p = subst RestBytes (ok_injective p) h
offsets_rest Float64 rows bytes r h p = subst RestBytes (ok_injective p) h
offsets_rest Utf8 rows bytes r h p =
    let f = bind_ok (tagged 5 bytes) _ r p in
    let a = (require_then (eqb (length f.0.content) (4 * suc rows)) 11 _ r f.2).1 in
    let b = (require_then (eqb (offset_at f.0.content 0) 0) 11 _ r a).1 in
    let c = (require_then (never_falls rows f.0.content) 11 _ r b).1 in
    subst RestBytes (ok_injective c) (tagged_bytes 5 bytes f.0 h f.1).1

-- the values and the bytes behind them
abbrev ValuesBytes : Part (List ℕ) → Type 0
ValuesBytes r = Bytes r.part × Bytes r.rest

values_bytes : (t : DataType) (rows : ℕ) (offsets bytes : List ℕ) (r : Part (List ℕ)) → Bytes bytes → read_values t rows offsets bytes ≡ ok r → ValuesBytes r
unfolding read_values
values_bytes t rows offsets bytes r h p =
    let f = bind_ok (tagged 4 bytes) _ r p in
    let a = (require_then (eqb (length f.0.content) (values_length t rows offsets)) 11 _ r f.2).1 in
    subst ValuesBytes (ok_injective a) (tagged_bytes 4 bytes f.0 h f.1)

-- a column's values are bytes, and so is what is behind it
abbrev ColumnBytes : Part TableColumn → Type 0
ColumnBytes c = Bytes c.part.values × Bytes c.rest

body_bytes : (rows : ℕ) (f : Field) (c : Part TableColumn) → Bytes f.rest → read_body rows f ≡ ok c → ColumnBytes c
unfolding read_body
body_bytes rows f c h p =
    let t = bind_ok (type_numbered 11 (byte f.content 0)) _ c p in
    let n = bind_ok (mark_numbered 11 (byte f.content 1)) _ c t.2 in
    let k = bind_ok (read_count f.rest) _ c n.2 in
    let y = bind_ok (read_validity rows k.0.rest) _ c k.2 in
    let o = bind_ok (read_offsets t.0 rows y.0.rest) _ c y.2 in
    let v = bind_ok (read_values t.0 rows o.0.part o.0.rest) _ c o.2 in
    let behind = offsets_rest t.0 rows y.0.rest o.0 (validity_rest rows k.0.rest y.0 (count_rest f.rest k.0 h k.1) y.1) o.1 in
    subst ColumnBytes (ok_injective v.2) (values_bytes t.0 rows o.0.part o.0.rest v.0 behind v.1)

-- a column that is read, with its head
column_bytes_lem : (rows : ℕ) (bytes : List ℕ) (c : Part TableColumn) → Bytes bytes → read_column rows bytes ≡ ok c → ColumnBytes c
unfolding read_column read_parts
column_bytes_lem rows bytes c h p =
    let a = bind_ok (read_parts rows bytes) _ c p in
    let b = (require_then (a.0.part.nullable || no_null a.0.part.validity rows) 12 _ c a.2).1 in
    let k = (require_then (count_right a.0.part rows) 25 _ c b).1 in
    let f = bind_ok (tagged_pair 2 bytes) _ a.0 a.1 in
    subst ColumnBytes (ok_injective k) (body_bytes rows f.0 a.0 (pair_bytes 2 bytes f.0 h f.1).1 f.2)

-- every column's values are bytes
abbrev AllBytes : List TableColumn → Type 0
AllBytes cs = (c : ℕ) (d : TableColumn) → get_elem? cs c ≡ some d → Bytes d.values

-- of no column
none_bytes : AllBytes []
none_bytes c d q = let z : ◌≡◌ {A = ℕ} 0 1 = cc in absurd (omega arith)

-- of one column more
more_bytes : (a : TableColumn) (cs : List TableColumn) → Bytes a.values → AllBytes cs → AllBytes (a ∷ cs)
more_bytes a cs h k zero d q = let e : a ≡ d = cc in subst (λ (x : TableColumn). Bytes x.values) e h
more_bytes a cs h k (suc c) d q = k c d q

-- of the columns that are read
columns_bytes_lem : (rows left : ℕ) (bytes : List ℕ) (cs : List TableColumn) → Bytes bytes → read_columns rows left bytes ≡ ok cs → AllBytes cs
unfolding read_columns
columns_bytes_lem rows zero [] cs h p = subst AllBytes (ok_injective p) none_bytes
columns_bytes_lem rows zero (b ∷ bytes) cs h p = absurd (refused_not_ok 10 cs (bind_ok (tagged_pair 2 (b ∷ bytes)) _ cs p).2)
columns_bytes_lem rows (suc left) [] cs h p = subst AllBytes (ok_injective p) none_bytes
columns_bytes_lem rows (suc left) (b ∷ bytes) cs h p =
    let a = bind_ok (read_column rows (b ∷ bytes)) _ cs p in
    let r = bind_ok (read_columns rows left a.0.rest) _ cs a.2 in
    let i = column_bytes_lem rows (b ∷ bytes) a.0 h a.1 in
    subst AllBytes (ok_injective r.2) (more_bytes a.0.part r.0 i.0 (columns_bytes_lem rows left a.0.rest r.0 i.1 r.1))

-- of an accepted table
table_bytes_lem : (bytes : List ℕ) (t : Table) → Bytes bytes → read_table bytes ≡ ok t → AllBytes t.columns
table_bytes_lem bytes t h p =
    let i = table_inv bytes t p in
    columns_bytes_lem (number i.first.content) columns_most i.first.rest t.columns (pair_bytes 1 bytes i.first h i.first_reads).1 i.columns_read_lem

-- an accepted table's entries are of their columns' types
pub table_typed : (bytes : List ℕ) (t : Table) → Bytes bytes → read_table bytes ≡ ok t → (c : ℕ) (d : TableColumn) → get_elem? t.columns c ≡ some d
    → (i : ℕ) → of_type d.type (entry_at d i) ≡ true
table_typed bytes t h p c d q i = entry_typed d i (table_bytes_lem bytes t h p c d q)
