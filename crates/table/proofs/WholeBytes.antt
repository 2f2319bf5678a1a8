-- The bytes of an accepted table are those of the table that is read, which is within the limits. Assumes nothing.
use mathlib.Core.Path.{◌≡◌, refl, sym, ap, subst, ◌∙◌}
use mathlib.Core.Bool.{Bool, true, false, ◌||◌}
use mathlib.Core.List.{List, [], ◌∷◌, ◌++◌, append_assoc}
use mathlib.Core.Logic.{◌⊎◌, inl, inr}
use mathlib.Core.Option.{Option}
use Prim.Native.Nat.{ℕ, zero, suc, ◌*◌, ◌≤◌}
use native.Mathlib.Omega.{arith}
use lib.Dec.{eqb}
use lib.ListN.{length}
use borrow.Author.Tests.{eqb-true}
use Rattle.layout.specs.Result.{ok}
use Rattle.layout.specs.Bytes.{Bytes, byte, number, number_bytes, bitmap_length}
use Rattle.layout.specs.Field.{Field, header, field_bytes}
use Rattle.layout.proofs.ResultLaws.{refused_not_ok, ok_injective, bind_ok, require_then}
use Rattle.layout.proofs.BytesLaws.{number_bytes_number}
use Rattle.layout.proofs.FieldLaws.{header_bytes, header_bytes_parts}
use Rattle.scalar.specs.declared.types.DataType.{DataType}
use Rattle.scalar.specs.declared.types.DataType.TheVariants.{Boolean, Int32, Int64, Float64, Utf8}
use Rattle.scalar.specs.Types.{type_number, type_numbered, mark_number, mark_numbered}
use Rattle.scalar.proofs.TypeLaws.{type_numbered_ok, mark_numbered_ok}
use Rattle.table.specs.Column.{TableColumn, offset_at}
use Rattle.table.specs.Reading.{Part, tagged, tagged_pair, read_count, read_validity, never_falls, read_text_offsets, read_offsets, values_length, read_values, read_body, read_parts, no_null, count_right, read_column, read_columns, columns_most}
use Rattle.table.specs.TableBytes.{offsets_field, count_field, column_bytes, columns_bytes, table_bytes, TextOffsetsWithin, OffsetsWithin, PartsWithin, ColumnWithin, EachWithin, TableIsItsBytes}
use Rattle.table.proofs.TableInversions.{table_inv}
use Rattle.table.proofs.StandLaws.{table_stands}
use Rattle.table.proofs.TableTyped.{count_cases}

-- ---- a field

-- bytes are those of a content's field and what is behind it, all of them bytes
pub record Whole (tag : ℕ) (l content rest : List ℕ) : Type 0 where
  pub is : l ≡ field_bytes tag content ++ rest
  pub inner : Bytes content
  pub behind : Bytes rest

abbrev FieldWhole : ℕ → List ℕ → Field → Type 0
FieldWhole tag l f = Whole tag l f.content f.rest

tagged_whole : (tag : ℕ) (l : List ℕ) (f : Field) → Bytes l → tagged tag l ≡ ok f → FieldWhole tag l f
unfolding tagged
tagged_whole tag l f h p =
    let a = bind_ok (header 9 l) _ f p in
    let b = require_then (eqb a.0.tag tag) 9 _ f a.2 in
    let i = header_bytes_parts 9 l a.0 h a.1 in
    let is : l ≡ field_bytes tag a.0.content ++ a.0.rest = header_bytes 9 l a.0 h a.1 ∙ ap (λ (k : ℕ). field_bytes k a.0.content ++ a.0.rest) (eqb-true _ _ b.0) in
    subst (FieldWhole tag l) (ok_injective b.1) (record { is = is; inner = i.0; behind = i.1 })

pair_whole : (tag : ℕ) (l : List ℕ) (f : Field) → Bytes l → tagged_pair tag l ≡ ok f → FieldWhole tag l f × (length f.content ≡ 2)
unfolding tagged_pair
pair_whole tag l f h p =
    let a = bind_ok (tagged tag l) _ f p in
    let b = require_then (eqb (length a.0.content) 2) 9 _ f a.2 in
    subst (λ (g : Field). FieldWhole tag l g × (length g.content ≡ 2)) (ok_injective b.1) (tagged_whole tag l a.0 h a.1, eqb-true _ _ b.0)

-- two bytes, one by one
two_bytes : (l : List ℕ) → length l ≡ 2 → byte l 0 ∷ byte l 1 ∷ [] ≡ l
two_bytes [] e = absurd (omega arith)
two_bytes (a ∷ []) e = absurd (omega arith)
two_bytes (a ∷ b ∷ []) e = refl
two_bytes (a ∷ b ∷ c ∷ l) e = absurd (omega arith)

-- ---- the parts of a column

-- a null count and what is behind it
pub record CountWhole (l : List ℕ) (p : Part (Option (List ℕ))) : Type 0 where
  pub is : l ≡ count_field p.part ++ p.rest
  pub behind : Bytes p.rest

count_whole : (l : List ℕ) (p : Part (Option (List ℕ))) → Bytes l → read_count l ≡ ok p → CountWhole l p
count_whole l p h e =
    count_cases (CountWhole l) l p e (λ f q. let w = tagged_whole 6 l f h q in record { is = w.is; behind = w.behind }) (record { is = refl; behind = h })

-- one of two tests holds
either_holds : (a b c : ℕ) → (eqb a b || eqb a c) ≡ true → (a ≡ b) ⊎ (a ≡ c)
either_holds a b c h = go (eqb a b) refl h
  where
    go : (x : Bool) → eqb a b ≡ x → (x || eqb a c) ≡ true → (a ≡ b) ⊎ (a ≡ c)
    go true e k = inl (eqb-true a b e)
    go false e k = inr (eqb-true a c k)

abbrev ValidityWhole : ℕ → List ℕ → Part (List ℕ) → Type 0
ValidityWhole rows l p = Whole 3 l p.part p.rest × ((length p.part ≡ 0) ⊎ (length p.part ≡ bitmap_length rows))

validity_whole : (rows : ℕ) (l : List ℕ) (p : Part (List ℕ)) → Bytes l → read_validity rows l ≡ ok p → ValidityWhole rows l p
unfolding read_validity
validity_whole rows l p h e =
    let f = bind_ok (tagged 3 l) _ p e in
    let a = require_then (eqb (length f.0.content) 0 || eqb (length f.0.content) (bitmap_length rows)) 11 _ p f.2 in
    subst (ValidityWhole rows l) (ok_injective a.1) (tagged_whole 3 l f.0 h f.1, either_holds _ _ _ a.0)

-- offsets and what is behind them
pub record OffsetsWhole (t : DataType) (rows : ℕ) (l : List ℕ) (p : Part (List ℕ)) : Type 0 where
  pub is : l ≡ offsets_field t p.part ++ p.rest
  pub behind : Bytes p.rest
  pub within : OffsetsWithin t rows p.part

offsets_whole : (t : DataType) (rows : ℕ) (l : List ℕ) (p : Part (List ℕ)) → Bytes l → read_offsets t rows l ≡ ok p → OffsetsWhole t rows l p
unfolding read_text_offsets
offsets_whole Boolean rows l p h e = subst (OffsetsWhole Boolean rows l) (ok_injective e) (record { is = refl; behind = h; within = refl })
offsets_whole Int32 rows l p h e = subst (OffsetsWhole Int32 rows l) (ok_injective e) (record { is = refl; behind = h; within = refl })
offsets_whole Int64 rows l p h e = subst (OffsetsWhole Int64 rows l) (ok_injective e) (record { is = refl; behind = h; within = refl })
offsets_whole Float64 rows l p h e = subst (OffsetsWhole Float64 rows l) (ok_injective e) (record { is = refl; behind = h; within = refl })
offsets_whole Utf8 rows l p h e =
    let f = bind_ok (tagged 5 l) _ p e in
    let a = require_then (eqb (length f.0.content) (4 * suc rows)) 11 _ p f.2 in
    let b = require_then (eqb (offset_at f.0.content 0) 0) 11 _ p a.1 in
    let c = require_then (never_falls rows f.0.content) 11 _ p b.1 in
    let w = tagged_whole 5 l f.0 h f.1 in
    let o : TextOffsetsWithin rows f.0.content = record { size = eqb-true _ _ a.0; first = eqb-true _ _ b.0; rising = c.0 } in
    subst (OffsetsWhole Utf8 rows l) (ok_injective c.1) (record { is = w.is; behind = w.behind; within = o })

abbrev ValuesWhole : DataType → ℕ → List ℕ → List ℕ → Part (List ℕ) → Type 0
ValuesWhole t rows offsets l p = Whole 4 l p.part p.rest × (length p.part ≡ values_length t rows offsets)

values_whole : (t : DataType) (rows : ℕ) (offsets l : List ℕ) (p : Part (List ℕ)) → Bytes l → read_values t rows offsets l ≡ ok p → ValuesWhole t rows offsets l p
unfolding read_values
values_whole t rows offsets l p h e =
    let f = bind_ok (tagged 4 l) _ p e in
    let a = require_then (eqb (length f.0.content) (values_length t rows offsets)) 11 _ p f.2 in
    subst (ValuesWhole t rows offsets l) (ok_injective a.1) (tagged_whole 4 l f.0 h f.1, eqb-true _ _ a.0)

-- ---- a column

-- bytes that begin with five lists, one behind the other
one_behind_other : {l m n o p : List ℕ} (a b c d e rest : List ℕ) → l ≡ a ++ m → m ≡ b ++ n → n ≡ c ++ o → o ≡ d ++ p → p ≡ e ++ rest
    → l ≡ (a ++ (b ++ (c ++ (d ++ e)))) ++ rest
one_behind_other a b c d e rest first second third fourth fifth = rw (first, second, third, fourth, fifth) (simp append_assoc)

-- a column and what is behind it
pub record ColumnWhole (rows : ℕ) (l : List ℕ) (c : Part TableColumn) : Type 0 where
  pub is : l ≡ column_bytes c.part ++ c.rest
  pub behind : Bytes c.rest
  pub within : PartsWithin rows c.part

parts_whole : (rows : ℕ) (l : List ℕ) (c : Part TableColumn) → Bytes l → read_parts rows l ≡ ok c → ColumnWhole rows l c
unfolding read_parts read_body column_bytes
parts_whole rows l c h p =
    let f = bind_ok (tagged_pair 2 l) _ c p in
    let t = bind_ok (type_numbered 11 (byte f.0.content 0)) _ c f.2 in
    let n = bind_ok (mark_numbered 11 (byte f.0.content 1)) _ c t.2 in
    let k = bind_ok (read_count f.0.rest) _ c n.2 in
    let y = bind_ok (read_validity rows k.0.rest) _ c k.2 in
    let o = bind_ok (read_offsets t.0 rows y.0.rest) _ c y.2 in
    let v = bind_ok (read_values t.0 rows o.0.part o.0.rest) _ c o.2 in
    let head = pair_whole 2 l f.0 h f.1 in
    let count = count_whole f.0.rest k.0 head.0.behind k.1 in
    let first = validity_whole rows k.0.rest y.0 count.behind y.1 in
    let next = offsets_whole t.0 rows y.0.rest o.0 first.0.behind o.1 in
    let last = values_whole t.0 rows o.0.part o.0.rest v.0 next.behind v.1 in
    let two : f.0.content ≡ type_number t.0 ∷ mark_number n.0 ∷ [] =
    sym (two_bytes f.0.content head.1) ∙ (λ i. type_numbered_ok 11 _ t.0 t.1 i ∷ mark_numbered_ok 11 _ n.0 n.1 i ∷ []) in
    let a : List ℕ = field_bytes 2 (type_number t.0 ∷ mark_number n.0 ∷ []) in
    let q : List ℕ = count_field k.0.part in
    let b : List ℕ = field_bytes 3 y.0.part in
    let d : List ℕ = offsets_field t.0 o.0.part in
    let e : List ℕ = field_bytes 4 v.0.part in
    let whole : l ≡ (a ++ (q ++ (b ++ (d ++ e)))) ++ v.0.rest =
    one_behind_other a q b d e v.0.rest (head.0.is ∙ ap (λ (m : List ℕ). field_bytes 2 m ++ f.0.rest) two) count.is first.0.is next.is last.0.is in
    subst (ColumnWhole rows l) (ok_injective v.2)
    (record { is = whole; behind = last.0.behind; within = record { validity = first.1; offsets = next.within; values = last.1 } })

abbrev NullsWhole : ℕ → List ℕ → Part TableColumn → Type 0
NullsWhole rows l c = ColumnWhole rows l c × ((c.part.nullable || no_null c.part.validity rows) ≡ true) × (count_right c.part rows ≡ true)

column_whole : (rows : ℕ) (l : List ℕ) (c : Part TableColumn) → Bytes l → read_column rows l ≡ ok c → NullsWhole rows l c
unfolding read_column
column_whole rows l c h p =
    let a = bind_ok (read_parts rows l) _ c p in
    let b = require_then (a.0.part.nullable || no_null a.0.part.validity rows) 12 _ c a.2 in
    let k = require_then (count_right a.0.part rows) 25 _ c b.1 in
    subst (NullsWhole rows l) (ok_injective k.1) (parts_whole rows l a.0 h a.1, b.0, k.0)

-- ---- the columns

abbrev ColumnsWhole : ℕ → List ℕ → List TableColumn → Type 0
ColumnsWhole rows l cs = (l ≡ columns_bytes cs) × EachWithin rows cs

none_each : (rows : ℕ) → EachWithin rows []
none_each rows i c q = let z : ◌≡◌ {A = ℕ} 0 1 = cc in absurd (omega arith)

more_each : (rows : ℕ) (a : TableColumn) (cs : List TableColumn) → ColumnWithin rows a → EachWithin rows cs → EachWithin rows (a ∷ cs)
more_each rows a cs h k zero d q = let e : a ≡ d = cc in subst (ColumnWithin rows) e h
more_each rows a cs h k (suc i) d q = k i d q

columns_whole : (rows left : ℕ) (l : List ℕ) (cs : List TableColumn) → Bytes l → read_columns rows left l ≡ ok cs → ColumnsWhole rows l cs
unfolding read_columns columns_bytes
columns_whole rows zero [] cs h p = subst (ColumnsWhole rows []) (ok_injective p) (refl, none_each rows)
columns_whole rows zero (b ∷ l) cs h p = absurd (refused_not_ok 10 cs (bind_ok (tagged_pair 2 (b ∷ l)) _ cs p).2)
columns_whole rows (suc left) [] cs h p = subst (ColumnsWhole rows []) (ok_injective p) (refl, none_each rows)
columns_whole rows (suc left) (b ∷ l) cs h p =
    let a = bind_ok (read_column rows (b ∷ l)) _ cs p in
    let r = bind_ok (read_columns rows left a.0.rest) _ cs a.2 in
    let w = column_whole rows (b ∷ l) a.0 h a.1 in
    let k = columns_whole rows left a.0.rest r.0 w.0.behind r.1 in
    subst (ColumnsWhole rows (b ∷ l)) (ok_injective r.2)
    (w.0.is ∙ ap (λ (m : List ℕ). column_bytes a.0.part ++ m) k.0, more_each rows a.0.part r.0 (record { parts = w.0.within; nulls = w.1; count = w.2 }) k.1)

-- ---- the table

pub table_is_its_bytes : TableIsItsBytes
unfolding table_bytes
table_is_its_bytes bytes t h p =
    let i = table_inv bytes t p in
    let first = pair_whole 1 bytes i.first h i.first_reads in
    let k = columns_whole (number i.first.content) columns_most i.first.rest t.columns first.0.behind i.columns_read_lem in
    let two : i.first.content ≡ number_bytes 2 t.rows =
    sym (ap (λ (n : ℕ). number_bytes n (number i.first.content)) (sym first.1) ∙ number_bytes_number i.first.content first.0.inner) ∙ ap (number_bytes 2) (sym i.rows_are) in
    let is : bytes ≡ table_bytes t = first.0.is ∙ (λ j. field_bytes 1 (two j) ++ k.0 j) in (
      is,
      record {
        rows = subst (λ (n : ℕ). n ≤ 512) (sym i.rows_are) i.few_rows;
        columns = (table_stands bytes t p).1;
        bytes = subst (λ (m : List ℕ). length m ≤ 65536) is i.few_bytes;
        each = subst (λ (n : ℕ). EachWithin n t.columns) (sym i.rows_are) k.1;
      },
    )
