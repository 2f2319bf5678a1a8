-- Where the parts of a table stand: what the definition reads lies at the places that follow from the parts' lengths. Assumes nothing.
use mathlib.Core.Path.{◌≡◌, refl, sym, ap, subst, ◌∙◌}
use mathlib.Core.Bool.{Bool, true, false, cond, ◌||◌}
use mathlib.Core.List.{List, [], ◌∷◌, ◌++◌, map}
use mathlib.Core.Option.{Option, some, none}
use Prim.Native.Nat.{ℕ, zero, suc, ◌+◌, ◌-◌, ◌*◌, ◌<◌, ◌≤◌}
use native.Mathlib.Nat.{add-zero}
use native.Mathlib.Omega.{arith}
use lib.Dec.{eqb, leb}
use lib.ListN.{length, get_or, take, drop, replicate, length-drop, get_or-append}
use lib.Seq.{take_at}
use borrow.Author.Tests.{eqb-true}
use Rattle.layout.specs.Result.{Result, refused, ok, ◌>>=◌}
use Rattle.layout.specs.Bytes.{byte, part, bitmap_length}
use Rattle.layout.specs.Field.{Field, header}
use Rattle.layout.specs.Place.{placed, header_of, header_at}
use Rattle.std.specs.Prelude.{Result as RustResult, Some}
use Rattle.layout.specs.declared.refusal.Refusal.{Refusal}
use Rattle.layout.proofs.ResultLaws.{refused_not_ok, ok_injective, bind_ok, require_then}
use Rattle.layout.proofs.FieldLaws.{header_ok, header_fits}
use Rattle.layout.proofs.PlaceLaws.{place_found}
use Rattle.layout.proofs.PartLaws.{length_part}
use Rattle.layout.proofs.TestLaws.{both_hold}
use Rattle.scalar.specs.declared.types.DataType.{DataType}
use Rattle.scalar.specs.declared.types.DataType.TheVariants.{Boolean, Int32, Int64, Float64, Utf8}
use Rattle.scalar.specs.Types.{type_numbered, mark_numbered}
use Rattle.table.specs.declared.places.ColumnPlace.{ColumnPlace}
use Rattle.table.specs.declared.places.Table.{Table as TablePlaces}
use Rattle.table.specs.Column.{TableColumn, null_count, offset_at}
use Rattle.table.specs.Reading.{Part, tagged, tagged_pair, read_count, read_validity, never_falls, read_text_offsets, read_offsets, values_length, read_values, read_body, read_parts, no_null, count_says, count_right, read_column, read_columns, rows_most, columns_most, Table, read_table, read_alone}
use Rattle.table.specs.Places.{count_in, column_in, Inside, ColumnInside, no_place, offsets_start, is_counted, values_end, place_behind, count_size, validity_start, place_from, column_end, places_from, table_answer_from, table_answer, alone_answer, CountKept, TableRead, AloneRead}
use Rattle.table.proofs.TableInversions.{table_inv}
use Rattle.table.proofs.RefusalLaws.{table_number, alone_number}

-- ---- a part

-- a content stands at a place of the bytes, and the rest behind it
pub record Stands (l : List ℕ) (start : ℕ) (content rest : List ℕ) : Type 0 where
  pub there : part l start (start + length content) ≡ content
  pub behind : drop (start + length content) l ≡ rest
  pub inside : start + length content ≤ length l

-- a content that stands at a place, by other places of it
pub stands_at : (l : List ℕ) (start begin end : ℕ) → Stands l start (part l begin end) (drop end l) → Inside (length l) begin end → (begin ≡ start) × (end ≡ begin + length (part l begin end))
stands_at l start begin end s i =
    let size = length_part l begin end in
    let rest = ap length s.behind in
    let far = length-drop (start + length (part l begin end)) l in
    let near = length-drop end l in
    (omega (arith, size, rest, far, near, s.inside, i.ordered, i.in_bytes), omega (arith, size, i.ordered, i.in_bytes))

abbrev FieldStands : List ℕ → ℕ → Field → Type 0
FieldStands l at f = Stands l (at + 3) f.content f.rest

-- a field at a place has its content behind a header of three bytes
header_stands : (l : List ℕ) (at : ℕ) (f : Field) → header 9 (drop at l) ≡ ok f → FieldStands l at f
header_stands l at f e =
    let i = header_ok 9 (drop at l) f e in
    let found : header_at l at ≡ Some (placed at f) = ap (header_of at) (header_fits 2 (drop at l) i.0 i.1 ∙ ap ok (sym i.2)) in
    let t = place_found l at (placed at f) found in
    let same = ok_injective (sym (t.reads 9) ∙ e) in
    record { there = ap (λ (g : Field). g.content) same; behind = ap (λ (g : Field). g.rest) same; inside = t.inside }

pub tagged_stands : (l : List ℕ) (at tag : ℕ) (f : Field) → tagged tag (drop at l) ≡ ok f → FieldStands l at f
unfolding tagged
tagged_stands l at tag f p =
    let a = bind_ok (header 9 (drop at l)) _ f p in
    let b = (require_then (eqb a.0.tag tag) 9 _ f a.2).1 in
    subst (FieldStands l at) (ok_injective b) (header_stands l at a.0 a.1)

-- one of two bytes ends five bytes behind its start
pub pair_stands : (l : List ℕ) (at tag : ℕ) (f : Field) → tagged_pair tag (drop at l) ≡ ok f → FieldStands l at f × (length f.content ≡ 2)
unfolding tagged_pair
pair_stands l at tag f p =
    let a = bind_ok (tagged tag (drop at l)) _ f p in
    let b = require_then (eqb (length a.0.content) 2) 9 _ f a.2 in
    subst (λ (g : Field). FieldStands l at g × (length g.content ≡ 2)) (ok_injective b.1) (tagged_stands l at tag a.0 a.1, eqb-true _ _ b.0)

pub pair_rest : (l : List ℕ) (at tag : ℕ) (f : Field) → tagged_pair tag (drop at l) ≡ ok f → f.rest ≡ drop (at + 5) l
pair_rest l at tag f p =
    let s = pair_stands l at tag f p in
    let five : at + 3 + length f.content ≡ at + 5 = omega (arith, s.1) in
    sym s.0.behind ∙ ap (λ (k : ℕ). drop k l) five

abbrev PartStands : List ℕ → ℕ → Part (List ℕ) → Type 0
PartStands l start p = Stands l start p.part p.rest

-- ---- the null count

-- a null count stands behind a place where it is written, and the rest behind it
pub record CountStands (l : List ℕ) (at : ℕ) (nulls : Option (List ℕ)) (rest : List ℕ) : Type 0 where
  pub there : (content : List ℕ) → nulls ≡ some content → part l (at + 3) (at + count_size nulls) ≡ content
  pub behind : drop (at + count_size nulls) l ≡ rest
  pub inside : at + count_size nulls ≤ length l

-- one that isn't written
count_none : (l : List ℕ) (at : ℕ) → at ≤ length l → CountStands l at none (drop at l)
count_none l at h = record {
  there = λ content e. let z : ◌≡◌ {A = ℕ} 0 1 = cc in absurd (omega arith);
  behind = ap (λ (k : ℕ). drop k l) (add-zero at);
  inside = omega arith;
}

-- one that is
count_some : (l : List ℕ) (at : ℕ) (f : Field) → FieldStands l at f → CountStands l at (some f.content) f.rest
count_some l at f s =
    let e : at + (3 + length f.content) ≡ at + 3 + length f.content = omega arith in
    record {
      there = λ content q. let same : f.content ≡ content = cc in ap (λ (k : ℕ). part l (at + 3) k) e ∙ s.there ∙ same;
      behind = ap (λ (k : ℕ). drop k l) e ∙ s.behind;
      inside = omega (arith, s.inside);
    }

pub count_stands : (l : List ℕ) (at : ℕ) (p : Part (Option (List ℕ))) → at ≤ length l → read_count (drop at l) ≡ ok p → CountStands l at p.part p.rest
unfolding read_count
count_stands l at p h e = go (eqb (byte (drop at l) 0) 6) e
  where
    go : (b : Bool)
        → cond b (tagged 6 (drop at l) >>= λ f. ok (record { part = some f.content; rest = f.rest })) (ok (record { part = none; rest = drop at l })) ≡ ok p
        → CountStands l at p.part p.rest
    go true q =
        let f = bind_ok (tagged 6 (drop at l)) _ p q in
        subst (λ (x : Part (Option (List ℕ))). CountStands l at x.part x.rest) (ok_injective f.2) (count_some l at f.0 (tagged_stands l at 6 f.0 f.1))
    go false q = subst (λ (x : Part (Option (List ℕ))). CountStands l at x.part x.rest) (ok_injective q) (count_none l at h)

-- one that says a number has two bytes, which stand before the header of tag 3
count_in_lem : (l : List ℕ) (at : ℕ) (nulls : Option (List ℕ)) (rest : List ℕ) (n : ℕ) → CountStands l at nulls rest → count_says nulls n ≡ true
    → count_in l (is_counted nulls) (at + count_size nulls + 3) ≡ nulls
count_in_lem l at none rest n s h = refl
count_in_lem l at (some content) rest n s h =
    let two : length content ≡ 2 = eqb-true _ _ (both_hold (eqb (length content) 2) _ h).0 in
    let from : at + (3 + length content) + 3 - 5 ≡ at + 3 = omega arith in
    let to : at + (3 + length content) + 3 - 3 ≡ at + (3 + length content) = omega arith in
    ap some ((λ i. part l (from i) (to i)) ∙ s.there content refl)

pub validity_stands : (rows : ℕ) (l : List ℕ) (at : ℕ) (p : Part (List ℕ)) → read_validity rows (drop at l) ≡ ok p → PartStands l (at + 3) p
unfolding read_validity
validity_stands rows l at p e =
    let f = bind_ok (tagged 3 (drop at l)) _ p e in
    let a = (require_then (eqb (length f.0.content) 0 || eqb (length f.0.content) (bitmap_length rows)) 11 _ p f.2).1 in
    subst (PartStands l (at + 3)) (ok_injective a) (tagged_stands l at 3 f.0 f.1)

-- a column that has no tag 5
none_stand : (l : List ℕ) (at : ℕ) → at ≤ length l → Stands l at [] (drop at l)
none_stand l at h =
    let none : at + 0 - at ≡ 0 = omega arith in
    record { there = ap (λ (k : ℕ). take k (drop at l)) none; behind = ap (λ (k : ℕ). drop k l) (add-zero at); inside = omega arith }

pub offsets_stand : (t : DataType) (rows : ℕ) (l : List ℕ) (at : ℕ) (p : Part (List ℕ)) → at ≤ length l → read_offsets t rows (drop at l) ≡ ok p
    → PartStands l (offsets_start t at) p
unfolding read_text_offsets
offsets_stand Boolean rows l at p h e = subst (PartStands l at) (ok_injective e) (none_stand l at h)
offsets_stand Int32 rows l at p h e = subst (PartStands l at) (ok_injective e) (none_stand l at h)
offsets_stand Int64 rows l at p h e = subst (PartStands l at) (ok_injective e) (none_stand l at h)
offsets_stand Float64 rows l at p h e = subst (PartStands l at) (ok_injective e) (none_stand l at h)
offsets_stand Utf8 rows l at p h e =
    let f = bind_ok (tagged 5 (drop at l)) _ p e in
    let a = (require_then (eqb (length f.0.content) (4 * suc rows)) 11 _ p f.2).1 in
    let b = (require_then (eqb (offset_at f.0.content 0) 0) 11 _ p a).1 in
    let c = (require_then (never_falls rows f.0.content) 11 _ p b).1 in
    subst (PartStands l (at + 3)) (ok_injective c) (tagged_stands l at 5 f.0 f.1)

pub values_stand : (t : DataType) (rows : ℕ) (offsets l : List ℕ) (at : ℕ) (p : Part (List ℕ)) → read_values t rows offsets (drop at l) ≡ ok p → PartStands l (at + 3) p
unfolding read_values
values_stand t rows offsets l at p e =
    let f = bind_ok (tagged 4 (drop at l)) _ p e in
    let a = (require_then (eqb (length f.0.content) (values_length t rows offsets)) 11 _ p f.2).1 in
    subst (PartStands l (at + 3)) (ok_injective a) (tagged_stands l at 4 f.0 f.1)

-- ---- a column

-- a column of so many rows stands at its places, its validity first, and the rest behind it
pub record ColumnStands (l : List ℕ) (rows at : ℕ) (c : Part TableColumn) : Type 0 where
  pub there : count_in l (is_counted c.part.nulls) at ≡ c.part.nulls → column_in l (place_behind rows at c.part) ≡ c.part
  pub valid : (column_in l (place_behind rows at c.part)).validity ≡ c.part.validity
  pub behind : drop (values_end at c.part) l ≡ c.rest
  pub inside : ColumnInside (length l) (place_behind rows at c.part)

-- its parts, one behind the other
parts_stand : (l : List ℕ) (rows at : ℕ) (t : DataType) (n : Bool) (k : Option (List ℕ)) (v o w : Part (List ℕ))
    → PartStands l at v → PartStands l (offsets_start t (at + length v.part)) o → PartStands l (offsets_start t (at + length v.part) + length o.part + 3) w
    → ColumnStands l rows at (record { part = record { type = t; nullable = n; nulls = k; validity = v.part; offsets = o.part; values = w.part }; rest = w.rest })
parts_stand l rows at t n k v o w a b c = record {
  there = λ e i. record { type = t; nullable = n; nulls = e i; validity = a.there i; offsets = b.there i; values = c.there i };
  valid = a.there;
  behind = c.behind;
  inside = record {
    validity = record { ordered = omega arith; in_bytes = a.inside };
    offsets = record { ordered = omega arith; in_bytes = b.inside };
    values = record { ordered = omega arith; in_bytes = c.inside };
  };
}

-- a column whose tag 2 ends at a place: its null count, and its parts behind it
pub record HeadStands (l : List ℕ) (rows at : ℕ) (c : Part TableColumn) : Type 0 where
  pub counted : List ℕ
  pub count : CountStands l at c.part.nulls counted
  pub column : ColumnStands l rows (validity_start at c.part) c

body_stands : (rows : ℕ) (l : List ℕ) (at : ℕ) (f : Field) (c : Part TableColumn) → f.rest ≡ drop at l → at ≤ length l → read_body rows f ≡ ok c → HeadStands l rows at c
unfolding read_body
body_stands rows l at f c r h p =
    let t = bind_ok (type_numbered 11 (byte f.content 0)) _ c p in
    let n = bind_ok (mark_numbered 11 (byte f.content 1)) _ c t.2 in
    let k = bind_ok (read_count f.rest) _ c n.2 in
    let y = bind_ok (read_validity rows k.0.rest) _ c k.2 in
    let o = bind_ok (read_offsets t.0 rows y.0.rest) _ c y.2 in
    let v = bind_ok (read_values t.0 rows o.0.part o.0.rest) _ c o.2 in
    let count = count_stands l at k.0 h (ap read_count (sym r) ∙ k.1) in
    let first = validity_stands rows l _ y.0 (ap (read_validity rows) count.behind ∙ y.1) in
    let next = offsets_stand t.0 rows l _ o.0 first.inside (ap (read_offsets t.0 rows) first.behind ∙ o.1) in
    let last = values_stand t.0 rows o.0.part l _ v.0 (ap (read_values t.0 rows o.0.part) next.behind ∙ v.1) in
    subst (HeadStands l rows at) (ok_injective v.2) (record {
      counted = k.0.rest;
      count = count;
      column = parts_stand l rows (at + count_size k.0.part + 3) t.0 n.0 k.0.part y.0 o.0 v.0 first next last;
    })

pub column_stands : (rows : ℕ) (l : List ℕ) (at : ℕ) (c : Part TableColumn) → read_parts rows (drop at l) ≡ ok c → HeadStands l rows (at + 5) c
unfolding read_parts
column_stands rows l at c p =
    let f = bind_ok (tagged_pair 2 (drop at l)) _ c p in
    let s = pair_stands l at 2 f.0 f.1 in
    body_stands rows l (at + 5) f.0 c (pair_rest l at 2 f.0 f.1) (omega (arith, s.0.inside, s.1)) f.2

-- a column whose nulls are as they may be, and whose null count is right, is one whatever its nulls
pub column_parts : (rows : ℕ) (bytes : List ℕ) (c : Part TableColumn) → read_column rows bytes ≡ ok c → (read_parts rows bytes ≡ ok c) × (count_right c.part rows ≡ true)
unfolding read_column
column_parts rows bytes c p =
    let a = bind_ok (read_parts rows bytes) _ c p in
    let b = require_then (a.0.part.nullable || no_null a.0.part.validity rows) 12 _ c a.2 in
    let d = require_then (count_right a.0.part rows) 25 _ c b.1 in
    (a.1 ∙ d.1, subst (λ (x : Part TableColumn). count_right x.part rows ≡ true) (ok_injective d.1) d.0)

-- the column whose null count is right is what the bytes hold at its places, which hold the number of its nulls
pub record Placed (l : List ℕ) (rows at : ℕ) (c : TableColumn) : Type 0 where
  pub there : column_in l (place_from rows at c) ≡ c
  pub inside : ColumnInside (length l) (place_from rows at c)
  pub counts : CountKept l rows (place_from rows at c)

column_placed : (l : List ℕ) (rows at : ℕ) (c : Part TableColumn) → HeadStands l rows (at + 5) c → count_right c.part rows ≡ true → Placed l rows at c.part
column_placed l rows at c s h = record {
  there = s.column.there (count_in_lem l (at + 5) c.part.nulls s.counted (null_count c.part.validity rows) s.count h);
  inside = s.column.inside;
  counts = sym (ap (λ (v : List ℕ). null_count v rows) s.column.valid);
}

-- ---- the columns

-- columns stand one behind the other
pub record ColumnsStand (l : List ℕ) (rows at : ℕ) (cs : List TableColumn) : Type 0 where
  pub there : map (column_in l) (places_from rows at cs) ≡ cs
  pub inside : (i : ℕ) → i < length cs → ColumnInside (length l) (get_or (places_from rows at cs) i no_place)
  pub counts : (i : ℕ) → i < length cs → CountKept l rows (get_or (places_from rows at cs) i no_place)

none_there : (l : List ℕ) (rows at : ℕ) → ColumnsStand l rows at []
unfolding places_from
none_there l rows at = record { there = refl; inside = λ i h. absurd (omega arith); counts = λ i h. absurd (omega arith) }

more_there : (l : List ℕ) (rows at : ℕ) (c : TableColumn) (cs : List TableColumn) → Placed l rows at c → ColumnsStand l rows (column_end at c) cs
    → ColumnsStand l rows at (c ∷ cs)
unfolding places_from
more_there l rows at c cs s k = record { there = λ i. s.there i ∷ k.there i; inside = within; counts = kept }
  where
    within : (i : ℕ) → i < length (c ∷ cs) → ColumnInside (length l) (get_or (places_from rows at (c ∷ cs)) i no_place)
    within zero h = s.inside
    within (suc i) h = k.inside i (omega arith)

    kept : (i : ℕ) → i < length (c ∷ cs) → CountKept l rows (get_or (places_from rows at (c ∷ cs)) i no_place)
    kept zero h = s.counts
    kept (suc i) h = k.counts i (omega arith)

abbrev FewStand : List ℕ → ℕ → ℕ → ℕ → List TableColumn → Type 0
FewStand l rows at left cs = ColumnsStand l rows at cs × (length cs ≤ left)

columns_stand : (rows left : ℕ) (l : List ℕ) (at : ℕ) (m : List ℕ) (cs : List TableColumn) → drop at l ≡ m → read_columns rows left m ≡ ok cs → FewStand l rows at left cs
unfolding read_columns
columns_stand rows zero l at [] cs e p = subst (FewStand l rows at zero) (ok_injective p) (none_there l rows at, omega arith)
columns_stand rows zero l at (b ∷ m) cs e p = absurd (refused_not_ok 10 cs (bind_ok (tagged_pair 2 (b ∷ m)) _ cs p).2)
columns_stand rows (suc left) l at [] cs e p = subst (FewStand l rows at (suc left)) (ok_injective p) (none_there l rows at, omega arith)
columns_stand rows (suc left) l at (b ∷ m) cs e p =
    let a = bind_ok (read_column rows (b ∷ m)) _ cs p in
    let r = bind_ok (read_columns rows left a.0.rest) _ cs a.2 in
    let d = column_parts rows (drop at l) a.0 (ap (read_column rows) e ∙ a.1) in
    let s = column_stands rows l at a.0 d.0 in
    let k = columns_stand rows left l (column_end at a.0.part) a.0.rest r.0 s.column.behind r.1 in
    subst (FewStand l rows at (suc left)) (ok_injective r.2) (more_there l rows at a.0.part r.0 (column_placed l rows at a.0 s d.1) k.0, omega (arith, k.1))

-- as many places as columns
pub length_places : (rows at : ℕ) (cs : List TableColumn) → length (places_from rows at cs) ≡ length cs
unfolding places_from
length_places rows at [] = refl
length_places rows at (c ∷ cs) = ap suc (length_places rows (column_end at c) cs)

-- ---- a table

-- an accepted table stands behind its tag 1
pub table_stands : (bytes : List ℕ) (t : Table) → read_table bytes ≡ ok t → FewStand bytes t.rows 5 16 t.columns
table_stands bytes t p =
    let i = table_inv bytes t p in
    subst (λ (n : ℕ). FewStand bytes n 5 16 t.columns) (sym i.rows_are)
    (columns_stand _ columns_most bytes 5 i.first.rest t.columns (sym (pair_rest bytes 0 1 i.first i.first_reads)) i.columns_read_lem)

-- what the answer of a table's reading means
pub table_read : {bytes : List ℕ} {r : RustResult TablePlaces Refusal} → r ≡ table_answer (read_table bytes) → TableRead bytes r
unfolding table_answer
table_read {bytes} {r} e = subst (TableRead bytes) (sym e) (go (read_table bytes) refl)
  where
    go : (d : Result Table) → read_table bytes ≡ d → TableRead bytes (table_answer_from 5 d)
    go (refused n) p = record { says = ap refused (table_number bytes n p) ∙ sym p; places = tt }
    go (ok t) p =
        let s = table_stands bytes t p in
        let places = places_from t.rows 5 t.columns in
        let empty = replicate (16 - length places) no_place in
        let size = length_places t.rows 5 t.columns in
        let placed : map (column_in bytes) (take (length t.columns) (places ++ empty)) ≡ t.columns =
        ap (map (column_in bytes)) (take_at places empty (length t.columns) size) ∙ s.0.there in
        record {
          says = ap (λ (cs : List TableColumn). ok (record { rows = t.rows; columns = cs })) placed ∙ sym p;
          places = record {
            few = s.1;
            inside = λ i h. subst (ColumnInside (length bytes)) (sym (get_or-append places empty no_place i (omega (arith, size)))) (s.0.inside i h);
            counts = λ i h. subst (CountKept bytes t.rows) (sym (get_or-append places empty no_place i (omega (arith, size)))) (s.0.counts i h);
          };
        }

-- one column alone stands at the start
alone_stands : (bytes : List ℕ) (rows : ℕ) (c : TableColumn) → read_alone rows bytes ≡ ok c → Placed bytes rows 0 c
unfolding read_alone
alone_stands bytes rows c p =
    let a = require_then (leb rows rows_most) 10 _ c p in
    let d = bind_ok (read_parts rows bytes) _ c a.1 in
    let k = require_then (count_right d.0.part rows) 25 _ c d.2 in
    let e = (require_then (eqb (length d.0.rest) 0) 9 _ c k.1).1 in
    subst (Placed bytes rows 0) (ok_injective e) (column_placed bytes rows 0 d.0 (column_stands rows bytes 0 d.0 d.1) k.0)

-- what the answer of one column's reading means
pub alone_read : {bytes : List ℕ} {rows : ℕ} {r : RustResult ColumnPlace Refusal} → r ≡ alone_answer rows (read_alone rows bytes) → AloneRead bytes rows r
unfolding alone_answer
alone_read {bytes} {rows} {r} e = subst (AloneRead bytes rows) (sym e) (go (read_alone rows bytes) refl)
  where
    go : (d : Result TableColumn) → read_alone rows bytes ≡ d → AloneRead bytes rows (alone_answer rows d)
    go (refused n) p = record { says = ap refused (alone_number rows bytes n p) ∙ sym p; inside = tt; counts = tt }
    go (ok c) p = let s = alone_stands bytes rows c p in record { says = ap ok s.there ∙ sym p; inside = s.inside; counts = s.counts }
