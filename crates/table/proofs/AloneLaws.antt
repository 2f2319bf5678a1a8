-- One column that is the whole of the bytes, and how long its values are. Assumes nothing.
use mathlib.Core.Path.{◌≡◌, refl, sym, ap, subst, ◌∙◌}
use mathlib.Core.Bool.{Bool, true, false}
use mathlib.Core.List.{List}
use Prim.Native.Nat.{ℕ, ◌-◌, ◌<◌, ◌≤◌}
use native.Mathlib.Omega.{arith}
use lib.Dec.{eqb, leb}
use lib.ListN.{length, drop, length-take, length-drop}
use borrow.Author.Tests.{eq-eqb, ne_eqb, le-leb, lt-leb, leb-true}
use Rattle.layout.specs.Bytes.{Bytes, byte, number_at}
use Rattle.layout.specs.Field.{Field, content_length, field_at, header}
use Rattle.layout.specs.Result.{Result, ok, ◌>>=◌, require}
use Rattle.layout.proofs.FieldLaws.{header_ok}
use Rattle.layout.proofs.ResultLaws.{ok_injective, bind_ok, require_then}
use Rattle.scalar.specs.declared.types.DataType.{DataType}
use Rattle.scalar.specs.Types.{type_numbered, mark_numbered}
use Rattle.std.specs.Prelude.{Ok, Err}
use Rattle.layout.specs.declared.refusal.Refusal.{Refusal}
use Rattle.layout.specs.declared.refusal.Refusal.TheVariants.{TableFields, TableSize, NullCount}
use Rattle.table.specs.declared.column.ColumnRead.{ColumnRead}
use Rattle.table.specs.Column.{TableColumn}
use Rattle.table.specs.Reading.{Part, tagged, tagged_pair, read_count, read_validity, read_offsets, values_length, read_values, read_body, read_parts, count_right, read_alone}
use Rattle.table.specs.Places.{place_from, values_end, validity_start, alone_answer}
use Rattle.table.specs.Parts.{column_from, head_answer, place_count_right}
use Rattle.layout.proofs.AnswerLaws.{answered_refused}
use Rattle.table.proofs.StandLaws.{column_stands}
use Rattle.table.proofs.ColumnLaws.{found, right_is}
use Rattle.table.proofs.TableTyped.{number_at_below, pair_bytes, count_rest, validity_rest, offsets_rest}

-- too many rows
pub alone_rows : (l : List ℕ) (rows : ℕ) → 512 < rows → Err TableSize ≡ alone_answer rows (read_alone rows l)
unfolding read_alone alone_answer
alone_rows l rows h = simp (lt-leb rows 512 h)

-- what is done with the column
abbrev whole_of : ℕ → Part TableColumn → Result TableColumn
whole_of rows c = require (count_right c.part rows) 25 >>= λ _. require (eqb (length c.rest) 0) 9 >>= λ _. ok c.part

module _ (l : List ℕ) (rows : ℕ) (few : rows ≤ 512) where
  -- what is read goes on to its null count and the bytes behind it
  alone_step : (read_parts rows l >>= whole_of rows) ≡ read_alone rows l
  unfolding read_alone
  alone_step = sym (ap (λ (t : Bool). require t 10 >>= λ _. read_parts rows l >>= whole_of rows) (le-leb rows 512 few))

  -- the column is refused
  pub alone_cut : {e : Refusal} → Err e ≡ head_answer rows 5 (read_parts rows l) → Err e ≡ alone_answer rows (read_alone rows l)
  unfolding alone_answer
  alone_cut g = answered_refused (column_from rows 5) (read_parts rows l) g (whole_of rows) (place_from rows 0) ∙ ap (alone_answer rows) alone_step

  module _ {c : ColumnRead} (g : Ok c ≡ head_answer rows 5 (read_parts rows l)) where
    abbrev column : Part TableColumn
    column = (found l 0 rows g).0

    -- its null count and the bytes behind it decide
    found_whole : (a b : Bool) → place_count_right l 0 c.place ≡ a → eqb (length column.rest) 0 ≡ b
        → (require a 25 >>= λ _. require b 9 >>= λ _. ok column.part) ≡ read_alone rows l
    found_whole a b p e =
        sym (ap (λ (d : Result (Part TableColumn)). d >>= whole_of rows) (found l 0 rows g).1
        ∙ (λ i. require ((sym (right_is l 0 rows g) ∙ p) i) 25 >>= λ _. require (e i) 9 >>= λ _. ok column.part))
        ∙ alone_step

    -- which are those behind its values
    rest_is : length column.rest ≡ length l - c.next
    rest_is =
        sym (ap length (column_stands rows l 0 column (found l 0 rows g).1).column.behind) ∙ length-drop (values_end (validity_start 5 column.part) column.part) l
        ∙ ap (λ (k : ℕ). length l - k) (sym (ap (λ (x : ColumnRead). x.next) (found l 0 rows g).2))

    -- its null count is wrong
    pub alone_miscounted : place_count_right l 0 c.place ≡ false → Err NullCount ≡ alone_answer rows (read_alone rows l)
    unfolding alone_answer
    alone_miscounted p = ap (alone_answer rows) (found_whole false (eqb (length column.rest) 0) p refl)

    module _ (p : place_count_right l 0 c.place ≡ true) where
      -- bytes are left behind it
      pub alone_over : c.next < length l → Err TableFields ≡ alone_answer rows (read_alone rows l)
      unfolding alone_answer
      alone_over h = ap (alone_answer rows) (found_whole true false p (ne_eqb _ 0 (λ (q : length column.rest ≡ 0). omega (arith, q, rest_is))))

      -- it is the whole
      pub alone_whole : length l ≤ c.next → Ok c.place ≡ alone_answer rows (read_alone rows l)
      unfolding alone_answer
      alone_whole h =
          let none : length column.rest ≡ 0 = omega (arith, rest_is) in
          ap (λ (x : ColumnRead). Ok x.place) (found l 0 rows g).2 ∙ ap (alone_answer rows) (found_whole true true p (eq-eqb _ 0 none))

-- ---- how long the values are

-- a field's content has fewer bytes than two bytes can say
field_short : (tag : ℕ) (l : List ℕ) (f : Field) → Bytes l → tagged tag l ≡ ok f → length f.content ≤ 65535
unfolding tagged
field_short tag l f h p =
    let a = bind_ok (header 9 l) _ f p in
    let b = (require_then (eqb a.0.tag tag) 9 _ f a.2).1 in
    let below : number_at 2 l 1 < 65536 = number_at_below 2 l 1 h in
    let here : length (field_at l).content ≤ 65535 = omega (arith, below, length-take (content_length l) (drop 3 l)) in
    subst (λ (g : Field). length g.content ≤ 65535) (sym (header_ok 9 l a.0 a.1).2 ∙ ok_injective b) here

values_short : (t : DataType) (rows : ℕ) (offsets l : List ℕ) (r : Part (List ℕ)) → Bytes l → read_values t rows offsets l ≡ ok r → length r.part ≤ 65535
unfolding read_values
values_short t rows offsets l r h p =
    let f = bind_ok (tagged 4 l) _ r p in
    let a = (require_then (eqb (length f.0.content) (values_length t rows offsets)) 11 _ r f.2).1 in
    subst (λ (x : Part (List ℕ)). length x.part ≤ 65535) (ok_injective a) (field_short 4 l f.0 h f.1)

body_short : (rows : ℕ) (f : Field) (c : Part TableColumn) → Bytes f.rest → read_body rows f ≡ ok c → length c.part.values ≤ 65535
unfolding read_body
body_short rows f c h p =
    let t = bind_ok (type_numbered 11 (byte f.content 0)) _ c p in
    let n = bind_ok (mark_numbered 11 (byte f.content 1)) _ c t.2 in
    let k = bind_ok (read_count f.rest) _ c n.2 in
    let y = bind_ok (read_validity rows k.0.rest) _ c k.2 in
    let o = bind_ok (read_offsets t.0 rows y.0.rest) _ c y.2 in
    let v = bind_ok (read_values t.0 rows o.0.part o.0.rest) _ c o.2 in
    let behind = offsets_rest t.0 rows y.0.rest o.0 (validity_rest rows k.0.rest y.0 (count_rest f.rest k.0 h k.1) y.1) o.1 in
    subst (λ (x : Part TableColumn). length x.part.values ≤ 65535) (ok_injective v.2) (values_short t.0 rows o.0.part o.0.rest v.0 behind v.1)

-- one column: at most 512 rows, at most 65,535 bytes of values
pub alone_short : (l : List ℕ) (rows : ℕ) (c : TableColumn) → Bytes l → read_alone rows l ≡ ok c → (rows ≤ 512) × (length c.values ≤ 65535)
unfolding read_alone read_parts
alone_short l rows c h p =
    let a = require_then (leb rows 512) 10 _ c p in
    let d = bind_ok (read_parts rows l) _ c a.1 in
    let k = (require_then (count_right d.0.part rows) 25 _ c d.2).1 in
    let e = (require_then (eqb (length d.0.rest) 0) 9 _ c k).1 in
    let f = bind_ok (tagged_pair 2 l) _ d.0 d.1 in
    let short = body_short rows f.0 d.0 (pair_bytes 2 l f.0 h f.1).1 f.2 in
    (leb-true rows 512 a.0, subst (λ (x : TableColumn). length x.values ≤ 65535) (ok_injective e) short)
