-- The columns of a table, read one behind the other, and the table. Assumes nothing.
use mathlib.Core.Path.{◌≡◌, refl, sym, ap, ◌∙◌}
use mathlib.Core.Bool.{Bool, true, false, ◌&&◌}
use mathlib.Core.List.{List, [], ◌∷◌, ◌++◌, append-nil, append_assoc}
use Prim.Native.Nat.{ℕ, zero, suc, ◌+◌, ◌-◌, ◌<◌, ◌≤◌}
use native.Mathlib.Omega.{arith}
use lib.Dec.{leb, ltb}
use lib.ListN.{length, drop, set, replicate, length-append, length-drop}
use lib.Seq.{take_all, set_at}
use borrow.Author.Tests.{le-leb, lt-leb, lt-ltb, le-ltb}
use Rattle.std.specs.Prelude.{Result as RustResult, Ok, Err}
use Rattle.layout.specs.declared.refusal.Refusal.{Refusal}
use Rattle.layout.specs.declared.refusal.Refusal.TheVariants.{TableFields, TableSize}
use Rattle.layout.specs.Result.{Result, refused, ok, ◌>>=◌, require}
use Rattle.layout.specs.Bytes.{number, number_at, part}
use Rattle.layout.specs.Field.{Field}
use Rattle.table.specs.declared.places.Part.{Part as PartPlace}
use Rattle.table.specs.declared.places.ColumnPlace.{ColumnPlace}
use Rattle.table.specs.declared.places.Table.{Table as TablePlaces}
use Rattle.table.specs.declared.column.ColumnRead.{ColumnRead}
use Rattle.table.specs.Column.{TableColumn}
use Rattle.table.specs.Reading.{Part, tagged_pair, read_column, read_columns, Table, read_table}
use Rattle.table.specs.Places.{no_place, place_from, column_end, places_from, places_in16, table_from, table_answer_from, table_answer}
use Rattle.table.specs.Parts.{FieldGives, column_from, head_answer, one_more, columns_step}
use Rattle.layout.proofs.AnswerLaws.{answered_ok, answered_err, number_refused}
use Rattle.table.proofs.PartsLaws.{behind_field}
use Rattle.table.proofs.StandLaws.{pair_stands, stands_at, column_stands, column_parts, length_places}

-- ---- bytes behind the last column

module _ {l : List ℕ} (at : ℕ) where
  pub more_refused : {e : Refusal} → FieldGives l 2 (tagged_pair 2 (drop at l)) (Err e) → Err e ≡ table_answer (one_more (drop at l))
  unfolding one_more table_answer
  more_refused g = number_refused g.says (λ _. refused 10) (table_from 5)

  pub more_found : {p : PartPlace} → FieldGives l 2 (tagged_pair 2 (drop at l)) (Ok p) → Err TableSize ≡ table_answer (one_more (drop at l))
  unfolding one_more table_answer
  more_found g = sym (ap (table_answer_from 5) (behind_field g (λ _. refused 10)))

-- ---- the columns

-- where the bytes end, there is no more column
columns_end_lem : (rows left : ℕ) (l : List ℕ) → length l ≡ 0 → read_columns rows left l ≡ ok []
unfolding read_columns
columns_end_lem rows zero [] e = refl
columns_end_lem rows (suc left) [] e = refl
columns_end_lem rows zero (b ∷ l) e = absurd (omega arith)
columns_end_lem rows (suc left) (b ∷ l) e = absurd (omega arith)

-- one column more than there may be
columns_over : (rows : ℕ) (l : List ℕ) → 0 < length l → read_columns rows 0 l ≡ (tagged_pair 2 l >>= λ _. refused 10)
unfolding read_columns
columns_over rows [] h = absurd (omega arith)
columns_over rows (b ∷ l) h = refl

-- a column and the columns behind it
pub columns_next : (rows left : ℕ) (l : List ℕ) → 0 < length l
    → read_columns rows (suc left) l ≡ (read_column rows l >>= λ c. read_columns rows left c.rest >>= λ cs. ok (c.part ∷ cs))
unfolding read_columns
columns_next rows left [] h = absurd (omega arith)
columns_next rows left (b ∷ l) h = refl

-- columns put in front
abbrev Behind : List TableColumn → Result (List TableColumn) → Result (List TableColumn)
Behind front rest = rest >>= λ cs. ok (front ++ cs)

-- one column put in front, then others
behind_one : (front : List TableColumn) (c : TableColumn) (rest : Result (List TableColumn))
    → Behind front (rest >>= λ cs. ok (c ∷ cs)) ≡ Behind (front ++ (c ∷ [])) rest
behind_one front c (refused n) = refl
behind_one front c (ok cs) = ap ok (sym (append_assoc front (c ∷ []) cs))

-- where the last of some columns ends
abbrev columns_end : ℕ → List TableColumn → ℕ
columns_end at [] = at
columns_end at (c ∷ cs) = columns_end (column_end at c) cs

-- one column more stands behind the others
places_snoc : (rows at : ℕ) (cs : List TableColumn) (c : TableColumn) → places_from rows at (cs ++ (c ∷ [])) ≡ places_from rows at cs ++ (place_from rows (columns_end at cs) c ∷ [])
unfolding places_from
places_snoc rows at [] c = refl
places_snoc rows at (x ∷ cs) c = ap (λ (ps : List ColumnPlace). place_from rows at x ∷ ps) (places_snoc rows (column_end at x) cs c)

end_snoc : (at : ℕ) (cs : List TableColumn) (c : TableColumn) → columns_end at (cs ++ (c ∷ [])) ≡ column_end (columns_end at cs) c
end_snoc at [] c = refl
end_snoc at (x ∷ cs) c = end_snoc (column_end at x) cs c

-- one place more takes the next slot
slots_snoc : (ps : List ColumnPlace) (p : ColumnPlace) (n : ℕ) → length ps ≡ n → n < 16 → set (places_in16 ps) n p ≡ places_in16 (ps ++ (p ∷ []))
slots_snoc ps p n e h =
    let one : 16 - length ps ≡ suc (16 - length (ps ++ (p ∷ []))) = omega (arith, length-append ps (p ∷ [])) in
    ap (λ (k : ℕ). set (ps ++ replicate k no_place) n p) one ∙ set_at ps no_place _ p n e
    ∙ sym (append_assoc ps (p ∷ []) (replicate (16 - length (ps ++ (p ∷ []))) no_place))

-- where a loop over the columns stands: `count` of them are placed, and the definition goes on behind them
pub record ColumnsSoFar (l : List ℕ) (rows first : ℕ) (columns : List ColumnPlace) (count at : ℕ) : Type 0 where
  pub front : List TableColumn
  pub few : count ≤ 16
  pub many : length front ≡ count
  pub places : columns ≡ places_in16 (places_from rows first front)
  pub ends : at ≡ columns_end first front
  pub same : read_columns rows 16 (drop first l) ≡ Behind front (read_columns rows (16 - count) (drop at l))

behind_none : (rest : Result (List TableColumn)) → rest ≡ Behind [] rest
behind_none (refused n) = refl
behind_none (ok cs) = refl

pub columns_none : (l : List ℕ) (rows first : ℕ) {p : ColumnPlace} → p ≡ no_place → ColumnsSoFar l rows first (replicate 16 p) 0 first
unfolding places_from
columns_none l rows first e = record {
  front = [];
  few = omega arith;
  many = refl;
  places = ap (replicate 16) e;
  ends = refl;
  same = behind_none (read_columns rows 16 (drop first l));
}

-- what a table is made of its columns
abbrev table_of : ℕ → Result (List TableColumn) → Result Table
table_of rows cs = cs >>= λ c. ok (record { rows = rows; columns = c })

module _ (l : List ℕ) (rows first : ℕ) (columns : List ColumnPlace) (count at : ℕ) (s : ColumnsSoFar l rows first columns count at) where
  -- the whole of the columns, by those that are left
  columns_are : (rest : Result (List TableColumn)) → read_columns rows (16 - count) (drop at l) ≡ rest
      → table_of rows (Behind s.front rest) ≡ columns_step rows (drop first l)
  unfolding columns_step
  columns_are rest e = ap (table_of rows) (ap (Behind s.front) (sym e) ∙ sym s.same)

  pub columns_all : length l ≤ at → Ok (record { rows = rows; count = count; columns = columns }) ≡ table_answer_from first (columns_step rows (drop first l))
  columns_all h =
      (λ i. Ok (record { rows = rows; count = sym s.many i; columns = s.places i }))
      ∙ ap (λ (cs : List TableColumn). table_answer_from first (ok (record { rows = rows; columns = cs }))) (sym (append-nil s.front))
      ∙ ap (table_answer_from first) (columns_are (ok []) (columns_end_lem rows (16 - count) (drop at l) ended))
    where
      ended : length (drop at l) ≡ 0
      ended = length-drop at l ∙ omega arith

  module _ (h : at < length l) where
    some_left : 0 < length (drop at l)
    some_left = omega (arith, length-drop at l)

    pub columns_many : count ≡ 16 → (a : RustResult TablePlaces Refusal) → a ≡ table_answer (one_more (drop at l)) → a ≡ table_answer_from first (columns_step rows (drop first l))
    unfolding one_more table_answer
    columns_many e a u =
        u ∙ refuses (tagged_pair 2 (drop at l))
        ∙ ap (table_answer_from first) (columns_are _ (ap (λ (k : ℕ). read_columns rows k (drop at l)) none ∙ columns_over rows (drop at l) some_left))
      where
        none : 16 - count ≡ 0
        none = omega arith

        refuses : (f : Result Field) → table_answer_from 5 (f >>= λ _. refused 10) ≡ table_answer_from first (table_of rows (Behind s.front (f >>= λ _. refused 10)))
        refuses (refused n) = refl
        refuses (ok f) = refl

    module _ (n : count ≡ 16 → ⊥) where
      -- the column at the place, then those behind it
      next_is : (d : Result (Part TableColumn)) → read_column rows (drop at l) ≡ d → read_columns rows (16 - count) (drop at l)
          ≡ (d >>= λ c. read_columns rows (16 - (count + 1)) c.rest >>= λ cs. ok (c.part ∷ cs))
      next_is d e =
          ap (λ (k : ℕ). read_columns rows k (drop at l)) fewer ∙ columns_next rows (16 - (count + 1)) (drop at l) some_left
          ∙ ap (λ (d : Result (Part TableColumn)). d >>= λ c. read_columns rows (16 - (count + 1)) c.rest >>= λ cs. ok (c.part ∷ cs)) e
        where
          fewer : 16 - count ≡ suc (16 - (count + 1))
          fewer = omega (arith, s.few, n)

      pub columns_refused : {e : Refusal} → Err e ≡ head_answer rows (at + 5) (read_column rows (drop at l)) → Err e ≡ table_answer_from first (columns_step rows (drop first l))
      columns_refused g =
          let d = answered_err (column_from rows (at + 5)) (read_column rows (drop at l)) g in
          ap Err d.2 ∙ ap (table_answer_from first) (columns_are _ (next_is _ d.1))

      pub columns_more : {r : ColumnRead} → Ok r ≡ head_answer rows (at + 5) (read_column rows (drop at l)) → ColumnsSoFar l rows first (set columns count r.place) (count + 1) r.next
      columns_more {r} g = record {
        front = s.front ++ (c ∷ []);
        few = omega (arith, s.few, n);
        many = length-append s.front (c ∷ []) ∙ ap (λ (k : ℕ). k + 1) s.many;
        places = (λ i. set (s.places i) count (place_is i)) ∙ slots_snoc (places_from rows first s.front) (place_from rows (columns_end first s.front) c) count size (omega (arith, s.few, n))
            ∙ ap places_in16 (sym (places_snoc rows first s.front c));
        ends = end_is ∙ sym (end_snoc first s.front c);
        same = s.same ∙ ap (Behind s.front) (next_is _ found.1) ∙ behind_one s.front c rest ∙ ap (λ (m : List ℕ). Behind (s.front ++ (c ∷ [])) (read_columns rows (16 - (count + 1)) m)) rest_is;
      }
        where
          found : (x : Part TableColumn) × (read_column rows (drop at l) ≡ ok x) × (r ≡ column_from rows (at + 5) x)
          found = answered_ok (column_from rows (at + 5)) (read_column rows (drop at l)) g

          c : TableColumn
          c = found.0.part

          rest : Result (List TableColumn)
          rest = read_columns rows (16 - (count + 1)) found.0.rest

          size : length (places_from rows first s.front) ≡ count
          size = length_places rows first s.front ∙ s.many

          place_is : r.place ≡ place_from rows (columns_end first s.front) c
          place_is = ap (λ (x : ColumnRead). x.place) found.2 ∙ ap (λ (k : ℕ). place_from rows k c) s.ends

          end_is : r.next ≡ column_end (columns_end first s.front) c
          end_is = ap (λ (x : ColumnRead). x.next) found.2 ∙ ap (λ (k : ℕ). column_end k c) s.ends

          rest_is : found.0.rest ≡ drop r.next l
          rest_is =
              sym (column_stands rows l at found.0 (column_parts rows (drop at l) found.0 found.1).0).column.behind
              ∙ ap (λ (k : ℕ). drop k l) (sym (ap (λ (x : ColumnRead). x.next) found.2))

-- ---- the table

-- behind the test of the length
abbrev rows_behind : Field → Result Table
rows_behind f = require (leb (number f.content) 512) 10 >>= λ _. columns_step (number f.content) f.rest

module _ (l : List ℕ) where
  -- by the test of the length
  read_is : (b : Bool) → (ltb 0 (length l) && leb (length l) 65536) ≡ b → (require b 9 >>= λ _. tagged_pair 1 l >>= rows_behind) ≡ read_table l
  unfolding read_table columns_step
  read_is b e = ap (λ (x : Bool). require x 9 >>= λ _. tagged_pair 1 l >>= rows_behind) (sym e)

  pub read_none : length l ≡ 0 → Err TableFields ≡ table_answer (read_table l)
  unfolding table_answer
  read_none z = ap (table_answer_from 5) (read_is false (ap (λ (b : Bool). b && leb (length l) 65536) (le-ltb 0 (length l) (omega arith))))

  module _ (h : length l ≡ 0 → ⊥) where
    some_bytes : ltb 0 (length l) ≡ true
    some_bytes = lt-ltb 0 (length l) (omega (arith, h))

    pub read_long : 65536 < length l → Err TableFields ≡ table_answer (read_table l)
    unfolding table_answer
    read_long m = ap (table_answer_from 5) (read_is false (simp (some_bytes, lt-leb (length l) 65536 m)))

    module _ (few : length l ≤ 65536) where
      first_is : (tagged_pair 1 l >>= rows_behind) ≡ read_table l
      first_is = read_is true (simp (some_bytes, le-leb (length l) 65536 few))

      pub read_refused : {e : Refusal} → FieldGives l 1 (tagged_pair 1 l) (Err e) → Err e ≡ table_answer (read_table l)
      unfolding table_answer
      read_refused g = number_refused g.says rows_behind (table_from 5) ∙ ap (table_answer_from 5) first_is

      module _ {p : PartPlace} (g : FieldGives l 1 (tagged_pair 1 l) (Ok p)) {rows : ℕ} (is : rows ≡ number_at 2 (part l p.start p.end) 0) where
        -- tag 1 takes five bytes
        first_five : (length (part l p.start p.end) ≡ 2) × (p.end ≡ 5)
        first_five =
            let s = pair_stands l 0 1 _ (sym g.says) in
            let w = stands_at l 3 p.start p.end s.0 g.inside in
            (s.1, omega (arith, s.1, w.0, w.1))

        rows_are : rows ≡ number (part l p.start p.end)
        rows_are = is ∙ ap number (take_all 2 (part l p.start p.end) (omega (arith, first_five.0)))

        -- behind the row count
        rows_step : (b : Bool) → leb rows 512 ≡ b → (require b 10 >>= λ _. columns_step rows (drop p.end l)) ≡ read_table l
        rows_step b q =
            ap (λ (x : Bool). require x 10 >>= λ _. columns_step rows (drop p.end l)) (sym q)
            ∙ ap (λ (n : ℕ). require (leb n 512) 10 >>= λ _. columns_step n (drop p.end l)) rows_are
            ∙ sym (behind_field g rows_behind) ∙ first_is

        pub read_rows : 512 < rows → Err TableSize ≡ table_answer (read_table l)
        unfolding table_answer
        read_rows m = ap (table_answer_from 5) (rows_step false (lt-leb rows 512 m))

        pub read_columns_lem : rows ≤ 512 → (a : RustResult TablePlaces Refusal) → a ≡ table_answer_from p.end (columns_step rows (drop p.end l)) → a ≡ table_answer (read_table l)
        unfolding table_answer
        read_columns_lem m a c =
            c ∙ ap (λ (k : ℕ). table_answer_from k (columns_step rows (drop p.end l))) first_five.1
            ∙ ap (table_answer_from 5) (rows_step true (le-leb rows 512 m))
