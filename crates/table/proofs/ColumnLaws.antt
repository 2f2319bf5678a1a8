-- A column by its places, beside its definition: the steps of reading it, and its nulls. Assumes nothing.
use mathlib.Core.Path.{◌≡◌, refl, sym, ap, ◌∙◌}
use mathlib.Core.Bool.{Bool, true, false, cond, not, ◌&&◌, ◌||◌}
use mathlib.Core.List.{List}
use mathlib.Core.Option.{Option, some, none}
use Prim.Native.Nat.{ℕ, zero, suc, ◌+◌, ◌-◌, ◌<◌, ◌≤◌}
use native.Mathlib.Nat.{add-zero}
use native.Mathlib.Omega.{arith}
use lib.Dec.{eqb, leb}
use lib.ListN.{length, drop}
use lib.Seq.{get_or-drop}
use borrow.Author.Tests.{eq-eqb, ne_eqb, le-leb}
use Rattle.std.specs.Prelude.{Result as RustResult, Ok, Err, Option as RustOption, Some, None}
use Rattle.std.specs.Option.{ok_or}
use Rattle.layout.specs.declared.refusal.Refusal.{Refusal}
use Rattle.layout.specs.declared.refusal.Refusal.TheVariants.{TableContent}
use Rattle.layout.specs.Result.{Result, refused, ok, ◌>>=◌, require, answered}
use Rattle.layout.specs.Bytes.{byte, part}
use Rattle.layout.specs.Field.{Field}
use Rattle.scalar.specs.declared.types.DataType.{DataType}
use Rattle.scalar.proofs.TypeLaws.{type_means_lem}
use Rattle.scalar.specs.Types.{type_numbered, type_answer, type_means, mark_numbered}
use Rattle.table.specs.declared.places.Part.{Part as PartPlace}
use Rattle.table.specs.declared.column.ColumnRead.{ColumnRead}
use Rattle.table.specs.Column.{TableColumn, null_count}
use Rattle.table.specs.Reading.{Part, tagged, tagged_pair, read_count, read_validity, read_offsets, read_body, read_values, values_length, read_parts, no_null, count_says, count_right, read_column}
use Rattle.table.specs.Places.{offsets_start, is_counted, count_size}
use Rattle.table.specs.Parts.{FieldGives, PartGives, count_at, CountGives, column_from, head_answer, place_nulls_fit, place_count_right, end_answer, values_of_length}
use Rattle.layout.proofs.AnswerLaws.{answered_ok, answered_refused, number_refused}
use Rattle.table.proofs.PartsLaws.{behind_refused, behind_field}
use Rattle.table.proofs.StandLaws.{stands_at, pair_stands, tagged_stands, CountStands, validity_stands, offsets_stand, values_stand, column_stands}
use Rattle.table.proofs.NullLaws.{no_null_count}

-- ---- the null count

-- it isn't written
pub count_absent : (l : List ℕ) (at : ℕ) → (byte l at ≡ 6 → ⊥) → CountGives l at (read_count (drop at l)) (Ok (record { start = at; end = at }))
unfolding read_count
count_absent l at h =
    let none_there : count_at l at (record { start = at; end = at }) ≡ none = ap (λ (b : Bool). cond b none (some (part l at at))) (eq-eqb at at refl) in
    let here : byte (drop at l) 0 ≡ byte l at = get_or-drop at l 0 0 ∙ ap (byte l) (add-zero at) in
    let other : eqb (byte (drop at l) 0) 6 ≡ false = ne_eqb _ 6 (λ (e : byte (drop at l) 0 ≡ 6). h (sym here ∙ e)) in
    record {
      says = ap (λ (k : Option (List ℕ)). ok (record { part = k; rest = drop at l })) none_there
          ∙ sym (ap (λ (b : Bool). cond b (tagged 6 (drop at l) >>= λ f. ok (record { part = some f.content; rest = f.rest })) (ok (record { part = none; rest = drop at l }))) other);
      ends = sym (ap (λ (k : Option (List ℕ)). at + count_size k) none_there ∙ add-zero at);
    }

-- it is, or cut
module _ (l : List ℕ) (at : ℕ) (h : byte l at ≡ 6) where
  count_is : read_count (drop at l) ≡ (tagged 6 (drop at l) >>= λ f. ok (record { part = some f.content; rest = f.rest }))
  unfolding read_count
  count_is =
      let here : byte (drop at l) 0 ≡ byte l at = get_or-drop at l 0 0 ∙ ap (byte l) (add-zero at) in
      ap (λ (b : Bool). cond b (tagged 6 (drop at l) >>= λ f. ok (record { part = some f.content; rest = f.rest })) (ok (record { part = none; rest = drop at l }))) (eq-eqb _ 6 (here ∙ h))

  pub count_tagged : (r : RustResult PartPlace Refusal) → FieldGives l 6 (tagged 6 (drop at l)) r → CountGives l at (read_count (drop at l)) r
  count_tagged (Err e) g = record { says = sym (count_is ∙ behind_refused g _); ends = tt }
  count_tagged (Ok p) g =
      let w = stands_at l (at + 3) p.start p.end (tagged_stands l at 6 _ (sym g.says)) g.inside in
      let there : count_at l at p ≡ some (part l p.start p.end) = ap (λ (b : Bool). cond b none (some (part l p.start p.end))) (ne_eqb p.start at (λ (q : p.start ≡ at). omega (arith, q, w.0))) in
      let ends : p.end ≡ at + (3 + length (part l p.start p.end)) = omega (arith, w.0, w.1) in
      record {
        says = ap (λ (k : Option (List ℕ)). ok (record { part = k; rest = drop p.end l })) there ∙ sym (count_is ∙ behind_field g _);
        ends = ends ∙ sym (ap (λ (k : Option (List ℕ)). at + count_size k) there);
      }

-- ---- the steps behind one another

abbrev values_step : DataType → Bool → Option (List ℕ) → List ℕ → List ℕ → ℕ → List ℕ → Result (Part TableColumn)
values_step t n k validity offsets rows bytes =
    values_of_length (values_length t rows offsets) bytes
    >>= λ w. ok (record { part = record { type = t; nullable = n; nulls = k; validity = validity; offsets = offsets; values = w.part }; rest = w.rest })

abbrev offsets_step : DataType → Bool → Option (List ℕ) → List ℕ → ℕ → List ℕ → Result (Part TableColumn)
offsets_step t n k validity rows bytes = read_offsets t rows bytes >>= λ o. values_step t n k validity o.part rows o.rest

abbrev validity_step : DataType → Bool → Option (List ℕ) → ℕ → List ℕ → Result (Part TableColumn)
validity_step t n k rows bytes = read_validity rows bytes >>= λ v. offsets_step t n k v.part rows v.rest

abbrev count_step : DataType → ℕ → List ℕ → Bool → Result (Part TableColumn)
count_step t rows bytes n = read_count bytes >>= λ k. validity_step t n k.part rows k.rest

abbrev mark_step : ℕ → ℕ → List ℕ → DataType → Result (Part TableColumn)
mark_step mark rows bytes t = mark_numbered 11 mark >>= count_step t rows bytes

-- the parts behind a field are read step by step
body_is : (rows : ℕ) (f : Field) → read_body rows f ≡ (type_numbered 11 (byte f.content 0) >>= mark_step (byte f.content 1) rows f.rest)
unfolding read_body read_values values_of_length
body_is rows f = refl

-- values of the length of their type
values_of : (t : DataType) (rows : ℕ) (offsets bytes : List ℕ) → read_values t rows offsets bytes ≡ values_of_length (values_length t rows offsets) bytes
unfolding read_values values_of_length
values_of t rows offsets bytes = refl

-- a type by its number, else 11
type_or : (r : RustOption DataType) → ok_or r TableContent ≡ answered (λ t. t) (type_means 11 r)
type_or (Some t) = refl
type_or None = refl

pub typed_is : (kind : ℕ) {r : RustOption DataType} → r ≡ type_answer (type_numbered 0 kind) → ok_or r TableContent ≡ answered (λ t. t) (type_numbered 11 kind)
typed_is kind {r} e = type_or r ∙ ap (answered (λ t. t)) (type_means_lem 11 kind e)

-- a mark above 1 is refused
pub mark_above : (mark : ℕ) → 1 < mark → mark_numbered 11 mark ≡ refused 11
unfolding mark_numbered
mark_above zero h = absurd (omega arith)
mark_above (suc zero) h = absurd (omega arith)
mark_above (suc (suc k)) h = refl

-- any other is read
pub mark_below : (mark : ℕ) → mark ≤ 1 → mark_numbered 11 mark ≡ ok (eqb mark 1)
unfolding mark_numbered
mark_below zero h = refl
mark_below (suc zero) h = refl
mark_below (suc (suc k)) h = absurd (omega arith)

-- ---- a column, by its places

-- tag 2
module _ {l : List ℕ} (at rows : ℕ) where
  pub head_refused : {e : Refusal} → FieldGives l 2 (tagged_pair 2 (drop at l)) (Err e) → Err e ≡ head_answer rows (at + 5) (read_parts rows (drop at l))
  unfolding read_parts
  head_refused g = number_refused g.says (read_body rows) (column_from rows (at + 5))

  module _ {h : PartPlace} (head : FieldGives l 2 (tagged_pair 2 (drop at l)) (Ok h)) (kind mark : ℕ) (first : kind ≡ byte (part l h.start h.end) 0) (second : mark ≡ byte (part l h.start h.end) 1) where
    -- it ends five bytes behind its start
    head_ends : h.end ≡ at + 5
    head_ends =
        let s = pair_stands l at 2 _ (sym head.says) in
        let w = stands_at l (at + 3) h.start h.end s.0 head.inside in
        omega (arith, s.1, w.0, w.1)

    after_head : read_parts rows (drop at l) ≡ (type_numbered 11 kind >>= mark_step mark rows (drop h.end l))
    unfolding read_parts
    after_head =
        behind_field head (read_body rows) ∙ body_is rows (record { tag = 2; content = part l h.start h.end; rest = drop h.end l })
        ∙ sym (λ i. type_numbered 11 (first i) >>= mark_step (second i) rows (drop h.end l))

    -- the type
    pub type_refused : {e : Refusal} → Err e ≡ answered (λ t. t) (type_numbered 11 kind) → Err e ≡ head_answer rows (at + 5) (read_parts rows (drop at l))
    type_refused p = answered_refused (λ t. t) (type_numbered 11 kind) p (mark_step mark rows (drop h.end l)) (column_from rows (at + 5)) ∙ sym (ap (head_answer rows (at + 5)) after_head)

    module _ {t : DataType} (typed : Ok t ≡ answered (λ t. t) (type_numbered 11 kind)) where
      after_type : read_parts rows (drop at l) ≡ mark_step mark rows (drop h.end l) t
      after_type =
          let m = answered_ok (λ t. t) (type_numbered 11 kind) typed in
          after_head ∙ ap (λ d. d >>= mark_step mark rows (drop h.end l)) (m.1 ∙ ap ok (sym m.2))

      -- the nullable mark
      pub mark_refused : {e : Refusal} → Err e ≡ answered (λ b. b) (mark_numbered 11 mark) → Err e ≡ head_answer rows (at + 5) (read_parts rows (drop at l))
      mark_refused p = answered_refused (λ b. b) (mark_numbered 11 mark) p (count_step t rows (drop h.end l)) (column_from rows (at + 5)) ∙ sym (ap (head_answer rows (at + 5)) after_type)

      module _ {n : Bool} (marked : Ok n ≡ answered (λ b. b) (mark_numbered 11 mark)) where
        after_mark : read_parts rows (drop at l) ≡ count_step t rows (drop h.end l) n
        after_mark =
            let m = answered_ok (λ b. b) (mark_numbered 11 mark) marked in
            after_type ∙ ap (λ d. d >>= count_step t rows (drop h.end l)) (m.1 ∙ ap ok (sym m.2))

        -- the null count
        pub count_refused : {e : Refusal} → CountGives l h.end (read_count (drop h.end l)) (Err e) → Err e ≡ head_answer rows (at + 5) (read_parts rows (drop at l))
        count_refused g = number_refused g.says (λ k. validity_step t n k.part rows k.rest) (column_from rows (at + 5)) ∙ sym (ap (head_answer rows (at + 5)) after_mark)

        module _ {c : PartPlace} (count : CountGives l h.end (read_count (drop h.end l)) (Ok c)) where
          after_count : read_parts rows (drop at l) ≡ validity_step t n (count_at l h.end c) rows (drop c.end l)
          after_count = after_mark ∙ ap (λ d. d >>= λ k. validity_step t n k.part rows k.rest) (sym count.says)

          -- the validity
          pub validity_refuses : {e : Refusal} → PartGives l (read_validity rows (drop c.end l)) (Err e) → Err e ≡ head_answer rows (at + 5) (read_parts rows (drop at l))
          validity_refuses g = number_refused g.says (λ v. offsets_step t n (count_at l h.end c) v.part rows v.rest) (column_from rows (at + 5)) ∙ sym (ap (head_answer rows (at + 5)) after_count)

          module _ {v : PartPlace} (validity : PartGives l (read_validity rows (drop c.end l)) (Ok v)) where
            after_validity : read_parts rows (drop at l) ≡ offsets_step t n (count_at l h.end c) (part l v.start v.end) rows (drop v.end l)
            after_validity = after_count ∙ ap (λ d. d >>= λ v. offsets_step t n (count_at l h.end c) v.part rows v.rest) (sym validity.says)

            -- the offsets
            pub offsets_refuse : {e : Refusal} → PartGives l (read_offsets t rows (drop v.end l)) (Err e) → Err e ≡ head_answer rows (at + 5) (read_parts rows (drop at l))
            offsets_refuse g = number_refused g.says (λ o. values_step t n (count_at l h.end c) (part l v.start v.end) o.part rows o.rest) (column_from rows (at + 5)) ∙ sym (ap (head_answer rows (at + 5)) after_validity)

            module _ {o : PartPlace} (offsets : PartGives l (read_offsets t rows (drop v.end l)) (Ok o)) {size : ℕ} (long : size ≡ values_length t rows (part l o.start o.end)) where
              after_offsets : read_parts rows (drop at l) ≡ values_step t n (count_at l h.end c) (part l v.start v.end) (part l o.start o.end) rows (drop o.end l)
              after_offsets = after_validity ∙ ap (λ d. d >>= λ o. values_step t n (count_at l h.end c) (part l v.start v.end) o.part rows o.rest) (sym offsets.says)

              -- the values
              pub values_refuse : {e : Refusal} → PartGives l (values_of_length size (drop o.end l)) (Err e) → Err e ≡ head_answer rows (at + 5) (read_parts rows (drop at l))
              values_refuse g =
                  number_refused (g.says ∙ ap (λ k. values_of_length k (drop o.end l)) long) (λ w. ok _) (column_from rows (at + 5)) ∙ sym (ap (head_answer rows (at + 5)) after_offsets)

              -- whether the null count is written
              counted_is : (b : Bool) (content : List ℕ) → not b ≡ is_counted (cond b none (some content))
              counted_is true content = refl
              counted_is false content = refl

              pub whole_column : {w : PartPlace} → PartGives l (values_of_length size (drop o.end l)) (Ok w) → {nulls : ℕ} → nulls ≡ null_count (part l v.start v.end) rows
                  → Ok (record { place = record { data_type = t; nullable = n; counted = not (eqb c.start h.end); null_count = nulls; validity = v; offsets = o; values = w }; next = w.end })
                  ≡ head_answer rows (at + 5) (read_parts rows (drop at l))
              whole_column {w} g {nulls} m =
                  let k = count_at l h.end c in
                  let values = g.says ∙ ap (λ x. values_of_length x (drop o.end l)) long in
                  let reads = after_offsets ∙ ap (λ d. d >>= λ w. ok (record { part = record { type = t; nullable = n; nulls = k; validity = part l v.start v.end; offsets = part l o.start o.end; values = w.part }; rest = w.rest })) (sym values) in
                  let a = stands_at l (c.end + 3) v.start v.end (validity_stands rows l c.end _ (sym validity.says)) validity.inside in
                  let b = stands_at l (offsets_start t v.end) o.start o.end (offsets_stand t rows l v.end _ validity.inside.in_bytes (sym offsets.says)) offsets.inside in
                  let d = stands_at l (o.end + 3) w.start w.end (values_stand t rows (part l o.start o.end) l o.end _ (values_of t rows (part l o.start o.end) (drop o.end l) ∙ sym values)) g.inside in
                  let vs : v.start ≡ at + 5 + count_size k + 3 = omega (arith, a.0, count.ends, head_ends) in
                  let ve : v.end ≡ at + 5 + count_size k + 3 + length (part l v.start v.end) = omega (arith, vs, a.1) in
                  let os : o.start ≡ offsets_start t (at + 5 + count_size k + 3 + length (part l v.start v.end)) = b.0 ∙ ap (offsets_start t) ve in
                  let oe : o.end ≡ offsets_start t (at + 5 + count_size k + 3 + length (part l v.start v.end)) + length (part l o.start o.end) = b.1 ∙ ap (λ (x : ℕ). x + length (part l o.start o.end)) os in
                  let ws : w.start ≡ offsets_start t (at + 5 + count_size k + 3 + length (part l v.start v.end)) + length (part l o.start o.end) + 3 = d.0 ∙ ap (λ (x : ℕ). x + 3) oe in
                  let we = d.1 ∙ ap (λ (x : ℕ). x + length (part l w.start w.end)) ws in
                  (λ i. Ok (record {
                    place = record {
                      data_type = t;
                      nullable = n;
                      counted = counted_is (eqb c.start h.end) (part l c.start c.end) i;
                      null_count = m i;
                      validity = record { start = vs i; end = ve i };
                      offsets = record { start = os i; end = oe i };
                      values = record { start = ws i; end = we i };
                    };
                    next = we i;
                  }))
                  ∙ sym (ap (head_answer rows (at + 5)) reads)

-- ---- a column and its nulls

-- a null count is right just where its bytes, between its header and that of tag 3, say the number
count_at_lem : (l : List ℕ) (at : ℕ) (nulls : Option (List ℕ)) (rest : List ℕ) (n : ℕ) → CountStands l (at + 5) nulls rest
    → cond (is_counted nulls) (leb 3 (at + 5 + count_size nulls + 3) && count_says (some (part l (at + 8) (at + 5 + count_size nulls + 3 - 3))) n) true ≡ count_says nulls n
count_at_lem l at none rest n s = refl
count_at_lem l at (some content) rest n s =
    let low : leb 3 (at + 5 + (3 + length content) + 3) ≡ true = le-leb 3 (at + 5 + (3 + length content) + 3) (omega arith) in
    let from : at + 8 ≡ at + 5 + 3 = omega arith in
    let to : at + 5 + (3 + length content) + 3 - 3 ≡ at + 5 + (3 + length content) = omega arith in
    let there : part l (at + 8) (at + 5 + (3 + length content) + 3 - 3) ≡ content = (λ i. part l (from i) (to i)) ∙ s.there content refl in
    (λ i. low i && count_says (some (there i)) n)

-- the column that an answer is, beside its place
module _ (l : List ℕ) (at rows : ℕ) {r : ColumnRead} (g : Ok r ≡ head_answer rows (at + 5) (read_parts rows (drop at l))) where
  abbrev pub found : (c : Part TableColumn) × (read_parts rows (drop at l) ≡ ok c) × (r ≡ column_from rows (at + 5) c)
  found = answered_ok (column_from rows (at + 5)) (read_parts rows (drop at l)) g

  -- tag 2 and the header of tag 3 take eight bytes
  pub column_room : at + 8 ≤ length l
  column_room =
      let s = (column_stands rows l at found.0 found.1).column.inside.validity in
      omega (arith, s.ordered, s.in_bytes)

  -- its null count is right just where its place says so
  pub right_is : place_count_right l at r.place ≡ count_right found.0.part rows
  right_is =
      ap (λ (x : ColumnRead). place_count_right l at x.place) found.2
      ∙ count_at_lem l at found.0.part.nulls _ (null_count found.0.part.validity rows) (column_stands rows l at found.0 found.1).count

abbrev nulls_behind : ℕ → Part TableColumn → Result (Part TableColumn)
nulls_behind rows c = require (c.part.nullable || no_null c.part.validity rows) 12 >>= λ _. require (count_right c.part rows) 25 >>= λ _. ok c

module _ (l : List ℕ) (at rows : ℕ) where
  pub column_left : {e : Refusal} → Err e ≡ head_answer rows (at + 5) (read_parts rows (drop at l)) → Err e ≡ head_answer rows (at + 5) (read_column rows (drop at l))
  unfolding read_column
  column_left g = answered_refused (column_from rows (at + 5)) (read_parts rows (drop at l)) g (nulls_behind rows) (column_from rows (at + 5))

  module _ {r : ColumnRead} (g : Ok r ≡ head_answer rows (at + 5) (read_parts rows (drop at l))) where
    abbrev column : Part TableColumn
    column = (found l at rows g).0

    -- its nulls and its null count decide
    ended_is : (fits right : Bool) → fits ≡ place_nulls_fit r.place → right ≡ place_count_right l at r.place
        → (require fits 12 >>= λ _. require right 25 >>= λ _. ok column) ≡ read_column rows (drop at l)
    unfolding read_column
    ended_is fits right p q =
        let is = (found l at rows g).2 in
        let nulls : fits ≡ (column.part.nullable || no_null column.part.validity rows) =
        p ∙ ap (λ (x : ColumnRead). place_nulls_fit x.place) is ∙ sym (ap (λ (x : Bool). column.part.nullable || x) (no_null_count column.part.validity rows)) in
        (λ i. require (nulls i) 12 >>= λ _. require ((q ∙ right_is l at rows g) i) 25 >>= λ _. ok column)
        ∙ sym (ap (λ (d : Result (Part TableColumn)). d >>= nulls_behind rows) (found l at rows g).1)

    module _ (fits right : Bool) (p : fits ≡ place_nulls_fit r.place) (q : right ≡ place_count_right l at r.place) where
      pub column_ends : {e : Refusal} → Err e ≡ end_answer fits right → Err e ≡ head_answer rows (at + 5) (read_column rows (drop at l))
      column_ends u = go fits right u ∙ ap (head_answer rows (at + 5)) (ended_is fits right p q)
        where
          go : (a b : Bool) {e : Refusal} → Err e ≡ end_answer a b → Err e ≡ head_answer rows (at + 5) (require a 12 >>= λ _. require b 25 >>= λ _. ok column)
          go true true u = let z : ◌≡◌ {A = ℕ} 0 1 = cc in absurd (omega arith)
          go true false u = ap Err cc
          go false b u = ap Err cc

      pub column_right : Ok tt ≡ end_answer fits right → Ok r ≡ head_answer rows (at + 5) (read_column rows (drop at l))
      column_right u = ap Ok (found l at rows g).2 ∙ go fits right u ∙ ap (head_answer rows (at + 5)) (ended_is fits right p q)
        where
          go : (a b : Bool) → Ok tt ≡ end_answer a b → Ok (column_from rows (at + 5) column) ≡ head_answer rows (at + 5) (require a 12 >>= λ _. require b 25 >>= λ _. ok column)
          go true true u = refl
          go true false u = let z : ◌≡◌ {A = ℕ} 0 1 = cc in absurd (omega arith)
          go false b u = let z : ◌≡◌ {A = ℕ} 0 1 = cc in absurd (omega arith)
