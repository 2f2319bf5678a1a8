-- Nulls among rows: by the bits, and how many they are. Assumes nothing.
use mathlib.Core.Path.{◌≡◌, refl, sym, ap, ◌∙◌}
use mathlib.Core.Bool.{Bool, true, false, cond, ◌&&◌}
use mathlib.Core.List.{List, [], ◌∷◌}
use Prim.Native.Nat.{ℕ, zero, suc, ◌+◌, ◌-◌, ◌≤◌}
use native.Mathlib.Omega.{arith}
use lib.Dec.{eqb}
use lib.ListN.{length, get_elem?, replicate}
use lib.Seq.{take_at}
use borrow.Author.Tests.{ne_eqb}
use Rattle.std.specs.Prelude.{Ok, Err, Option as RustOption, Some, None, IsSomeAnd, MatchOption, slice_get}
use Rattle.std.specs.Option.{option_map}
use Rattle.layout.specs.declared.refusal.Refusal.{Refusal}
use Rattle.layout.specs.Result.{Result}
use Rattle.layout.specs.Bytes.{bit_at, set_bits}
use Rattle.table.specs.declared.places.ColumnPlace.{ColumnPlace}
use Rattle.table.specs.declared.places.Table.{Table as TablePlaces}
use Rattle.table.specs.Column.{TableColumn, valid_in, null_count}
use Rattle.table.specs.Reading.{no_null, Table, read_table}
use Rattle.table.specs.Places.{no_place, column_end, places_from, table_from, table_answer, column_of}
use Rattle.table.specs.Answers.{null_count_of_column, null_count_of}
use Rattle.layout.proofs.AnswerLaws.{answered_ok, answered_err}
use Rattle.table.proofs.StandLaws.{length_places}

-- a validity that isn't empty says it by its bits
pub valid_bit : (validity : List ℕ) (i : ℕ) → (length validity ≡ 0 → ⊥) → valid_in validity i ≡ bit_at validity i
valid_bit [] i h = absurd (h refl)
valid_bit (b ∷ v) i h = refl

-- a validity that is has no null
none_null : (n : ℕ) → null_count [] n ≡ 0
unfolding null_count
none_null zero = refl
none_null (suc n) = omega (arith, none_null n)

pub count_none : (validity : List ℕ) (n : ℕ) → length validity ≡ 0 → 0 ≡ null_count validity n
count_none [] n e = sym (none_null n)
count_none (b ∷ v) n e = absurd (omega arith)

-- rows are null or have their bit set
pub count_bits : (validity : List ℕ) (n : ℕ) → (length validity ≡ 0 → ⊥) → null_count validity n + set_bits validity n ≡ n
unfolding null_count set_bits
count_bits validity zero h = refl
count_bits validity (suc n) h = ap (λ (b : Bool). cond b 0 1 + null_count validity n + (cond (bit_at validity n) 1 0 + set_bits validity n)) (valid_bit validity n h) ∙ go (bit_at validity n) (count_bits validity n h)
  where
    go : (b : Bool) → null_count validity n + set_bits validity n ≡ n → cond b 0 1 + null_count validity n + (cond b 1 0 + set_bits validity n) ≡ suc n
    go true e = omega arith
    go false e = omega arith

-- there are no more nulls than rows
pub count_most : (validity : List ℕ) (n : ℕ) → null_count validity n ≤ n
count_most [] n = omega (arith, none_null n)
count_most (b ∷ v) n = omega (arith, count_bits (b ∷ v) n (λ (e : length (b ∷ v) ≡ 0). omega (arith, e)))

-- none of the rows is null just where their number is 0
pub no_null_count : (validity : List ℕ) (n : ℕ) → no_null validity n ≡ eqb (null_count validity n) 0
unfolding no_null null_count
no_null_count validity zero = refl
no_null_count validity (suc n) = go (valid_in validity n) (no_null_count validity n)
  where
    go : (b : Bool) → no_null validity n ≡ eqb (null_count validity n) 0 → (b && no_null validity n) ≡ eqb (cond b 0 1 + null_count validity n) 0
    go true e = let z : null_count validity n ≡ 0 + null_count validity n = omega arith in e ∙ ap (λ (x : ℕ). eqb x 0) z
    go false e = sym (ne_eqb (1 + null_count validity n) 0 (λ (z : 1 + null_count validity n ≡ 0). omega (arith, z)))

-- ---- the null count of a table's column

-- as its place holds it
nulls_placed : (rows at : ℕ) (cs : List TableColumn) (i : ℕ) → option_map (λ p. p.null_count) (slice_get (places_from rows at cs) i) ≡ null_count_of_column (get_elem? cs i) rows
unfolding places_from
nulls_placed rows at [] i = refl
nulls_placed rows at (c ∷ cs) zero = refl
nulls_placed rows at (c ∷ cs) (suc i) = nulls_placed rows (column_end at c) cs i

module _ (l : List ℕ) (column : ℕ) where
  pub nulls_refused : {e : Refusal} → Err e ≡ table_answer (read_table l) → Err e ≡ null_count_of (read_table l) column
  unfolding table_answer
  nulls_refused p = let r = answered_err (table_from 5) (read_table l) p in ap Err r.2 ∙ sym (ap (λ (d : Result Table). null_count_of d column) r.1)

  pub nulls_of : {t : TablePlaces} → Ok t ≡ table_answer (read_table l) → {o : RustOption ColumnPlace} → o ≡ column_of t column
      → (r : RustOption ℕ) → MatchOption o (r ≡ None) (λ p. IsSomeAnd r (λ n. n ≡ p.null_count)) → Ok r ≡ null_count_of (read_table l) column
  unfolding table_answer
  nulls_of {t} g {o} is r m =
      let x = answered_ok (table_from 5) (read_table l) g in
      let places = places_from x.0.rows 5 x.0.columns in
      ap Ok (counted o r m ∙ ap (option_map (λ p. p.null_count)) (is ∙ ap (λ (y : TablePlaces). column_of y column) x.2
      ∙ ap (λ (ps : List ColumnPlace). slice_get ps column) (take_at places (replicate (16 - length places) no_place) (length x.0.columns) (length_places x.0.rows 5 x.0.columns)))
      ∙ nulls_placed x.0.rows 5 x.0.columns column)
      ∙ sym (ap (λ (d : Result Table). null_count_of d column) x.1)
    where
      counted : (o : RustOption ColumnPlace) (r : RustOption ℕ) → MatchOption o (r ≡ None) (λ p. IsSomeAnd r (λ n. n ≡ p.null_count)) → r ≡ option_map (λ p. p.null_count) o
      counted None r e = e
      counted (Some p) (Some n) e = ap Some e
      counted (Some p) None e = elim e [ ]
