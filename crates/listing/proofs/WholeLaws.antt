-- A listing's lines, one behind the other: how long they are, and their writing. Assumes nothing.
use Rattle.std.specs.Prelude.{Option, Result as RustResult, Ok, Err}
use mathlib.Core.Path.{◌≡◌, sym, ap, subst, ◌∙◌}
use mathlib.Core.List.{List, [], ◌∷◌, ◌++◌, append-nil, append_assoc}
use Prim.Native.Nat.{ℕ, zero, suc, ◌+◌, ◌<◌, ◌≤◌}
use native.Mathlib.Decide.{dec_lt}
use native.Mathlib.Numerals.{add-one}
use native.Mathlib.Omega.{arith}
use lib.ListN.{length, length-append}
use Rattle.layout.specs.Bytes.{Bytes}
use Rattle.layout.specs.Result.{ok}
use Rattle.scalar.specs.declared.value.Value.{Value}
use Rattle.scalar.specs.Entry.{Entry}
use Rattle.table.specs.declared.places.ColumnPlace.{ColumnPlace}
use Rattle.layout.specs.declared.refusal.Refusal.{Refusal}
use Rattle.layout.specs.Refusals.{number_of}
use Rattle.layout.specs.Put.{Wrote}
use Rattle.layout.proofs.PutLaws.{wrote_none, wrote_then, wrote_as, wrote_long}
use Rattle.table.specs.Column.{TableColumn, entry_at}
use Rattle.table.specs.Parts.{ValueGives}
use Rattle.table.specs.Places.{column_in, place_in, AloneRead}
use Rattle.table.specs.Reading.{read_alone}
use Rattle.listing.specs.declared.shown.Shown.{Shown}
use Rattle.listing.specs.Listing.{places, decimal, row_line, head_line, refused_line, row_lines, column_lines, listing, listing_most}
use Rattle.listing.specs.Putting.{Put, shown_bytes, Shows}
use Rattle.listing.proofs.LineLaws.{length_head, row_length, row_as}
use Rattle.listing.proofs.DigitLaws.{length_decimal}
use Rattle.listing.proofs.ListingMostLaws.{lines_most}

-- the lines up to a row: the head line and those of the rows before it
abbrev lines_to : TableColumn → ℕ → ℕ → List ℕ
lines_to c rows row = head_line rows c.type c.nullable ++ row_lines c row

-- one row more
row_more : (c : TableColumn) (row : ℕ) → row_lines c (row + 1) ≡ row_lines c row ++ row_line row (entry_at c row)
unfolding row_lines
row_more c row = ap (row_lines c) (add-one row)

lines_more : (c : TableColumn) (rows row : ℕ) → lines_to c rows (row + 1) ≡ lines_to c rows row ++ row_line row (entry_at c row)
lines_more c rows row =
    ap (λ (l : List ℕ). head_line rows c.type c.nullable ++ l) (row_more c row) ∙ sym (append_assoc (head_line rows c.type c.nullable) (row_lines c row) (row_line row (entry_at c row)))

-- more rows, more bytes
lines_rise : (c : TableColumn) (row rows : ℕ) → row ≤ rows → length (row_lines c row) ≤ length (row_lines c rows)
unfolding row_lines
lines_rise c row zero h = let e : row ≡ 0 = omega arith in subst (λ (n : ℕ). length (row_lines c n) ≤ length (row_lines c 0)) (sym e) (omega arith)
lines_rise c row (suc rows) h = go (dec_lt row (suc rows)) (λ (k : row ≤ rows). lines_rise c row rows k)
  where
    go : Dec (row < suc rows) → (row ≤ rows → length (row_lines c row) ≤ length (row_lines c rows)) → length (row_lines c row) ≤ length (row_lines c (suc rows))
    go (yes l) before = let k = before (omega arith) in omega (arith, length-append (row_lines c rows) (row_line rows (entry_at c rows)))
    go (no l) before = let e : row ≡ suc rows = omega arith in subst (λ (n : ℕ). length (row_lines c n) ≤ length (row_lines c (suc rows))) (sym e) (omega arith)

-- ---- how long they are

module _ (row : ℕ) {e : Entry} {bytes : List ℕ} {v : Value} {x : Shown} (g : ValueGives bytes e v) (w : Shows v x) where
  -- what is shown is no longer than the line
  pub size_room : length (row_line row e) ≤ listing_most → length (shown_bytes bytes x) ≤ listing_most
  size_room h = omega (arith, row_length g w row)

  -- the line's parts
  pub size_row : {k n : ℕ} → k ≡ places row → n ≡ length (shown_bytes bytes x) → k + 2 + n ≡ length (row_line row e)
  size_row p q = omega (arith, p, q, length_decimal row, row_length g w row)

-- where the loop stands: so many bytes up to a row
pub record SizeSoFar (c : TableColumn) (rows row size : ℕ) : Type 0 where
  pub few : row ≤ rows
  pub size_is : size ≡ length (lines_to c rows row)

pub size_none : (c : TableColumn) (rows : ℕ) {k : ℕ} → k ≡ places rows → SizeSoFar c rows 0 (k + 24)
unfolding row_lines
size_none c rows {k} p = record {
  few = omega arith;
  size_is = length_head rows c.type c.nullable p ∙ ap length (sym (append-nil (head_line rows c.type c.nullable)));
}

module _ {c : TableColumn} {rows row size : ℕ} (s : SizeSoFar c rows row size) (more : row < rows) where
  -- with the next line they are no more than all
  next_fits : size + length (row_line row (entry_at c row)) ≤ length (column_lines c rows)
  next_fits =
      let head = head_line rows c.type c.nullable in
      let rise : length (row_lines c (row + 1)) ≤ length (row_lines c rows) = lines_rise c (row + 1) rows (omega arith) in
      omega (arith, s.size_is, ap length (lines_more c rows row), length-append (lines_to c rows row) (row_line row (entry_at c row)), length-append head (row_lines c (row + 1)), length-append head (row_lines c rows))

  -- the next line is no longer than all
  pub row_fits : length (column_lines c rows) ≤ listing_most → length (row_line row (entry_at c row)) ≤ listing_most
  row_fits h = omega (arith, next_fits)

  module _ {n : ℕ} (is : n ≡ length (row_line row (entry_at c row))) where
    -- and they can be counted
    pub size_fits : length (column_lines c rows) ≤ listing_most → size + n ≤ listing_most
    size_fits h = omega (arith, next_fits)

    pub size_more : SizeSoFar c rows (row + 1) (size + n)
    size_more = record {
      few = omega arith;
      size_is = omega (arith, s.size_is, is, ap length (lines_more c rows row), length-append (lines_to c rows row) (row_line row (entry_at c row)));
    }

pub size_all : {c : TableColumn} {rows row size : ℕ} → SizeSoFar c rows row size → rows ≤ row → size ≡ length (column_lines c rows)
size_all {c} {rows} {row} s h = let few = s.few in let e : row ≡ rows = omega arith in s.size_is ∙ ap (λ (n : ℕ). length (lines_to c rows n)) e

-- ---- their writing

-- the head line fits where all do
pub head_fits : (c : TableColumn) (rows at n : ℕ) → at + length (column_lines c rows) ≤ n → at + length (head_line rows c.type c.nullable) ≤ n
head_fits c rows at n h = omega (arith, length-append (head_line rows c.type c.nullable) (row_lines c rows))

-- where the loop stands: behind the head line those of the rows before one are written, and there is room for all
pub record LinesSoFar (out : List ℕ) (at : ℕ) (c : TableColumn) (rows row p : ℕ) (m : List ℕ) : Type 0 where
  pub few : row ≤ rows
  pub room : at + length (row_lines c rows) ≤ length out
  pub done : Wrote out at (row_lines c row) p m

module _ (c : TableColumn) (rows : ℕ) {out : List ℕ} {at : ℕ} {p : ℕ} {m : List ℕ} (head : Wrote out at (head_line rows c.type c.nullable) p m) where
  pub lines_none : at + length (column_lines c rows) ≤ length out → LinesSoFar m p c rows 0 p m
  unfolding row_lines
  lines_none h =
      let all : p + length (row_lines c rows) ≤ length m = omega (arith, head.ends, wrote_long head, length-append (head_line rows c.type c.nullable) (row_lines c rows)) in
      record { few = omega arith; room = all; done = wrote_none (omega arith) }

  pub lines_all : {row q : ℕ} {m' : List ℕ} → LinesSoFar m p c rows row q m' → rows ≤ row → Wrote out at (column_lines c rows) q m'
  lines_all {row} s h =
      let few = s.few in
      let e : row ≡ rows = omega arith in
      wrote_then head (wrote_as (ap (row_lines c) e) s.done)

module _ {out : List ℕ} {at : ℕ} {c : TableColumn} {rows row p : ℕ} {m : List ℕ} (s : LinesSoFar out at c rows row p m) where
  module _ (more : row < rows) {bytes : List ℕ} {v : Value} {x : Shown} (g : ValueGives bytes (entry_at c row) v) (w : Shows v x) where
    -- the next line fits
    pub lines_room : p + (length (decimal row) + 2 + length (shown_bytes bytes x)) ≤ length m
    lines_room =
        let rise : length (row_lines c (row + 1)) ≤ length (row_lines c rows) = lines_rise c (row + 1) rows (omega arith) in
        omega (arith, s.room, s.done.ends, wrote_long s.done, row_length g w row, ap length (row_more c row), length-append (row_lines c row) (row_line row (entry_at c row)))

    pub lines_next : {q : ℕ} {m' : List ℕ} → Wrote m p (decimal row ++ (32 ∷ []) ++ shown_bytes bytes x ++ (10 ∷ [])) q m' → LinesSoFar out at c rows (row + 1) q m'
    lines_next y = record { few = omega arith; room = s.room; done = wrote_as (sym (row_more c row)) (wrote_then s.done (row_as g w row y)) }

  -- the buffer keeps its length
  pub lines_long : length m ≡ length out
  lines_long = wrote_long s.done

-- ---- the listing

-- a column that is refused
pub listing_refused : {l : List ℕ} {rows : ℕ} {r : RustResult ColumnPlace Refusal} {e : Refusal} → AloneRead l rows r → r ≡ Err e → refused_line (number_of e) ≡ listing rows (read_alone rows l)
unfolding listing
listing_refused {l} {rows} a is = ap (listing rows) (sym (ap (place_in l) is) ∙ a.says)

-- a column that is read
module _ {l : List ℕ} {rows : ℕ} {r : RustResult ColumnPlace Refusal} {p : ColumnPlace} (a : AloneRead l rows r) (is : r ≡ Ok p) where
  reads : read_alone rows l ≡ ok (column_in l p)
  reads = sym a.says ∙ ap (place_in l) is

  pub listing_ok : column_lines (column_in l p) rows ≡ listing rows (read_alone rows l)
  unfolding listing
  listing_ok = ap (listing rows) (sym reads)

  -- its lines can be counted
  pub lines_short : Bytes l → length (column_lines (column_in l p) rows) ≤ listing_most
  lines_short bytes = lines_most l rows (column_in l p) bytes reads

-- bytes put by another name
pub put_as : {out : List ℕ} {at : ℕ} {xs ys : List ℕ} {r : Option ℕ} {m : List ℕ} → xs ≡ ys → Put out at xs r m → Put out at ys r m
put_as {out} {at} {xs} {ys} {r} {m} e p = subst (λ (l : List ℕ). Put out at l r m) e p
