-- The lines of a listing: how long they are, and whether they fit. Assumes nothing.
use Rattle.std.specs.Prelude.{Some, None}
use mathlib.Core.Path.{◌≡◌, refl, sym, ap, ap₂, ◌∙◌}
use mathlib.Core.Bool.{Bool, true, false, not}
use mathlib.Core.List.{List, [], ◌∷◌, ◌++◌}
use Prim.Native.Nat.{ℕ, ◌+◌, ◌-◌, ◌<◌, ◌≤◌}
use native.Mathlib.Omega.{arith}
use lib.Dec.{leb}
use lib.ListN.{length, length-append}
use borrow.Author.Tests.{leb-true, leb-false, not-true, not-false}
use Rattle.scalar.specs.declared.types.DataType.{DataType}
use Rattle.scalar.specs.Types.{type_number, mark_number}
use Rattle.scalar.specs.Entry.{Entry, Outcome}
use Rattle.scalar.specs.declared.value.Value.{Value}
use Rattle.table.specs.Parts.{ValueGives}
use Rattle.scalar.specs.TryCast.{or_null}
use Rattle.listing.specs.declared.shown.Shown.{Shown}
use Rattle.listing.specs.Listing.{digits, places, decimal, entry_bytes, row_line, rows_word, type_words, head_line, refused_word, refused_line}
use Rattle.listing.specs.Putting.{Put, entry_of, shown_bytes, Shows}
use Rattle.layout.specs.Put.{Wrote}
use Rattle.layout.proofs.PutLaws.{wrote_as}
use Rattle.listing.proofs.WriteLaws.{put_fits, put_full}
use Rattle.listing.proofs.DigitLaws.{length_decimal}

-- ---- room

-- there is none
pub no_room : {out : List ℕ} {at : ℕ} (xs : List ℕ) {size : ℕ} {r : Bool} → r ≡ leb (at + size) (length out) → not r ≡ true → size ≡ length xs → Put out at xs None out
no_room {out} {at} xs {size} {r} e h q =
    let over : length out < at + size = leb-false (at + size) (length out) (sym e ∙ not-true r h) in
    put_full xs (omega arith)

-- there is
pub has_room : (at size n : ℕ) {r : Bool} → r ≡ leb (at + size) n → not r ≡ false → at + size ≤ n
has_room at size n {r} e h = leb-true (at + size) n (sym e ∙ not-false r h)

-- for bytes of that length
pub lines_fit : (xs : List ℕ) (at : ℕ) {n size : ℕ} {r : Bool} → size ≡ length xs → r ≡ leb (at + size) n → not r ≡ false → at + length xs ≤ n
lines_fit xs at {n} {size} e q h = let fits : at + size ≤ n = has_room at size n q h in omega arith

-- for a decimal and more
pub decimal_room : (n at more : ℕ) {k size : ℕ} {r : Bool} → k ≡ places n → r ≡ leb (at + (k + more)) size → not r ≡ false → at + (length (decimal n) + more) ≤ size
decimal_room n at more {k} {size} e q h =
    let fits : at + (k + more) ≤ size = has_room at (k + more) size q h in
    omega (arith, e, length_decimal n)

-- the digits of a decimal
pub as_digits : (n : ℕ) {out : List ℕ} {at k p : ℕ} {m : List ℕ} → k ≡ places n → Wrote out at (digits 10 k n) p m → Wrote out at (decimal n) p m
as_digits n e w = wrote_as (ap (λ (j : ℕ). digits 10 j n) e) w

-- ---- how long a line is

pub length_refused : (n : ℕ) {k : ℕ} → k ≡ places n → k + 9 ≡ length (refused_line n)
length_refused n {k} e =
    omega (arith, e, length-append (refused_word ++ decimal n) (10 ∷ []), length-append refused_word (decimal n), length_decimal n)

pub length_head : (rows : ℕ) {k : ℕ} (t : DataType) (nullable : Bool) → k ≡ places rows → k + 24 ≡ length (head_line rows t nullable)
length_head rows {k} t nullable e =
    omega (arith, e, length-append (rows_word ++ decimal rows) (type_words (type_number t) (mark_number nullable)), length-append rows_word (decimal rows), length_decimal rows)

-- a row's line, of what is shown
abbrev row_of : ℕ → List ℕ → List ℕ
row_of row xs = decimal row ++ (32 ∷ []) ++ xs ++ (10 ∷ [])

pub length_row : (row : ℕ) (xs : List ℕ) → length (row_of row xs) ≡ places row + 2 + length xs
length_row row xs =
    omega (arith, length-append (decimal row ++ (32 ∷ []) ++ xs) (10 ∷ []), length-append (decimal row ++ (32 ∷ [])) xs, length-append (decimal row) (32 ∷ []), length_decimal row)

-- ---- the head line

-- what follows the word fits
pub head_room : (rows at n : ℕ) (d : DataType) (b : Bool) → at + length (head_line rows d b) ≤ n → at + (length (decimal rows) + 24) ≤ n
head_room rows at n d b h = omega (arith, length_head rows d b refl, length_decimal rows)

-- the numbers of a type and a mark
pub head_as : (rows : ℕ) (d : DataType) (b : Bool) {out : List ℕ} {at t n p : ℕ} {m : List ℕ} → t ≡ type_number d → n ≡ mark_number b
    → Wrote out at (rows_word ++ decimal rows ++ type_words t n) p m → Wrote out at (head_line rows d b) p m
head_as rows d b e q w = wrote_as (ap₂ (λ (x y : ℕ). rows_word ++ decimal rows ++ type_words x y) e q) w

-- ---- an entry

-- the place lies behind the buffer
pub past_end : {out : List ℕ} {at : ℕ} (xs : List ℕ) → length out < at → Put out at xs None out
past_end xs h = put_full xs (omega arith)

module _ (bytes : List ℕ) {v : Value} {s : Shown} (w : Shows v s) {out : List ℕ} {at : ℕ} where
  -- what is shown doesn't fit
  pub entry_full : at ≤ length out → {r : Bool} → r ≡ leb (length (shown_bytes bytes s)) (length out - at) → not r ≡ true → Put out at (entry_bytes (entry_of bytes v)) None out
  entry_full h {r} e q =
      let over : length out - at < length (shown_bytes bytes s) = leb-false (length (shown_bytes bytes s)) (length out - at) (sym e ∙ not-true r q) in
      let size : length (shown_bytes bytes s) ≡ length (entry_bytes (entry_of bytes v)) = ap length (w.says bytes) in
      put_full (entry_bytes (entry_of bytes v)) (omega arith)

  -- what is shown is put
  pub entry_put : {p : ℕ} {m : List ℕ} → Wrote out at (shown_bytes bytes s) p m → Put out at (entry_bytes (entry_of bytes v)) (Some p) m
  entry_put x = put_fits (wrote_as (w.says bytes) x)

-- what is shown fits
pub shown_room : (xs : List ℕ) (at n : ℕ) → at ≤ n → {r : Bool} → r ≡ leb (length xs) (n - at) → not r ≡ false → at + length xs ≤ n
shown_room xs at n h {r} e q =
    let fits : length xs ≤ n - at = leb-true (length xs) (n - at) (sym e ∙ not-false r q) in
    omega arith

-- ---- a row's line

module _ {bytes : List ℕ} {e : Entry} {v : Value} {s : Shown} (g : ValueGives bytes e v) (w : Shows v s) where
  -- what is shown is the entry
  shown_entry : shown_bytes bytes s ≡ entry_bytes e
  shown_entry = w.says bytes ∙ ap (λ (o : Outcome). entry_bytes (or_null o)) (g.says [])

  -- how long the line is
  pub row_length : (row : ℕ) → length (decimal row) + 2 + length (shown_bytes bytes s) ≡ length (row_line row e)
  row_length row = omega (arith, length_row row (entry_bytes e), length_decimal row, ap length shown_entry)

  -- the line by what is shown
  pub row_as : (row : ℕ) {out : List ℕ} {at p : ℕ} {m : List ℕ} → Wrote out at (decimal row ++ (32 ∷ []) ++ shown_bytes bytes s ++ (10 ∷ [])) p m → Wrote out at (row_line row e) p m
  row_as row x = wrote_as (ap (row_of row) shown_entry) x
