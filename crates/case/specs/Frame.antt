-- A frame of the work buffer (01, What changes shape: filtered batches become row lists in the work buffer):
--     0 .. 1024      the list of rows to evaluate, two bytes a row, the lower first
--     1024 .. 5632   a slot for each row number: a value's kind, one byte, and its payload, eight
--     5632 .. 6656   a second list, a CASE's own
-- and the next frame behind it.
use Rattle.std.specs.Prelude.{◌≡◌, ℕ, ◌+◌, ◌*◌, ◌<◌, ◌≤◌, ◌⊎◌, List, length, ◌≢◌}
use Rattle.layout.specs.Bytes.{byte, number_at}
use Rattle.scalar.specs.declared.value.Value.{Value}
use Rattle.scalar.specs.Entry.{Entry, Outcome, entry}
use Rattle.scalar.specs.Value.{value_of}
use Rattle.scalar.specs.Not.{not_entry}
use Rattle.scalar.specs.Negative.{negative_entry}
use Rattle.scalar.specs.IsNotNull.{is_not_null_entry}
use Rattle.scalar.specs.Cast.{cast_entry}
use Rattle.scalar.specs.TryCast.{try_cast_entry}
pub use Rattle.writer.specs.Slots.{slot_at}
use Rattle.case.specs.declared.rows.Op.{Op}
use Rattle.case.specs.declared.rows.Op.TheVariants.{Not, Negative, IsNotNull, Cast, TryCast}

-- the i-th row of the list at a place
abbrev pub row_at : List ℕ → ℕ → ℕ → ℕ
row_at w at i = number_at 2 w (at + 2 * i)

-- the n rows of the list at a place rise, and are rows of a table of so many rows
pub record Rows (w : List ℕ) (at n rows : ℕ) : Type 0 where
  pub few : n ≤ 512
  pub below : (i : ℕ) → i < n → row_at w at i < rows
  pub rising : (i j : ℕ) → i < j → j < n → row_at w at i < row_at w at j

-- r is one of the first n rows of the list at a place
abbrev pub Listed : List ℕ → ℕ → ℕ → ℕ → Type 0
Listed w at n r = (i : ℕ) × (i < n) × (row_at w at i ≡ r)

-- w is now w': the slot of row r has the value v, and nothing else is changed
pub record SlotPut (w : List ℕ) (r : ℕ) (v : Value) (w' : List ℕ) : Type 0 where
  pub long : length w' ≡ length w
  pub here : slot_at w' r ≡ v
  pub others : (q : ℕ) → (q ≢ r) → slot_at w' q ≡ slot_at w q
  pub low : (j : ℕ) → j < 1024 → byte w' j ≡ byte w j
  pub high : (j : ℕ) → 5632 ≤ j → byte w' j ≡ byte w j

-- the value in the slot of a row of the next frame
abbrev pub next_slot : List ℕ → ℕ → Value
next_slot w r = value_of (byte w (7680 + 9 * r)) (number_at 8 w (7681 + 9 * r))

-- w is now w': what the slot of each of the first n rows of the list at a place has is right for the row, and nothing else is changed
pub record FilledFrom (at : ℕ) (right : ℕ → Value → Type 0) (w : List ℕ) (n : ℕ) (w' : List ℕ) : Type 0 where
  pub long : length w' ≡ length w
  pub here : (r : ℕ) → Listed w at n r → right r (slot_at w' r)
  pub others : (r : ℕ) → r < 512 → (Listed w at n r → ⊥) → slot_at w' r ≡ slot_at w r
  pub low : (j : ℕ) → j < 1024 → byte w' j ≡ byte w j
  pub high : (j : ℕ) → 5632 ≤ j → byte w' j ≡ byte w j

-- of the frame's own list
abbrev pub Filled : (ℕ → Value → Type 0) → List ℕ → ℕ → List ℕ → Type 0
Filled = FilledFrom 0

-- what a loop over the rows of the list at a place asks: the list lies clear of the slots and holds rows below 512, and the buffer has room
pub record FillableFrom (at : ℕ) (w : List ℕ) (n : ℕ) : Type 0 where
  pub rows_ok : Rows w at n 512
  pub room : 5632 ≤ length w
  pub list_in : at + 2 * n ≤ length w
  pub clear : (at + 2 * n ≤ 1024) ⊎ (5632 ≤ at)

-- the same of the frame's own list
pub record Fillable (w : List ℕ) (n : ℕ) : Type 0 where
  pub rows_ok : Rows w 0 n 512
  pub room : 5632 ≤ length w

-- the operations on one value
abbrev pub operation_of : Op → Entry → Outcome
operation_of Not e = entry (not_entry e)
operation_of Negative e = entry (negative_entry e)
operation_of IsNotNull e = entry (is_not_null_entry e)
operation_of (Cast to) e = cast_entry to e
operation_of (TryCast to) e = entry (try_cast_entry to e)

-- w is now w': the first n rows of the list at a place stand at another behind it too, and nothing before that is changed
pub record Copied (w : List ℕ) (n from to : ℕ) (w' : List ℕ) : Type 0 where
  pub long : length w' ≡ length w
  pub rows_copied : (i : ℕ) → i < n → row_at w' to i ≡ row_at w from i
  pub before : (j : ℕ) → j < to → byte w' j ≡ byte w j

-- w is now w': the first n rows of the frame's own list are the rows below n, and nothing behind the list is changed
pub record AllRows (n : ℕ) (w w' : List ℕ) : Type 0 where
  pub long : length w' ≡ length w
  pub rows_are : (i : ℕ) → i < n → row_at w' 0 i ≡ i
  pub high : (j : ℕ) → 1024 ≤ j → byte w' j ≡ byte w j
