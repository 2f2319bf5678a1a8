-- Taking, in the work buffer: the rows of an index go to the next frame's list, and their slots there come back.
use Rattle.std.specs.Prelude.{◌≡◌, ℕ, ◌<◌, ◌≤◌, Bool, true, false, not, List, length, slice_index, slice_index_or}
use Rattle.layout.specs.Bytes.{byte}
use Rattle.scalar.specs.declared.order.Order.{Order}
use Rattle.scalar.specs.declared.order.Order.TheVariants.{Less, Equal, Greater, SomeNull, SomeFailed, Unlike}
use Rattle.scalar.specs.declared.value.Value.{Value}
use Rattle.scalar.specs.declared.value.Value.TheVariants.{Null, Boolean, Failed}
use Rattle.scalar.specs.Entry.{entry, Entry}
use Rattle.scalar.specs.Order.{order_of}
use Rattle.scalar.specs.Value.{meaning}
use Rattle.scalar.specs.Compare.{equal_entry, less_entry}
use Rattle.rule.specs.Row.{is_true_test, chosen}
use Rattle.table.specs.declared.places.ColumnPlace.{ColumnPlace}
use Rattle.table.specs.Column.{entry_at}
use Rattle.table.specs.Places.{column_in}
use Rattle.case.specs.Frame.{row_at, slot_at, Listed}

-- w is now w': of the n rows of the list at the front, the m that are wanted stand at 6656, and nothing before that is changed
pub record Picked (wanted : ℕ → Type 0) (w : List ℕ) (n m : ℕ) (w' : List ℕ) : Type 0 where
  pub long : length w' ≡ length w
  pub few : m ≤ n
  pub low : (j : ℕ) → j < 6656 → byte w' j ≡ byte w j
  pub picked : (r : ℕ) → Listed w' 6656 m r → Listed w 0 n r × wanted r
  pub all : (r : ℕ) → Listed w 0 n r → wanted r → Listed w' 6656 m r
  pub rising : (i j : ℕ) → i < j → j < m → row_at w' 6656 i < row_at w' 6656 j

-- the rows of an index
abbrev pub HasIndex : List ℕ → ℕ → ℕ → Type 0
HasIndex values k r = slice_index values r ≡ k

-- the entry of a column in a slot
abbrev pub EntryRight : List ℕ → ColumnPlace → ℕ → Value → Type 0
EntryRight table place r v = (rule : List ℕ) → meaning rule table v ≡ entry (entry_at (column_in table place) r)

-- less or equal
abbrev pub comparison : Bool → Entry → Entry → Entry
comparison true = less_entry
comparison false = equal_entry

-- the value of a comparison, less or equal, by the order of its sides
abbrev pub order_value : Bool → Order → Value
order_value less Less = Boolean less
order_value less Equal = Boolean (not less)
order_value less Greater = Boolean false
order_value less SomeNull = Null
order_value less SomeFailed = Failed
order_value less Unlike = Null

-- the order of two values
abbrev pub OrderRight : List ℕ → List ℕ → Value → Value → Order → Type 0
OrderRight rule table a b o = o ≡ order_of (meaning rule table a) (meaning rule table b)

-- the order of each listed row
pub record RowsOrdered (right : ℕ → Order → Type 0) (w : List ℕ) (at n : ℕ) (orders : List Order) : Type 0 where
  pub each : (q : ℕ) → Listed w at n q → right q (slice_index_or orders q Less)

-- the one value where the slot is true, else the other; where it failed, it stays so
abbrev pub ScalarRight : Value → Value → List ℕ → ℕ → Value → Type 0
ScalarRight then els w r v = (rule table : List ℕ) → meaning rule table v ≡ chosen is_true_test (meaning rule table (slot_at w r)) (meaning rule table then) (meaning rule table els)

-- the column's entry where the slot is true, else null
abbrev pub ColumnRight : List ℕ → ColumnPlace → List ℕ → ℕ → Value → Type 0
ColumnRight table place w r v =
    (rule : List ℕ) → meaning rule table v ≡ chosen is_true_test (meaning rule table (slot_at w r)) (entry (entry_at (column_in table place) r)) (entry Entry.null)
