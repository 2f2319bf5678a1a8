-- A column searched in a lookup table (01, Strategies: 6). Hints are an array of 256: at a key's hint stands one more than the place of a key, 0 where no
-- key has the hint, so that most rows are found, or not found, at once. A text key of four to eight bytes has a mark, by which a row is
-- compared with it at once.
use Rattle.std.specs.Prelude.{◌≡◌, ℕ, ◌+◌, ◌-◌, ◌*◌, ◌/◌, ◌%◌, ◌^◌, ◌<◌, ◌≤◌, Bool, true, cond, ◌⊎◌, List, ◌++◌, length, ◌≢◌, nat_eq, nat_lt, slice_index}
use Rattle.layout.specs.Bytes.{number_at}
use Rattle.scalar.specs.declared.value.Value.{Value}
use Rattle.scalar.specs.Entry.{Entry, null, boolean, int32, int64, float64, utf8, Outcome, entry, unfit}
use Rattle.scalar.specs.Order.{Numbered}
use Rattle.scalar.specs.Value.{meaning, place_text}
use Rattle.rule.specs.Tree.{Branches, Optional, branch_count}
use Rattle.rule.specs.Strategy.{drop_null, table_serves}
use Rattle.rule.specs.Row.{Row, with_base, eval_branches}
use Rattle.rule.specs.Walks.{branch_trees, optional_trees, TreesAt}
use Rattle.table.specs.declared.places.ColumnPlace.{ColumnPlace}
use Rattle.table.specs.Column.{valid_in, entry_at}
use Rattle.table.specs.Places.{column_in}
use Rattle.case.specs.ColumnSlots.{text_entry}
use Rattle.case.specs.Evaluation.{indexed}
use Rattle.case.specs.Frame.{Listed}
use Rattle.case.specs.LookUpTables.{found, value_at, key_index, Keys, EachOnce}

-- ---- hints

-- of a number
abbrev pub number_hint : ℕ → ℕ
number_hint x = (x % 256 + x / 2 ^ 48 % 256) % 256

-- of a text, by its size and its last byte
abbrev pub text_hint : List ℕ → ℕ
text_hint t = (length t % 256 + 8 * slice_index t (length t - 1)) % 256

-- of a key that is a text; 0 of any other
abbrev pub entry_hint : Entry → ℕ
entry_hint null = 0
entry_hint (boolean b) = 0
entry_hint (int32 n) = 0
entry_hint (int64 n) = 0
entry_hint (float64 n) = 0
entry_hint (utf8 t) = text_hint t

-- of an outcome that is a text; 0 of any other
abbrev pub outcome_hint : Outcome → ℕ
outcome_hint (entry e) = entry_hint e
outcome_hint unfit = 0

-- each key has left its hint, and every hint is of a key
pub record Hinted (hint : ℕ → ℕ) (size : ℕ) (hints : List ℕ) : Type 0 where
  pub long : length hints ≡ 256
  pub few : (h : ℕ) → slice_index hints h ≤ size
  pub each : (k : ℕ) → k < size → slice_index hints (hint k) ≢ 0

-- ---- number keys

-- a value is an entry that goes by a number
pub record NumberOf (v : Value) (kind x : ℕ) : Type 0 where
  pub value : Entry
  pub means : (rule table : List ℕ) → meaning rule table v ≡ entry value
  pub numbered : Numbered kind x value

-- the numbers of the keys, which are all of the kind, and their hints
pub record NumbersRead (kinds keys : List ℕ) (size kind : ℕ) (numbers hints : List ℕ) : Type 0 where
  pub numbers_long : length numbers ≡ 32
  pub hints_long : length hints ≡ 256
  pub each : (k : ℕ) → k < size → NumberOf (value_at kinds keys k) kind (slice_index numbers k)
  pub hinted : Hinted (λ k. number_hint (slice_index numbers k)) size hints

-- a number among those of the keys
abbrev pub number_found : List ℕ → List ℕ → ℕ → ℕ → ℕ → ℕ
number_found numbers indices size otherwise x = found (λ k. nat_eq x (slice_index numbers k)) (λ k. slice_index indices k) 0 size otherwise

-- the arrays of a table of numbers, each once
pub record NumberTable (numbers indices hints : List ℕ) (size otherwise : ℕ) : Type 0 where
  pub numbers_long : length numbers ≡ 32
  pub indices_long : length indices ≡ 32
  pub few : size ≤ 32
  pub small : otherwise ≤ 64
  pub below : (k : ℕ) → k < size → slice_index indices k < otherwise
  pub hinted : Hinted (λ k. number_hint (slice_index numbers k)) size hints
  pub once : (j k : ℕ) → j < k → k < size → slice_index numbers k ≢ slice_index numbers j

-- the index of a row, from 1, by the numbers of a column: of a null ELSE's
pub record NumberRow (validity column numbers indices : List ℕ) (size otherwise row c : ℕ) : Type 0 where
  pub is : c ≡ cond (valid_in validity row) (number_found numbers indices size otherwise (slice_index column row)) otherwise / 2 + 1

-- ---- a dense table of number keys: at a number's distance from the least, the index from 1

-- each number's index, and none is beyond the table
pub record DenseFilled (numbers indices : List ℕ) (size otherwise least : ℕ) (answers : List ℕ) : Type 0 where
  pub long : length answers ≡ 256
  pub inside : (d : ℕ) → d < 256 → slice_index answers d ≡ number_found numbers indices size otherwise (least + d) / 2 + 1
  pub outside : (x : ℕ) → (x < least) ⊎ (least + 255 < x) → number_found numbers indices size otherwise x ≡ otherwise

-- the index of a row: of a null, and of a number beyond the table, ELSE's
abbrev pub dense_row : List ℕ → List ℕ → ℕ → List ℕ → ℕ → ℕ → ℕ
dense_row validity column least answers otherwise row =
    cond (valid_in validity row)
    (cond (nat_lt (slice_index column row) least) (otherwise / 2 + 1) (cond (nat_lt 255 (slice_index column row - least)) (otherwise / 2 + 1) (slice_index answers (slice_index column row - least))))
    (otherwise / 2 + 1)

-- ---- text keys

-- the arrays of a table, and the hints of its texts
pub record TextTable (rule table kinds keys indices hints : List ℕ) (size otherwise : ℕ) : Type 0 where
  pub arrays : Keys kinds keys indices size otherwise
  pub once : EachOnce rule table kinds keys size
  pub hinted : Hinted (λ k. outcome_hint (meaning rule table (value_at kinds keys k))) size hints
  pub small : otherwise ≤ 64

-- the bytes of a text of the rule, by its payload
abbrev pub rule_text : List ℕ → ℕ → List ℕ
rule_text rule p = place_text rule (p % 2 ^ 32) (p / 2 ^ 32)

-- the mark of a text: its first four bytes and its last four
abbrev pub text_mark : List ℕ → ℕ
text_mark t = number_at 4 t 0 + 2 ^ 32 * number_at 4 t (length t - 4)

-- the size of a key that is a text of four to eight bytes in the rule, by its kind and payload, or 0
pub record KeySize (rule : List ℕ) (kind p size : ℕ) : Type 0 where
  pub most : size ≤ 8
  pub is_text_lem : (size ≢ 0) → kind ≡ 5
  pub is_size : (size ≢ 0) → length (rule_text rule p) ≡ size
  pub least : (size ≢ 0) → 4 ≤ size

-- the sizes of the keys, and the marks of those that have one
pub record Marked (rule kinds keys sizes marks : List ℕ) : Type 0 where
  pub sizes_long : length sizes ≡ 32
  pub marks_long : length marks ≡ 32
  pub each_size : (k : ℕ) → KeySize rule (slice_index kinds k) (slice_index keys k) (slice_index sizes k)
  pub each_mark : (k : ℕ) → (slice_index sizes k ≢ 0) → slice_index marks k ≡ text_mark (rule_text rule (slice_index keys k))

-- a text of four bytes or more has a size and a mark
pub record MarkIs (size mark : ℕ) (text : List ℕ) : Type 0 where
  pub some : 4 ≤ length text
  pub same_size : size ≡ length text
  pub same_mark : mark ≡ text_mark text

-- the index of a row, from 1, by the texts of a column
pub record TextRow (rule table validity offsets texts kinds keys indices : List ℕ) (size otherwise row c : ℕ) : Type 0 where
  pub is : c ≡ key_index rule table kinds keys indices size otherwise (entry (text_entry validity offsets texts row)) / 2 + 1

-- ---- a column

-- the index of a row, from 1, by the entry of a column
abbrev pub KeyedRow : List ℕ → List ℕ → ColumnPlace → List ℕ → List ℕ → List ℕ → ℕ → ℕ → ℕ → ℕ → Type 0
KeyedRow rule table place kinds keys indices size otherwise q c =
    c ≡ key_index rule table kinds keys indices size otherwise (entry (entry_at (column_in table place) q)) / 2 + 1

-- of each listed row, where it serves
pub record ColumnKeyed (table : List ℕ) (place : ColumnPlace) (kinds keys indices : List ℕ) (size otherwise : ℕ) (w : List ℕ) (n : ℕ) (rule : List ℕ) (served : Bool) (values : List ℕ) : Type 0 where
  pub each : served ≡ true → (q : ℕ) → Listed w 0 n q → KeyedRow rule table place kinds keys indices size otherwise q (slice_index values q)

-- the index that whatever branches and ELSE stand at a place give a row, behind a base that is what a column has there
pub record BaseIndex (rule : List ℕ) (at end : ℕ) (table : List ℕ) (place : ColumnPlace) (count q c : ℕ) : Type 0 where
  pub some : 0 < c
  pub few : c ≤ count + 1
  pub is : (bs : Branches) (els : Optional) (depth : ℕ) (row : Row) (other : Outcome) → TreesAt rule at end (branch_trees bs ++ optional_trees els) depth → branch_count bs ≡ count
      → table_serves bs (drop_null els) ≡ true
      → with_base (entry (entry_at (column_in table place) q)) (λ test. eval_branches bs row test other) other ≡ indexed bs row other c

-- of each listed row, where it serves
pub record BaseGives (rule : List ℕ) (at end : ℕ) (table : List ℕ) (place : ColumnPlace) (count : ℕ) (w : List ℕ) (n : ℕ) (served : Bool) (values : List ℕ) : Type 0 where
  pub each : served ≡ true → (q : ℕ) → Listed w 0 n q → BaseIndex rule at end table place count q (slice_index values q)
