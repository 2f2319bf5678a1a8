-- The records of stored runs: five lengths of four bytes each (the rule's, the table's, the work buffer's, the output's and that of what is wanted), then
-- the rule, the table and what is wanted.
use Rattle.std.specs.Prelude.{◌≡◌, ℕ, List, ◌+◌, ◌≤◌, length, drop}
use Rattle.layout.specs.Bytes.{number_at, part}
use Rattle.files.specs.declared.record.Record.{Record}

-- where the table begins: the rule stands behind the lengths
abbrev pub table_start : List ℕ → ℕ
table_start s = 20 + number_at 4 s 0

-- where what is wanted begins
abbrev pub want_start : List ℕ → ℕ
want_start s = table_start s + number_at 4 s 4

-- where the record ends
abbrev pub record_end : List ℕ → ℕ
record_end s = want_start s + number_at 4 s 16

-- the parts of the record at the front of bytes, which has them all, and what is behind it
pub record RecordRead (s : List ℕ) (r : Record) (rest : List ℕ) : Type 0 where
  pub whole : record_end s ≤ length s
  pub rule_is : r.rule.now ≡ part s 20 (table_start s)
  pub table_is : r.table.now ≡ part s (table_start s) (want_start s)
  pub work_is : r.work ≡ number_at 4 s 8
  pub output_is : r.output ≡ number_at 4 s 12
  pub want_is : r.want.now ≡ part s (want_start s) (record_end s)
  pub rest_is : rest ≡ drop (record_end s) s
