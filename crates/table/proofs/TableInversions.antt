-- The reading of a table, taken backwards. Assumes nothing.
use mathlib.Core.Path.{◌≡◌, sym, ap, ◌∙◌}
use mathlib.Core.Bool.{◌&&◌}
use mathlib.Core.List.{List}
use Prim.Native.Nat.{ℕ, ◌<◌, ◌≤◌}
use lib.Dec.{leb, ltb}
use lib.ListN.{length}
use borrow.Author.Tests.{ltb-true, leb-true}
use Rattle.layout.specs.Result.{ok}
use Rattle.layout.specs.Bytes.{number}
use Rattle.layout.specs.Field.{Field}
use Rattle.layout.proofs.ResultLaws.{bind_ok, ok_injective, require_then}
use Rattle.layout.proofs.TestLaws.{both_hold}
use Rattle.table.specs.Reading.{tagged_pair, read_columns, bytes_most, rows_most, columns_most, Table, read_table}

-- an accepted table: its length, its tag 1, its row count and its columns
pub record Accepted (bytes : List ℕ) (t : Table) : Type 0 where
  pub some_bytes : 0 < length bytes
  pub few_bytes : length bytes ≤ bytes_most
  pub first : Field
  pub first_reads : tagged_pair 1 bytes ≡ ok first
  pub rows_are : t.rows ≡ number first.content
  pub few_rows : number first.content ≤ rows_most
  pub columns_read_lem : read_columns (number first.content) columns_most first.rest ≡ ok t.columns

pub table_inv : (bytes : List ℕ) (t : Table) → read_table bytes ≡ ok t → Accepted bytes t
unfolding read_table
table_inv bytes t p =
    let a = require_then (ltb 0 (length bytes) && leb (length bytes) bytes_most) 9 _ t p in
    let f = bind_ok (tagged_pair 1 bytes) _ t a.1 in
    let b = require_then (leb (number f.0.content) rows_most) 10 _ t f.2 in
    let cs = bind_ok (read_columns (number f.0.content) columns_most f.0.rest) _ t b.1 in
    let same : record { rows = number f.0.content; columns = cs.0 } ≡ t = ok_injective cs.2 in
    let l = both_hold (ltb 0 (length bytes)) (leb (length bytes) bytes_most) a.0 in
    record {
      some_bytes = ltb-true 0 (length bytes) l.0;
      few_bytes = leb-true (length bytes) bytes_most l.1;
      first = f.0;
      first_reads = f.1;
      rows_are = sym (ap (λ (x : Table). x.rows) same);
      few_rows = leb-true (number f.0.content) rows_most b.0;
      columns_read_lem = cs.1 ∙ ap (λ (x : Table). ok x.columns) same;
    }

-- an accepted table has at most 512 rows
pub table_few : (bytes : List ℕ) (t : Table) → read_table bytes ≡ ok t → t.rows ≤ rows_most
table_few bytes t p = let i = table_inv bytes t p in rw i.rows_are i.few_rows
