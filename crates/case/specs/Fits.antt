-- Rule and table together: fits (13), and the rows of a table (01, Where a call stops; One row).
use Rattle.std.specs.Prelude.{ℕ, Bool, true, false, not, ◌&&◌, ◌||◌, List, [], ◌∷◌}
use Rattle.std.proofs.Math.Option.{Option, some, none}
use Rattle.std.proofs.Math.ListN.{get_elem?}
use Rattle.scalar.specs.Types.{same_type}
use Rattle.scalar.specs.Entry.{Entry, null, entry}
use Rattle.rule.specs.Tree.{Column, Expr}
use Rattle.rule.specs.Row.{Row}
use Rattle.rule.specs.Constant.{columns_of}
use Rattle.table.specs.Column.{TableColumn, entry_at}
use Rattle.table.specs.Reading.{Table}

-- not missing, not of another type, not nullable where the rule says not
abbrev pub column_fits : Column → Option TableColumn → Bool
column_fits c none = false
column_fits c (some d) = same_type c.type d.type && (c.nullable || not d.nullable)

-- every column named fits (01, Where a call stops: 13)
unfoldable pub columns_fit : List Column → List TableColumn → Bool
columns_fit [] columns = true
columns_fit (c ∷ cs) columns = column_fits c (get_elem? columns c.index) && columns_fit cs columns

-- a table fits a rule: all columns named, read or not
abbrev pub fits : Expr → Table → Bool
fits e table = columns_fit (columns_of e) table.columns

-- the entry of a column at a row; of a column that a table doesn't have, null
abbrev pub entry_in : Option TableColumn → ℕ → Entry
entry_in none i = null
entry_in (some c) i = entry_at c i

-- a row of a table
abbrev pub row_of : Table → ℕ → Row
row_of table i c = entry (entry_in (get_elem? table.columns c) i)
