-- What testing a table against a rule promises, by the marks of the columns that the rule names (01, Where a call stops: 13).
use Rattle.std.specs.Prelude.{◌≡◌, ℕ, ◌%◌, Bool, false, not, ◌&&◌, ◌||◌, List, ◌==◌, nat_le}
use Rattle.std.proofs.Math.Option.{Option, some, none}
use Rattle.scalar.specs.Types.{type_number}
use Rattle.rule.specs.declared.seen.Seen.{Seen}
use Rattle.rule.specs.Tree.{Expr}
use Rattle.rule.specs.Steps.{ColumnsMet}
use Rattle.table.specs.declared.places.Table.{Table}
use Rattle.table.specs.Column.{TableColumn}
use Rattle.table.specs.Places.{table_in}
use Rattle.case.specs.Fits.{fits}

-- a table's column beside a mark: there, of the mark's type, and nullable only where the mark says so
abbrev pub mark_fits : ℕ → Option TableColumn → Bool
mark_fits m none = false
mark_fits m (some d) = m % 8 == type_number d.type && (nat_le 8 m || not d.nullable)

-- whatever rule was read with these marks, and whatever bytes the places are in: the answer says whether the table fits the rule
pub record FitsGives (seen : Seen) (t : Table) (r : Bool) : Type 0 where
  pub says : (bytes : List ℕ) (e : Expr) → ColumnsMet seen e → r ≡ fits e (table_in bytes t)
