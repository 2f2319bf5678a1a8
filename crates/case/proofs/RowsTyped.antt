-- The rows of a table that fits a rule have the types that the rule says, so the rule has its type at each of them. Assumes nothing.
use Rattle.std.proofs.Common.{◌≡◌, ℕ, true, not, ◌||◌, List, [], ◌∷◌, sym, refl, subst}
use mathlib.Core.Bool.{false≢true}
use mathlib.Core.List.{Memᴰ}
use mathlib.Core.Option.{Option, some, none}
use lib.ListN.{get_elem?}
use Rattle.layout.specs.Result.{ok}
use Rattle.layout.specs.Bytes.{Bytes}
use Rattle.scalar.specs.Types.{same_type}
use Rattle.scalar.specs.Entry.{of_type, outcome_of_type}
use Rattle.scalar.proofs.TypeLaws.{same_type_eq}
use Rattle.rule.specs.Tree.{Column, Expr}
use Rattle.rule.specs.Typing.{type_of}
use Rattle.rule.specs.Row.{eval}
use Rattle.rule.specs.Constant.{columns_of}
use Rattle.rule.specs.Reading.{read_rule}
use Rattle.layout.proofs.TestLaws.{both_hold}
use Rattle.rule.proofs.Sound.{RowTyped}
use Rattle.rule.proofs.ReadTyped.{rule_sound}
use Rattle.table.specs.Column.{TableColumn, entry_at}
use Rattle.table.specs.Reading.{Table, read_table}
use Rattle.table.proofs.TableTyped.{table_typed}
use Rattle.case.specs.Fits.{column_fits, columns_fit, fits, entry_in, row_of}

-- a column that is named fits
named_fits : (c : Column) (cs : List Column) (columns : List TableColumn) → Memᴰ c cs → columns_fit cs columns ≡ true
    → column_fits c (get_elem? columns c.index) ≡ true
unfolding columns_fit
named_fits c [] columns m p = elim m [ ]
named_fits c (d ∷ cs) columns (Memᴰ.head e) p =
    subst (λ (x : Column). column_fits x (get_elem? columns x.index) ≡ true) (sym e) (both_hold (column_fits d (get_elem? columns d.index)) (columns_fit cs columns) p).0
named_fits c (d ∷ cs) columns (Memᴰ.tail m) p = named_fits c cs columns m (both_hold (column_fits d (get_elem? columns d.index)) (columns_fit cs columns) p).1

-- the entry of a column that fits is of the type that the rule says
entry_typed : (c : Column) (o : Option TableColumn) (i : ℕ) → ((d : TableColumn) → o ≡ some d → of_type d.type (entry_at d i) ≡ true)
    → column_fits c o ≡ true → of_type c.type (entry_in o i) ≡ true
entry_typed c none i h p = absurd (false≢true p)
entry_typed c (some d) i h p =
    let same = same_type_eq c.type d.type (both_hold (same_type c.type d.type) (c.nullable || not d.nullable) p).0 in
    rw same (h d refl)

-- the rows of an accepted table that fits a rule
pub rows_typed : (bytes : List ℕ) (t : Table) (e : Expr) (i : ℕ) → Bytes bytes → read_table bytes ≡ ok t → fits e t ≡ true → RowTyped e (row_of t i)
rows_typed bytes t e i h p f c m =
    entry_typed c (get_elem? t.columns c.index) i (λ d q. table_typed bytes t h p c.index d q i) (named_fits c (columns_of e) t.columns m f)

-- an accepted rule has its type at every row of an accepted table that fits it
pub run_sound : (rule table : List ℕ) (e : Expr) (t : Table) (i : ℕ) → Bytes rule → Bytes table → read_rule rule ≡ ok e → read_table table ≡ ok t → fits e t ≡ true
    → outcome_of_type (type_of e) (eval e (row_of t i)) ≡ true
run_sound rule table e t i hr ht pr pt f = rule_sound rule e (row_of t i) hr pr (rows_typed table t e i ht pt f)
