-- Columns and literals that a rule names, in the slots. Assumes nothing.
use Rattle.std.proofs.Common.{◌≡◌, ℕ, ◌+◌, ◌≤◌, List, length, sym, ap, ◌∙◌, ap₂, arith}
use mathlib.Core.Option.{Option}
use Rattle.layout.specs.Bytes.{byte}
use Rattle.scalar.specs.declared.value.Value.{Value}
use Rattle.scalar.specs.declared.value.Value.TheVariants.{Null}
use Rattle.scalar.specs.declared.types.DataType.{DataType}
use Rattle.scalar.specs.Entry.{null, Outcome, entry, on_entry}
use Rattle.scalar.specs.TryCast.{try_cast_entry}
use Rattle.scalar.specs.Value.{meaning, Storable, Gives}
use Rattle.rule.specs.Tree.{Column, column, literal}
use Rattle.rule.specs.Typing.{type_of}
use Rattle.rule.specs.Row.{is_true_test, chosen}
use Rattle.rule.specs.Node.{NodeAt}
use Rattle.rule.specs.Walks.{EndGives, LiteralGives, TypeGives}
use Rattle.rule.proofs.NodeLaws.{node_byte, trees_one}
use Rattle.rule.proofs.WalkLaws.{nothing_behind, first_tree}
use Rattle.table.specs.declared.places.ColumnPlace.{ColumnPlace}
use Rattle.table.specs.declared.places.Table.{Table}
use Rattle.table.specs.Column.{TableColumn, entry_at}
use Rattle.table.specs.Places.{column_in, column_of}
use Rattle.std.specs.Prelude.{Some, None}
use Rattle.table.proofs.EntryLaws.{column_is}
use Rattle.case.specs.Fits.{entry_in}
use Rattle.case.specs.Frame.{slot_at, Filled}
use Rattle.case.specs.Taking.{EntryRight, ScalarRight, ColumnRight}
use Rattle.case.specs.Evaluation.{row_in, LiteralRight, CellRight, ScalarsRight, CellsRight}
pub use Rattle.case.proofs.RowsLaws.{filled_as}

-- the index of the column whose node stands at a place
index_is : {rule : List ℕ} {at c : ℕ} → c ≡ byte rule (at + 3) → (end depth : ℕ) (x : Column) → NodeAt rule at end (column x) depth → x.index ≡ c
index_is {at = at} i end depth x node = sym (i ∙ node_byte 0 (at + 3) node (omega arith) (omega arith))

module _ (table : List ℕ) (t : Table) (c : ℕ) where
  -- a column that the table doesn't have is null
  missing : None ≡ column_of t c → (r : ℕ) → row_in table t r c ≡ entry null
  missing h r = ap (λ (o : Option TableColumn). entry (entry_in o r)) (column_is table t c h)

  pub cell_found : {p : ColumnPlace} → Some p ≡ column_of t c → (r : ℕ) → row_in table t r c ≡ entry (entry_at (column_in table p) r)
  cell_found a r = ap (λ (o : Option TableColumn). entry (entry_in o r)) (column_is table t c a)

  pub cells_none : {w w' : List ℕ} {n : ℕ} → None ≡ column_of t c → Filled (λ r v. v ≡ Null) w n w' → Filled (CellRight table t c) w n w'
  cells_none h d = filled_as d (λ r v e. record { is = λ rule. ap (meaning rule table) e ∙ sym (missing h r) })

  pub cells_some : {w w' : List ℕ} {n : ℕ} {p : ColumnPlace} → Some p ≡ column_of t c → Filled (EntryRight table p) w n w' → Filled (CellRight table t c) w n w'
  cells_some a d = filled_as d (λ r v e. record { is = λ rule. e rule ∙ sym (cell_found a r) })

-- the column of the node at a place
module _ (table : List ℕ) (t : Table) {rule : List ℕ} {at : ℕ} {w w' : List ℕ} {n : ℕ} where
  pub or_null_behind : {first : ℕ → Value → Type 0} → length rule ≤ at → Filled first w n w' → Filled (CellsRight rule at table t w) w n w'
  or_null_behind h d = filled_as d (λ r v e. record { is = λ end depth x node. absurd (let k = nothing_behind node in omega arith) })

  module _ {c : ℕ} (i : c ≡ byte rule (at + 3)) where
    pub or_null_none : None ≡ column_of t c → Filled (ScalarRight Null Null w) w n w' → Filled (CellsRight rule at table t w) w n w'
    or_null_none h d = filled_as d (λ r v e. record {
      is = λ end depth x node.
          e rule table
          ∙ ap (λ (o : Outcome). chosen is_true_test (meaning rule table (slot_at w r)) o (entry null)) (sym (ap (row_in table t r) (index_is i end depth x node) ∙ missing table t c h r));
    })

    pub or_null_some : {p : ColumnPlace} → Some p ≡ column_of t c → Filled (ColumnRight table p w) w n w' → Filled (CellsRight rule at table t w) w n w'
    or_null_some a d = filled_as d (λ r v e. record {
      is = λ end depth x node.
          e rule
          ∙ ap (λ (o : Outcome). chosen is_true_test (meaning rule table (slot_at w r)) o (entry null)) (sym (ap (row_in table t r) (index_is i end depth x node) ∙ cell_found table t c a r));
    })

-- ---- literals

pub literal_filled : {rule : List ℕ} {start end : ℕ} {u v : Value} {w w' : List ℕ} {n : ℕ} → LiteralGives rule start end u → (Storable u → v ≡ u) → Filled (λ r x. x ≡ v) w n w'
    → Filled (LiteralRight rule start end) w n w'
literal_filled {rule} {start} {end} {u} {v} gives same d = filled_as d (λ r x e. record {
  is = λ f y depth node table.
      let (means, stores) = gives f y depth node in
      ap (meaning rule table) (e ∙ same stores) ∙ means table;
})

pub scalars_filled : {rule : List ℕ} {at els end : ℕ} {a a' b b' c : Value} {to : DataType} {w w' : List ℕ} {n : ℕ} → EndGives rule at els → LiteralGives rule at els a → (Storable a → a' ≡ a)
    → TypeGives rule at to → LiteralGives rule els end b → Gives (λ e. entry (try_cast_entry to e)) b c → (Storable c → b' ≡ c)
    → Filled (ScalarRight a' b' w) w n w' → Filled (ScalarsRight rule at end w) w n w'
unfolding type_of
scalars_filled {rule} {at} {els} {end} {a} {a'} {b} {b'} {c} {to} {w} ends first same types second cast same' d = filled_as d (λ r x e. record {
  is = λ f g y z depth trees table.
      let (one, rest) = first_tree ends trees in
      let (means-a, stores-a) = first f y depth one in
      let (means-b, stores-b) = second g z depth (trees_one rest) in
      let to_is : to ≡ f = types els (literal f y) depth one in
      e rule table
      ∙ ap₂ (chosen is_true_test (meaning rule table (slot_at w r))) (ap (meaning rule table) (same stores-a) ∙ means-a table)
      (ap (meaning rule table) (same' (cast.stores stores-b)) ∙ cast.means rule table ∙ ap (on_entry (λ v. entry (try_cast_entry to v))) (means-b table)
      ∙ ap (λ (k : DataType). entry (try_cast_entry k z)) to_is);
})
