-- The lookup table of Boolean keys (01, Modules: boolean_lookup_table.rs).
use Rattle.std.specs.Prelude.{◌≡◌, ℕ, List}
use Rattle.case.specs.declared.boolean_lookup_table.BooleanIndexMap.{BooleanIndexMap}
use Rattle.case.specs.LookUpTables.{number_index}

-- each Boolean has the index that it has in the table: kind 1, payload 1 for true and 0 for false
pub record BooleansOf (kinds keys indices : List ℕ) (size otherwise : ℕ) (m : BooleanIndexMap) : Type 0 where
  pub of_true : m.true_index ≡ number_index kinds keys indices size otherwise 1 1
  pub of_false : m.false_index ≡ number_index kinds keys indices size otherwise 1 0
