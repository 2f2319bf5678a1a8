-- The columns of a table by their places, in range or not. Assumes nothing.
use mathlib.Core.Path.{◌≡◌, refl, ap, ◌∙◌}
use mathlib.Core.List.{List, [], ◌∷◌, map}
use Prim.Native.Nat.{ℕ, zero, suc}
use lib.ListN.{get_or, get_elem?, take}
use Rattle.table.specs.declared.places.ColumnPlace.{ColumnPlace}
use Rattle.table.specs.declared.places.Table.{Table}
use Rattle.table.specs.Column.{TableColumn}
use Rattle.table.specs.Places.{column_in, no_place, part_of_column, part_in}

-- a part of the column at a place
part_at : (choose : TableColumn → List ℕ) (l : List ℕ) → choose (column_in l no_place) ≡ [] → (places : List ColumnPlace) (i : ℕ)
    → choose (column_in l (get_or places i no_place)) ≡ part_of_column choose (get_elem? (map (column_in l) places) i)
part_at choose l e [] i = e
part_at choose l e (p ∷ places) zero = refl
part_at choose l e (p ∷ places) (suc i) = part_at choose l e places i

pub part_there : (choose : TableColumn → List ℕ) (l : List ℕ) → choose (column_in l no_place) ≡ [] → (t : Table) (i : ℕ) (p : ColumnPlace)
    → p ≡ get_or (take t.count t.columns) i no_place → choose (column_in l p) ≡ part_in choose l t i
part_there choose l e t i p q = ap (λ (x : ColumnPlace). choose (column_in l x)) q ∙ part_at choose l e (take t.count t.columns) i
