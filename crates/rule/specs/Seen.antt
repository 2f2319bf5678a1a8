-- The columns met while a rule is read, as marks.
use Rattle.std.specs.Prelude.{◌≡◌, Bool, true, cond, not, ◌&&◌, List, [], ◌∷◌, ℕ, ◌+◌, ◌*◌, eqb, length, get_or}
use Rattle.scalar.specs.Types.{type_number, mark_number}
use Rattle.rule.specs.declared.seen.Seen.{Seen}
use Rattle.rule.specs.Tree.{Column}
use Rattle.rule.specs.Reading.{unlike_earlier}

-- the mark of a column: its type's number, and 8 more where it is nullable
abbrev pub mark_of : Column → ℕ
mark_of c = type_number c.type + 8 * mark_number c.nullable

-- the mark at an index: that of the column met there last, and 0 where none was
unfoldable pub mark_at : List Column → ℕ → ℕ
mark_at [] i = 0
mark_at (c ∷ l) i = cond (eqb i c.index) (mark_of c) (mark_at l i)

-- no column is unlike an earlier one of its index
unfoldable pub alike : List Column → Bool
alike [] = true
alike (c ∷ l) = not (unlike_earlier c l) && alike l

-- the marks are those of the columns met so far
pub record SeenIs (columns : List Column) (seen : Seen) : Type 0 where
  pub sized : length seen.marks ≡ 256
  pub marked : (i : ℕ) → get_or seen.marks i 0 ≡ mark_at columns i
  pub all_alike : alike columns ≡ true

-- the same of marks that are lent
abbrev pub Marked : List Column → List ℕ → Type 0
Marked columns marks = SeenIs columns (record { marks = marks })
