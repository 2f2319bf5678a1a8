-- The marks of the columns that an accepted rule names, as its reading gives them. Assumes nothing.
use mathlib.Core.Path.{◌≡◌, refl, ap, sym, ◌∙◌}
use mathlib.Core.Bool.{Bool, true, false, not, ◌&&◌, ◌||◌, false≢true}
use mathlib.Core.List.{List, [], ◌∷◌, ◌++◌, reverse, reverse_aux}
use Prim.Native.Nat.{ℕ, zero, suc, ◌+◌, ◌<◌, ◌≤◌}
use native.Mathlib.Decide.{dec_lt}
use native.Mathlib.Omega.{arith}
use lib.Dec.{eqb, ltb}
use lib.ListN.{length, get_or, get_or-eq_default}
use lib.Seq.{ext_get_or}
use borrow.Author.Tests.{eqb-true, ltb-true}
use Rattle.layout.proofs.TestLaws.{both_hold}
use Rattle.rule.specs.declared.seen.Seen.{Seen}
use Rattle.rule.specs.Tree.{Column, Expr, column, literal, negation, negative, is_not_null, cast, try_cast, equal, less, case_when, Branches, no_more, branch, Optional, absent, present}
use Rattle.rule.specs.Typing.{node_typed}
use Rattle.rule.specs.Constant.{columns_of, branches_columns, optional_columns}
use Rattle.rule.specs.WellFormed.{count_fits, well_formed, well_formed_branches, well_formed_optional}
use Rattle.rule.specs.Seen.{mark_at, alike, SeenIs, Marked}
use Rattle.rule.specs.Answers.{marks_from}
use Rattle.rule.proofs.ProjectionLaws.{named, named_marked}

-- how many marks there are, and which
pub marks_length : (cols : List Column) (from n : ℕ) → length (marks_from cols from n) ≡ n
unfolding marks_from
marks_length cols from zero = refl
marks_length cols from (suc n) = ap suc (marks_length cols (suc from) n)

pub marks_at : (cols : List Column) (from n i : ℕ) → i < n → get_or (marks_from cols from n) i 0 ≡ mark_at cols (from + i)
unfolding marks_from
marks_at cols from zero i h = absurd (omega arith)
marks_at cols from (suc n) zero h = let z : from ≡ from + 0 = omega arith in ap (mark_at cols) z
marks_at cols from (suc n) (suc i) h =
    let z : suc from + i ≡ from + suc i = omega arith in
    marks_at cols (suc from) n i (omega arith) ∙ ap (mark_at cols) z

from_zero : (cols : List Column) (i : ℕ) → mark_at cols (0 + i) ≡ mark_at cols i
from_zero cols i = let z : 0 + i ≡ i = omega arith in ap (mark_at cols) z

-- the marks of columns met are these
pub seen_is_marks : (cols : List Column) (seen : Seen) → SeenIs cols seen → seen ≡ record { marks = marks_from cols 0 256 }
seen_is_marks cols seen s =
    let size = s.sized in
    ap (λ (l : List ℕ). record { marks = l })
    (ext_get_or 0 seen.marks (marks_from cols 0 256) (size ∙ sym (marks_length cols 0 256))
    (λ i h. s.marked i ∙ sym (marks_at cols 0 256 i (omega arith) ∙ from_zero cols i)))

-- ---- columns whose indexes are bytes

unfoldable small_columns : List Column → Bool
small_columns [] = true
small_columns (c ∷ l) = ltb c.index 256 && small_columns l

-- of some columns and of others
both_small : (a b : List Column) → small_columns a ≡ true → small_columns b ≡ true → small_columns (a ++ b) ≡ true
unfolding small_columns
both_small [] b p q = q
both_small (c ∷ a) b p q = let i = both_hold (ltb c.index 256) (small_columns a) p in rw i.0 (both_small a b i.1 q)

-- turned round
small_reversed : (a b : List Column) → small_columns a ≡ true → small_columns b ≡ true → small_columns (reverse_aux a b) ≡ true
unfolding small_columns
small_reversed [] b p q = q
small_reversed (c ∷ a) b p q = let i = both_hold (ltb c.index 256) (small_columns a) p in small_reversed a (c ∷ b) i.1 (rw i.0 q)

-- a column that is named has such an index
small_named : (l : List Column) (i : ℕ) → small_columns l ≡ true → named l i ≡ true → i < 256
unfolding small_columns named
small_named [] i p e = absurd (false≢true e)
small_named (c ∷ l) i p e = let both = both_hold (ltb c.index 256) (small_columns l) p in go both.0 (eqb i c.index) refl e (small_named l i both.1)
  where
    go : ltb c.index 256 ≡ true → (t : Bool) → eqb i c.index ≡ t → (t || named l i) ≡ true → (named l i ≡ true → i < 256) → i < 256
    go low true is e later =
        let same : i ≡ c.index = eqb-true i c.index is in
        let below : c.index < 256 = ltb-true c.index 256 low in
        omega arith
    go low false is e later = later e

-- the columns of a well-formed tree
mutual
  unfolding small_columns columns_of well_formed

  columns_small : (e : Expr) → well_formed e ≡ true → small_columns (columns_of e) ≡ true
  columns_small (column c) w = rw w refl
  columns_small (literal t v) w = refl
  columns_small (negation e) w = columns_small e (both_hold (node_typed (negation e)) (well_formed e) w).1
  columns_small (negative e) w = columns_small e (both_hold (node_typed (negative e)) (well_formed e) w).1
  columns_small (is_not_null e) w = columns_small e (both_hold (node_typed (is_not_null e)) (well_formed e) w).1
  columns_small (cast t e) w = columns_small e (both_hold (node_typed (cast t e)) (well_formed e) w).1
  columns_small (try_cast t e) w = columns_small e (both_hold (node_typed (try_cast t e)) (well_formed e) w).1
  columns_small (equal a b) w =
      let i = both_hold (well_formed a) (well_formed b) (both_hold (node_typed (equal a b)) (well_formed a && well_formed b) w).1 in
      both_small (columns_of a) (columns_of b) (columns_small a i.0) (columns_small b i.1)
  columns_small (less a b) w =
      let i = both_hold (well_formed a) (well_formed b) (both_hold (node_typed (less a b)) (well_formed a && well_formed b) w).1 in
      both_small (columns_of a) (columns_of b) (columns_small a i.0) (columns_small b i.1)
  columns_small (case_when b bs e) w =
      let counted = both_hold (count_fits bs) (node_typed (case_when b bs e) && (well_formed_optional b && (well_formed_branches bs && well_formed_optional e))) w in
      let parts = both_hold (well_formed_optional b) (well_formed_branches bs && well_formed_optional e) (both_hold (node_typed (case_when b bs e)) _ counted.1).1 in
      let rest = both_hold (well_formed_branches bs) (well_formed_optional e) parts.1 in
      both_small (optional_columns b) (branches_columns bs ++ optional_columns e) (optional_small b parts.0)
      (both_small (branches_columns bs) (optional_columns e) (branches_small bs rest.0) (optional_small e rest.1))

  branches_small : (bs : Branches) → well_formed_branches bs ≡ true → small_columns (branches_columns bs) ≡ true
  branches_small no_more w = refl
  branches_small (branch x t bs) w =
      let i = both_hold (well_formed x) (well_formed t && well_formed_branches bs) w in
      let j = both_hold (well_formed t) (well_formed_branches bs) i.1 in
      both_small (columns_of x) (columns_of t ++ branches_columns bs) (columns_small x i.0)
      (both_small (columns_of t) (branches_columns bs) (columns_small t j.0) (branches_small bs j.1))

  optional_small : (o : Optional) → well_formed_optional o ≡ true → small_columns (optional_columns o) ≡ true
  optional_small absent w = refl
  optional_small (present e) w = columns_small e w

-- the marks of a well-formed tree's columns, of which none is unlike an earlier one
pub marks_seen : (e : Expr) → well_formed e ≡ true → alike (reverse (columns_of e)) ≡ true → Marked (reverse (columns_of e)) (marks_from (reverse (columns_of e)) 0 256)
unfolding small_columns
marks_seen e w a = record {
  sized = marks_length cols 0 256;
  marked = λ i. go i (dec_lt i 256);
  all_alike = a;
}
  where
    cols : List Column
    cols = reverse (columns_of e)

    -- no column has an index from 256 on
    none : (i : ℕ) → 256 ≤ i → (t : Bool) → eqb (mark_at cols i) 0 ≡ t → 0 ≡ mark_at cols i
    none i h true is = sym (eqb-true (mark_at cols i) 0 is)
    none i h false is =
        let below : i < 256 = small_named cols i (small_reversed (columns_of e) [] (columns_small e w) refl) (named_marked cols i ∙ ap not is) in
        absurd (omega arith)

    go : (i : ℕ) → Dec (i < 256) → get_or (marks_from cols 0 256) i 0 ≡ mark_at cols i
    go i (yes h) = marks_at cols 0 256 i h ∙ from_zero cols i
    go i (no h) =
        let far : length (marks_from cols 0 256) ≤ i = let l = marks_length cols 0 256 in omega arith in
        get_or-eq_default (marks_from cols 0 256) 0 far ∙ none i (omega arith) (eqb (mark_at cols i) 0) refl
