-- Whether a table fits a rule, by the marks of the rule's columns. Assumes nothing.
use Rattle.std.proofs.Common.{◌≡◌, ℕ, zero, suc, ◌-◌, drop, ◌+◌, ◌*◌, ◌%◌, ◌<◌, ◌≤◌, Bool, true, false, cond, not, ◌&&◌, ◌||◌, eqb, leb, ◌⊎◌, List, [], ◌∷◌, reverse, length, get_or, sym, refl, ap, ◌∙◌, ap₂, ⊎_elim, arith, eq-eqb, ne_eqb, eqb-true, le-leb}
use Rattle.std.specs.List.{list_all}
use Rattle.std.proofs.lemmas.List.{get_or-drop}
use mathlib.Core.Bool.{and-true, and-false, false≢true}
use mathlib.Core.List.{reverse_aux}
use mathlib.Core.Option.{Option, some, none}
use native.Mathlib.Decide.{dec_lt, ℕ_discrete}
use lib.ListN.{get_elem?, get_or-eq_default, length-take}
use borrow.Author.Tests.{eqb-false, lt-leb, not-true, not-false}
use Rattle.layout.proofs.TestLaws.{both_hold}
use Rattle.scalar.specs.Types.{type_number, mark_number}
use Rattle.rule.specs.declared.seen.Seen.{Seen}
use Rattle.rule.specs.Tree.{Column, Expr}
use Rattle.rule.specs.Constant.{columns_of}
use Rattle.rule.specs.Reading.{unlike_earlier}
use Rattle.rule.specs.Seen.{mark_of, mark_at, alike}
use Rattle.rule.specs.Steps.{ColumnsMet}
use Rattle.rule.proofs.SeenLaws.{type_bounds, mark_some, unlike_marks}
use Rattle.table.specs.declared.places.ColumnPlace.{ColumnPlace}
use Rattle.table.specs.declared.places.Table.{Table}
use Rattle.table.specs.Column.{TableColumn}
use Rattle.std.specs.Prelude.{Some, None, take}
use Rattle.std.proofs.lemmas.Option.{slice_get_past}
use Rattle.table.specs.Places.{column_in, table_in, column_of}
use Rattle.table.proofs.EntryLaws.{column_is}
use Rattle.case.specs.Fits.{column_fits, columns_fit}
use Rattle.case.specs.Fitting.{mark_fits, FitsGives}

-- the mark of a column says what the column does
mark_says : (c : Column) (d : Option TableColumn) → mark_fits (mark_of c) d ≡ column_fits c d
mark_says c none = refl
mark_says c (some d) = ap₂ (λ (n : ℕ) (b : Bool). eqb n (type_number d.type) && (b || not d.nullable)) type_is (nullable_is c.nullable)
  where
    bound : type_number c.type < 8
    bound = (type_bounds c.type).1

    type_is : mark_of c % 8 ≡ type_number c.type
    type_is = go c.nullable
      where
        go : (b : Bool) → (type_number c.type + 8 * mark_number b) % 8 ≡ type_number c.type
        go true = omega (arith, bound)
        go false = omega (arith, bound)

    nullable_is : (b : Bool) → leb 8 (type_number c.type + 8 * mark_number b) ≡ b
    nullable_is true = le-leb 8 (type_number c.type + 8) (omega arith)
    nullable_is false = lt-leb 8 (type_number c.type + 0) (omega (arith, bound))

-- the test of a list of columns is that of each, in whatever order
fit_reversed : (a b : List Column) (table : List TableColumn) → columns_fit (reverse_aux a b) table ≡ (columns_fit a table && columns_fit b table)
unfolding columns_fit
fit_reversed [] b table = refl
fit_reversed (c ∷ a) b table = fit_reversed a (c ∷ b) table ∙ go (columns_fit a table) (column_fits c (get_elem? table c.index))
  where
    go : (x t : Bool) → (x && (t && columns_fit b table)) ≡ ((t && x) && columns_fit b table)
    go true true = refl
    go true false = refl
    go false true = refl
    go false false = refl

module _ (table : List TableColumn) where
  -- a mark that doesn't fit is that of a column that doesn't
  misfit : (cols : List Column) (i : ℕ) → (mark_at cols i ≡ 0 → ⊥) → mark_fits (mark_at cols i) (get_elem? table i) ≡ false → columns_fit cols table ≡ false
  unfolding mark_at columns_fit
  misfit [] i n f = absurd (n refl)
  misfit (c ∷ l) i n f = go (eqb i c.index) refl (misfit l i) n f
    where
      go : (t : Bool) → eqb i c.index ≡ t
          → ((mark_at l i ≡ 0 → ⊥) → mark_fits (mark_at l i) (get_elem? table i) ≡ false → columns_fit l table ≡ false)
          → (cond t (mark_of c) (mark_at l i) ≡ 0 → ⊥) → mark_fits (cond t (mark_of c) (mark_at l i)) (get_elem? table i) ≡ false
          → (column_fits c (get_elem? table c.index) && columns_fit l table) ≡ false
      go true e later n f =
          ap (λ (b : Bool). b && columns_fit l table)
          (ap (λ (k : ℕ). column_fits c (get_elem? table k)) (sym (eqb-true i c.index e)) ∙ sym (mark_says c (get_elem? table i)) ∙ f)
      go false e later n f =
          ap (λ (b : Bool). column_fits c (get_elem? table c.index) && b) (later n f) ∙ and-false (column_fits c (get_elem? table c.index))

  -- an earlier column of an index has the mark of a later one
  same_mark : (c : Column) (l : List Column) → alike l ≡ true → unlike_earlier c l ≡ false → (mark_at l c.index ≡ 0 → ⊥) → mark_at l c.index ≡ mark_of c
  same_mark c l a u n =
      let is = sym (unlike_marks l c a) ∙ u in
      let some : not (eqb (mark_at l c.index) 0) ≡ true = ap not (ne_eqb (mark_at l c.index) 0 n) in
      let like = ap (λ (b : Bool). b && not (eqb (mark_at l c.index) (mark_of c))) (sym some) ∙ is in
      eqb-true (mark_at l c.index) (mark_of c) (not-false (eqb (mark_at l c.index) (mark_of c)) like)

  -- where all marks fit, all columns do
  all_fit : (cols : List Column) → alike cols ≡ true → ((i : ℕ) → (mark_at cols i ≡ 0 → ⊥) → mark_fits (mark_at cols i) (get_elem? table i) ≡ true)
      → columns_fit cols table ≡ true
  unfolding mark_at alike columns_fit
  all_fit [] a f = refl
  all_fit (c ∷ l) a f = ap₂ (λ (x y : Bool). x && y) here (all_fit l before.1 (λ i n. later i n (eqb i c.index) refl))
    where
      before : (not (unlike_earlier c l) ≡ true) × (alike l ≡ true)
      before = both_hold (not (unlike_earlier c l)) (alike l) a

      mark_at_lem : (i : ℕ) → i ≡ c.index → mark_at (c ∷ l) i ≡ mark_of c
      mark_at_lem i e = ap (λ (t : Bool). cond t (mark_of c) (mark_at l i)) (eq-eqb i c.index e)

      own : (i : ℕ) → i ≡ c.index → mark_fits (mark_of c) (get_elem? table i) ≡ true
      own i e =
          ap (λ (m : ℕ). mark_fits m (get_elem? table i)) (sym (mark_at_lem i e)) ∙ f i (λ z. eqb-false (mark_of c) 0 (mark_some c) (sym (mark_at_lem i e) ∙ z))

      here : column_fits c (get_elem? table c.index) ≡ true
      here = sym (mark_says c (get_elem? table c.index)) ∙ own c.index refl

      later : (i : ℕ) → (mark_at l i ≡ 0 → ⊥) → (t : Bool) → eqb i c.index ≡ t → mark_fits (mark_at l i) (get_elem? table i) ≡ true
      later i n true e =
          let is : i ≡ c.index = eqb-true i c.index e in
          let mark = ap (mark_at l) is ∙ same_mark c l before.1 (not-true (unlike_earlier c l) before.0) (λ z. n (ap (mark_at l) is ∙ z)) in
          ap (λ (m : ℕ). mark_fits m (get_elem? table i)) mark ∙ own i is
      later i n false e =
          let is : mark_at (c ∷ l) i ≡ mark_at l i = ap (λ (t : Bool). cond t (mark_of c) (mark_at l i)) e in
          ap (λ (m : ℕ). mark_fits m (get_elem? table i)) (sym is) ∙ f i (λ z. n (sym is ∙ z))

-- the loop over the marks that a table can have columns for: those below i fit
pub record Fitted (marks : List ℕ) (t : Table) (i : ℕ) : Type 0 where
  pub upto : i ≤ 16
  pub fit : (bytes : List ℕ) (j : ℕ) → j < i → (get_or marks j 0 ≡ 0 → ⊥) → mark_fits (get_or marks j 0) (get_elem? (table_in bytes t).columns j) ≡ true

pub fitted_none : {marks : List ℕ} {t : Table} → Fitted marks t 0
fitted_none = record { upto = omega arith; fit = λ bytes j h. absurd (omega arith) }

-- one more mark: there is none, or it fits
pub fitted_more : {marks : List ℕ} {t : Table} {i : ℕ} → Fitted marks t i → i < 16
    → (get_or marks i 0 ≡ 0) ⊎ ((bytes : List ℕ) → true ≡ mark_fits (get_or marks i 0) (get_elem? (table_in bytes t).columns i)) → Fitted marks t (i + 1)
fitted_more {marks} {t} {i} g more now = record { upto = omega arith; fit = λ bytes j h n. go bytes j h n (ℕ_discrete j i) }
  where
    at : (bytes : List ℕ) (j : ℕ) → j ≡ i → (get_or marks j 0 ≡ 0 → ⊥) → mark_fits (get_or marks j 0) (get_elem? (table_in bytes t).columns j) ≡ true
    at bytes j e n =
        ⊎_elim
        (λ (z : get_or marks i 0 ≡ 0). absurd (n (ap (λ (k : ℕ). get_or marks k 0) e ∙ z)))
        (λ (f : (b : List ℕ) → true ≡ mark_fits (get_or marks i 0) (get_elem? (table_in b t).columns i)).
        ap (λ (k : ℕ). mark_fits (get_or marks k 0) (get_elem? (table_in bytes t).columns k)) e ∙ sym (f bytes))
        now

    go : (bytes : List ℕ) (j : ℕ) → j < i + 1 → (get_or marks j 0 ≡ 0 → ⊥) → Dec (j ≡ i) → mark_fits (get_or marks j 0) (get_elem? (table_in bytes t).columns j) ≡ true
    go bytes j h n (yes e) = at bytes j e n
    go bytes j h n (no e) = g.fit bytes j (omega arith) n

-- the columns that a rule names are those that were met
rule_fits : (e : Expr) (table : List TableColumn) → columns_fit (reverse (columns_of e)) table ≡ columns_fit (columns_of e) table
unfolding columns_fit
rule_fits e table = fit_reversed (columns_of e) [] table ∙ and-true (columns_fit (columns_of e) table)

module _ (seen : Seen) (t : Table) where
  -- a mark that doesn't fit
  pub table_misfits : (i : ℕ) → (get_or seen.marks i 0 ≡ 0 → ⊥) → ((bytes : List ℕ) → false ≡ mark_fits (get_or seen.marks i 0) (get_elem? (table_in bytes t).columns i))
      → FitsGives seen t false
  table_misfits i n f = record {
    says = λ bytes e g.
        let mark = sym (g.marked i) in
        let table = (table_in bytes t).columns in
        sym (misfit table (reverse (columns_of e)) i (λ z. n (sym mark ∙ z)) (ap (λ (m : ℕ). mark_fits m (get_elem? table i)) mark ∙ sym (f bytes))) ∙ rule_fits e table;
  }

  module _ {i : ℕ} (all : Fitted seen.marks t i) (last : 16 ≤ i) (none-beyond : (j : ℕ) → 16 ≤ j → j < 256 → get_or seen.marks j 0 ≡ 0) where
    module _ (bytes : List ℕ) (e : Expr) (g : ColumnsMet seen e) (j : ℕ) where
      mark_is : mark_at (reverse (columns_of e)) j ≡ get_or seen.marks j 0
      mark_is = sym (g.marked j)

      -- behind the last mark there is none
      behind : 16 ≤ j → Dec (j < 256) → get_or seen.marks j 0 ≡ 0
      behind h (yes b) = none-beyond j h b
      behind h (no b) =
          let size : length seen.marks ≡ 256 = g.sized in
          get_or-eq_default seen.marks 0 (omega arith)

      inside : (mark_at (reverse (columns_of e)) j ≡ 0 → ⊥) → Dec (j < i) → j < i
      inside n (yes h) = h
      inside n (no h) = absurd (n (mark_is ∙ behind (omega arith) (dec_lt j 256)))

      mark_fits_lem : (mark_at (reverse (columns_of e)) j ≡ 0 → ⊥) → mark_fits (mark_at (reverse (columns_of e)) j) (get_elem? (table_in bytes t).columns j) ≡ true
      mark_fits_lem n =
          ap (λ (m : ℕ). mark_fits m (get_elem? (table_in bytes t).columns j)) mark_is ∙ all.fit bytes j (inside n (dec_lt j i)) (λ z. n (mark_is ∙ z))

    -- all marks fit
    table_fits : FitsGives seen t true
    table_fits = record {
      says = λ bytes e g.
          sym (all_fit (table_in bytes t).columns (reverse (columns_of e)) g.all_alike (mark_fits_lem bytes e g)) ∙ rule_fits e (table_in bytes t).columns;
    }

-- ---- one column: the table doesn't have it, or has it

module _ (t : Table) (m index : ℕ) where
  pub index_missing : None ≡ column_of t index → (bytes : List ℕ) → false ≡ mark_fits m (get_elem? (table_in bytes t).columns index)
  index_missing h bytes = sym (ap (mark_fits m) (column_is bytes t index h))

  pub index_there : {p : ColumnPlace} → Some p ≡ column_of t index → (r : Bool) → ((bytes : List ℕ) → r ≡ mark_fits m (some (column_in bytes p)))
      → (bytes : List ℕ) → r ≡ mark_fits m (get_elem? (table_in bytes t).columns index)
  index_there h r g bytes = g bytes ∙ sym (ap (mark_fits m) (column_is bytes t index h))

-- ---- the marks beyond a table's columns

-- marks that are all 0
no_mark : (marks : List ℕ) → list_all (λ (m : ℕ). eqb m 0) marks ≡ true → (i : ℕ) → get_or marks i 0 ≡ 0
no_mark [] e i = refl
no_mark (m ∷ marks) e zero = eqb-true m 0 (both_hold (eqb m 0) (list_all (λ (x : ℕ). eqb x 0) marks) e).0
no_mark (m ∷ marks) e (suc i) = no_mark marks (both_hold (eqb m 0) (list_all (λ (x : ℕ). eqb x 0) marks) e).1 i

-- marks of which one is not
some_mark : (marks : List ℕ) → list_all (λ (m : ℕ). eqb m 0) marks ≡ false → (i : ℕ) × (get_or marks i 0 ≡ 0 → ⊥)
some_mark [] f = absurd (false≢true (sym f))
some_mark (m ∷ marks) f = go (eqb m 0) refl (some_mark marks)
  where
    go : (t : Bool) → eqb m 0 ≡ t → (list_all (λ (x : ℕ). eqb x 0) marks ≡ false → (i : ℕ) × (get_or marks i 0 ≡ 0 → ⊥)) → (i : ℕ) × (get_or (m ∷ marks) i 0 ≡ 0 → ⊥)
    go true e later = let l = later (ap (λ (b : Bool). b && list_all (λ (x : ℕ). eqb x 0) marks) (sym e) ∙ f) in (suc l.0, l.1)
    go false e later = (0, eqb-false m 0 e)

-- all marks below 16 fit: the table does where there is none beyond
pub beyond_fits : (seen : Seen) (t : Table) → length t.columns ≡ 16 → {i : ℕ} → Fitted seen.marks t i → 16 ≤ i
    → (r : Bool) → r ≡ list_all (λ (m : ℕ). eqb m 0) (drop 16 seen.marks) → FitsGives seen t r
beyond_fits seen t long {i} all last true e =
    table_fits seen t all last (λ j h l. let at : 16 + (j - 16) ≡ j = omega arith in
    ap (λ (k : ℕ). get_or seen.marks k 0) (sym at) ∙ sym (get_or-drop 16 seen.marks (j - 16) 0) ∙ no_mark (drop 16 seen.marks) (sym e) (j - 16))
beyond_fits seen t long {i} all last false e =
    let w = some_mark (drop 16 seen.marks) (sym e) in
    let at : get_or (drop 16 seen.marks) w.0 0 ≡ get_or seen.marks (16 + w.0) 0 = get_or-drop 16 seen.marks w.0 0 in
    table_misfits seen t (16 + w.0) (λ z. w.1 (at ∙ z)) (index_missing t (get_or seen.marks (16 + w.0) 0) (16 + w.0) (sym (slice_get_past (take t.count t.columns) (16 + w.0) (omega (arith, length-take t.count t.columns, long)))))
