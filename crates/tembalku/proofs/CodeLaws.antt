-- Answers as one number. Assumes nothing.
use mathlib.Core.Path.{◌≡◌, refl, sym, ap, ap₂, subst, ◌∙◌}
use mathlib.Core.Bool.{Bool, true, false, cond}
use mathlib.Core.List.{List, ◌++◌}
use mathlib.Core.Option.{Option, some, none}
use Prim.Native.Nat.{ℕ, ◌+◌, ◌≤◌, ◌-◌}
use lib.Dec.{leb}
use lib.ListN.{length, get_elem?, take, drop, replicate}
use lib.Seq.{take-append_seam}
use native.Mathlib.Omega.{arith}
use Rattle.std.specs.Prelude.{Result as RustResult, Ok, Err, Option as RustOption, Some, None}
use Rattle.layout.specs.declared.refusal.Refusal.{Refusal}
use Rattle.layout.specs.Refusals.{rule_refusals, table_refusals, number_of, refusal_numbered}
use Rattle.layout.specs.Result.{Result, refused, ok, answered}
use Rattle.layout.specs.Bytes.{part, PartWritten}
use Rattle.layout.proofs.ResultLaws.{RefusedAmong}
use Rattle.layout.proofs.RefusalLaws.{all_kept, number_kept}
use Rattle.layout.proofs.AnswerLaws.{answered_ok, answered_err}
use Rattle.scalar.specs.declared.types.DataType.{DataType}
use Rattle.scalar.specs.declared.types.DataType.TheVariants.{Boolean, Int32, Int64, Float64, Utf8}
use Rattle.scalar.specs.Types.{type_number}
use Rattle.rule.specs.Tree.{Expr}
use Rattle.rule.specs.declared.projection.Projection.{Projection}
use Rattle.rule.specs.Projection.{projection}
use Rattle.rule.specs.Reading.{read_rule}
use Rattle.rule.specs.Answers.{projection_answer}
use Rattle.rule.proofs.RefusalLaws.{rule_refusals_lem}
use Rattle.utf8.specs.declared.validation.IllFormed.{IllFormed}
use Rattle.utf8.specs.Answers.{validation}
use Rattle.case.specs.Promise.{call_run, Evaluated}
use Rattle.case.proofs.RunLaws.{run_fits, answered_run, refused_run}
use Rattle.case.proofs.EndsHold.{run_among}
use Rattle.table.specs.declared.places.Table.{Table as TablePlaces}
use Rattle.table.specs.declared.places.ColumnPlace.{ColumnPlace}
use Rattle.table.specs.Column.{TableColumn, null_count}
use Rattle.table.specs.Reading.{Table, read_table, read_alone}
use Rattle.table.specs.Answers.{null_count_of_column, null_count_of}
use Rattle.table.specs.Places.{table_from, table_answer, place_from, alone_answer}
use Rattle.table.proofs.TableInversions.{table_few}
use Rattle.table.proofs.NullLaws.{count_most}
use Rattle.table.proofs.RefusalLaws.{table_refusals_lem, alone_number}
use Rattle.tembalku.specs.Codes.{table_code, answer_count_code, text_code, projection_code, columns_after, Projected, run_code, Called}

-- ---- a refusal, and what is answered

-- a refusal's number is the code of what is refused, where the numbers are its own
pub refused_code : {A B : Type 0} (f : A → B) (code : Result A → ℕ) → ((n : ℕ) → code (refused n) ≡ n) → (d : Result A)
    → ((n : ℕ) → d ≡ refused n → number_of (refusal_numbered n) ≡ n) → {r : RustResult B Refusal} {e : Refusal} → r ≡ answered f d → r ≡ Err e → number_of e ≡ code d
refused_code f code own d kept says is =
    let (n, refuses, same) = answered_err f d (sym is ∙ says) in
    ap number_of same ∙ kept n refuses ∙ sym (ap code refuses ∙ own n)

-- what is answered has the code that it has
pub answered_code : {A B : Type 0} (f : A → B) (code : Result A → ℕ) (g : B → ℕ) → ((a : A) → g (f a) ≡ code (ok a)) → (d : Result A)
    → {r : RustResult B Refusal} {b : B} → r ≡ answered f d → r ≡ Ok b → g b ≡ code d
answered_code f code g same d says is =
    let (a, reads, is-f) = answered_ok f d (sym is ∙ says) in
    ap g is-f ∙ same a ∙ sym (ap code reads)

-- the numbers of a rule's and of a table's refusals
pub rule_number : (rule : List ℕ) (n : ℕ) → read_rule rule ≡ refused n → number_of (refusal_numbered n) ≡ n
rule_number rule n e = number_kept rule_refusals n refl (rule_refusals_lem rule n e)

pub table_number : (bytes : List ℕ) (n : ℕ) → read_table bytes ≡ refused n → number_of (refusal_numbered n) ≡ n
table_number bytes n e = number_kept table_refusals n refl (table_refusals_lem bytes n e)

-- ---- tables

-- an accepted table has at most 512 rows
pub table_rows : (bytes : List ℕ) {r : RustResult TablePlaces Refusal} {t : TablePlaces} → r ≡ table_answer (read_table bytes) → r ≡ Ok t → t.rows ≤ 512
unfolding table_answer
table_rows bytes says is =
    let (a, reads, is-f) = answered_ok (table_from 5) (read_table bytes) (sym is ∙ says) in
    omega (arith, table_few bytes a reads, ap (λ (x : TablePlaces). x.rows) is-f)

pub table_accepted : (bytes : List ℕ) {r : RustResult TablePlaces Refusal} {t : TablePlaces} → r ≡ table_answer (read_table bytes) → r ≡ Ok t → 65536 + t.rows ≡ table_code (read_table bytes)
unfolding table_answer
table_accepted bytes says is = answered_code (table_from 5) table_code (λ t. 65536 + t.rows) (λ t. refl) (read_table bytes) says is

pub table_refused_lem : (bytes : List ℕ) {r : RustResult TablePlaces Refusal} {e : Refusal} → r ≡ table_answer (read_table bytes) → r ≡ Err e → number_of e ≡ table_code (read_table bytes)
unfolding table_answer
table_refused_lem bytes says is = refused_code (table_from 5) table_code (λ n. refl) (read_table bytes) (table_number bytes) says is

-- ---- null counts

-- a column of an accepted table has at most 512 nulls
column_few : (c : Option TableColumn) (rows n : ℕ) → rows ≤ 512 → Some n ≡ null_count_of_column c rows → n ≤ 512
column_few none rows n h e = let z : ◌≡◌ {A = ℕ} 0 1 = cc in absurd (omega arith)
column_few (some c) rows n h e = let z : n ≡ null_count c.validity rows = cc in omega (arith, z, count_most c.validity rows)

pub nulls_few : (bytes : List ℕ) (column n : ℕ) → Ok (Some n) ≡ null_count_of (read_table bytes) column → n ≤ 512
nulls_few bytes column n e = go (read_table bytes) refl e
  where
    go : (d : Result Table) → read_table bytes ≡ d → Ok (Some n) ≡ null_count_of d column → n ≤ 512
    go (refused m) p q = let z : ◌≡◌ {A = ℕ} 0 1 = cc in absurd (omega arith)
    go (ok t) p q = let same : Some n ≡ null_count_of_column (get_elem? t.columns column) t.rows = cc in column_few (get_elem? t.columns column) t.rows n (table_few bytes t p) same

-- an answer that is refused, and one whose nulls are counted
pub alone_refused : (rows : ℕ) (bytes : List ℕ) {r : RustResult ColumnPlace Refusal} {e : Refusal} → r ≡ alone_answer rows (read_alone rows bytes) → r ≡ Err e
    → number_of e ≡ answer_count_code rows (read_alone rows bytes)
unfolding alone_answer
alone_refused rows bytes says is = refused_code (place_from rows 0) (answer_count_code rows) (λ n. refl) (read_alone rows bytes) (alone_number rows bytes) says is

pub alone_nulls : (rows : ℕ) (bytes : List ℕ) {r : RustResult ColumnPlace Refusal} {p : ColumnPlace} → r ≡ alone_answer rows (read_alone rows bytes) → r ≡ Ok p
    → 65536 + p.null_count ≡ answer_count_code rows (read_alone rows bytes)
unfolding alone_answer
alone_nulls rows bytes says is = answered_code (place_from rows 0) (answer_count_code rows) (λ p. 65536 + p.null_count) (λ c. refl) (read_alone rows bytes) says is

-- ---- an evaluation

pub answer_fits : {rule table work output : List ℕ} {r : RustResult ℕ Refusal} {w o : List ℕ} {k : ℕ} → Evaluated rule table work output r w o → r ≡ Ok k → k ≤ length output
answer_fits {rule} {table} {work} {output} {k = k} g e =
    let (l, is, size) = answered_run (call_run rule table work output) k (sym e ∙ g.says) in
    subst (λ (j : ℕ). j ≤ length output) (sym size) (run_fits rule table (length work) (length output) l is)

pub called_refused : {rule table work output : List ℕ} {r : RustResult ℕ Refusal} {w o : List ℕ} {e : Refusal} → Evaluated rule table work output r w o → r ≡ Err e
    → Called rule table work output (number_of e) w o
called_refused {rule} {table} {work} {output} g e =
    let is = refused_run (call_run rule table work output) (run_among rule table (length work) (length output)) (sym e ∙ g.says) in
    record { says = ap run_code (sym is); work_is = g.work_is; output_is = g.output_is }

pub called_answered : {rule table work output : List ℕ} {r : RustResult ℕ Refusal} {w o : List ℕ} {k : ℕ} → Evaluated rule table work output r w o → r ≡ Ok k
    → Called rule table work output (65536 + k) w o
called_answered {rule} {table} {work} {output} {k = k} g e =
    let (l, is, size) = answered_run (call_run rule table work output) k (sym e ∙ g.says) in
    record { says = ap (λ (j : ℕ). 65536 + j) size ∙ ap run_code (sym is); work_is = g.work_is; output_is = g.output_is }

-- ---- the projection

-- a projection by what it reads
abbrev projected : Expr → Projection
projected e = record { count = length (projection e); columns = projection e ++ replicate (256 - length (projection e)) 0 }

pub projected_refused : (rule columns : List ℕ) {r : RustResult Projection Refusal} {e : Refusal} → r ≡ projection_answer (read_rule rule) → r ≡ Err e
    → Projected rule columns (number_of e) columns
projected_refused rule columns says is =
    let (n, refuses, same) = answered_err projected (read_rule rule) (sym is ∙ says) in
    record { says = refused_code projected projection_code (λ n. refl) (read_rule rule) (rule_number rule) says is; columns_are = ap (λ (r : Result Expr). columns_after r columns) (sym refuses) }

module _ (rule : List ℕ) {r : RustResult Projection Refusal} {p : Projection} (says : r ≡ projection_answer (read_rule rule)) (is : r ≡ Ok p) where
  found : (e : Expr) × (read_rule rule ≡ ok e) × (p ≡ projected e)
  found = answered_ok projected (read_rule rule) (sym is ∙ says)

  pub projected_is : {columns given : List ℕ} {done : Bool} {columns' : List ℕ} → given ≡ part p.columns 0 p.count → PartWritten columns 0 given done columns'
      → Projected rule columns (256 + length given) columns'
  projected_is {columns} {given} {done} {columns'} g w = record {
    says = ap (λ (l : List ℕ). 256 + length l) given_is ∙ ap projection_code (sym found.1);
    columns_are =
        w.holds ∙ ap (λ (b : Bool). cond b (given ++ drop (0 + length given) columns) columns) w.says
        ∙ ap (λ (l : List ℕ). cond (leb (0 + length l) (length columns)) (l ++ drop (0 + length l) columns) columns) given_is
        ∙ shift (projection found.0)
        ∙ ap (λ (r : Result Expr). columns_after r columns) (sym found.1);
  }
    where
      shift : (l : List ℕ) → cond (leb (0 + length l) (length columns)) (l ++ drop (0 + length l) columns) columns ≡ cond (leb (length l) (length columns)) (l ++ drop (length l) columns) columns
      shift l = let z : 0 + length l ≡ length l = omega arith in ap (λ (k : ℕ). cond (leb k (length columns)) (l ++ drop k columns) columns) z

      given_is : given ≡ projection found.0
      given_is =
          let z : (n : ℕ) → n - 0 ≡ n = λ n. omega arith in
          g ∙ ap (λ (n : ℕ). take n p.columns) (z p.count)
          ∙ ap₂ (λ (l : List ℕ) (n : ℕ). take n l) (ap (λ (a : Projection). a.columns) found.2) (ap (λ (a : Projection). a.count) found.2)
          ∙ take-append_seam (projection found.0) (replicate (256 - length (projection found.0)) 0)

-- ---- a text's test

pub text_well : (o : Option ℕ) (size : ℕ) {v : RustResult (Unit {0}) IllFormed} → v ≡ validation o → v ≡ Ok tt → size ≡ text_code size o
text_well none size e is = refl
text_well (some place) size {v} e is = let z : ◌≡◌ {A = ℕ} 0 1 = cc in absurd (omega arith)

pub text_ill : (o : Option ℕ) (size : ℕ) {v : RustResult (Unit {0}) IllFormed} {i : IllFormed} → v ≡ validation o → v ≡ Err i → i.place ≡ text_code size o
text_ill (some at) size {v} {i} e is = let same : i ≡ record { place = at } = cc in ap (λ (x : IllFormed). x.place) same
text_ill none size {v} {i} e is = let z : ◌≡◌ {A = ℕ} 0 1 = cc in absurd (omega arith)
