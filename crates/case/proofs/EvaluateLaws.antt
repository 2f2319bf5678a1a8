-- A whole evaluation beside its definition. Assumes nothing.
use Rattle.std.proofs.Common.{◌≡◌, ℕ, zero, suc, ◌+◌, ◌*◌, ◌<◌, ◌≤◌, Bool, true, false, cond, not, leb, List, ◌∷◌, map, length, replicate, sym, refl, ap, ◌∙◌, subst, ap₂, arith}
use borrow.Author.Tests.{lt-leb}
use Rattle.layout.specs.Bytes.{Bytes}
use Rattle.layout.specs.Result.{Result, refused, ok, ◌>>=◌, require}
use Rattle.layout.specs.Refusals.{rule_refusals, late_refusals, among}
use Rattle.layout.proofs.ResultLaws.{among_apart}
use Rattle.scalar.specs.declared.types.DataType.{DataType}
use Rattle.scalar.specs.declared.value.Value.{Value}
use Rattle.scalar.specs.Entry.{Entry, Outcome, outcome_of_type}
use Rattle.scalar.specs.Value.{meaning}
use Rattle.rule.specs.declared.read.RuleReading.{RuleReading}
use Rattle.rule.specs.Reading.{read_rule}
use Rattle.rule.specs.Answers.{rule_reading}
use Rattle.rule.specs.Nullable.{nullable}
use Rattle.rule.specs.Node.{NodeAt}
use Rattle.rule.proofs.ReadNode.{accepted_node}
use Rattle.rule.proofs.AnswerLaws.{reading_was_refused, reading_was_read}
use Rattle.rule.proofs.RefusalLaws.{rule_refusals_lem}
use Rattle.table.specs.declared.places.Table.{Table as Places}
use Rattle.table.specs.Places.{table_in, table_from, table_answer, TableRead}
use Rattle.table.specs.Reading.{read_table}
use Rattle.table.proofs.TableInversions.{table_inv, table_few}
use Rattle.table.proofs.RefusalLaws.{table_early}
use Rattle.std.specs.Prelude.{Option, Some, Result as RustResult, Ok, Err}
use Rattle.layout.specs.declared.refusal.Refusal.{Refusal}
use Rattle.layout.specs.declared.refusal.Refusal.TheVariants.{Fit, WorkSize}
use Rattle.layout.specs.Refusals.{refusal_numbered}
use Rattle.layout.proofs.AnswerLaws.{answered_err}
use Rattle.writer.specs.declared.WriteError.{WriteError}
use Rattle.writer.specs.declared.WriteError.TheVariants.{NoColumn}
use Rattle.table.specs.TableBytes.{column_bytes}
use Rattle.writer.specs.Answer.{column_of, text_length}
use Rattle.writer.specs.Written.{rows_from, entries_of, text_most, written_as, run_answer, zeros, output_after}
use Rattle.writer.specs.Write.{said, row_outcomes, rows_run, ColumnGives, WriteGives, WriteAsks, writable, class_value, classed}
use Rattle.writer.proofs.FitLaws.{column_said, gives_rows, typed_fits, asks_write, asks_classed}
use Rattle.case.specs.Fits.{fits}
use Rattle.case.specs.Fitting.{FitsGives}
use Rattle.case.specs.Run.{outcomes, run_read, run, work_after}
use Rattle.case.specs.Promise.{call_run, Evaluated}
use Rattle.case.specs.Frame.{slot_at, AllRows}
use Rattle.case.specs.Evaluation.{Framed, Done, ExprRight}
use Rattle.case.specs.Readings.{ReadAsks, RowsRight, RowsOfType, AnswerAsks, AnswerGives}
use Rattle.case.specs.declared.results.Results.{Results}
use Rattle.case.specs.Classes.{RootAsks, ClassesGive}
use Rattle.case.proofs.RunLaws.{run_is, run_rows, entries_refused}
use Rattle.case.proofs.RowsTyped.{run_sound}
use Rattle.case.proofs.RowsLaws.{all_rise, all_listed}
use Rattle.case.proofs.FrameLaws.{Kept, kept_rows, listed_to, framed_kept}

-- ---- a refusal before anything is written

-- a refusal that comes before a run's work leaves both buffers
pub refused_early : {rule table work output : List ℕ} {n : ℕ} → call_run rule table work output ≡ refused n → among late_refusals n ≡ false → Evaluated rule table work output (Err (refusal_numbered n)) work output
unfolding work_after output_after
refused_early {rule} {table} {work} {output} {n} is early = record {
  says = ap run_answer (sym is);
  work_is = sym (ap (λ (r : Result (List ℕ)). work_after r work) is ∙ ap (λ (b : Bool). cond b (zeros work) work) early);
  output_is = sym (ap (λ (r : Result (List ℕ)). output_after r output) is);
}

-- by the reading of the rule,
pub rule_refused : {rule table work output : List ℕ} {e : Refusal} → Err e ≡ rule_reading (read_rule rule) → Evaluated rule table work output (Err e) work output
unfolding run
rule_refused {rule} {table} {work} {output} p =
    let (n, is, same) = reading_was_refused rule p refl in
    subst (λ (x : Refusal). Evaluated rule table work output (Err x) work output) (sym same)
    (refused_early {n = n} (simp is) (among_apart rule_refusals late_refusals n refl (rule_refusals_lem rule n is)))

-- of the table,
pub table_refused_lem : {rule table work output : List ℕ} {a : RuleReading} {e : Refusal} → Bytes rule → Ok a ≡ rule_reading (read_rule rule) → Err e ≡ table_answer (read_table table)
    → Evaluated rule table work output (Err e) work output
unfolding run table_answer
table_refused_lem {rule} {table} {work} {output} {a} bytes g p =
    let (tree, reads, read) = reading_was_read rule g bytes a refl in
    let (n, is, same) = answered_err (table_from 5) (read_table table) p in
    subst (λ (x : Refusal). Evaluated rule table work output (Err x) work output) (sym same) (refused_early {n = n} (simp (reads, is)) (table_early table n is))

-- what the reading of both gives
pub both_read : {rule table : List ℕ} {a : RuleReading} {b : Places} → Bytes rule → Ok a ≡ rule_reading (read_rule rule) → TableRead table (Ok b) → ReadAsks rule a table b
both_read {rule} {table} {a} {b} bytes g reads =
    let (e, is, read) = reading_was_read rule g bytes a refl in
    record { tree = e; rule_reads = is; rule_is = read; table_reads = sym reads.says }

-- ---- the rows

module _ {rule table : List ℕ} {t : Places} {result : DataType} {w w₁ : List ℕ} (asks : AnswerAsks rule table t result w) (all : AllRows t.rows w w₁) where
  pub root_asks : RootAsks t w₁ table
  root_asks = record { few = asks.few; room = (let l = all.long in let r = asks.room in omega arith); short = asks.table_short; rows_are = all.rows_are }

  -- the rows by their classes
  module _ {rs : Results} {w₂ classes : List ℕ} (c : ClassesGive rule table t result w₁ (Some rs) w₂ classes) (full : length rs.payloads ≡ 258) where
    -- they are a column
    pub classes_column : {run : Result (List ℕ)} {output output' : List ℕ} {a : RustResult ℕ WriteError} → ColumnGives (classed t.rows result classes rs.payloads) run output a output' → a ≡ Err NoColumn → ⊥
    classes_column wrote = column_said (asks_classed t.rows classes rs.payloads (c.asks full)) wrote

    pub by_classes : {n : Bool} {output output' : List ℕ} {a : RustResult ℕ WriteError} {r : RustResult ℕ Refusal}
        → ((rule table : List ℕ) → ColumnGives (classed t.rows result classes rs.payloads) (rows_run rule table (class_value result classes rs.payloads) t.rows result n (length output)) output a output') → a ≡ said r
        → AnswerGives rule table t result n w output r w₂ output'
    by_classes {r = r} wrote run = record {
      long = c.long ∙ all.long;
      value = class_value result classes rs.payloads;
      right = c.right;
      wrote = gives_rows r (asks_classed t.rows classes rs.payloads (c.asks full)) (wrote rule table) run;
    }

  module _ {found : Option Results} {w₂ classes : List ℕ} (c : ClassesGive rule table t result w₁ found w₂ classes) where
    -- the list is still there
    kept_list : Kept 1024 w₁ w₂
    kept_list j h = c.low j (omega arith)

    pub rows_framed : Framed table t w₂ t.rows 8
    rows_framed = framed_kept {depth = 8} (record {
      list_ok = all_rise all asks.few;
      small = asks.few;
      room = (let l = all.long in let r = asks.room in omega arith);
      short = (let s = asks.table_short in omega arith);
    }) 8 (omega arith) w₂ c.long kept_list

    -- the rows by their slots
    module _ {w₃ : List ℕ} (d : Done (ExprRight rule 0 (length rule) table t 8) w₂ t.rows w₃) where
      slots_right : RowsRight rule table t (slot_at w₃)
      slots_right = record {
        right = λ e node i h.
            let fits : 0 + 2 * t.rows ≤ 1024 = (let f = asks.few in omega arith) in
            (d.here i (listed_to w₁ w₂ 0 0 t.rows (kept_rows 1024 w₁ w₂ 0 t.rows fits kept_list) i (all_listed all i h))).is e node;
      }

      -- which can be written
      write_asks : WriteAsks rule table w₃ t.rows result
      write_asks = record {
        few = asks.few;
        room = (let k = d.long in let m = c.long in let l = all.long in let r = asks.room in omega arith);
        rule_short = (let s = asks.rule_short in omega arith);
        table_short = asks.table_short;
        each = λ i h. typed_fits rule table result (slot_at w₃ i) ((asks.typed (slot_at w₃) slots_right).typed i h);
      }

      pub slots_column : {run : Result (List ℕ)} {output output' : List ℕ} {a : RustResult ℕ WriteError} → ColumnGives (writable rule table w₃ t.rows result) run output a output' → a ≡ Err NoColumn → ⊥
      slots_column wrote = column_said (asks_write rule table w₃ t.rows write_asks) wrote

      pub by_slots : {n : Bool} {output output' : List ℕ} {a : RustResult ℕ WriteError} {r : RustResult ℕ Refusal}
          → ColumnGives (writable rule table w₃ t.rows result) (rows_run rule table (slot_at w₃) t.rows result n (length output)) output a output' → a ≡ said r
          → AnswerGives rule table t result n w output r w₃ output'
      by_slots {r = r} wrote run = record {
        long = d.long ∙ c.long ∙ all.long;
        value = slot_at w₃;
        right = slots_right;
        wrote = gives_rows r (asks_write rule table w₃ t.rows write_asks) wrote run;
      }

-- ---- a rule and a table that were read

not-false : (b : Bool) → not b ≡ true → b ≡ false
not-false true e = sym e
not-false false e = refl

not-true : (b : Bool) → not b ≡ false → b ≡ true
not-true true e = refl
not-true false e = sym e

-- outcomes are the same where they agree at each row
map_same : (f g : ℕ → Outcome) (from n : ℕ) → ((i : ℕ) → from ≤ i → i < from + n → f i ≡ g i) → map f (rows_from from n) ≡ map g (rows_from from n)
unfolding rows_from
map_same f g from zero h = refl
map_same f g from (suc n) h = ap₂ (λ (x : Outcome) (l : List Outcome). x ∷ l) (h from (omega arith) (omega arith)) (map_same f g (suc from) n (λ i a b. h i (omega arith) (omega arith)))

-- behind 13 and 14 a refusal is 15, 16 or 17
written_late : (t : DataType) (n : Bool) (es : List Entry) (output k : ℕ) → written_as t n es output ≡ refused k → among late_refusals k ≡ true
unfolding written_as
written_late t n es output k r = go (leb (text_length es) text_most) (leb (length (column_bytes (column_of t n es))) output) (column_bytes (column_of t n es)) r
  where
    go : (a b : Bool) (l : List ℕ) → (require a 16 >>= λ _. require b 17 >>= λ _. ok l) ≡ refused k → among late_refusals k ≡ true
    go false b l q = let z : ◌≡◌ {A = ℕ} 16 k = cc in ap (among late_refusals) (sym z)
    go true false l q = let z : ◌≡◌ {A = ℕ} 17 k = cc in ap (among late_refusals) (sym z)
    go true true l q = absurd (let z : ◌≡◌ {A = ℕ} 0 1 = cc in omega arith)

rows_run_late : (rule table : List ℕ) (v : ℕ → Value) (rows : ℕ) (t : DataType) (n : Bool) (output k : ℕ) → rows_run rule table v rows t n output ≡ refused k → among late_refusals k ≡ true
rows_run_late rule table v rows t n output k r = go (entries_of (row_outcomes rule table v rows)) refl r
  where
    go : (m : Result (List Entry)) → entries_of (row_outcomes rule table v rows) ≡ m → (m >>= λ es. written_as t n es output) ≡ refused k → among late_refusals k ≡ true
    go (refused j) p q =
        let z : j ≡ k = cc in
        ap (among late_refusals) (sym z ∙ (entries_refused (λ i. meaning rule table (v i)) 0 rows j p).0)
    go (ok es) p q = written_late t n es output k q

-- the work buffer is zero whatever a late run says
late_work : (r : Result (List ℕ)) (work : List ℕ) → ((k : ℕ) → r ≡ refused k → among late_refusals k ≡ true) → work_after r work ≡ zeros work
unfolding work_after
late_work (refused n) work h = ap (λ (b : Bool). cond b (zeros work) work) (h n refl)
late_work (ok l) work h = refl

module _ {rule table : List ℕ} {a : RuleReading} {t : Places} (bytes : Bytes rule) (table_bytes_lem : Bytes table) (asks : ReadAsks rule a table t) where
  call_is : (work output : List ℕ) → call_run rule table work output ≡ run_read asks.tree (table_in table t) (length work) (length output)
  call_is work output = run_is rule table (length work) (length output) asks.tree (table_in table t) asks.rule_reads asks.table_reads

  module _ {seen-fits : Bool} (gives : FitsGives a.seen t seen-fits) where
    fits_is : seen-fits ≡ fits asks.tree (table_in table t)
    fits_is = gives.says table asks.tree asks.rule_is.seen_are

    pub not_fitting : {work output : List ℕ} → not seen-fits ≡ true → Evaluated rule table work output (Err Fit) work output
    unfolding run_read
    not_fitting {work} {output} un = refused_early {n = 13} (call_is work output ∙ simp (sym fits_is ∙ not-false seen-fits un)) refl

    module _ (yes-fits : not seen-fits ≡ false) where
      fitting : fits asks.tree (table_in table t) ≡ true
      fitting = sym fits_is ∙ not-true seen-fits yes-fits

      pub too_short : {work output : List ℕ} → length work < 65536 → Evaluated rule table work output (Err WorkSize) work output
      unfolding run_read
      too_short {work} {output} less = refused_early {n = 14} (call_is work output ∙ simp (fitting, lt-leb 65536 (length work) less)) refl

      module _ {v : ℕ → Value} (rows : RowsRight rule table t v) where
        node : NodeAt rule 0 (length rule) asks.tree 8
        node = accepted_node rule asks.tree bytes asks.rule_reads

        rows_are : row_outcomes rule table v t.rows ≡ outcomes asks.tree (table_in table t)
        rows_are = map_same _ _ 0 t.rows (λ i l h. rows.right asks.tree node i (omega arith))

        -- each row's outcome is of the rule's type
        pub rows_typed : RowsOfType rule table v t.rows a.result
        rows_typed = record {
          typed = λ i h.
              ap₂ outcome_of_type asks.rule_is.type_is (rows.right asks.tree node i h)
              ∙ run_sound rule table asks.tree (table_in table t) i bytes table_bytes_lem asks.rule_reads asks.table_reads fitting;
        }

        module _ {output output' : List ℕ} {r : RustResult ℕ Refusal}
            (wrote : WriteGives rule table v t.rows a.result a.nullable output r output') where
          run_rows_are : (w : List ℕ) → 65536 ≤ length w → call_run rule table w output ≡ rows_run rule table v t.rows a.result a.nullable (length output)
          run_rows_are w room =
              call_is w output ∙ run_rows asks.tree (table_in table t) (length w) (length output) fitting room
              ∙ ap₂ (λ (os : List Outcome) (d : DataType). entries_of os >>= λ es. written_as d (nullable asks.tree) es (length output)) (sym rows_are) (sym asks.rule_is.type_is)
              ∙ ap (λ (b : Bool). rows_run rule table v t.rows a.result b (length output)) (sym asks.rule_is.nullable_is)

          -- the rows were written, and the work buffer was cleared
          pub evaluated : {w w' : List ℕ} {k : ℕ} → 65536 ≤ length w → k ≡ length w → w' ≡ replicate k 0 → Evaluated rule table w output r w' output'
          evaluated {w} room long cleared = record {
            says = wrote.says ∙ ap run_answer (sym (run_rows_are w room));
            work_is =
                cleared ∙ ap (λ (k : ℕ). replicate k 0) long
                ∙ sym (ap (λ (x : Result (List ℕ)). work_after x w) (run_rows_are w room)
                ∙ late_work (rows_run rule table v t.rows a.result a.nullable (length output)) w (rows_run_late rule table v t.rows a.result a.nullable (length output)));
            output_is = wrote.output_is ∙ ap (λ (x : Result (List ℕ)). output_after x output) (sym (run_rows_are w room));
          }

      -- what answering asks
      pub answer_asks : {w : List ℕ} → 65536 ≤ length w → AnswerAsks rule table t a.result w
      answer_asks room = record {
        few = table_few table (table_in table t) asks.table_reads;
        room = room;
        rule_short = (accepted_node rule asks.tree bytes asks.rule_reads).few;
        table_short = (table_inv table (table_in table t) asks.table_reads).few_bytes;
        typed = λ v rows. rows_typed rows;
      }
