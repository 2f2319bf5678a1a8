-- What must hold of the definitions, proved. Assumes nothing.
use Rattle.std.proofs.Common.{◌≡◌, ℕ, ◌+◌, ◌<◌, ◌≤◌, true, cond, List, [], ◌++◌, length, get_or, take, drop, sym, refl, ap, ◌∙◌, subst, append-nil, arith, le-leb}
use mathlib.Core.Bool.{false≢true}
use native.Mathlib.Decide.{dec_lt}
use lib.ListN.{get_or-eq_default, get_elem?}
use Rattle.layout.specs.Result.{ok}
use Rattle.layout.specs.Bytes.{number_bytes}
use Rattle.scalar.specs.declared.types.DataType.{DataType}
use Rattle.scalar.specs.Entry.{Entry, null, Outcome, entry, unfit, of_type, outcome_of_type}
use Rattle.scalar.specs.Cast.{is_unfit}
use Rattle.scalar.proofs.EntryLaws.{agree_eq}
use Rattle.rule.specs.Tree.{Expr}
use Rattle.rule.specs.Typing.{type_of}
use Rattle.rule.specs.Row.{eval}
use Rattle.rule.specs.Nullable.{nullable}
use Rattle.rule.specs.Path.{path, columns_read, holds_misfit}
use Rattle.rule.specs.Constant.{unread}
use Rattle.rule.proofs.PathLaws.{Readable, AgreeOn, path_fails, unread_fails, path_decides}
use Rattle.rule.proofs.ReadBytes.{rule_bytes}
use Rattle.rule.proofs.ReadBack.{rule_reads_back, rule_is_allowed}
use Rattle.table.proofs.ReadBack.{table_reads_back}
use Rattle.table.proofs.WholeBytes.{table_is_its_bytes}
use Rattle.table.specs.Column.{TableColumn, null_count, entry_at}
use Rattle.table.specs.Reading.{read_parts, Table, read_table, read_alone}
use Rattle.table.proofs.TableInversions.{table_few}
use Rattle.table.specs.TableBytes.{column_bytes}
use Rattle.writer.specs.Answer.{null_entries, validity_of, column_of}
use Rattle.case.specs.Fits.{entry_in, row_of}
use Rattle.case.specs.Run.{answer_bytes}
use Rattle.case.specs.Demands.{Holds, BothRead, RuleIsItsTree, ReadExactly, OutcomeOfResultType, EntryIsOneRow, EntryFollowsPath, FailsExactly, AnswerReadsBack, behind_count, entry_of, null_outcome, null_rows, Counts, AnswerCounts, WorkedOutExactly}
use Rattle.case.proofs.RunLaws.{Answered, run_answered, entries_length, entries_at, run_is, run_15, run_unfit}
use Rattle.case.proofs.AnswerLaws.{AllOfType, entry_back, count_entries, count_back, count_right_lem, count_stands, column_back, answer_table}
use Rattle.case.proofs.RowsTyped.{run_sound}

pub rule_is_its_tree : RuleIsItsTree
rule_is_its_tree = rule_bytes

pub read_exactly : ReadExactly
read_exactly = (rule_is_its_tree, rule_reads_back, rule_is_allowed, table_reads_back, table_is_its_bytes)

pub outcome_of_result_type : OutcomeOfResultType
outcome_of_result_type rule table e t i b f = run_sound rule table e t i b.rule_bytes b.table_bytes_lem b.rule_reads b.table_reads f

-- ---- an answer and its rows

-- null is of every type
null_typed : (t : DataType) → of_type t null ≡ true
unfolding of_type
null_typed t = refl

module _ (rule table : List ℕ) (e : Expr) (t : Table) (work output : ℕ) (answer : List ℕ) (b : BothRead rule table e t) (es : List Entry)
    (a : Answered e t work output answer es) where
  -- an entry of the answer is its row's outcome
  entry_at_lem : (i : ℕ) → i < t.rows → eval e (row_of t i) ≡ entry (get_or es i null)
  entry_at_lem i h =
      let z : i ≡ 0 + i = omega arith in
      ap (λ (k : ℕ). eval e (row_of t k)) z ∙ entries_at (λ k. eval e (row_of t k)) 0 t.rows es a.entries i h

  as_many : length es ≡ t.rows
  as_many = entries_length (λ k. eval e (row_of t k)) 0 t.rows es a.entries

  -- every entry is of the result's type
  all_typed : AllOfType (type_of e) es
  all_typed i = go (dec_lt i t.rows)
    where
      go : Dec (i < t.rows) → of_type (type_of e) (get_or es i null) ≡ true
      go (yes h) =
          sym (ap (outcome_of_type (type_of e)) (entry_at_lem i h))
          ∙ run_sound rule table e t i b.rule_bytes b.table_bytes_lem b.rule_reads b.table_reads a.fit
      go (no n) =
          let h : length es ≤ i = rw as_many (omega arith) in
          ap (of_type (type_of e)) (get_or-eq_default es null h) ∙ null_typed (type_of e)

  few : length es ≤ 512
  few = rw as_many (table_few table t b.table_reads)

  -- the answer's column has the entries
  column_has : (i : ℕ) → i < t.rows → entry_at (column_of (type_of e) (nullable e) es) i ≡ get_or es i null
  column_has i h = entry_back (type_of e) (nullable e) es all_typed (omega (arith, a.text)) i (rw as_many h)

  -- it is read from the answer's bytes
  answer_read : read_parts (length es) answer ≡ ok (record { part = column_of (type_of e) (nullable e) es; rest = [] })
  answer_read =
      let whole : column_bytes (column_of (type_of e) (nullable e) es) ++ [] ≡ answer = append-nil _ ∙ sym a.bytes in
      ap (λ (l : List ℕ). read_parts (length es) l) (sym whole) ∙ column_back (type_of e) (nullable e) es [] few a.text

  answer_holds : (i : ℕ) → i < t.rows → Holds e answer t.rows i (get_or es i null)
  answer_holds i h = record {
    column = column_of (type_of e) (nullable e) es;
    reads = ap (λ (n : ℕ). read_parts n answer) (sym as_many) ∙ answer_read;
    type_is = refl;
    mark_is = refl;
    has = column_has i h;
  }

  -- as many rows are null as entries
  nulls_are : null_rows e t t.rows ≡ null_entries es
  unfolding null_rows
  nulls_are = ap (null_rows e t) (sym as_many) ∙ count_entries es (null_rows e t) refl (λ n h. ap (λ (o : Outcome). cond (null_outcome o) 1 0 + null_rows e t n) (entry_at_lem n (rw (← as_many) h)))

  -- the answer as the one column of its bytes
  answer_alone : read_alone t.rows answer ≡ ok (column_of (type_of e) (nullable e) es)
  unfolding read_alone
  answer_alone =
      ap (λ (n : ℕ). read_alone n answer) (sym as_many)
      ∙ rw (le-leb (length es) 512 few, answer_read, count_right_lem (type_of e) (nullable e) es few)

  answer_counts_rows : Counts answer t.rows (null_rows e t t.rows)
  answer_counts_rows =
      let n = null_entries es in
      let bytes = number_bytes 2 n in
      subst (Counts answer t.rows) (sym nulls_are) (record {
        column = column_of (type_of e) (nullable e) es;
        reads = answer_alone;
        says = refl;
        stands = ap (λ (l : List ℕ). take 5 (drop 5 l)) a.bytes ∙ count_stands (type_of e) (nullable e) es;
        has = ap (null_count (validity_of es)) (sym as_many) ∙ count_back es;
      })

  -- behind its row count, where it is accepted, it is one column with the same entries
  read_back : (u : Table) → read_table (behind_count t.rows answer) ≡ ok u
      → (u.rows ≡ t.rows) × (length u.columns ≡ 1) × ((i : ℕ) → i < t.rows → eval e (row_of t i) ≡ row_of u i 0)
  read_back u p =
      let p' : read_table (behind_count (length es) (answer_bytes e es)) ≡ ok u =
      ap (λ (n : ℕ). read_table (behind_count n (answer_bytes e es))) as_many ∙ ap (λ (l : List ℕ). read_table (behind_count t.rows l)) (sym a.bytes) ∙ p in
      let back = answer_table (type_of e) (nullable e) es u few a.text p' in
      (back.0 ∙ as_many, ap length back.1, λ i h. entry_at_lem i h ∙ ap entry (sym (column_has i h) ∙ ap (λ (cs : List TableColumn). entry_in (get_elem? cs 0) i) (sym back.1)))

-- one entry
entry_injective : {a b : Entry} → entry a ≡ entry b → a ≡ b
entry_injective p = cc

pub entry_is_one_row : EntryIsOneRow
entry_is_one_row rule table e t i work output answer b r h =
    let a = run_answered rule table work output answer e t b.rule_reads b.table_reads r in (
      get_or a.0 i null,
      entry_at_lem rule table e t work output answer b a.0 a.1 i h,
      answer_holds rule table e t work output answer b a.0 a.1 i h,
    )

pub entry_follows_path : EntryFollowsPath
entry_follows_path rule table table' e t t' i i' work output work' output' answer answer' b b' r r' h h' same =
    let x = entry_is_one_row rule table e t i work output answer b r h in
    let y = entry_is_one_row rule table' e t' i' work' output' answer' b' r' h' in
    let alike : AgreeOn (columns_read (path e (row_of t i))) (row_of t i) (row_of t' i') = λ c m. ap entry (agree_eq (entry_of t i c) (entry_of t' i' c) (same c m)) in
    let decides : eval e (row_of t i) ≡ eval e (row_of t' i') = path_decides e (row_of t i) (row_of t' i') alike in
    let one : y.0 ≡ x.0 = entry_injective (sym y.1 ∙ sym decides ∙ x.1) in
    (x.0, x.1, x.2, subst (λ (v : Entry). Holds e answer' t'.rows i' v) one y.2)

pub answer_reads_back : AnswerReadsBack
answer_reads_back rule table e t work output answer u b r p =
    let a = run_answered rule table work output answer e t b.rule_reads b.table_reads r in
    read_back rule table e t work output answer b a.0 a.1 u p

pub answer_counts : AnswerCounts
answer_counts rule table e t work output answer b r =
    let a = run_answered rule table work output answer e t b.rule_reads b.table_reads r in
    answer_counts_rows rule table e t work output answer b a.0 a.1

-- ---- failing for a value

-- every column of a table's row can be read
row_readable : (t : Table) (i : ℕ) → Readable (row_of t i)
row_readable t i c = (_, refl)

pub fails_exactly : FailsExactly
fails_exactly rule table e t work output p q f h = (
  λ r. let s = run_15 e t work output f h (sym (run_is rule table work output e t p q) ∙ r) in
      (s.0, s.1, sym (fails s.0) ∙ ap (λ (k : ℕ). is_unfit (eval e (row_of t k))) (from_zero s.0) ∙ s.2),
  λ s. run_is rule table work output e t p q ∙ run_unfit e t work output f h
      (s.0, s.1, ap (λ (k : ℕ). is_unfit (eval e (row_of t k))) (sym (from_zero s.0)) ∙ fails s.0 ∙ s.2),
)
  where
    fails : (i : ℕ) → is_unfit (eval e (row_of t i)) ≡ holds_misfit (path e (row_of t i))
    fails i = path_fails e (row_of t i) (row_readable t i)

    from_zero : (i : ℕ) → i ≡ 0 + i
    from_zero i = omega arith

-- ---- what can be worked out

-- an outcome is "doesn't fit" exactly when the test of it says so
told_unfit : (o : Outcome) → is_unfit o ≡ true → o ≡ unfit
told_unfit (entry v) p = absurd (false≢true p)
told_unfit unfit p = refl

pub worked_out_exactly : WorkedOutExactly
worked_out_exactly e = (λ p. sym (unread_fails e) ∙ ap is_unfit p, λ q. told_unfit (eval e unread) (unread_fails e ∙ q))
