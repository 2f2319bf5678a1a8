-- A call ends with a column or one of the numbers, and what it leaves (demand 1), proved. Assumes nothing.
use Rattle.std.proofs.Common.{◌≡◌, ℕ, zero, suc, ◌+◌, ◌-◌, ◌≤◌, Bool, true, false, cond, not, ◌&&◌, eqb, leb, ◌⊎◌, List, [], ◌++◌, length, take, drop, sym, refl, ap, ◌∙◌, subst, ⊎_elim, arith, length-append, length-drop, ne_eqb}
use lib.Seq.{take-append_seam, drop-append_seam}
use Rattle.layout.specs.Result.{Result, refused, ok}
use Rattle.layout.specs.Refusals.{rule_refusals, table_refusals, evaluation_refusals, late_refusals, run_refusals, builder_refusals, among}
use Rattle.layout.proofs.ResultLaws.{RefusedAmong, ok_among, bind_among, require_among_then, among_more}
use Rattle.scalar.specs.Entry.{Entry}
use Rattle.rule.specs.Tree.{Expr}
use Rattle.rule.specs.Reading.{read_rule}
use Rattle.rule.specs.Row.{eval}
use Rattle.rule.proofs.RefusalLaws.{rule_refusals_lem}
use Rattle.table.specs.Reading.{Table, read_table}
use Rattle.table.proofs.RefusalLaws.{table_refusals_lem}
use Rattle.builder.specs.Builder.{Builder, rising_below, is_whole, some_held, add_branch_result}
use Rattle.std.specs.Prelude.{Result as RustResult}
use Rattle.layout.specs.declared.refusal.Refusal.{Refusal}
use Rattle.layout.proofs.RefusalLaws.{number_kept}
use Rattle.writer.specs.Answer.{text_length}
use Rattle.writer.specs.Written.{entries_of, text_most, written_as, zeros, run_answer, output_after}
use Rattle.case.specs.Fits.{fits, row_of}
use Rattle.case.specs.Run.{outcomes, work_least, answer_bytes, written, run_read, run, work_after}
use Rattle.case.specs.Promise.{call_run}
use Rattle.case.specs.Demands.{RunRefusals, BuilderRefusals, RefusalLeaves, AnswerLeaves, Leaves, CallEnds}
use Rattle.case.proofs.RunLaws.{entries_refused, run_fits}

-- ---- the numbers

-- the rows are refused with 15 alone
entries_among : (e : Expr) (t : Table) → RefusedAmong run_refusals (entries_of (outcomes e t))
entries_among e t = record { one = λ n p. ap (among run_refusals) (entries_refused (λ i. eval e (row_of t i)) 0 t.rows n p).0 }

-- writing with 16 or 17
written_among : (e : Expr) (es : List Entry) (output : ℕ) → RefusedAmong run_refusals (written e es output)
unfolding written_as
written_among e es output =
    require_among_then run_refusals (leb (text_length es) text_most) 16 _ refl (λ _.
    require_among_then run_refusals (leb (length (answer_bytes e es)) output) 17 _ refl (λ _. ok_among run_refusals _))

-- what was read, with 13 to 17
read_among : (e : Expr) (t : Table) (work output : ℕ) → RefusedAmong run_refusals (run_read e t work output)
unfolding run_read
read_among e t work output =
    require_among_then run_refusals (fits e t) 13 _ refl (λ _.
    require_among_then run_refusals (leb work_least work) 14 _ refl (λ _.
    bind_among run_refusals (entries_of (outcomes e t)) _ (entries_among e t) (λ es. written_among e es output)))

-- a run with 1 to 17 or 25
pub run_among : (rule table : List ℕ) (work output : ℕ) → RefusedAmong run_refusals (run rule table work output)
unfolding run
run_among rule table work output =
    bind_among run_refusals (read_rule rule) _
    (record { one = λ n p. among_more [] rule_refusals (table_refusals ++ evaluation_refusals) n (rule_refusals_lem rule n p) }) (λ e.
    bind_among run_refusals (read_table table) _
    (record { one = λ n p. among_more rule_refusals table_refusals evaluation_refusals n (table_refusals_lem table n p) }) (λ t. read_among e t work output))

pub run_refusals_lem : RunRefusals
run_refusals_lem rule table work output n p = (run_among rule table work output).one n p

-- a builder with 10, and 18 to 21
add_among : (b : Builder ℕ) (rows values : List ℕ) → RefusedAmong builder_refusals (add_branch_result b rows values)
unfolding add_branch_result
add_among b rows values =
    require_among_then builder_refusals (eqb (length rows) (length values)) 19 _ refl (λ _.
    require_among_then builder_refusals (rising_below 0 (length b.held) rows) 18 _ refl (λ _.
    require_among_then builder_refusals (not b.whole && not (b.part && is_whole b rows)) 21 _ refl (λ _.
    require_among_then builder_refusals (not (some_held b.held rows)) 20 _ refl (λ _. ok_among builder_refusals _))))

pub builder_refusals_lem : BuilderRefusals
builder_refusals_lem = (
  λ rows n p. (require_among_then builder_refusals (leb rows 512) 10 _ refl (λ _. ok_among builder_refusals _)).one n p,
  λ b rows values n p. (add_among b rows values).one n p,
)

-- ---- what a call leaves

-- 15 to 17 come once a run's work has begun
late : (n : ℕ) → 15 ≤ n → n ≤ 17 → among late_refusals n ≡ true
late n h k = let e : 15 + (n - 15) ≡ n = omega arith in ap (among late_refusals) (sym e) ∙ go (n - 15) (omega arith)
  where
    go : (m : ℕ) → m ≤ 2 → among late_refusals (15 + m) ≡ true
    go zero b = refl
    go (suc zero) b = refl
    go (suc (suc zero)) b = refl
    go (suc (suc (suc m))) b = absurd (omega arith)

-- and no others
not_late : (n : ℕ) → (n ≤ 14) ⊎ (18 ≤ n) → among late_refusals n ≡ false
not_late n h = ⊎_elim (λ (few : n ≤ 14). other (omega arith) (omega arith) (omega arith)) (λ (many : 18 ≤ n). other (omega arith) (omega arith) (omega arith)) h
  where
    other : (n ≡ 15 → ⊥) → (n ≡ 16 → ⊥) → (n ≡ 17 → ⊥) → among late_refusals n ≡ false
    other a b c = simp (ne_eqb n 15 a, ne_eqb n 16 b, ne_eqb n 17 c)

-- by what the run is
module _ (rule table work output work' output' : List ℕ) where
  answer_leaves : (answer : List ℕ) → call_run rule table work output ≡ ok answer → work' ≡ zeros work → output' ≡ answer ++ drop (length answer) output
      → AnswerLeaves (call_run rule table work output) work output (length answer) work' output'
  answer_leaves answer is w o =
      let room = run_fits rule table (length work) (length output) answer is in
      let front : take (length answer) output' ≡ answer = ap (take (length answer)) o ∙ take-append_seam answer (drop (length answer) output) in
      let size : length output' ≡ length answer + length (drop (length answer) output) = ap length o ∙ length-append answer (drop (length answer) output) in
      let left = length-drop (length answer) output in
      record {
        answer_is = is ∙ ap ok (sym front);
        inside = room;
        past_it = ap (drop (length answer)) o ∙ drop-append_seam answer (drop (length answer) output);
        as_long = omega arith;
        work_zero = w;
      }

  refusal_leaves : (n : ℕ) → call_run rule table work output ≡ refused n → work' ≡ cond (among late_refusals n) (zeros work) work → output' ≡ output
      → RefusalLeaves (call_run rule table work output) work output n work' output'
  refusal_leaves n is w o = record {
    number_is = is;
    listed = run_refusals_lem rule table (length work) (length output) n is;
    output_kept = o;
    work_kept = λ h. w ∙ ap (λ (b : Bool). cond b (zeros work) work) (not_late n h);
    work_zero = λ h k. w ∙ ap (λ (b : Bool). cond b (zeros work) work) (late n h k);
  }

  leaves : (d : Result (List ℕ)) → call_run rule table work output ≡ d → work' ≡ work_after d work → output' ≡ output_after d output
      → Leaves (call_run rule table work output) work output (run_answer d) work' output'
  unfolding work_after output_after
  leaves (refused n) is w o =
      let kept = number_kept run_refusals n refl (run_refusals_lem rule table (length work) (length output) n is) in
      subst (λ (k : ℕ). RefusalLeaves (call_run rule table work output) work output k work' output') (sym kept) (refusal_leaves n is w o)
  leaves (ok answer) is w o = answer_leaves answer is w o

pub call_ends : CallEnds
call_ends rule table work output r work' output' g =
    subst (λ (a : RustResult ℕ Refusal). Leaves (call_run rule table work output) work output a work' output') (sym g.says)
    (leaves rule table work output work' output' (call_run rule table work output) refl g.work_is g.output_is)
