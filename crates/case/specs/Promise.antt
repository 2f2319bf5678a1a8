-- What an evaluation promises, for every rule, table, work buffer and output (01, Where a call stops).
use Rattle.std.specs.Prelude.{◌≡◌, ℕ, List, length, Result as RustResult}
use Rattle.layout.specs.Result.{Result}
use Rattle.layout.specs.declared.refusal.Refusal.{Refusal}
use Rattle.writer.specs.Written.{run_answer, output_after}
use Rattle.case.specs.Run.{run, work_after}

-- the run that a call is
abbrev pub call_run : List ℕ → List ℕ → List ℕ → List ℕ → Result (List ℕ)
call_run rule table work output = run rule table (length work) (length output)

-- the answer and the final state of both buffers
pub record Evaluated (rule table work output : List ℕ) (r : RustResult ℕ Refusal) (work' output' : List ℕ) : Type 0 where
  pub says : r ≡ run_answer (call_run rule table work output)
  pub work_is : work' ≡ work_after (call_run rule table work output) work
  pub output_is : output' ≡ output_after (call_run rule table work output) output
