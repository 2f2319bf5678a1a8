-- What must hold of calls of `evaluate`, by what it promises. Assumes nothing.
use Rattle.std.proofs.Common.{◌≡◌, ℕ, List, ◌++◌, length, take, drop, sym, ap, ◌∙◌, subst}
use lib.Seq.{take-append_seam}
use Rattle.layout.specs.Result.{Result, ok}
use Rattle.std.specs.Prelude.{Ok}
use Rattle.writer.specs.Written.{run_answer, output_after}
use Rattle.case.specs.Promise.{call_run}
use Rattle.case.specs.Demands.{Holds, Counts, null_rows, CallsAgree, CallCounts, CallFailsExactly}
use Rattle.case.proofs.RunLaws.{answered_run, refused_run}
use Rattle.case.proofs.EndsHold.{run_among}
use Rattle.case.proofs.DemandsHold.{entry_follows_path, answer_counts, fails_exactly}

-- what a call that answers has at the front of its output
front : (r : Result (List ℕ)) (output o : List ℕ) (n : ℕ) → Ok n ≡ run_answer r → o ≡ output_after r output → (answer : List ℕ) × (r ≡ ok answer) × (take n o ≡ answer)
unfolding output_after
front r output o n e p =
    let (answer, is, size) = answered_run r n e in
    let whole : o ≡ answer ++ drop (length answer) output = p ∙ ap (λ (d : Result (List ℕ)). output_after d output) is in
    (answer, is, ap (λ (k : ℕ). take k o) size ∙ ap (take (length answer)) whole ∙ take-append_seam answer (drop (length answer) output))

pub calls_agree : CallsAgree
calls_agree rule table table' e t t' i i' work output w o work' output' w' o' n n' b b' g g' h h' same =
    let (answer, r, p) = front (call_run rule table work output) output o n g.says g.output_is in
    let (answer', r', p') = front (call_run rule table' work' output') output' o' n' g'.says g'.output_is in
    let (v, is, x, y) = entry_follows_path rule table table' e t t' i i' (length work) (length output) (length work') (length output') answer answer' b b' r r' h h' same in
    (v, is, subst (λ (l : List ℕ). Holds e l t.rows i v) (sym p) x, subst (λ (l : List ℕ). Holds e l t'.rows i' v) (sym p') y)

pub call_counts : CallCounts
call_counts rule table e t work output w o n b g =
    let (answer, r, p) = front (call_run rule table work output) output o n g.says g.output_is in
    subst (λ (l : List ℕ). Counts l t.rows (null_rows e t t.rows)) (sym p) (answer_counts rule table e t (length work) (length output) answer b r)

pub call_fails_exactly : CallFailsExactly
call_fails_exactly rule table e t work output w o r p q f h g =
    let (there, back) = fails_exactly rule table e t (length work) (length output) p q f h in
    (λ is. there (refused_run (call_run rule table work output) (run_among rule table (length work) (length output)) (sym is ∙ g.says)), λ s. g.says ∙ ap run_answer (back s))
