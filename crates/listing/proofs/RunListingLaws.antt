-- The listing of a run, by what its evaluation says. Assumes nothing.
use Rattle.std.specs.Prelude.{Option, Result as RustResult, Ok, Err, is_ok, IsOk}
use Rattle.layout.specs.declared.refusal.Refusal.{Refusal}
use Rattle.layout.specs.Refusals.{number_of}
use mathlib.Core.Path.{◌≡◌, sym, ap, ap₂, ◌∙◌}
use mathlib.Core.List.{List}
use Prim.Native.Nat.{ℕ, ◌-◌}
use native.Mathlib.Omega.{arith}
use lib.ListN.{length, take, drop}
use lib.Seq.{take-append_seam}
use Rattle.layout.specs.Bytes.{part}
use Rattle.layout.specs.Result.{Result, ok}
use Rattle.layout.proofs.ResultLaws.{bind_ok}
use Rattle.rule.specs.Reading.{read_rule}
use Rattle.table.specs.declared.places.Table.{Table as TablePlaces}
use Rattle.table.specs.Reading.{Table, read_table, read_alone}
use Rattle.table.specs.Places.{table_answer, table_answer_from, TableRead}
use Rattle.writer.specs.Written.{output_after}
use Rattle.case.specs.Run.{run}
use Rattle.case.specs.Promise.{call_run, Evaluated}
use Rattle.case.proofs.RunLaws.{answered_run, refused_run}
use Rattle.case.proofs.EndsHold.{run_among}
use Rattle.listing.specs.Listing.{refused_line, listing, rows_in, run_lines, run_listing}
use Rattle.listing.specs.Putting.{Put, Listed}
use Rattle.listing.proofs.WholeLaws.{put_as}

-- the answer's bytes at the front of the output
front_is : (l output : List ℕ) (k : ℕ) → k ≡ length l → part (output_after (ok l) output) 0 k ≡ l
unfolding output_after
front_is l output k e =
    let size : k - 0 ≡ length l = omega arith in
    ap (λ (n : ℕ). take n (output_after (ok l) output)) size ∙ take-append_seam l (drop (length l) output)

-- a run that answers has read its table
pub table_there : {rule table work output : List ℕ} {a : RustResult ℕ Refusal} {work' output' : List ℕ} {k : ℕ} {b : RustResult TablePlaces Refusal} → Evaluated rule table work output a work' output' → a ≡ Ok k
    → b ≡ table_answer (read_table table) → IsOk b
unfolding run table_answer
table_there {rule} {table} {work} {output} {k = k} g e says =
    let (l, is, size) = answered_run (call_run rule table work output) k (sym e ∙ g.says) in
    let a = bind_ok (read_rule rule) _ l is in
    let t = bind_ok (read_table table) _ l a.2 in
    ap is_ok says ∙ ap (λ (d : Result Table). is_ok (table_answer_from 5 d)) t.1

module _ {rule table work output : List ℕ} {a : RustResult ℕ Refusal} {work' output' : List ℕ} (g : Evaluated rule table work output a work' output') {out : List ℕ} {r : Option ℕ} {out' : List ℕ} where
  -- the run is refused
  pub listed_refused : {e : Refusal} → a ≡ Err e → Put out 0 (refused_line (number_of e)) r out' → Listed rule table work output out r work' output' out'
  unfolding run_listing
  listed_refused e p =
      let is = refused_run (call_run rule table work output) (run_among rule table (length work) (length output)) (sym e ∙ g.says) in
      record { put = put_as (ap (run_lines (rows_in (read_table table))) (sym is)) p; work_is = g.work_is; output_is = g.output_is }

  -- it answers
  pub listed_answered : {k : ℕ} {b : TablePlaces} {bytes : List ℕ} → a ≡ Ok k → TableRead table (Ok b) → bytes ≡ part output' 0 k
      → Put out 0 (listing b.rows (read_alone b.rows bytes)) r out' → Listed rule table work output out r work' output' out'
  unfolding run_listing
  listed_answered {k} {b} {bytes} e reads q p =
      let (l, is, size) = answered_run (call_run rule table work output) k (sym e ∙ g.says) in
      let front : bytes ≡ l = q ∙ ap (λ (o : List ℕ). part o 0 k) (g.output_is ∙ ap (λ (d : Result (List ℕ)). output_after d output) is) ∙ front_is l output k size in
      let rows : b.rows ≡ rows_in (read_table table) = ap rows_in reads.says in
      record {
        put = put_as (ap₂ (λ (n : ℕ) (x : List ℕ). listing n (read_alone n x)) rows front ∙ ap (run_lines (rows_in (read_table table))) (sym is)) p;
        work_is = g.work_is;
        output_is = g.output_is;
      }
