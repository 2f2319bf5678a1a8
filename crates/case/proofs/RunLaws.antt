-- A run, taken backwards, and its rows. Assumes nothing.
use Rattle.std.proofs.Common.{◌≡◌, ℕ, zero, suc, ◌+◌, ◌<◌, ◌≤◌, Bool, true, false, leb, List, [], ◌∷◌, map, length, get_or, sym, refl, ap, ◌∙◌, subst, arith, le-leb, leb-true}
use Rattle.layout.specs.Result.{Result, refused, ok, ◌>>=◌, require}
use Rattle.layout.proofs.ResultLaws.{RefusedAmong, refused_not_ok, ok_injective, bind_ok, require_ok}
use Rattle.scalar.specs.Entry.{Entry, null, Outcome, entry, unfit}
use Rattle.scalar.specs.Cast.{is_unfit}
use Rattle.rule.specs.Tree.{Expr}
use Rattle.rule.specs.Row.{eval}
use Rattle.rule.specs.Reading.{read_rule}
use Rattle.table.specs.Reading.{Table, read_table}
use Rattle.writer.specs.Answer.{text_length}
use Rattle.std.specs.Prelude.{Ok, Err}
use Rattle.layout.specs.declared.refusal.Refusal.{Refusal}
use Rattle.layout.specs.Refusals.{run_refusals, number_of}
use Rattle.layout.proofs.RefusalLaws.{number_kept}
use Rattle.layout.proofs.AnswerLaws.{answered_ok, answered_err}
use Rattle.writer.specs.Written.{rows_from, entries_of, text_most, written_as, run_answer}
use Rattle.case.specs.Fits.{fits, row_of}
use Rattle.case.specs.Run.{outcomes, work_least, answer_bytes, written, run_read, run}

-- ---- the rows

-- a first row that has an entry, and the rows behind it
entries_first : (o : Outcome) (os : List Outcome) (es : List Entry) → entries_of (o ∷ os) ≡ ok es
    → (v : Entry) × (l : List Entry) × (o ≡ entry v) × (entries_of os ≡ ok l) × (es ≡ v ∷ l)
unfolding entries_of
entries_first unfit os es r = absurd (refused_not_ok 15 es r)
entries_first (entry v) os es r =
    let i = bind_ok (entries_of os) (λ l. ok (v ∷ l)) es r in
    (v, i.0, refl, i.1, sym (ok_injective i.2))

-- the entries are as many as the rows
pub entries_length : (f : ℕ → Outcome) (a n : ℕ) (es : List Entry) → entries_of (map f (rows_from a n)) ≡ ok es → length es ≡ n
unfolding rows_from entries_of
entries_length f a zero es p = ap length (sym (ok_injective p))
entries_length f a (suc n) es p =
    let i = entries_first (f a) (map f (rows_from (suc a) n)) es p in
    ap length i.4 ∙ ap suc (entries_length f (suc a) n i.1 i.3)

-- each entry is its row's outcome
pub entries_at : (f : ℕ → Outcome) (a n : ℕ) (es : List Entry) → entries_of (map f (rows_from a n)) ≡ ok es
    → (i : ℕ) → i < n → f (a + i) ≡ entry (get_or es i null)
unfolding rows_from entries_of
entries_at f a zero es p i h = absurd (omega arith)
entries_at f a (suc n) es p zero h =
    let j = entries_first (f a) (map f (rows_from (suc a) n)) es p in
    let z : a + zero ≡ a = omega arith in
    ap f z ∙ j.2 ∙ ap (λ (l : List Entry). entry (get_or l zero null)) (sym j.4)
entries_at f a (suc n) es p (suc i) h =
    let j = entries_first (f a) (map f (rows_from (suc a) n)) es p in
    let z : a + suc i ≡ suc a + i = omega arith in
    ap f z ∙ entries_at f (suc a) n j.1 j.3 i (omega arith) ∙ ap (λ (l : List Entry). entry (get_or l (suc i) null)) (sym j.4)

-- only the first of two steps refuses where the second can't
bind_refused : {A B : Type 0} (m : Result A) (g : A → B) (n : ℕ) → (m >>= λ a. ok (g a)) ≡ refused n → m ≡ refused n
bind_refused (refused k) g n e = let z : k ≡ n = cc in ap refused z
bind_refused (ok a) g n e = absurd (refused_not_ok n (g a) (sym e))

-- some of n rows from a on has an outcome that doesn't fit
abbrev pub SomeUnfit : (ℕ → Outcome) → ℕ → ℕ → Type 0
SomeUnfit f a n = (i : ℕ) × (i < n) × (is_unfit (f (a + i)) ≡ true)

-- it is the first, or one behind it
unfit_first : (f : ℕ → Outcome) (a n : ℕ) → f a ≡ unfit → SomeUnfit f a (suc n)
unfit_first f a n q =
    let z : a + 0 ≡ a = omega arith in
    (0, omega arith, ap (λ (k : ℕ). is_unfit (f k)) z ∙ ap is_unfit q)

unfit_later : (f : ℕ → Outcome) (a n : ℕ) → SomeUnfit f (suc a) n → SomeUnfit f a (suc n)
unfit_later f a n s =
    let z : a + suc s.0 ≡ suc a + s.0 = omega arith in
    let b : suc s.0 < suc n = omega (arith, s.1) in
    (suc s.0, b, ap (λ (k : ℕ). is_unfit (f k)) z ∙ s.2)

-- where the rows are refused, it is with 15, and some row's outcome doesn't fit
pub entries_refused : (f : ℕ → Outcome) (a n m : ℕ) → entries_of (map f (rows_from a n)) ≡ refused m → (m ≡ 15) × SomeUnfit f a n
unfolding rows_from entries_of
entries_refused f a zero m p = absurd (refused_not_ok m [] (sym p))
entries_refused f a (suc n) m p = go (f a) refl p (λ q. entries_refused f (suc a) n m q)
  where
    go : (o : Outcome) → f a ≡ o → entries_of (o ∷ map f (rows_from (suc a) n)) ≡ refused m
        → (entries_of (map f (rows_from (suc a) n)) ≡ refused m → (m ≡ 15) × SomeUnfit f (suc a) n)
        → (m ≡ 15) × SomeUnfit f a (suc n)
    go unfit q r next = (cc, unfit_first f a n q)
    go (entry v) q r next =
        let i = next (bind_refused (entries_of (map f (rows_from (suc a) n))) (λ (l : List Entry). v ∷ l) m r) in
        (i.0, unfit_later f a n i.1)

-- where some row's outcome doesn't fit, the rows are refused with 15
pub entries_fail : (f : ℕ → Outcome) (a n : ℕ) → SomeUnfit f a n → entries_of (map f (rows_from a n)) ≡ refused 15
entries_fail f a n s = go (entries_of (map f (rows_from a n))) refl
  where
    go : (r : Result (List Entry)) → entries_of (map f (rows_from a n)) ≡ r → r ≡ refused 15
    go (refused m) p = ap refused (entries_refused f a n m p).0
    go (ok es) p =
        let b : ◌≡◌ {A = Bool} false true = sym (ap is_unfit (entries_at f a n es p s.0 s.1)) ∙ s.2 in
        let z : ◌≡◌ {A = ℕ} 0 1 = cc in
        absurd (omega arith)

-- ---- the run

-- what a run that answers went through
pub record Answered (e : Expr) (t : Table) (work output : ℕ) (answer : List ℕ) (es : List Entry) : Type 0 where
  pub fit : fits e t ≡ true
  pub full : work_least ≤ work
  pub entries : entries_of (outcomes e t) ≡ ok es
  pub text : text_length es ≤ text_most
  pub bytes : answer ≡ answer_bytes e es
  pub room : length answer ≤ output

-- a run is that of what was read
pub run_is : (rule table : List ℕ) (work output : ℕ) (e : Expr) (t : Table) → read_rule rule ≡ ok e → read_table table ≡ ok t
    → run rule table work output ≡ run_read e t work output
unfolding run
run_is rule table work output e t p q = simp (p, q)

written_answered : (e : Expr) (es : List Entry) (output : ℕ) (answer : List ℕ) → written e es output ≡ ok answer
    → (text_length es ≤ text_most) × (answer ≡ answer_bytes e es) × (length answer ≤ output)
unfolding written_as
written_answered e es output answer r =
    let a = bind_ok (require (leb (text_length es) text_most) 16) _ answer r in
    let b = bind_ok (require (leb (length (answer_bytes e es)) output) 17) _ answer a.2 in
    let same : answer ≡ answer_bytes e es = sym (ok_injective b.2) in
    let fits_in : length (answer_bytes e es) ≤ output = leb-true _ _ (require_ok _ 17 b.0 b.1) in
    (leb-true _ _ (require_ok _ 16 a.0 a.1), same, subst (λ (l : List ℕ). length l ≤ output) (sym same) fits_in)

pub run_answered : (rule table : List ℕ) (work output : ℕ) (answer : List ℕ) (e : Expr) (t : Table)
    → read_rule rule ≡ ok e → read_table table ≡ ok t → run rule table work output ≡ ok answer
    → (es : List Entry) × Answered e t work output answer es
unfolding run_read
run_answered rule table work output answer e t p q r =
    let r' : run_read e t work output ≡ ok answer = sym (run_is rule table work output e t p q) ∙ r in
    let a = bind_ok (require (fits e t) 13) _ answer r' in
    let b = bind_ok (require (leb work_least work) 14) _ answer a.2 in
    let c = bind_ok (entries_of (outcomes e t)) _ answer b.2 in
    let w = written_answered e c.0 output answer c.2 in (
      c.0,
      record {
        fit = require_ok _ 13 a.0 a.1;
        full = leb-true _ _ (require_ok _ 14 b.0 b.1);
        entries = c.1;
        text = w.0;
        bytes = w.1;
        room = w.2;
      },
    )

-- an answer is no longer than its output
pub run_fits : (rule table : List ℕ) (work output : ℕ) (answer : List ℕ) → run rule table work output ≡ ok answer → length answer ≤ output
unfolding run
run_fits rule table work output answer r =
    let (e, reads, rest) = bind_ok (read_rule rule) _ answer r in
    let (t, table_reads, last) = bind_ok (read_table table) _ answer rest in
    (run_answered rule table work output answer e t reads table_reads r).1.room

-- a run by what it says
pub answered_run : (d : Result (List ℕ)) (k : ℕ) → Ok k ≡ run_answer d → (l : List ℕ) × (d ≡ ok l) × (k ≡ length l)
answered_run d k e = answered_ok length d e

pub refused_run : (d : Result (List ℕ)) → RefusedAmong run_refusals d → {r : Refusal} → Err r ≡ run_answer d → d ≡ refused (number_of r)
refused_run d numbers p =
    let (n, is, same) = answered_err length d p in
    is ∙ ap refused (sym (number_kept run_refusals n refl (numbers.one n is)) ∙ sym (ap number_of same))

-- writing is not refused with 15
written_not_15 : (e : Expr) (es : List Entry) (output : ℕ) → written e es output ≡ refused 15 → ⊥
unfolding written_as
written_not_15 e es output r = go (leb (text_length es) text_most) (leb (length (answer_bytes e es)) output) r
  where
    go : (a b : Bool) → (require a 16 >>= λ _. require b 17 >>= λ _. ok (answer_bytes e es)) ≡ refused 15 → ⊥
    go false b q = let z : ◌≡◌ {A = ℕ} 16 15 = cc in omega arith
    go true false q = let z : ◌≡◌ {A = ℕ} 17 15 = cc in omega arith
    go true true q = refused_not_ok 15 (answer_bytes e es) (sym q)

-- behind 13 and 14 a run is its rows and its writing
pub run_rows : (e : Expr) (t : Table) (work output : ℕ) → fits e t ≡ true → work_least ≤ work
    → run_read e t work output ≡ (entries_of (outcomes e t) >>= λ es. written e es output)
unfolding run_read
run_rows e t work output f h = simp (f, le-leb work_least work h)

-- with a table that fits and a full work buffer a run is 15 exactly when some row's outcome doesn't fit
pub run_15 : (e : Expr) (t : Table) (work output : ℕ) → fits e t ≡ true → work_least ≤ work → run_read e t work output ≡ refused 15
    → SomeUnfit (λ i. eval e (row_of t i)) 0 t.rows
run_15 e t work output f h r = go (entries_of (outcomes e t)) refl (sym (run_rows e t work output f h) ∙ r)
  where
    go : (m : Result (List Entry)) → entries_of (outcomes e t) ≡ m → (m >>= λ es. written e es output) ≡ refused 15
        → SomeUnfit (λ i. eval e (row_of t i)) 0 t.rows
    go (refused n) p q = (entries_refused (λ i. eval e (row_of t i)) 0 t.rows n p).1
    go (ok es) p q = absurd (written_not_15 e es output q)

pub run_unfit : (e : Expr) (t : Table) (work output : ℕ) → fits e t ≡ true → work_least ≤ work
    → SomeUnfit (λ i. eval e (row_of t i)) 0 t.rows → run_read e t work output ≡ refused 15
run_unfit e t work output f h s =
    run_rows e t work output f h ∙ ap (λ (m : Result (List Entry)). m >>= λ es. written e es output) (entries_fail (λ i. eval e (row_of t i)) 0 t.rows s)
