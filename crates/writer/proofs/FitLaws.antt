-- Whether rows can be written as a column: the tests, and what they tell. Assumes nothing.
use mathlib.Core.Path.{◌≡◌, refl, sym, ap, ap₂, ◌∙◌}
use mathlib.Core.Bool.{Bool, true, false, cond, ◌&&◌, false≢true}
use mathlib.Core.List.{List}
use mathlib.Core.Logic.{◌⊎◌, inl, inr}
use Prim.Native.Nat.{ℕ, zero, suc, ◌+◌, ◌<◌, ◌≤◌, max}
use native.Mathlib.Numerals.{add-one}
use native.Mathlib.Decide.{dec_lt, ℕ_discrete}
use native.Mathlib.Omega.{arith}
use lib.Dec.{eqb, ltb, leb}
use lib.ListN.{length, get_or}
use borrow.Author.Tests.{ltb-true, ltb-false, leb-true, eqb-true, lt-ltb, le-ltb, le-leb, eq-eqb}
use Rattle.layout.specs.Bytes.{Bytes}
use Rattle.layout.specs.Result.{Result}
use Rattle.layout.proofs.TestLaws.{both_hold}
use Rattle.scalar.specs.declared.types.DataType.{DataType}
use Rattle.scalar.specs.declared.value.Value.{Value}
use Rattle.scalar.specs.declared.value.Value.TheVariants.{Null, Boolean, Int32, Int64, Float64, Nan, RuleText, TableText, Failed}
use Rattle.scalar.specs.Entry.{of_type, outcome_of_type}
use Rattle.scalar.specs.Types.{type_number}
use Rattle.scalar.specs.Value.{meaning, kind_of}
use Rattle.std.specs.Prelude.{Result as RustResult, Ok, Err}
use Rattle.layout.specs.declared.refusal.Refusal.{Refusal}
use Rattle.writer.specs.declared.WriteError.{WriteError}
use Rattle.writer.specs.declared.WriteError.TheVariants.{NoColumn}
use Rattle.writer.specs.Written.{run_answer}
use Rattle.writer.specs.Slots.{slot_at}
use Rattle.writer.specs.Write.{RunGives, ColumnGives, said, WriteAsks, ClassesAsk, PlainRows, kind_fits, lengths_fit, slot_fits, slots_fit, writable, slot_kind, slot_payload, classes_long, number_type, class_in, classes_in, classed}
use Rattle.writer.specs.Writing.{each_row}
use Rattle.writer.proofs.PlainLaws.{slot_fits_lem, kind_plain}

-- ---- rows that are a column, and rows that are none

pub no_column_lem : {b : Bool} {run : Result (List ℕ)} {output : List ℕ} → b ≡ false → ColumnGives b run output (Err NoColumn) output
no_column_lem e = rw e (record { says = refl; output_is = refl })

pub column_run : {b : Bool} {run : Result (List ℕ)} {output output' : List ℕ} (r : RustResult ℕ Refusal) → b ≡ true → RunGives run output r output' → ColumnGives b run output (said r) output'
column_run r e g = rw e (record { says = ap said g.says; output_is = g.output_is })

-- of rows that are a column something else is said
pub column_said : {b : Bool} {run : Result (List ℕ)} {output output' : List ℕ} {a : RustResult ℕ WriteError} → b ≡ true → ColumnGives b run output a output' → a ≡ Err NoColumn → ⊥
column_said {run = run} e g n = never (run_answer run) (sym n ∙ rw e at g.says)
  where
    never : (r : RustResult ℕ Refusal) → Err NoColumn ≡ said r → ⊥
    never (Ok k) p = let z : ◌≡◌ {A = ℕ} 0 1 = cc in omega arith
    never (Err e) p = let z : ◌≡◌ {A = ℕ} 0 1 = cc in omega arith

-- and that is the run's
pub gives_rows : {b : Bool} {run : Result (List ℕ)} {output output' : List ℕ} {a : RustResult ℕ WriteError} (r : RustResult ℕ Refusal) → b ≡ true → ColumnGives b run output a output' → a ≡ said r → RunGives run output r output'
gives_rows {run = run} r e g is = record { says = same r (run_answer run) (sym is ∙ rw e at g.says); output_is = rw e at g.output_is }
  where
    same : (r s : RustResult ℕ Refusal) → said r ≡ said s → r ≡ s
    same (Ok n) (Ok m) p = ap Ok cc
    same (Ok n) (Err e) p = let z : ◌≡◌ {A = ℕ} 0 1 = cc in absurd (omega arith)
    same (Err e) (Ok m) p = let z : ◌≡◌ {A = ℕ} 0 1 = cc in absurd (omega arith)
    same (Err e) (Err f) p = ap Err cc

-- ---- each row passes

-- where the loop stands: i rows have passed
pub record EachSoFar (f : ℕ → Bool) (n i : ℕ) : Type 0 where
  pub few : i ≤ n
  pub each : each_row f i ≡ true

pub each_none : {f : ℕ → Bool} {n : ℕ} → EachSoFar f n 0
unfolding each_row
each_none = record { few = omega arith; each = refl }

pub each_more : {f : ℕ → Bool} {n i : ℕ} → EachSoFar f n i → i < n → f i ≡ true → EachSoFar f n (i + 1)
unfolding each_row
each_more {f} {n} {i} s h e = record { few = omega arith; each = rw (add-one i, e) s.each }

-- all of them
each_all : (f : ℕ → Bool) (n : ℕ) → ((i : ℕ) → i < n → f i ≡ true) → each_row f n ≡ true
unfolding each_row
each_all f zero h = refl
each_all f (suc n) h = rw (h n (omega arith)) (each_all f n (λ i b. h i (omega arith)))

-- and one of them
each_at : (f : ℕ → Bool) (n i : ℕ) → each_row f n ≡ true → i < n → f i ≡ true
unfolding each_row
each_at f zero i e h = absurd (omega arith)
each_at f (suc n) i e h = go (f n) refl e (dec_lt i n) (λ r p. each_at f n i r p)
  where
    go : (b : Bool) → f n ≡ b → cond b (each_row f n) false ≡ true → Dec (i < n) → (each_row f n ≡ true → i < n → f i ≡ true) → f i ≡ true
    go false p q d r = absurd (false≢true q)
    go true p q (yes l) r = r q l
    go true p q (no l) r = let k : i ≡ n = omega arith in ap f k ∙ p

-- a row that doesn't
pub each_fails : (f : ℕ → Bool) (n i : ℕ) → i < n → f i ≡ false → false ≡ each_row f n
each_fails f n i h e = go (each_row f n) refl
  where
    go : (b : Bool) → each_row f n ≡ b → false ≡ b
    go false p = refl
    go true p = sym e ∙ each_at f n i p h

-- ---- the slots' kinds

-- a row's kind by its value
module _ (w : List ℕ) (code i : ℕ) {kd : ℕ} {x : Value} {b : Bool} (fits : b ≡ kind_fits code kd) (p : kd ≡ kind_of x) (q : x ≡ slot_at w i) where
  pub slot_fit : {c : Bool} → b ≡ c → slot_fits code w i ≡ c
  slot_fit e = sym (fits ∙ ap (kind_fits code) (p ∙ ap kind_of q)) ∙ e

-- a value whose outcome is of a type has a kind that fits
pub typed_fits : (rule table : List ℕ) (t : DataType) (v : Value) → outcome_of_type t (meaning rule table v) ≡ true → kind_fits (type_number t) (kind_of v) ≡ true
unfolding of_type
typed_fits rule table t Null h = refl
typed_fits rule table DataType.Boolean (Boolean b) h = refl
typed_fits rule table DataType.Int32 (Boolean b) h = h
typed_fits rule table DataType.Int64 (Boolean b) h = h
typed_fits rule table DataType.Float64 (Boolean b) h = h
typed_fits rule table DataType.Utf8 (Boolean b) h = h
typed_fits rule table DataType.Boolean (Int32 n) h = h
typed_fits rule table DataType.Int32 (Int32 n) h = refl
typed_fits rule table DataType.Int64 (Int32 n) h = h
typed_fits rule table DataType.Float64 (Int32 n) h = h
typed_fits rule table DataType.Utf8 (Int32 n) h = h
typed_fits rule table DataType.Boolean (Int64 n) h = h
typed_fits rule table DataType.Int32 (Int64 n) h = h
typed_fits rule table DataType.Int64 (Int64 n) h = refl
typed_fits rule table DataType.Float64 (Int64 n) h = h
typed_fits rule table DataType.Utf8 (Int64 n) h = h
typed_fits rule table DataType.Boolean (Float64 f) h = h
typed_fits rule table DataType.Int32 (Float64 f) h = h
typed_fits rule table DataType.Int64 (Float64 f) h = h
typed_fits rule table DataType.Float64 (Float64 f) h = refl
typed_fits rule table DataType.Utf8 (Float64 f) h = h
typed_fits rule table DataType.Boolean (Nan n) h = h
typed_fits rule table DataType.Int32 (Nan n) h = h
typed_fits rule table DataType.Int64 (Nan n) h = h
typed_fits rule table DataType.Float64 (Nan n) h = refl
typed_fits rule table DataType.Utf8 (Nan n) h = h
typed_fits rule table DataType.Boolean (RuleText start size) h = h
typed_fits rule table DataType.Int32 (RuleText start size) h = h
typed_fits rule table DataType.Int64 (RuleText start size) h = h
typed_fits rule table DataType.Float64 (RuleText start size) h = h
typed_fits rule table DataType.Utf8 (RuleText start size) h = refl
typed_fits rule table DataType.Boolean (TableText start size) h = h
typed_fits rule table DataType.Int32 (TableText start size) h = h
typed_fits rule table DataType.Int64 (TableText start size) h = h
typed_fits rule table DataType.Float64 (TableText start size) h = h
typed_fits rule table DataType.Utf8 (TableText start size) h = refl
typed_fits rule table t Failed h = refl

-- the kind of a number type is its own
number_fits : (t : DataType) → 2 ≤ type_number t → type_number t ≤ 4 → kind_fits (type_number t) (type_number t) ≡ true
number_fits DataType.Boolean a b = refl
number_fits DataType.Int32 a b = refl
number_fits DataType.Int64 a b = refl
number_fits DataType.Float64 a b = refl
number_fits DataType.Utf8 a b = refl

-- ---- the slots

module _ (rule table w : List ℕ) (rows : ℕ) where
  -- what the lengths tell
  length_facts : lengths_fit rule table w rows ≡ true → (rows ≤ 512) × (5632 ≤ length w) × (length rule ≤ 65536) × (length table ≤ 65536)
  length_facts e =
      let p = both_hold (leb rows 512 && leb 5632 (length w) && leb (length rule) 65536) (leb (length table) 65536) e in
      let q = both_hold (leb rows 512 && leb 5632 (length w)) (leb (length rule) 65536) p.0 in
      let r = both_hold (leb rows 512) (leb 5632 (length w)) q.0 in
      (leb-true rows 512 r.0, leb-true 5632 (length w) r.1, leb-true (length rule) 65536 q.1, leb-true (length table) 65536 p.1)

  module _ {b : Bool} (is : b ≡ lengths_fit rule table w rows) (e : b ≡ true) where
    fit : lengths_fit rule table w rows ≡ true
    fit = sym is ∙ e

    -- where they fit, the slots tell
    pub slots_tell : (t : DataType) {c d : Bool} {code : ℕ} → c ≡ slots_fit code w rows → code ≡ type_number t → c ≡ d → writable rule table w rows t ≡ d
    slots_tell t p q z = ap₂ ◌&&◌ fit (sym (p ∙ ap (λ (k : ℕ). slots_fit k w rows) q) ∙ z)

    -- plain rows do
    pub plain_written : {t : DataType} → Bytes w → PlainRows (slot_kind w) rows t → writable rule table w rows t ≡ true
    plain_written {t} bytes plain =
        ap₂ ◌&&◌ fit (each_all (slot_fits (type_number t) w) rows
        (λ i h. ap (kind_fits (type_number t)) (kind_plain plain (slot_payload w) (slot_fits_lem w bytes) i h) ∙ number_fits t plain.number.0 plain.number.1))

  -- slots that can be written, fact by fact
  pub write_asks : (t : DataType) → writable rule table w rows t ≡ true → WriteAsks rule table w rows t
  write_asks t e =
      let a = both_hold (lengths_fit rule table w rows) (slots_fit (type_number t) w rows) e in
      let f = length_facts a.0 in
      record {
        few = f.0;
        room = f.1;
        rule_short = f.2;
        table_short = f.3;
        each = λ i h. each_at (slot_fits (type_number t) w) rows i a.1 h;
      }

  -- and back
  pub asks_write : {t : DataType} → WriteAsks rule table w rows t → writable rule table w rows t ≡ true
  asks_write {t} a =
      rw (le-leb rows 512 a.few, le-leb 5632 (length w) a.room, le-leb (length rule) 65536 a.rule_short, le-leb (length table) 65536 a.table_short)
      (each_all (slot_fits (type_number t) w) rows a.each)

-- ---- the classes

-- the greatest of the first rows' classes
pub record MostSoFar (classes : List ℕ) (i most : ℕ) : Type 0 where
  pub below : (j : ℕ) → j < i → get_or classes j 0 ≤ most
  pub some : (most ≡ 0) ⊎ ((j : ℕ) × (j < i) × (get_or classes j 0 ≡ most))

module _ {classes : List ℕ} {i most : ℕ} (s : MostSoFar classes i most) where
  -- one more
  pub most_more : {new : ℕ} → new ≡ max most (get_or classes i 0) → MostSoFar classes (i + 1) new
  most_more {new} e = record { below = λ j l. go j l (ℕ_discrete j i); some = further (dec_lt most (get_or classes i 0)) s.some }
    where
      go : (j : ℕ) → j < i + 1 → Dec (j ≡ i) → get_or classes j 0 ≤ new
      go j l (yes p) = let q : get_or classes j 0 ≡ get_or classes i 0 = ap (λ (k : ℕ). get_or classes k 0) p in omega arith
      go j l (no d) = let q = s.below j (omega arith) in omega arith

      further : Dec (most < get_or classes i 0) → (most ≡ 0) ⊎ ((j : ℕ) × (j < i) × (get_or classes j 0 ≡ most)) → (new ≡ 0) ⊎ ((j : ℕ) × (j < i + 1) × (get_or classes j 0 ≡ new))
      further (yes h) some = inr (i, omega arith, omega arith)
      further (no n) (inl z) = inl (omega arith)
      further (no n) (inr (j, l, p)) = inr (j, omega arith, omega arith)

  -- it tells whether all have a number
  pub most_tells : {rows : ℕ} → i ≡ rows → ltb most 258 ≡ classes_in classes rows
  most_tells {rows} is = go (ltb most 258) refl s.some
    where
      go : (b : Bool) → ltb most 258 ≡ b → (most ≡ 0) ⊎ ((j : ℕ) × (j < i) × (get_or classes j 0 ≡ most)) → b ≡ classes_in classes rows
      go true e some =
          let m = ltb-true most 258 e in
          sym (each_all (class_in classes) rows (λ j l. lt-ltb (get_or classes j 0) 258 (let q = s.below j (omega arith) in omega arith)))
      go false e (inl z) = absurd (let m = ltb-false most 258 e in omega arith)
      go false e (inr (j, l, p)) = each_fails (class_in classes) rows j (omega arith) (le-ltb (get_or classes j 0) 258 (let m = ltb-false most 258 e in omega arith))

module _ (rows : ℕ) (classes payloads : List ℕ) where
  -- what the lengths tell
  long_facts : classes_long rows classes payloads ≡ true → (rows ≤ 512) × (length classes ≡ 512) × (length payloads ≡ 258)
  long_facts e =
      let p = both_hold (leb rows 512 && eqb (length classes) 512) (eqb (length payloads) 258) e in
      let r = both_hold (leb rows 512) (eqb (length classes) 512) p.0 in
      (leb-true rows 512 r.0, eqb-true (length classes) 512 r.1, eqb-true (length payloads) 258 p.1)

  -- classes that can be written, fact by fact
  pub classes_ask : (t : DataType) → classed rows t classes payloads ≡ true → ClassesAsk rows t classes payloads
  classes_ask t e =
      let a = both_hold (classes_long rows classes payloads && number_type (type_number t)) (classes_in classes rows) e in
      let b = both_hold (classes_long rows classes payloads) (number_type (type_number t)) a.0 in
      let n = both_hold (leb 2 (type_number t)) (leb (type_number t) 4) b.1 in
      let f = long_facts b.0 in
      record {
        number = (leb-true 2 (type_number t) n.0, leb-true (type_number t) 4 n.1);
        inside = record {
          few = f.0;
          classes_full = f.1;
          payloads_long = f.2;
          below = λ i h. ltb-true (get_or classes i 0) 258 (each_at (class_in classes) rows i a.1 h);
        };
      }

  -- and back
  pub asks_classed : {t : DataType} → ClassesAsk rows t classes payloads → classed rows t classes payloads ≡ true
  asks_classed {t} a =
      rw (le-leb rows 512 a.inside.few, eq-eqb (length classes) 512 a.inside.classes_full, eq-eqb (length payloads) 258 a.inside.payloads_long, le-leb 2 (type_number t) a.number.0, le-leb (type_number t) 4 a.number.1)
      (each_all (class_in classes) rows (λ i h. lt-ltb (get_or classes i 0) 258 (a.inside.below i h)))
