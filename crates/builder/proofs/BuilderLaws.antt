-- The loops of `ResultBuilder` beside its definitions. Assumes nothing.
use mathlib.Core.Path.{◌≡◌, refl, sym, ap, ap₂, subst, ◌∙◌}
use mathlib.Core.Bool.{Bool, true, false, cond, not, ◌&&◌, ◌||◌}
use mathlib.Core.List.{List, [], ◌∷◌, ◌++◌, map, append-nil}
use mathlib.Core.Option.{Option, some, none}
use Prim.Native.Nat.{ℕ, zero, suc, ◌+◌, ◌-◌, ◌<◌, ◌≤◌, min}
use native.Mathlib.Omega.{arith}
use native.Mathlib.Numerals.{add-one}
use lib.Dec.{leb, ltb, eqb, eqb-suc-zero}
use lib.ListN.{length, get_or, take, drop, set, length-set, length-append, drop_of_length-le, replicate, length-replicate, get_or-replicate, length-map, get_or-map, get_or-append}
use lib.Seq.{drop-cons, get_or-take, take-set-lt, take_at, get_or-append-add, get_or-set_same, get_or-set_other, ext_get_or, length-take-le, take_all, take-suc-set, append_snoc}
use native.Mathlib.Decide.{dec_lt, dec_le}
use borrow.Author.Tests.{le-leb, lt-leb, lt-ltb, le-ltb, ltb-true, leb-true, eqb-true, not-true, not-false, eq-eqb, ne_eqb}
use Rattle.std.specs.Prelude.{Result as RustResult, Ok, Err}
use Rattle.layout.specs.declared.refusal.Refusal.{Refusal}
use Rattle.layout.specs.declared.refusal.Refusal.TheVariants as Is
use Rattle.layout.specs.Refusals.{number_of, refusal_numbered}
use Rattle.layout.specs.Result.{Result, refused, ok, ◌>>=◌, require, answered}
use Rattle.layout.proofs.TestLaws.{both_hold}
use Rattle.layout.proofs.ResultLaws.{refused_not_ok, ok_injective, require_then}
use Rattle.builder.specs.Builder.{Builder, rising_below, is_whole, holds, some_held, hold_all, held_after, add_branch_result, or_else, finish}
use Rattle.builder.specs.BuilderStruct.{marked, held_all, held_in, some_marked, count_of, builder_of, empty_builder, new_answer, marks_after, values_after, holding, add_answer, left_by, add_after, finish_answer, NewGives, AddGives, FinishGives}
use Rattle.builder.specs.declared.ResultBuilder.{ResultBuilder}
use Rattle.builder.specs.declared.Finished.{Finished}

-- ---- rows that rise below a count

-- where the loop stands: what is left decides
pub record RisesSoFar (rows : List ℕ) (count from i : ℕ) : Type 0 where
  pub few : i ≤ length rows
  pub small : from ≤ 65536
  pub same : rising_below 0 count rows ≡ rising_below from count (drop i rows)

pub rises_none : (rows : List ℕ) (count : ℕ) → RisesSoFar rows count 0 0
rises_none rows count = record { few = omega arith; small = omega arith; same = refl }

module _ (rows : List ℕ) (count from i : ℕ) (s : RisesSoFar rows count from i) (h : i < length rows) where
  -- the tests of the next row
  next_row : rising_below from count (drop i rows) ≡ (leb from (get_or rows i 0) && ltb (get_or rows i 0) count && rising_below (suc (get_or rows i 0)) count (drop (suc i) rows))
  unfolding rising_below
  next_row = rw (drop-cons rows i 0 h) refl

  pub rises_more : from ≤ get_or rows i 0 → get_or rows i 0 < count → get_or rows i 0 < 65536 → RisesSoFar rows count (get_or rows i 0 + 1) (i + 1)
  rises_more p q b = record {
    few = omega arith;
    small = omega arith;
    same = s.same ∙ next_row ∙ simp (le-leb _ _ p, lt-ltb _ _ q, add-one);
  }

  pub rises_falls : get_or rows i 0 < from → false ≡ rising_below 0 count rows
  rises_falls p = sym (s.same ∙ next_row ∙ simp (lt-leb _ _ p))

  pub rises_above : from ≤ get_or rows i 0 → count ≤ get_or rows i 0 → false ≡ rising_below 0 count rows
  rises_above p q = sym (s.same ∙ next_row ∙ simp (le-leb _ _ p, le-ltb _ _ q))

pub rises_all : (rows : List ℕ) (count from i : ℕ) → RisesSoFar rows count from i → length rows ≤ i → true ≡ rising_below 0 count rows
unfolding rising_below
rises_all rows count from i s h = sym (s.same ∙ rw (drop_of_length-le rows h) refl)

-- each row of rising rows lies below the count
pub rises_below : (rows : List ℕ) (from count i : ℕ) → rising_below from count rows ≡ true → i < length rows → get_or rows i 0 < count
unfolding rising_below
rises_below [] from count i p h = absurd (omega arith)
rises_below (r ∷ rows) from count zero p h =
    ltb-true r count (both_hold (leb from r) (ltb r count) (both_hold (leb from r && ltb r count) (rising_below (suc r) count rows) p).0).1
rises_below (r ∷ rows) from count (suc i) p h =
    rises_below rows (suc r) count i (both_hold (leb from r && ltb r count) (rising_below (suc r) count rows) p).1 (omega arith)

-- ---- marks and values

-- the value of a row, by its mark
pub held_at : (marks values : List ℕ) (r : ℕ) → r < length marks → r < length values → get_or (held_all marks values) r none ≡ marked (get_or marks r 0) (get_or values r 0)
unfolding held_all
held_at [] values r p q = absurd (omega arith)
held_at (m ∷ marks) [] r p q = absurd (omega arith)
held_at (m ∷ marks) (v ∷ values) zero p q = refl
held_at (m ∷ marks) (v ∷ values) (suc r) p q = held_at marks values r (omega arith) (omega arith)

-- a row that is marked holds its value
pub held_set : (marks values : List ℕ) (r v : ℕ) → r < length marks → r < length values
    → held_all (set marks r 1) (set values r v) ≡ set (held_all marks values) r (some v)
unfolding held_all
held_set [] values r v p q = absurd (omega arith)
held_set (m ∷ marks) [] r v p q = absurd (omega arith)
held_set (m ∷ marks) (w ∷ values) zero v p q = refl
held_set (m ∷ marks) (w ∷ values) (suc r) v p q = ap (λ (l : List (Option ℕ)). marked m w ∷ l) (held_set marks values r v (omega arith) (omega arith))

-- ---- a row that is held already

-- where the loop stands: what is left decides
pub record NoneSoFar (marks rows : List ℕ) (i : ℕ) : Type 0 where
  pub few : i ≤ length rows
  pub same : some_marked marks rows ≡ some_marked marks (drop i rows)

pub none_yet : (marks rows : List ℕ) → NoneSoFar marks rows 0
none_yet marks rows = record { few = omega arith; same = refl }

module _ (marks rows : List ℕ) (i : ℕ) (s : NoneSoFar marks rows i) (h : i < length rows) where
  next_mark : some_marked marks (drop i rows) ≡ (not (eqb (get_or marks (get_or rows i 0) 0) 0) || some_marked marks (drop (suc i) rows))
  unfolding some_marked
  next_mark = rw (drop-cons rows i 0 h) refl

  pub mark_found : (get_or marks (get_or rows i 0) 0 ≡ 0 → ⊥) → true ≡ some_marked marks rows
  mark_found n = sym (s.same ∙ next_mark ∙ simp (ne_eqb _ _ n))

  pub mark_more : get_or marks (get_or rows i 0) 0 ≡ 0 → NoneSoFar marks rows (i + 1)
  mark_more z = record { few = omega arith; same = s.same ∙ next_mark ∙ simp (eq-eqb _ _ z, add-one) }

pub mark_none : (marks rows : List ℕ) (i : ℕ) → NoneSoFar marks rows i → length rows ≤ i → false ≡ some_marked marks rows
unfolding some_marked
mark_none marks rows i s h = sym (s.same ∙ rw (drop_of_length-le rows h) refl)

-- a row that is marked is held
holds_marked : (m v : ℕ) → holds (marked m v) ≡ not (eqb m 0)
holds_marked zero v = refl
holds_marked (suc m) v = sym (ap not (eqb-suc-zero m))

pub marked_held : (count : ℕ) (marks values : List ℕ) (from : ℕ) (rows : List ℕ) → count ≤ length marks → count ≤ length values → rising_below from count rows ≡ true
    → some_marked marks rows ≡ some_held (held_in count marks values) rows
unfolding some_marked some_held rising_below
marked_held count marks values from [] a b p = refl
marked_held count marks values from (r ∷ rows) a b p =
    let first = both_hold (leb from r && ltb r count) (rising_below (suc r) count rows) p in
    let below : r < count = ltb-true r count (both_hold (leb from r) (ltb r count) first.0).1 in
    let here : get_or (held_in count marks values) r none ≡ marked (get_or marks r 0) (get_or values r 0) =
    get_or-take count (held_all marks values) r none below ∙ held_at marks values r (omega arith) (omega arith) in
    ap₂ ◌||◌ (sym (ap holds here ∙ holds_marked (get_or marks r 0) (get_or values r 0))) (marked_held count marks values (suc r) rows a b first.1)

-- ---- the values of rows, stored one after the other

-- where the loop stands: what is left of the lists, stored into what is held now, gives the result
pub record HoldsSoFar (marks values rows given : List ℕ) (i : ℕ) (marks' values' : List ℕ) : Type 0 where
  pub few : i ≤ length rows
  pub long : length marks' ≡ length marks
  pub long_values : length values' ≡ length values
  pub marks_are : marks_after marks rows ≡ marks_after marks' (drop i rows)
  pub values_are : values_after values rows given ≡ values_after values' (drop i rows) (drop i given)

pub holds_none : (marks values rows given : List ℕ) → HoldsSoFar marks values rows given 0 marks values
holds_none marks values rows given = record { few = omega arith; long = refl; long_values = refl; marks_are = refl; values_are = refl }

module _ {marks values rows given : List ℕ} {i : ℕ} {marks' values' : List ℕ} (s : HoldsSoFar marks values rows given i marks' values') where
  -- the value of one row more
  pub holds_more : i < length rows → length rows ≡ length given → {j r v : ℕ} → j ≡ i + 1 → r ≡ get_or rows i 0 → v ≡ get_or given i 0
      → HoldsSoFar marks values rows given j (set marks' r 1) (set values' r v)
  unfolding marks_after values_after
  holds_more h e {j} {r} {v} next row value = record {
    few = omega arith;
    long = length-set marks' r 1 ∙ s.long;
    long_values = length-set values' r v ∙ s.long_values;
    marks_are = s.marks_are ∙ rw (next, row, add-one i, drop-cons rows i 0 h) refl;
    values_are = s.values_are ∙ rw (next, row, value, add-one i, drop-cons rows i 0 h, drop-cons given i 0 (omega arith)) refl;
  }

  pub holds_all : length rows ≤ i → (marks' ≡ marks_after marks rows) × (values' ≡ values_after values rows given)
  unfolding marks_after values_after
  holds_all h = (sym (s.marks_are ∙ rw (drop_of_length-le rows h) refl), sym (s.values_are ∙ rw (drop_of_length-le rows h) refl))

pub holding_is : (b out : ResultBuilder) (rows given : List ℕ) → out.rows ≡ b.rows → out.part ≡ b.part → out.whole ≡ b.whole
    → (out.held ≡ marks_after b.held rows) × (out.values ≡ values_after b.values rows given) → out ≡ holding b rows given
holding_is b out rows given r p w h = λ i. record { rows = r i; part = p i; whole = w i; held = h.0 i; values = h.1 i }

-- what rows hold after their values were stored
pub holds_are : (count from : ℕ) (marks values rows given : List ℕ) → rising_below from count rows ≡ true → length rows ≡ length given → count ≤ length marks → count ≤ length values
    → held_in count (marks_after marks rows) (values_after values rows given) ≡ hold_all (held_in count marks values) rows given
unfolding rising_below marks_after values_after hold_all
holds_are count from marks values [] given p e a b = refl
holds_are count from marks values (r ∷ rows) [] p e a b = absurd (omega arith)
holds_are count from marks values (r ∷ rows) (v ∷ given) p e a b =
    let first = both_hold (leb from r && ltb r count) (rising_below (suc r) count rows) p in
    let below : r < count = ltb-true r count (both_hold (leb from r) (ltb r count) first.0).1 in
    let stored : held_in count (set marks r 1) (set values r v) ≡ set (held_in count marks values) r (some v) =
    ap (take count) (held_set marks values r v (omega arith) (omega arith)) ∙ take-set-lt count (held_all marks values) r (some v) below in
    holds_are count (suc r) (set marks r 1) (set values r v) rows given first.1 (omega arith) (rw (length-set marks r 1) a) (rw (length-set values r v) b)
    ∙ ap (λ (held : List (Option ℕ)). hold_all held rows given) stored

-- a struct has at most 512 rows
pub count_few : (b : ResultBuilder) (count : ℕ) → count ≡ count_of b → count ≤ 512
count_few b count e = omega arith

-- ---- the end and the beginning

length_held : (marks values : List ℕ) → length marks ≡ length values → length (held_all marks values) ≡ length marks
unfolding held_all
length_held [] values e = refl
length_held (m ∷ marks) [] e = absurd (omega arith)
length_held (m ∷ marks) (v ∷ values) e = ap suc (length_held marks values (omega arith))

-- where the loop stands: the first i rows have their values, 0 where none is held; behind them stand zeros
pub record FinishedSoFar (marks values : List ℕ) (i : ℕ) (out : List ℕ) : Type 0 where
  pub long : length out ≡ 512
  pub so_far : (j : ℕ) → j < i → get_or out j 0 ≡ or_else 0 (marked (get_or marks j 0) (get_or values j 0))
  pub behind : (j : ℕ) → i ≤ j → j < 512 → get_or out j 0 ≡ 0

pub finished_none : (marks values : List ℕ) → FinishedSoFar marks values 0 (replicate 512 0)
finished_none marks values = record { long = refl; so_far = λ j h. absurd (omega arith); behind = λ j h l. get_or-replicate 512 j 0 0 l }

pub finished_more : (marks values : List ℕ) (i : ℕ) (out : List ℕ) (v : ℕ) → FinishedSoFar marks values i out → i < 512
    → v ≡ or_else 0 (marked (get_or marks i 0) (get_or values i 0)) → FinishedSoFar marks values (i + 1) (set out i v)
finished_more marks values i out v f b e = record {
  long = length-set out i v ∙ f.long;
  so_far = λ j h. go j h (dec_lt j i);
  behind = λ j h l. get_or-set_other out i j v 0 (omega arith) ∙ f.behind j (omega arith) l;
}
  where
    go : (j : ℕ) → j < i + 1 → Dec (j < i) → get_or (set out i v) j 0 ≡ or_else 0 (marked (get_or marks j 0) (get_or values j 0))
    go j h (yes l) = get_or-set_other out i j v 0 (omega arith) ∙ f.so_far j l
    go j h (no n) =
        let q : j ≡ i = omega arith in
        rw q (get_or-set_same out i v 0 (omega (arith, f.long)) ∙ e)

module _ (b : ResultBuilder) (long : length b.held ≡ 512) (long_values : length b.values ≡ 512) where
  -- so many values as rows
  length_finish : length (finish 0 (builder_of b)) ≡ count_of b
  length_finish = length-map (builder_of b).held (or_else 0) ∙ length-take-le (count_of b) (held_all b.held b.values) (rw (length_held b.held b.values (long ∙ sym long_values)) (omega arith))

  pub finish_is : (count i : ℕ) (out : List ℕ) → count ≡ count_of b → FinishedSoFar b.held b.values i out → i ≡ count
      → record { count = count; values = out } ≡ finish_answer b
  unfolding finish_answer
  finish_is count i out e f q =
      let at : i ≡ count_of b = q ∙ e in
      let full = finish 0 (builder_of b) ++ replicate (512 - count_of b) 0 in
      let size : length full ≡ 512 = length-append (finish 0 (builder_of b)) (replicate (512 - count_of b) 0) ∙ simp (length_finish, length-replicate) (omega arith) in
      let same : out ≡ full = ext_get_or 0 out full (f.long ∙ sym size) (λ j h. each j (omega (arith, f.long)) at (dec_lt j (count_of b))) in
      λ k. record { count = e k; values = same k }
    where
      each : (j : ℕ) → j < 512 → i ≡ count_of b → Dec (j < count_of b) → get_or out j 0 ≡ get_or (finish 0 (builder_of b) ++ replicate (512 - count_of b) 0) j 0
      each j h at (yes l) =
          f.so_far j (omega arith)
          ∙ sym (get_or-append (finish 0 (builder_of b)) (replicate (512 - count_of b) 0) 0 j (omega (arith, length_finish))
          ∙ get_or-map (or_else 0) (builder_of b).held j none
          ∙ ap (or_else 0) (get_or-take (count_of b) (held_all b.held b.values) j none l ∙ held_at b.held b.values j (omega arith) (omega arith)))
      each j h at (no n) =
          let k : j ≡ length (finish 0 (builder_of b)) + (j - count_of b) = omega (arith, length_finish) in
          f.behind j (omega arith) h
          ∙ sym (ap (λ (m : ℕ). get_or (finish 0 (builder_of b) ++ replicate (512 - count_of b) 0) m 0) k
          ∙ get_or-append-add (finish 0 (builder_of b)) (replicate (512 - count_of b) 0) (j - count_of b) 0
          ∙ get_or-replicate (512 - count_of b) (j - count_of b) 0 0 (omega arith))

  -- the first values are those of the rows
  pub finish_gives : {r : Finished} → r ≡ finish_answer b → FinishGives b r
  unfolding finish_answer
  finish_gives {r} e = subst (FinishGives b) (sym e) (record { count_is = refl; says = take_at (finish 0 (builder_of b)) (replicate (512 - count_of b) 0) (count_of b) length_finish })

-- no row is held
pub held_replicate : (n m : ℕ) → n ≤ m → take n (held_all (replicate m 0) (replicate m 0)) ≡ replicate n none
unfolding held_all
held_replicate zero m h = refl
held_replicate (suc n) zero h = absurd (omega arith)
held_replicate (suc n) (suc m) h = ap (λ (l : List (Option ℕ)). none ∷ l) (held_replicate n m (omega arith))

pub new_refused : (rows : ℕ) → 512 < rows → Err Is.TableSize ≡ new_answer rows
unfolding new_answer
new_refused rows h = simp (lt-leb rows 512 h)

pub new_given : (rows : ℕ) (b : ResultBuilder) → b ≡ empty_builder rows → rows ≤ 512 → Ok b ≡ new_answer rows
unfolding new_answer
new_given rows b e h = ap Ok e ∙ simp (le-leb rows 512 h)

-- a new builder is the definition's
pub new_gives : {rows : ℕ} {r : RustResult ResultBuilder Refusal} → r ≡ new_answer rows → NewGives rows r
unfolding new_answer
new_gives {rows} {r} e = go (dec_le rows 512)
  where
    go : Dec (rows ≤ 512) → NewGives rows r
    go (yes h) =
        let few : min rows 512 ≡ rows = omega arith in
        let held : held_in (min rows 512) (replicate 512 0) (replicate 512 0) ≡ replicate rows none =
        ap (λ (n : ℕ). held_in n (replicate 512 0) (replicate 512 0)) few ∙ held_replicate rows 512 h in
        let is : r ≡ Ok (empty_builder rows) = e ∙ simp (le-leb rows 512 h) in
        subst (NewGives rows) (sym is) (record {
          says = (λ i. ok (record { part = false; whole = false; held = held i })) ∙ simp (le-leb rows 512 h);
          same_rows = refl;
        })
    go (no n) =
        let h : 512 < rows = omega arith in
        let is : r ≡ Err Is.TableSize = e ∙ simp (lt-leb rows 512 h) in
        subst (NewGives rows) (sym is) (record { says = simp (lt-leb rows 512 h); same_rows = tt })

pub kept_value : (m v : ℕ) → (m ≡ 0 → ⊥) → v ≡ or_else 0 (marked m v)
kept_value zero v n = absurd (n refl)
kept_value (suc m) v n = refl

-- ---- a list of all rows

-- rising rows are no more than fit below the count
pub rising_length : (from count : ℕ) (rows : List ℕ) → from ≤ count → rising_below from count rows ≡ true → from + length rows ≤ count
unfolding rising_below
rising_length from count [] h p = omega arith
rising_length from count (r ∷ rows) h p =
    let first = both_hold (leb from r && ltb r count) (rising_below (suc r) count rows) p in
    let tests = both_hold (leb from r) (ltb r count) first.0 in
    let a : from ≤ r = leb-true from r tests.0 in
    let b : r < count = ltb-true r count tests.1 in
    let k : suc r + length rows ≤ count = rising_length (suc r) count rows b first.1 in
    omega arith

-- so many rising rows as are left are all that are left, and each holds its value
whole_from : (held : List (Option ℕ)) (from : ℕ) (rows values : List ℕ) → rising_below from (length held) rows ≡ true → from + length rows ≡ length held
    → length rows ≡ length values → hold_all held rows values ≡ take from held ++ map some values
unfolding rising_below hold_all
whole_from held from [] [] p e q =
    let all : length held ≤ from = omega arith in
    sym (append-nil (take from held) ∙ take_all from held all)
whole_from held from [] (v ∷ values) p e q = absurd (omega arith)
whole_from held from (r ∷ rows) [] p e q = absurd (omega arith)
whole_from held from (r ∷ rows) (v ∷ values) p e q =
    let first = both_hold (leb from r && ltb r (length held)) (rising_below (suc r) (length held) rows) p in
    let tests = both_hold (leb from r) (ltb r (length held)) first.0 in
    let a : from ≤ r = leb-true from r tests.0 in
    let b : r < length held = ltb-true r (length held) tests.1 in
    let k : suc r + length rows ≤ length held = rising_length (suc r) (length held) rows b first.1 in
    let is : r ≡ from = omega arith in
    let size : length (set held r (some v)) ≡ length held = length-set held r (some v) in
    let later : rising_below (suc r) (length (set held r (some v))) rows ≡ true = ap (λ (n : ℕ). rising_below (suc r) n rows) size ∙ first.1 in
    whole_from (set held r (some v)) (suc r) rows values later (omega arith) (omega arith)
    ∙ ap (λ (l : List (Option ℕ)). l ++ map some values) (take-suc-set held r (some v) b)
    ∙ append_snoc (take r held) (some v) (map some values)
    ∙ ap (λ (n : ℕ). take n held ++ (some v ∷ map some values)) is

pub whole_holds : (held : List (Option ℕ)) (rows values : List ℕ) → rising_below 0 (length held) rows ≡ true → length rows ≡ length held
    → length rows ≡ length values → hold_all held rows values ≡ map some values
whole_holds held rows values p e q = whole_from held 0 rows values p (omega arith) q

-- ---- adding a branch

-- the tests in their order
steps : (same rises fits free : Bool) → Builder ℕ → Result (Builder ℕ)
steps same rises fits free out = require same 19 >>= λ _. require rises 18 >>= λ _. require fits 21 >>= λ _. require free 20 >>= λ _. ok out

-- a refusal keeps its number
steps_number : (same rises fits free : Bool) (out : Builder ℕ) (n : ℕ) → steps same rises fits free out ≡ refused n → number_of (refusal_numbered n) ≡ n
unfolding steps
steps_number false rises fits free out n e = let is : ◌≡◌ {A = ℕ} 19 n = cc in subst (λ (k : ℕ). number_of (refusal_numbered k) ≡ k) is refl
steps_number true false fits free out n e = let is : ◌≡◌ {A = ℕ} 18 n = cc in subst (λ (k : ℕ). number_of (refusal_numbered k) ≡ k) is refl
steps_number true true false free out n e = let is : ◌≡◌ {A = ℕ} 21 n = cc in subst (λ (k : ℕ). number_of (refusal_numbered k) ≡ k) is refl
steps_number true true true false out n e = let is : ◌≡◌ {A = ℕ} 20 n = cc in subst (λ (k : ℕ). number_of (refusal_numbered k) ≡ k) is refl
steps_number true true true true out n e = absurd (refused_not_ok n out (sym e))

-- what went before where the steps give something
steps_ok : (same rises fits free : Bool) (out x : Builder ℕ) → steps same rises fits free out ≡ ok x → (same ≡ true) × (rises ≡ true) × (out ≡ x)
unfolding steps
steps_ok same rises fits free out x e =
    let a = require_then same 19 _ x e in
    let b = require_then rises 18 _ x a.1 in
    let c = require_then fits 21 _ x b.1 in
    let d = require_then free 20 _ x c.1 in
    (a.0, b.0, ok_injective d.1)

-- what a branch leaves in the builder
abbrev with_branch : ResultBuilder → List ℕ → List ℕ → Builder ℕ
with_branch b rows values = record {
  part = b.part || not (is_whole (builder_of b) rows);
  whole = is_whole (builder_of b) rows;
  held = held_after (builder_of b) rows values;
}

module _ (b : ResultBuilder) (rows values : List ℕ) (long : length b.held ≡ 512) (long_values : length b.values ≡ 512) where
  pub count_is : length (held_in (count_of b) b.held b.values) ≡ count_of b
  count_is = length-take-le (count_of b) (held_all b.held b.values) (rw (length_held b.held b.values (long ∙ sym long_values)) (omega arith))

  add_is : add_branch_result (builder_of b) rows values
      ≡ steps (eqb (length rows) (length values)) (rising_below 0 (count_of b) rows) (not b.whole && not (b.part && is_whole (builder_of b) rows)) (not (some_held (builder_of b).held rows)) (with_branch b rows values)
  unfolding add_branch_result steps
  add_is = ap (λ (n : ℕ). steps (eqb (length rows) (length values)) (rising_below 0 n rows) (not b.whole && not (b.part && is_whole (builder_of b) rows)) (not (some_held (builder_of b).held rows)) (with_branch b rows values)) count_is

  -- what is answered and left, by what the definition gives
  abbrev pub Answers : RustResult (Unit {0}) Refusal → ResultBuilder → Type 0
  Answers r b' = (r ≡ add_answer b rows values) × (b' ≡ add_after b rows values)

  said : (x : Result (Builder ℕ)) → add_branch_result (builder_of b) rows values ≡ x → Answers (answered (λ _. tt {0}) x) (left_by b rows values x)
  unfolding add_answer add_after
  said x p = (ap (answered (λ _. tt {0})) (sym p), ap (left_by b rows values) (sym p))

  pub add_19 : (length rows ≡ length values → ⊥) → Answers (Err Is.BuilderLength) b
  unfolding steps
  add_19 n = said (refused 19) (add_is ∙ simp (ne_eqb _ _ n))

  module _ (same : length rows ≡ length values) where
    pub add_18 : rising_below 0 (count_of b) rows ≡ false → Answers (Err Is.BuilderRow) b
    unfolding steps
    add_18 r = said (refused 18) (add_is ∙ simp (eq-eqb _ _ same, r))

    -- whether the list is whole or a part, the rows hold their values
    held_after_lem : rising_below 0 (count_of b) rows ≡ true → held_after (builder_of b) rows values ≡ hold_all (builder_of b).held rows values
    held_after_lem rises = go (is_whole (builder_of b) rows) refl
      where
        go : (w : Bool) → is_whole (builder_of b) rows ≡ w → cond w (map some values) (hold_all (builder_of b).held rows values) ≡ hold_all (builder_of b).held rows values
        go true e = sym (whole_holds (builder_of b).held rows values (ap (λ (n : ℕ). rising_below 0 n rows) count_is ∙ rises) (eqb-true _ _ e) same)
        go false e = refl

    module _ (rises : rising_below 0 (count_of b) rows ≡ true) where
      pub add_21 : not (not b.whole && not (b.part && eqb (length rows) (count_of b))) ≡ true → Answers (Err Is.BuilderWhole) b
      unfolding steps
      add_21 c = said (refused 21) (add_is ∙ simp (eq-eqb _ _ same, rises, count_is, not-true (not b.whole && not (b.part && eqb (length rows) (count_of b))) c))

      -- what is known where neither a whole nor a part refuses
      module _ (fits : not (not b.whole && not (b.part && eqb (length rows) (count_of b))) ≡ false) where
        pub add_20 : some_marked b.held rows ≡ true → Answers (Err Is.BuilderHeld) b
        unfolding steps
        add_20 m =
            let held : some_held (builder_of b).held rows ≡ true = sym (marked_held (count_of b) b.held b.values 0 rows (omega arith) (omega arith) rises) ∙ m in
            said (refused 20) (add_is ∙ simp (eq-eqb _ _ same, rises, count_is, not-false (not b.whole && not (b.part && eqb (length rows) (count_of b))) fits, held))

        pub add_given : some_marked b.held rows ≡ false → (r : ResultBuilder) → r ≡ holding b rows values → (part all : Bool) → part ≡ (b.part || not all) → all ≡ eqb (length rows) (count_of b)
            → Answers (Ok tt) (record { rows = r.rows; part = part; whole = all; held = r.held; values = r.values })
        unfolding steps
        add_given m r h part all p w =
            let held : some_held (builder_of b).held rows ≡ false = sym (marked_held (count_of b) b.held b.values 0 rows (omega arith) (omega arith) rises) ∙ m in
            let whole_is : all ≡ is_whole (builder_of b) rows = w ∙ ap (eqb (length rows)) (sym count_is) in
            let part_is : part ≡ (b.part || not (is_whole (builder_of b) rows)) = p ∙ ap (λ (x : Bool). b.part || not x) whole_is in
            let a = said (ok (with_branch b rows values)) (add_is ∙ simp (eq-eqb _ _ same, rises, count_is, not-false (not b.whole && not (b.part && eqb (length rows) (count_of b))) fits, held)) in
            (a.0, (λ i. record { rows = (h i).rows; part = part_is i; whole = whole_is i; held = (h i).held; values = (h i).values }) ∙ a.1)

        -- no refusal where no row is held
        pub add_goes : some_held (builder_of b).held rows ≡ false
            → add_branch_result (builder_of b) rows values
            ≡ ok (record { part = b.part || not (is_whole (builder_of b) rows); whole = is_whole (builder_of b) rows; held = hold_all (builder_of b).held rows values })
        unfolding steps
        add_goes held =
            let tests : add_branch_result (builder_of b) rows values ≡ ok (with_branch b rows values) =
            add_is ∙ simp (eq-eqb _ _ same, rises, count_is, not-false (not b.whole && not (b.part && eqb (length rows) (count_of b))) fits, held) in
            tests ∙ (λ i. ok (record { part = b.part || not (is_whole (builder_of b) rows); whole = is_whole (builder_of b) rows; held = held_after_lem rises i }))

  -- an answer is the definition's
  answer_gives : (x : Result (Builder ℕ)) → add_branch_result (builder_of b) rows values ≡ x → AddGives b rows values (answered (λ _. tt {0}) x) (left_by b rows values x)
  answer_gives (refused n) p = record { says = ap refused (steps_number _ _ _ _ _ n (sym add_is ∙ p)) ∙ sym p; same_rows = refl; unchanged = refl }
  answer_gives (ok x) p =
      let t = steps_ok _ _ _ _ _ x (sym add_is ∙ p) in
      let held : held_in (count_of b) (marks_after b.held rows) (values_after b.values rows values) ≡ x.held =
      holds_are (count_of b) 0 b.held b.values rows values t.1 (eqb-true _ _ t.0) (omega arith) (omega arith)
      ∙ sym (held_after_lem (eqb-true _ _ t.0) t.1) ∙ ap (λ (y : Builder ℕ). y.held) t.2 in
      record {
        says = (λ i. ok (record { part = x.part; whole = x.whole; held = held i })) ∙ sym p;
        same_rows = refl;
        unchanged = tt;
      }

  pub add_gives : {r : RustResult (Unit {0}) Refusal} {b' : ResultBuilder} → Answers r b' → AddGives b rows values r b'
  unfolding add_answer add_after
  add_gives {r} {b'} e =
      subst (λ (z : ResultBuilder). AddGives b rows values r z) (sym e.1)
      (subst (λ (z : RustResult (Unit {0}) Refusal). AddGives b rows values z (add_after b rows values)) (sym e.0) (answer_gives (add_branch_result (builder_of b) rows values) refl))
