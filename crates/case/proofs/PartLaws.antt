-- A part that a builder is given: none of its refusals occurs, and what is held afterwards. Assumes nothing.
use Rattle.std.proofs.Common.{◌≡◌, ℕ, zero, suc, ◌+◌, ◌<◌, ◌≤◌, Bool, true, false, not, ◌&&◌, ◌||◌, eqb, ltb, leb, List, [], ◌∷◌, length, get_or, set, sym, refl, ap, ◌∙◌, ap₂, inl, inr, arith, length-set, get_or-set_other, get_or-set_same, ltb-true, lt-ltb, eqb-true, le-leb, leb-true}
use mathlib.Core.Bool.{false≢true}
use mathlib.Core.Option.{Option, some, none}
use native.Mathlib.Decide.{ℕ_discrete}
use Rattle.layout.specs.Result.{ok}
use Rattle.layout.proofs.TestLaws.{both_hold}
use Rattle.layout.proofs.ResultLaws.{ok_injective, refused_not_ok}
use Rattle.builder.specs.declared.ResultBuilder.{ResultBuilder}
use Rattle.builder.specs.Builder.{Builder, is_whole, rising_below, holds, some_held, hold_all}
use Rattle.builder.specs.BuilderStruct.{count_of, builder_of, answer_of, AddGives}
use Rattle.builder.proofs.BuilderLaws.{rising_length, count_is, Answers, add_goes, add_gives}
use Rattle.std.specs.Prelude.{Result as RustResult, Ok, Err, IsOk}
use Rattle.layout.specs.declared.refusal.Refusal.{Refusal}
use Rattle.layout.specs.Refusals.{number_of}
use Rattle.case.specs.Choosing.{held_by}
use Rattle.case.specs.Parting.{Among, PartAsks, PartGives}

-- the place of a row in a list of rows
abbrev Place : List ℕ → ℕ → Type 0
Place rows = Among (λ k. get_or rows k 0) (length rows)

-- ---- rising rows

-- rows that rise pair by pair and lie below the count
rises : (rows : List ℕ) (from count : ℕ) → ((k : ℕ) → k < length rows → from ≤ get_or rows k 0) → ((k l : ℕ) → k < l → l < length rows → get_or rows k 0 < get_or rows l 0)
    → ((k : ℕ) → k < length rows → get_or rows k 0 < count) → rising_below from count rows ≡ true
unfolding rising_below
rises [] from count least pairs below = refl
rises (r ∷ rows) from count least pairs below =
    let first : from ≤ r = least 0 (omega arith) in
    let fits : r < count = below 0 (omega arith) in
    let later : rising_below (suc r) count rows ≡ true =
    rises rows (suc r) count (λ k h. pairs 0 (suc k) (omega arith) (omega arith)) (λ k l a b. pairs (suc k) (suc l) (omega arith) (omega arith)) (λ k h. below (suc k) (omega arith)) in
    simp (le-leb from r first, lt-ltb r count fits, later)

-- the least that a row may be
least_row : (rows : List ℕ) (from count k : ℕ) → rising_below from count rows ≡ true → k < length rows → from ≤ get_or rows k 0
unfolding rising_below
least_row [] from count k p h = absurd (omega arith)
least_row (r ∷ rows) from count zero p h =
    leb-true from r (both_hold (leb from r) (ltb r count) (both_hold (leb from r && ltb r count) (rising_below (suc r) count rows) p).0).0
least_row (r ∷ rows) from count (suc k) p h =
    let first = both_hold (leb from r && ltb r count) (rising_below (suc r) count rows) p in
    let a : from ≤ r = leb-true from r (both_hold (leb from r) (ltb r count) first.0).0 in
    let b : suc r ≤ get_or rows k 0 = least_row rows (suc r) count k first.1 (omega arith) in
    omega arith

-- so many rising rows as lie below the count are all rows
all_there : (rows : List ℕ) (from count : ℕ) → rising_below from count rows ≡ true → from + length rows ≡ count → (q : ℕ) → from ≤ q → q < count → Place rows q
unfolding rising_below
all_there [] from count p e q a b = absurd (omega arith)
all_there (r ∷ rows) from count p e q a b =
    let first = both_hold (leb from r && ltb r count) (rising_below (suc r) count rows) p in
    let tests = both_hold (leb from r) (ltb r count) first.0 in
    let low : from ≤ r = leb-true from r tests.0 in
    let high : r < count = ltb-true r count tests.1 in
    let k : suc r + length rows ≤ count = rising_length (suc r) count rows high first.1 in
    let is : r ≡ from = omega arith in
    go (λ (t : r ≡ q → ⊥). all_there rows (suc r) count first.1 (omega arith) q (omega arith) b) (ℕ_discrete r q)
  where
    go : ((r ≡ q → ⊥) → Place rows q) → Dec (r ≡ q) → Place (r ∷ rows) q
    go later (yes t) = (0, omega arith, t)
    go later (no t) = let l = later t in (suc l.0, (let h = l.1 in omega arith), l.2)

-- ---- what rows hold

none_held : (held : List (Option ℕ)) (rows : List ℕ) → ((k : ℕ) → k < length rows → get_or held (get_or rows k 0) none ≡ none) → some_held held rows ≡ false
unfolding some_held
none_held held [] free = refl
none_held held (r ∷ rows) free = ap₂ ◌||◌ (ap holds (free 0 (omega arith))) (none_held held rows (λ k h. free (suc k) (omega arith)))

hold_others : (rows : List ℕ) (held : List (Option ℕ)) (values : List ℕ) (q : ℕ) → (Place rows q → ⊥) → get_or (hold_all held rows values) q none ≡ get_or held q none
unfolding hold_all
hold_others [] held values q n = refl
hold_others (r ∷ rows) held [] q n = refl
hold_others (r ∷ rows) held (v ∷ values) q n =
    hold_others rows (set held r (some v)) values q (λ l. n (suc l.0, (let h = l.1 in omega arith), l.2))
    ∙ get_or-set_other held r q (some v) none (λ e. n (0, omega arith, sym e))

hold_here : (rows : List ℕ) (held : List (Option ℕ)) (values : List ℕ) (from : ℕ) → rising_below from (length held) rows ≡ true → length rows ≡ length values → (k : ℕ) → k < length rows
    → get_or (hold_all held rows values) (get_or rows k 0) none ≡ some (get_or values k 0)
unfolding rising_below hold_all
hold_here [] held values from p e k h = absurd (omega arith)
hold_here (r ∷ rows) held [] from p e k h = absurd (omega arith)
hold_here (r ∷ rows) held (v ∷ values) from p e zero h =
    let first = both_hold (leb from r && ltb r (length held)) (rising_below (suc r) (length held) rows) p in
    let high : r < length held = ltb-true r (length held) (both_hold (leb from r) (ltb r (length held)) first.0).1 in
    hold_others rows (set held r (some v)) values r (λ l. later l first.1)
    ∙ get_or-set_same held r (some v) none high
  where
    later : Place rows r → rising_below (suc r) (length held) rows ≡ true → ⊥
    later l p = omega (arith, l.2, least_row rows (suc r) (length held) l.0 p l.1)
hold_here (r ∷ rows) held (v ∷ values) from p e (suc k) h =
    let first = both_hold (leb from r && ltb r (length held)) (rising_below (suc r) (length held) rows) p in
    let size : length (set held r (some v)) ≡ length held = length-set held r (some v) in
    hold_here rows (set held r (some v)) values (suc r) (ap (λ (n : ℕ). rising_below (suc r) n rows) size ∙ first.1) (omega arith) k (omega arith)

-- ---- the part

-- what an answer that is no refusal says
answer_is : (r : RustResult (Unit {0}) Refusal) (b : ResultBuilder) (x : Builder ℕ) → answer_of (λ _. builder_of b) r ≡ ok x → builder_of b ≡ x
answer_is (Ok u) b x p = ok_injective p
answer_is (Err e) b x p = absurd (refused_not_ok (number_of e) x p)

-- and that it is none
answer_there : (r : RustResult (Unit {0}) Refusal) (b : ResultBuilder) (x : Builder ℕ) → answer_of (λ _. builder_of b) r ≡ ok x → IsOk r
answer_there (Ok u) b x p = refl
answer_there (Err e) b x p = absurd (refused_not_ok (number_of e) x p)

no_clash : (whole part all : Bool) → (whole ≡ true → ⊥) → (part ≡ true → all ≡ true → ⊥) → not (not whole && not (part && all)) ≡ false
no_clash true part all a b = absurd (a refl)
no_clash false false all a b = refl
no_clash false true false a b = refl
no_clash false true true a b = absurd (b refl refl)

module _ (b : ResultBuilder) (rows values : List ℕ) (asks : PartAsks b rows values) where
  -- nothing to add
  pub part_none : length rows ≡ 0 → PartGives b rows values b
  part_none e = record {
    same_rows = refl;
    here = λ k h. absurd (omega arith);
    others = λ q n. refl;
    whole_is = λ p. inl p;
    part_is = λ p. inl p;
  }

  module _ (long : length b.held ≡ 512) (long_values : length b.values ≡ 512) where
    counted : count_of b ≡ b.rows
    counted = let small = asks.small in omega arith

    size : length (builder_of b).held ≡ b.rows
    size = count_is b rows values long long_values ∙ counted

    rising_rows : (n : ℕ) → n ≡ b.rows → rising_below 0 n rows ≡ true
    rising_rows n e = rises rows 0 n (λ k h. omega arith) asks.rising (λ k h. omega (arith, asks.below k h))

    -- a list of all rows after a part would hold a row twice
    clash : b.part ≡ true → eqb (length rows) (count_of b) ≡ true → ⊥
    clash p e =
        let held = asks.part_held p in
        let full : length rows ≡ count_of b = eqb-true (length rows) (count_of b) e in
        let l = all_there rows 0 b.rows (rising_rows b.rows refl) (omega (arith, counted)) held.0 (omega arith) held.1 in
        twice held.0 l.0 l.1 l.2 held.2
      where
        twice : (q k : ℕ) → k < length rows → get_or rows k 0 ≡ q → holds (held_by b q) ≡ true → ⊥
        twice q k h is t = false≢true (sym (ap holds (ap (held_by b) (sym is) ∙ asks.free k h)) ∙ t)

    module _ (some-row : length rows ≡ 0 → ⊥) {r : RustResult (Unit {0}) Refusal} {b' : ResultBuilder} (said : Answers b rows values long long_values r b') where
      g : AddGives b rows values r b'
      g = add_gives b rows values long long_values said

      goes : answer_of (λ _. builder_of b') r ≡ ok (record { part = b.part || not (is_whole (builder_of b) rows); whole = is_whole (builder_of b) rows; held = hold_all (builder_of b).held rows values })
      goes =
          let fits = no_clash b.whole b.part (eqb (length rows) (count_of b)) (λ p. some-row (asks.whole_done p)) clash in
          g.says ∙ add_goes b rows values long long_values asks.same (rising_rows (count_of b) counted) fits (none_held (builder_of b).held rows asks.free)

      -- none of the refusals occurs
      pub part_taken : IsOk r
      part_taken = answer_there r b' _ goes

      is : builder_of b' ≡ record { part = b.part || not (is_whole (builder_of b) rows); whole = is_whole (builder_of b) rows; held = hold_all (builder_of b).held rows values }
      is = answer_is r b' _ goes

      pub part_added : PartGives b rows values b'
      part_added =
          record {
            same_rows = g.same_rows;
            here = λ k h. ap (λ (x : Builder ℕ). get_or x.held (get_or rows k 0) none) is ∙ hold_here rows (builder_of b).held values 0 (rising_rows (length (builder_of b).held) size) asks.same k h;
            others = λ q n. ap (λ (x : Builder ℕ). get_or x.held q none) is ∙ hold_others rows (builder_of b).held values q n;
            whole_is = λ p. inr (eqb-true _ _ (sym (ap (λ (x : Builder ℕ). x.whole) is) ∙ p) ∙ size);
            part_is = λ p. inr (omega arith);
          }
