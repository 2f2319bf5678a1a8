-- The numbers that pass a step lie between two: a row's index by spans is its index by steps. Assumes nothing.
use Rattle.std.proofs.Common.{◌≡◌, ℕ, suc, ◌+◌, ◌-◌, ◌^◌, ◌<◌, ◌≤◌, Bool, true, false, cond, eqb, ltb, ◌⊎◌, zero, List, [], ◌∷◌, length, get_or, set, replicate, sym, refl, ap, ◌∙◌, subst, ap₂, inl, inr, ⊎_elim, arith, length-set, get_or-set_other, get_or-set_same, ltb-false, ltb-true, le-ltb, lt-ltb, eqb-true, le-leb}
use native.Mathlib.Decide.{ℕ_discrete}
use borrow.Author.Tests.{eqb-false, lt-leb}
use Rattle.scalar.specs.declared.types.DataType.{DataType}
use Rattle.scalar.specs.declared.order.Key.{Key}
use Rattle.scalar.specs.declared.order.Key.TheVariants as Keys
use Rattle.scalar.specs.Types.{mark_number, type_number}
use Rattle.scalar.specs.Float.{sign_turned, total_key}
use Rattle.scalar.specs.Entry.{Entry, null, boolean, int32, int64, float64, utf8}
use Rattle.scalar.specs.Order.{Numbered}
use Rattle.scalar.proofs.FloatLaws.{sign_turned_below}
use Rattle.table.specs.Column.{valid_in, value_at}
use Rattle.rule.specs.Walks.{EndGives}
use Rattle.table.specs.declared.places.ColumnPlace.{ColumnPlace}
use Rattle.table.specs.Places.{column_in}
use Rattle.case.specs.declared.steps.Step.{Step}
use Rattle.case.specs.Frame.{Rows}
use Rattle.case.specs.LookUpTables.{found}
use Rattle.case.specs.Steps.{comparison_tag, StepGives, SpansRead, ColumnGives, StepRows, KeysAt, number_most, step_passes, step_index, step_low, step_high, SpansOf, in_span, span_index, row_span, one_span, RowIndex, RowsIndexed}
use Rattle.case.proofs.LookUpLaws.{found_same}
use Rattle.case.proofs.StepLaws.{StepsSoFar, steps_none, steps_more, steps_all, row_null, row_value, column_gives, step_gives}

-- ---- one step

-- one of two numbers is below the other, or not
apart : (a b : ℕ) → (a < b) ⊎ (b ≤ a)
apart a b = go (ltb a b) refl
  where
    go : (t : Bool) → ltb a b ≡ t → (a < b) ⊎ (b ≤ a)
    go true e = inl (ltb-true a b e)
    go false e = inr (ltb-false a b e)

-- a test is that of a span where it is true just between the two
span_is : (low high x : ℕ) (l : Bool) → (l ≡ true → (low ≤ x) × (x ≤ high)) → (l ≡ false → (x < low) ⊎ (high < x)) → in_span low high x ≡ l
span_is low high x true within outside = let b = within refl in rw (le-ltb x low b.0, le-leb x high b.1) refl
span_is low high x false within outside = ⊎_elim (λ a. rw (lt-ltb x low a) refl) (λ b. rw (lt-leb x high b) (either (ltb x low))) (outside refl)
  where
    either : (t : Bool) → cond t false false ≡ false
    either true = refl
    either false = refl

module _ (key x : ℕ) where
  span_less : (z : Bool) → eqb key 0 ≡ z → in_span (cond z 1 0) (cond z 0 (key - 1)) x ≡ ltb x key
  span_less true e =
      span_is 1 0 x (ltb x key) (λ p. let h : x < key = ltb-true x key p in let k : key ≡ 0 = eqb-true key 0 e in absurd (omega arith))
      (λ p. ⊎_elim (λ a. inl a) (λ b. inr (omega arith)) (apart x 1))
  span_less false e =
      span_is 0 (key - 1) x (ltb x key) (λ p. let h : x < key = ltb-true x key p in (omega arith, omega arith))
      (λ p. let h : key ≤ x = ltb-false x key p in inr (above (ℕ_discrete key 0) h))
    where
      above : Dec (key ≡ 0) → key ≤ x → key - 1 < x
      above (yes d) h = absurd (eqb-false key 0 e d)
      above (no d) h = omega arith

  span_more : (z : Bool) → ltb key number_most ≡ z → x ≤ number_most → in_span (cond z (key + 1) 1) (cond z number_most 0) x ≡ ltb key x
  span_more true e few =
      span_is (key + 1) number_most x (ltb key x) (λ p. let h : key < x = ltb-true key x p in (omega arith, few)) (λ p. let h : x ≤ key = ltb-false key x p in inl (omega arith))
  span_more false e few =
      let most : number_most ≤ key = ltb-false key number_most e in
      span_is 1 0 x (ltb key x) (λ p. let h : key < x = ltb-true key x p in absurd (omega arith)) (λ p. ⊎_elim (λ a. inl a) (λ b. inr (omega arith)) (apart x 1))

  span_same : in_span key key x ≡ eqb x key
  span_same =
      span_is key key x (eqb x key) (λ p. let h : x ≡ key = eqb-true x key p in (omega arith, omega arith)) (λ p. ⊎_elim (λ a. inl a) (λ b. inr (beyond b (eqb-false x key p))) (apart x key))
    where
      beyond : key ≤ x → (x ≡ key → ⊥) → key < x
      beyond h d = omega arith

-- a number lies in a step's span just where it passes
span_passes : (tag key x : ℕ) → x ≤ number_most → in_span (step_low tag key) (step_high tag key) x ≡ step_passes tag key x
span_passes tag key x few = go (eqb tag 24) (eqb tag 26)
  where
    go : (a b : Bool)
        → in_span (cond a (cond (eqb key 0) 1 0) (cond b (cond (ltb key number_most) (key + 1) 1) key))
        (cond a (cond (eqb key 0) 0 (key - 1)) (cond b (cond (ltb key number_most) number_most 0) key)) x
        ≡ cond a (ltb x key) (cond b (ltb key x) (eqb x key))
    go true b = span_less key x (eqb key 0) refl
    go false true = span_more key x (ltb key number_most) refl few
    go false false = span_same key x

-- ---- the spans of steps

pub spans_none : {tags keys lows highs : List ℕ} → length lows ≡ 32 → length highs ≡ 32 → SpansOf tags keys 0 lows highs
spans_none p q = record { lows_long = p; highs_long = q; low_is = λ k h. absurd (omega arith); high_is = λ k h. absurd (omega arith) }

-- one more of a list
pub set_more : {f : ℕ → ℕ} (l : List ℕ) (k x : ℕ) → k < length l → ((j : ℕ) → j < k → get_or l j 0 ≡ f j) → x ≡ f k → (j : ℕ) → j < k + 1 → get_or (set l k x) j 0 ≡ f j
set_more {f} l k x room before here j h = go (ℕ_discrete j k)
  where
    go : Dec (j ≡ k) → get_or (set l k x) j 0 ≡ f j
    go (yes e) = ap (λ (i : ℕ). get_or (set l k x) i 0) e ∙ get_or-set_same l k x 0 room ∙ here ∙ ap f (sym e)
    go (no d) = get_or-set_other l k j x 0 d ∙ before j (omega arith)

module _ {tags keys lows highs : List ℕ} {k : ℕ} (s : SpansOf tags keys k lows highs) where
  pub spans_more : {low high count : ℕ} → k < count → count ≤ 32 → low ≡ step_low (get_or tags k 0) (get_or keys k 0) → high ≡ step_high (get_or tags k 0) (get_or keys k 0)
      → SpansOf tags keys (k + 1) (set lows k low) (set highs k high)
  spans_more {low} {high} more few p q = record {
    lows_long = length-set lows k low ∙ s.lows_long;
    highs_long = length-set highs k high ∙ s.highs_long;
    low_is = set_more lows k low (omega (arith, s.lows_long)) s.low_is p;
    high_is = set_more highs k high (omega (arith, s.highs_long)) s.high_is q;
  }

  pub spans_all : {count : ℕ} → count ≤ k → SpansOf tags keys count lows highs
  spans_all h = record { lows_long = s.lows_long; highs_long = s.highs_long; low_is = λ j l. s.low_is j (omega arith); high_is = λ j l. s.high_is j (omega arith) }

-- of one step
pub spans_one : {tag key low high : ℕ} → low ≡ step_low tag key → high ≡ step_high tag key → SpansOf (tag ∷ []) (key ∷ []) 1 (replicate 32 low) (replicate 32 high)
spans_one {tag} {key} {low} {high} p q = record { lows_long = refl; highs_long = refl; low_is = λ k h. first_low k h; high_is = λ k h. first_high k h }
  where
    first_low : (k : ℕ) → k < 1 → get_or (replicate 32 low) k 0 ≡ step_low (get_or (tag ∷ []) k 0) (get_or (key ∷ []) k 0)
    first_low zero h = p
    first_low (suc k) h = absurd (omega arith)

    first_high : (k : ℕ) → k < 1 → get_or (replicate 32 high) k 0 ≡ step_high (get_or (tag ∷ []) k 0) (get_or (key ∷ []) k 0)
    first_high zero h = q
    first_high (suc k) h = absurd (omega arith)

-- ---- the spans of the steps of a CASE

-- where the loop stands: i steps are read, and have their spans
pub record SpansSoFar (rule : List ℕ) (at count column kind place i : ℕ) (lows highs : List ℕ) : Type 0 where
  pub tags : List ℕ
  pub keys : List ℕ
  pub steps : StepsSoFar rule at count column kind place i tags keys
  pub spans : SpansOf tags keys i lows highs

pub read_none : {rule : List ℕ} {at count column kind : ℕ} {lows highs : List ℕ} → length lows ≡ 32 → length highs ≡ 32 → count ≤ 32 → SpansSoFar rule at count column kind at 0 lows highs
read_none p q few = record { tags = replicate 32 0; keys = replicate 32 0; steps = steps_none refl refl few; spans = spans_none p q }

module _ {rule : List ℕ} {at count column kind place i : ℕ} {lows highs : List ℕ} (s : SpansSoFar rule at count column kind place i lows highs) where
  pub read_more : {then next low high : ℕ} {x : Step} → i < count → EndGives rule place then → StepGives rule place then x → x.column ≡ column → x.kind ≡ kind → EndGives rule then next
      → low ≡ step_low (comparison_tag x.comparison) x.key → high ≡ step_high (comparison_tag x.comparison) x.key → SpansSoFar rule at count column kind next (i + 1) (set lows i low) (set highs i high)
  read_more {x = x} more to-then step column_is kind_is to-next p q = record {
    tags = set s.tags i tag;
    keys = set s.keys i x.key;
    steps = steps_more s.steps more to-then step column_is kind_is to-next;
    spans = spans_more kept more s.steps.small (p ∙ sym (ap₂ step_low new_tag new_key)) (q ∙ sym (ap₂ step_high new_tag new_key));
  }
    where
      tag : ℕ
      tag = comparison_tag x.comparison

      new_tag : get_or (set s.tags i tag) i 0 ≡ tag
      new_tag = get_or-set_same s.tags i tag 0 (omega (arith, s.steps.tags_long, s.steps.small))

      new_key : get_or (set s.keys i x.key) i 0 ≡ x.key
      new_key = get_or-set_same s.keys i x.key 0 (omega (arith, s.steps.keys_long, s.steps.small))

      old_tag : (j : ℕ) → j < i → get_or (set s.tags i tag) j 0 ≡ get_or s.tags j 0
      old_tag j h = get_or-set_other s.tags i j tag 0 (λ e. omega arith)

      old_key : (j : ℕ) → j < i → get_or (set s.keys i x.key) j 0 ≡ get_or s.keys j 0
      old_key j h = get_or-set_other s.keys i j x.key 0 (λ e. omega arith)

      kept : SpansOf (set s.tags i tag) (set s.keys i x.key) i lows highs
      kept = record {
        lows_long = s.spans.lows_long;
        highs_long = s.spans.highs_long;
        low_is = λ j h. s.spans.low_is j h ∙ sym (ap₂ step_low (old_tag j h) (old_key j h));
        high_is = λ j h. s.spans.high_is j h ∙ sym (ap₂ step_high (old_tag j h) (old_key j h));
      }

  pub read_all : count ≤ i → SpansRead rule at count column kind lows highs
  read_all h = record { tags = s.tags; keys = s.keys; steps = steps_all s.steps h; spans = spans_all s.spans h }

-- ---- the index of a row

-- by one span
pub rows_one : (numbers validity lows highs : List ℕ) {w indices : List ℕ} {count at n : ℕ} → count ≡ 1 → RowsIndexed (λ r c. c ≡ one_span numbers validity (get_or lows 0 0) (get_or highs 0 0) r) w at n indices
    → RowsIndexed (λ r c. c ≡ row_span numbers validity lows highs count r) w at n indices
unfolding found
rows_one numbers validity lows highs one s = record { each = λ q l. s.each q l ∙ sym (ap (λ (k : ℕ). row_span numbers validity lows highs k q) one) }

-- the number of a key
abbrev number_in : Key → ℕ
number_in Keys.Null = 0
number_in Keys.Failed = 0
number_in (Keys.Number kind x) = x
number_in Keys.Text = 0

-- a number by which an entry goes has 64 bits
numbered_few : {kind x : ℕ} (e : Entry) → Numbered kind x e → x ≤ number_most
numbered_few {x = x} null n = let z : ◌≡◌ {A = ℕ} 0 x = ap number_in n.key in omega arith
numbered_few {x = x} (boolean b) n = let z : mark_number b ≡ x = ap number_in n.key in let k = mark_few b in omega arith
  where
    mark_few : (b : Bool) → mark_number b ≤ 1
    mark_few true = omega arith
    mark_few false = omega arith
numbered_few {x = x} (int32 m) n = let z : sign_turned 31 m ≡ x = ap number_in n.key in let k = sign_turned_below 31 m n.within in omega arith
numbered_few {x = x} (int64 m) n = let z : sign_turned 63 m ≡ x = ap number_in n.key in let k = sign_turned_below 63 m n.within in omega arith
numbered_few {x = x} (float64 m) n = let z : total_key 63 m ≡ x = ap number_in n.key in let k = total_few m n.within in omega arith
  where
    total_few : (m : ℕ) → m < 2 ^ 64 → total_key 63 m < 2 ^ 64
    total_few m h = go (ltb m (2 ^ 63)) refl
      where
        go : (t : Bool) → ltb m (2 ^ 63) ≡ t → cond t (m + 2 ^ 63) (2 ^ 64 - suc m) < 2 ^ 64
        go true e = let k : m < 2 ^ 63 = ltb-true m (2 ^ 63) e in omega arith
        go false e = omega arith
numbered_few {x = x} (utf8 t) n = let z : ◌≡◌ {A = ℕ} 0 x = ap number_in n.key in omega arith

module _ {tags keys lows highs : List ℕ} {count : ℕ} (spans : SpansOf tags keys count lows highs) where
  -- of a number
  index_same : (x : ℕ) → x ≤ number_most → span_index lows highs count x ≡ step_index tags keys count x
  index_same x few =
      found_same (count + 1) count 0
      (λ k h. ap₂ (λ (a b : ℕ). in_span a b x) (spans.low_is k (omega arith)) (spans.high_is k (omega arith)) ∙ span_passes (get_or tags k 0) (get_or keys k 0) x few) (λ k h. refl)

  -- of a row
  row_spans : {kind : DataType} {values validity numbers : List ℕ} {rows row c : ℕ} → KeysAt kind values rows numbers → row < rows → c ≡ row_span numbers validity lows highs count row
      → RowIndex kind values validity tags keys count row c
  row_spans {kind} {values} {validity} {numbers} {rows} {row} {c} at inside is = go (valid_in validity row) refl
    where
      go : (b : Bool) → valid_in validity row ≡ b → RowIndex kind values validity tags keys count row c
      go false e = row_null (sym e) refl (is ∙ ap (λ (y : Bool). cond y (span_index lows highs count (get_or numbers row 0)) (count + 1)) e)
      go true e = record {
        is = λ h offsets.
            let few = numbered_few (value_at kind offsets values row) ((at.each row inside).is h offsets) in
            (row_value {kind = kind} {values = values} {row = row} {validity = validity} {tags = tags} {keys = keys} {count = count} (sym e) refl (at.each row inside)
            (is ∙ ap (λ (y : Bool). cond y (span_index lows highs count (get_or numbers row 0)) (count + 1)) e ∙ index_same (get_or numbers row 0) few)).is h offsets;
      }

  -- of each row of a list
  pub rows_spans : {kind : DataType} {values validity numbers w indices : List ℕ} {at n : ℕ} → KeysAt kind values 512 numbers → Rows w at n 512
      → RowsIndexed (λ r c. c ≡ row_span numbers validity lows highs count r) w at n indices → RowsIndexed (RowIndex kind values validity tags keys count) w at n indices
  rows_spans at rows s = record { each = λ q l. row_spans at (subst (λ (y : ℕ). y < 512) l.2 (rows.below l.0 l.1)) (s.each q l) }

-- by the parts of a column
pub rows_of : {kind : DataType} {values values' validity validity' tags keys w indices : List ℕ} {count at n : ℕ} → values ≡ values' → validity ≡ validity'
    → RowsIndexed (RowIndex kind values validity tags keys count) w at n indices → RowsIndexed (RowIndex kind values' validity' tags keys count) w at n indices
rows_of {kind} {values} {values'} {validity} {validity'} {tags} {keys} {w} {indices} {count} {at} {n} p q s =
    subst (λ (y : List ℕ). RowsIndexed (RowIndex kind values' y tags keys count) w at n indices) q
    (subst (λ (y : List ℕ). RowsIndexed (RowIndex kind y validity tags keys count) w at n indices) p s)

-- ---- a column by the spans of its steps

rows_by : {kind : DataType} {values validity w lows highs indices tags keys : List ℕ} {at n m count : ℕ}
    → ((tags keys : List ℕ) → SpansOf tags keys m lows highs → RowsIndexed (RowIndex kind values validity tags keys m) w at n indices) → m ≡ count → SpansOf tags keys count lows highs
    → RowsIndexed (RowIndex kind values validity tags keys count) w at n indices
rows_by {kind} {values} {validity} {w} {lows} {highs} {indices} {tags} {keys} {at} {n} rows e spans =
    subst (λ (y : ℕ). RowsIndexed (RowIndex kind values validity tags keys y) w at n indices) e (rows tags keys (subst (λ (y : ℕ). SpansOf tags keys y lows highs) (sym e) spans))

-- of one step
pub step_by : {s : Step} {table : List ℕ} {place : ColumnPlace} {w lows highs indices : List ℕ} {at n code m : ℕ} → code ≡ type_number place.data_type → code ≤ 4
    → ((tags keys : List ℕ) → SpansOf tags keys m lows highs → RowsIndexed (RowIndex place.data_type (column_in table place).values (column_in table place).validity tags keys m) w at n indices)
    → m ≡ 1 → SpansOf (comparison_tag s.comparison ∷ []) (s.key ∷ []) 1 lows highs → s.kind ≡ code → StepRows s table place w at n true indices
step_by code_is small rows e spans kind_is = step_gives code_is small kind_is refl refl (rows_by rows e spans)

-- of the steps of a CASE
pub column_by : {rule table : List ℕ} {place : ColumnPlace} {w lows highs indices : List ℕ} {at column count n code m : ℕ} → code ≡ type_number place.data_type → code ≤ 4
    → ((tags keys : List ℕ) → SpansOf tags keys m lows highs → RowsIndexed (RowIndex place.data_type (column_in table place).values (column_in table place).validity tags keys m) w 0 n indices)
    → m ≡ count → SpansRead rule at count column code lows highs → ColumnGives rule at table column place count w n true indices
column_by code_is small rows e read = column_gives code_is small read.steps (rows_by rows e read.spans)
