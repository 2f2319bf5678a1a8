-- A column searched in a lookup table: hints, the numbers of the keys, and that a row's index is that of its entry. Assumes nothing.
use Rattle.std.proofs.Common.{◌≡◌, ℕ, zero, suc, ◌+◌, ◌-◌, ◌*◌, ◌/◌, ◌%◌, ◌^◌, ◌<◌, ◌≤◌, Bool, true, false, cond, eqb, List, [], ◌∷◌, length, get_or, set, sym, refl, ap, ◌∙◌, subst, ap₂, add-one, arith, length-set, get_or-set_other, get_or-set_same, eq-eqb, ne_eqb}
use mathlib.Core.Bool.{false≢true}
use native.Mathlib.Decide.{ℕ_discrete}
use lib.Ieee.{binary64, nan_bits, of_bits, to_bits}
use Rattle.layout.specs.Bytes.{byte, number_at, part}
use Rattle.scalar.specs.declared.types.DataType.{DataType}
use Rattle.scalar.specs.declared.types.DataType.TheVariants as Of
use Rattle.scalar.specs.declared.value.Value.{Value}
use Rattle.scalar.specs.declared.value.Value.TheVariants.{Null, Boolean, Int32, Int64, Float64, Nan, RuleText, TableText, Failed}
use Rattle.scalar.specs.declared.order.Key.TheVariants as Keys
use Rattle.scalar.specs.Types.{type_number}
use Rattle.scalar.specs.Entry.{Entry, null, boolean, int32, int64, float64, utf8, Outcome, entry, unfit}
use Rattle.scalar.specs.Order.{key_of, Numbered}
use Rattle.scalar.specs.Value.{meaning, value_of, place_text, Storable}
use Rattle.scalar.proofs.CompareLaws.{numbers_equal}
use Rattle.scalar.proofs.OrderLaws.{value_numbered}
use Rattle.scalar.proofs.ValueLaws.{value_of_stores}
use Rattle.rule.specs.Tree.{Expr}
use Rattle.rule.specs.Row.{with_base, eval, eval_branches}
use Rattle.rule.specs.Node.{NodeAt}
use Rattle.rule.specs.Walks.{EndGives}
use Rattle.rule.proofs.NodeLaws.{Tagged, of_column, node_byte}
use Rattle.rule.proofs.WalkLaws.{node_of_tag, first_tree}
use Rattle.table.specs.declared.places.ColumnPlace.{ColumnPlace}
use Rattle.table.specs.declared.places.Table.{Table}
use Rattle.table.specs.Column as columns
use Rattle.table.specs.Column.{valid_in, entry_at}
use Rattle.std.specs.Prelude.{Some}
use Rattle.table.specs.Places.{column_in, column_of}
use Rattle.case.specs.declared.when_literal_index_map.WhenLiteralIndexMap.{WhenLiteralIndexMap}
use Rattle.case.specs.ColumnSlots.{text_entry}
use Rattle.case.specs.Evaluation.{row_in}
use Rattle.case.specs.Choosing.{true_outcome}
use Rattle.case.specs.Frame.{Rows}
use Rattle.case.specs.LookUp.{KeyedGive}
use Rattle.case.specs.LookUpTables.{same_key, found, value_at, key_index, Keys, EachOnce}
use Rattle.case.specs.LookUpColumns.{number_hint, text_hint, outcome_hint, Hinted, NumberOf, NumbersRead, number_found, NumberTable, NumberRow, TextTable, TextRow, ColumnKeyed, BaseGives}
use Rattle.case.specs.Steps.{KeyAt, KeysAt, RowsIndexed}
use Rattle.case.proofs.LookUpLaws.{found_same, found_none, found_below, same_one, null_first}
use Rattle.case.proofs.CellLaws.{cell_found}

-- ---- a search

-- the first that is the same, where it is known
found_from : (same : ℕ → Bool) (index : ℕ → ℕ) (otherwise n k i : ℕ) → k ≤ i → i < k + n → same i ≡ true → ((j : ℕ) → j < i → same j ≡ false) → found same index k n otherwise ≡ index i
unfolding found
found_from same index otherwise zero k i a b here before = absurd (omega arith)
found_from same index otherwise (suc n) k i a b here before = go (ℕ_discrete i k) (λ l. found_from same index otherwise n (suc k) i l (omega arith) here before)
  where
    go : Dec (i ≡ k) → (suc k ≤ i → found same index (suc k) n otherwise ≡ index i) → cond (same k) (index k) (found same index (suc k) n otherwise) ≡ index i
    go (yes e) later = ap (λ (x : Bool). cond x (index k) (found same index (suc k) n otherwise)) (ap same (sym e) ∙ here) ∙ ap index (sym e)
    go (no d) later = ap (λ (x : Bool). cond x (index k) (found same index (suc k) n otherwise)) (before k (omega arith)) ∙ later (omega arith)

pub found_at : (same : ℕ → Bool) (index : ℕ → ℕ) (otherwise n i : ℕ) → i < n → same i ≡ true → ((j : ℕ) → j < i → same j ≡ false) → index i ≡ found same index 0 n otherwise
found_at same index otherwise n i h here before = sym (found_from same index otherwise n 0 i (omega arith) (omega arith) here before)

-- none of those that it passes is the same
pub found_nowhere : (same : ℕ → Bool) (index : ℕ → ℕ) (otherwise n : ℕ) → ((i : ℕ) → i < n → same i ≡ false) → otherwise ≡ found same index 0 n otherwise
found_nowhere same index otherwise n none =
    sym (found_same {same = same} {same' = λ (i : ℕ). false} {index = index} {index' = index} otherwise n 0 (λ i h. none i (omega arith)) (λ i h. refl) ∙ found_none (λ i. false) index otherwise n 0 (λ i. refl))

-- what does not hold fails
fails : (b : Bool) → (b ≡ true → ⊥) → b ≡ false
fails true h = absurd (h refl)
fails false h = refl

-- ---- hints

pub hints_none : {hint : ℕ → ℕ} {hints : List ℕ} → length hints ≡ 256 → ((h : ℕ) → get_or hints h 0 ≡ 0) → Hinted hint 0 hints
hints_none long zeros = record { long = long; few = λ h. omega (arith, zeros h); each = λ k l. absurd (omega arith) }

-- a key more
pub hints_more : {hint : ℕ → ℕ} {hints : List ℕ} {k h : ℕ} → Hinted hint k hints → h ≡ hint k → h < 256 → Hinted hint (k + 1) (set hints h (k + 1))
hints_more {hint} {hints} {k} {h} s is small = record {
  long = length-set hints h (k + 1) ∙ s.long;
  few = λ i. few_at i (ℕ_discrete i h);
  each = λ j l p. each_at j l p (ℕ_discrete j k) (ℕ_discrete (hint j) h);
}
  where
    here : get_or (set hints h (k + 1)) h 0 ≡ k + 1
    here = get_or-set_same hints h (k + 1) 0 (omega (arith, s.long))

    few_at : (i : ℕ) → Dec (i ≡ h) → get_or (set hints h (k + 1)) i 0 ≤ k + 1
    few_at i (yes e) = subst (λ (x : ℕ). get_or (set hints h (k + 1)) x 0 ≤ k + 1) (sym e) (omega (arith, here))
    few_at i (no d) = omega (arith, get_or-set_other hints h i (k + 1) 0 d, s.few i)

    each_at : (j : ℕ) → j < k + 1 → get_or (set hints h (k + 1)) (hint j) 0 ≡ 0 → Dec (j ≡ k) → Dec (hint j ≡ h) → ⊥
    each_at j l p d (yes e) = let z : k + 1 ≡ 0 = sym here ∙ ap (λ (x : ℕ). get_or (set hints h (k + 1)) x 0) (sym e) ∙ p in omega arith
    each_at j l p (yes e) (no d) = d (ap hint e ∙ sym is)
    each_at j l p (no e) (no d) = s.each j (omega arith) (sym (get_or-set_other hints h (hint j) (k + 1) 0 d) ∙ p)

-- hints go by those of the keys alone
hints_same : {hint hint' : ℕ → ℕ} {size : ℕ} {hints : List ℕ} → ((k : ℕ) → k < size → hint' k ≡ hint k) → Hinted hint size hints → Hinted hint' size hints
hints_same {hints = hints} e s = record { long = s.long; few = s.few; each = λ k l p. s.each k l (ap (λ (x : ℕ). get_or hints x 0) (sym (e k l)) ∙ p) }

-- a hint is of a key
pub hint_few : {hint : ℕ → ℕ} {size : ℕ} {hints : List ℕ} (p : ℕ) {h : ℕ} → Hinted hint size hints → h ≡ get_or hints p 0 → h ≤ size
hint_few p s is = omega (arith, s.few p)

-- ---- number keys

-- a value that goes by a number
number_of_lem : (v : Value) {kind x : ℕ} → Storable v → key_of v ≡ Keys.Number kind x → NumberOf v kind x
number_of_lem Null s k = let z : ◌≡◌ {A = ℕ} 0 1 = cc in absurd (omega arith)
number_of_lem (Boolean b) s k = record { value = boolean b; means = λ rule table. refl; numbered = value_numbered [] [] (Boolean b) (boolean b) s refl k }
number_of_lem (Int32 n) s k = record { value = int32 n; means = λ rule table. refl; numbered = value_numbered [] [] (Int32 n) (int32 n) s refl k }
number_of_lem (Int64 n) s k = record { value = int64 n; means = λ rule table. refl; numbered = value_numbered [] [] (Int64 n) (int64 n) s refl k }
number_of_lem (Float64 f) s k = record { value = float64 (to_bits binary64 f); means = λ rule table. refl; numbered = value_numbered [] [] (Float64 f) (float64 (to_bits binary64 f)) s refl k }
number_of_lem (Nan n) s k = record { value = float64 n; means = λ rule table. refl; numbered = value_numbered [] [] (Nan n) (float64 n) s refl k }
number_of_lem (RuleText a n) s k = let z : ◌≡◌ {A = ℕ} 0 1 = cc in absurd (omega arith)
number_of_lem (TableText a n) s k = let z : ◌≡◌ {A = ℕ} 0 1 = cc in absurd (omega arith)
number_of_lem Failed s k = let z : ◌≡◌ {A = ℕ} 0 1 = cc in absurd (omega arith)

-- where the loop stands: the numbers of k keys are read
pub record NumbersSoFar (kinds keys : List ℕ) (size kind k : ℕ) (numbers hints : List ℕ) : Type 0 where
  pub few : k ≤ size
  pub numbers_long : length numbers ≡ 32
  pub each : (j : ℕ) → j < k → NumberOf (value_at kinds keys j) kind (get_or numbers j 0)
  pub hinted : Hinted (λ j. number_hint (get_or numbers j 0)) k hints

pub numbers_none : {kinds keys : List ℕ} {size kind : ℕ} {numbers hints : List ℕ} → length numbers ≡ 32 → length hints ≡ 256 → ((h : ℕ) → get_or hints h 0 ≡ 0) → NumbersSoFar kinds keys size kind 0 numbers hints
numbers_none {numbers = numbers} a b zeros = record {
  few = omega arith;
  numbers_long = a;
  each = λ j h. absurd (omega arith);
  hinted = hints_none {hint = λ j. number_hint (get_or numbers j 0)} b zeros;
}

module _ {kinds keys : List ℕ} {size kind k : ℕ} {numbers hints : List ℕ} (s : NumbersSoFar kinds keys size kind k numbers hints) where
  -- one more
  pub numbers_more : {v : Value} {of number h : ℕ} → k < size → size ≤ 32 → get_or keys k 0 < 2 ^ 64 → v ≡ value_at kinds keys k → Keys.Number of number ≡ key_of v → of ≡ kind
      → h ≡ number_hint number → NumbersSoFar kinds keys size kind (k + 1) (set numbers k number) (set hints h (k + 1))
  numbers_more {v} {of} {number} {h} more room fits value_is key_is kind_is hint-is = record {
    few = omega arith;
    numbers_long = length-set numbers k number ∙ s.numbers_long;
    each = λ j l. each_at j l (ℕ_discrete j k);
    hinted = hints_more {hint = λ j. number_hint (get_or numbers' j 0)} (hints_same {hint = λ j. number_hint (get_or numbers j 0)} {hint' = λ j. number_hint (get_or numbers' j 0)} (λ j l. ap number_hint (old j (λ e. omega arith))) s.hinted) (hint-is ∙ ap number_hint (sym new)) (omega arith);
  }
    where
      numbers' : List ℕ
      numbers' = set numbers k number

      new : get_or numbers' k 0 ≡ number
      new = get_or-set_same numbers k number 0 (omega (arith, s.numbers_long))

      old : (j : ℕ) → (j ≡ k → ⊥) → get_or numbers' j 0 ≡ get_or numbers j 0
      old j d = get_or-set_other numbers k j number 0 d

      here : NumberOf (value_at kinds keys k) kind number
      here = number_of_lem (value_at kinds keys k) (value_of_stores (get_or kinds k 0) (get_or keys k 0) fits) (sym (ap key_of value_is) ∙ sym key_is ∙ ap (λ (x : ℕ). Keys.Number x number) kind_is)

      each_at : (j : ℕ) → j < k + 1 → Dec (j ≡ k) → NumberOf (value_at kinds keys j) kind (get_or numbers' j 0)
      each_at j l (yes e) = subst (λ (i : ℕ). NumberOf (value_at kinds keys i) kind (get_or numbers' i 0)) (sym e) (subst (λ (y : ℕ). NumberOf (value_at kinds keys k) kind y) (sym new) here)
      each_at j l (no d) = subst (λ (y : ℕ). NumberOf (value_at kinds keys j) kind y) (sym (old j d)) (s.each j (omega arith))

  pub numbers_all : size ≤ k → NumbersRead kinds keys size kind numbers hints
  numbers_all h = let z : k ≡ size = omega (arith, s.few) in record {
    numbers_long = s.numbers_long;
    hints_long = s.hinted.long;
    each = λ j l. s.each j (omega arith);
    hinted = subst (λ (m : ℕ). Hinted (λ j. number_hint (get_or numbers j 0)) m hints) z s.hinted;
  }

-- the index of a number, by its hint
module _ (x : ℕ) {numbers indices hints : List ℕ} {size otherwise : ℕ} (t : NumberTable numbers indices hints size otherwise) where
  pub number_nowhere : {p h : ℕ} → p ≡ number_hint x → h ≡ get_or hints p 0 → h ≡ 0 → otherwise ≡ number_found numbers indices size otherwise x
  number_nowhere {p} hint-is is none =
      found_nowhere (λ k. eqb x (get_or numbers k 0)) (λ k. get_or indices k 0) otherwise size
      (λ k l. ne_eqb x (get_or numbers k 0) (λ e. t.hinted.each k l (ap (λ (y : ℕ). get_or hints (number_hint y) 0) (sym e) ∙ ap (λ (y : ℕ). get_or hints y 0) (sym hint-is) ∙ sym is ∙ none)))

  pub number_here : (p : ℕ) {h : ℕ} → h ≡ get_or hints p 0 → (h ≡ 0 → ⊥) → x ≡ get_or numbers (h - 1) 0 → get_or indices (h - 1) 0 ≡ number_found numbers indices size otherwise x
  number_here p {h} is some same =
      let f = hint_few p t.hinted is in
      found_at (λ k. eqb x (get_or numbers k 0)) (λ k. get_or indices k 0) otherwise size (h - 1) (omega arith) (eq-eqb x (get_or numbers (h - 1) 0) same)
      (λ j l. ne_eqb x (get_or numbers j 0) (λ e. t.once j (h - 1) l (omega arith) (sym same ∙ e)))

  -- it is at most ELSE's
  pub number_below : number_found numbers indices size otherwise x ≤ otherwise
  number_below = found_below (λ k. eqb x (get_or numbers k 0)) (λ k. get_or indices k 0) otherwise size 0 (λ i l. t.below i (omega arith))

-- the index of a row
module _ {validity column numbers indices : List ℕ} {size otherwise row : ℕ} {b : Bool} (valid : b ≡ valid_in validity row) where
  pub number_null : {c : ℕ} → b ≡ false → c ≡ otherwise / 2 + 1 → NumberRow validity column numbers indices size otherwise row c
  number_null e p = record { is = p ∙ ap (λ (y : Bool). cond y (number_found numbers indices size otherwise (get_or column row 0)) otherwise / 2 + 1) (sym e ∙ valid) }

  pub number_value : {j c : ℕ} → b ≡ true → j ≡ number_found numbers indices size otherwise (get_or column row 0) → c ≡ j / 2 + 1 → NumberRow validity column numbers indices size otherwise row c
  number_value e p q = record {
    is = q ∙ ap (λ (y : ℕ). y / 2 + 1) p ∙ ap (λ (y : Bool). cond y (number_found numbers indices size otherwise (get_or column row 0)) otherwise / 2 + 1) (sym e ∙ valid);
  }

-- two values that go by numbers are the same where the numbers are
same_numbers : (rule table : List ℕ) (v : Value) {kind x y : ℕ} (e : Entry) → Numbered kind x e → NumberOf v kind y → eqb x y ≡ same_key (entry e) (meaning rule table v)
same_numbers rule table v e n k = sym (ap (same_key (entry e)) (k.means rule table) ∙ ap true_outcome (numbers_equal e k.value n k.numbered))

-- the table of the numbers
pub numbers_table : {rule table kinds keys indices : List ℕ} {size otherwise kind : ℕ} {numbers hints : List ℕ} → Keys kinds keys indices size otherwise → EachOnce rule table kinds keys size
    → otherwise ≤ 64 → NumbersRead kinds keys size kind numbers hints → NumberTable numbers indices hints size otherwise
numbers_table {rule} {table} {kinds} {keys} {indices} {size} {otherwise} {kind} {numbers} {hints} t once small r = record {
  numbers_long = r.numbers_long;
  indices_long = t.indices_long;
  few = t.few;
  small = small;
  below = t.below;
  hinted = r.hinted;
  once = λ j k l h e.
      let a = r.each k h in
      false≢true (
      sym (once.unlike j k l h)
      ∙ ap (λ (o : Outcome). same_key o (meaning rule table (value_at kinds keys j))) (a.means rule table)
      ∙ sym (same_numbers rule table (value_at kinds keys j) a.value a.numbered (r.each j (omega arith)))
      ∙ eq-eqb (get_or numbers k 0) (get_or numbers j 0) e
      );
}

-- ---- text keys

-- the empty text
pub hint_empty : (t : List ℕ) → length t ≡ 0 → 0 ≡ text_hint t
hint_empty [] e = refl
hint_empty (x ∷ t) e = absurd (omega arith)

-- a key's hint, by its kind and payload
module _ (rule table : List ℕ) (k p : ℕ) where
  pub hint_in_rule : {r : ℕ} {text : List ℕ} → k ≡ 5 → text ≡ place_text rule (p % 2 ^ 32) (p / 2 ^ 32) → r ≡ text_hint text → r ≡ outcome_hint (meaning rule table (value_of k p))
  unfolding value_of
  hint_in_rule e q h = h ∙ ap text_hint q ∙ sym (ap (λ (x : ℕ). outcome_hint (meaning rule table (value_of x p))) e)

  pub hint_in_table : {r : ℕ} {text : List ℕ} → k ≡ 6 → text ≡ place_text table (p % 2 ^ 32) (p / 2 ^ 32) → r ≡ text_hint text → r ≡ outcome_hint (meaning rule table (value_of k p))
  unfolding value_of
  hint_in_table e q h = h ∙ ap text_hint q ∙ sym (ap (λ (x : ℕ). outcome_hint (meaning rule table (value_of x p))) e)

pub hint_nowhere : (rule table : List ℕ) (k p : ℕ) → (k ≡ 5 → ⊥) → (k ≡ 6 → ⊥) → 0 ≡ outcome_hint (meaning rule table (value_of k p))
unfolding value_of
hint_nowhere rule table zero p a b = refl
hint_nowhere rule table (suc zero) p a b = refl
hint_nowhere rule table (suc (suc zero)) p a b = refl
hint_nowhere rule table (suc (suc (suc zero))) p a b = refl
hint_nowhere rule table (suc (suc (suc (suc zero)))) p a b = either (nan_bits binary64 p)
  where
    either : (n : Bool) → 0 ≡ outcome_hint (meaning rule table (cond n (Nan p) (Float64 (of_bits binary64 p))))
    either true = refl
    either false = refl
hint_nowhere rule table (suc (suc (suc (suc (suc zero))))) p a b = absurd (a refl)
hint_nowhere rule table (suc (suc (suc (suc (suc (suc zero)))))) p a b = absurd (b refl)
hint_nowhere rule table (suc (suc (suc (suc (suc (suc (suc k))))))) p a b = refl

-- a hint is one of 256
pub outcome_small : (o : Outcome) {h : ℕ} → h ≡ outcome_hint o → h < 256
outcome_small (entry null) e = omega arith
outcome_small (entry (boolean b)) e = omega arith
outcome_small (entry (int32 n)) e = omega arith
outcome_small (entry (int64 n)) e = omega arith
outcome_small (entry (float64 n)) e = omega arith
outcome_small (entry (utf8 t)) e = omega arith
outcome_small unfit e = omega arith

pub hints_all : {hint : ℕ → ℕ} {k size : ℕ} {hints : List ℕ} → k ≤ size → size ≤ k → Hinted hint k hints → Hinted hint size hints
hints_all {hint} {k} {size} {hints} a b s = let z : k ≡ size = omega arith in subst (λ (m : ℕ). Hinted hint m hints) z s

-- the index of a text, by its hint
module _ (text : List ℕ) {rule table kinds keys indices hints : List ℕ} {size otherwise : ℕ} (t : TextTable rule table kinds keys indices hints size otherwise) where
  pub text_found_nowhere : {p h : ℕ} → p ≡ text_hint text → h ≡ get_or hints p 0 → h ≡ 0 → otherwise ≡ key_index rule table kinds keys indices size otherwise (entry (utf8 text))
  text_found_nowhere hint-is is none =
      found_nowhere (λ k. same_key (entry (utf8 text)) (meaning rule table (value_at kinds keys k))) (λ k. get_or indices k 0) otherwise size
      (λ k l. fails (same_key (entry (utf8 text)) (meaning rule table (value_at kinds keys k)))
      (λ e. t.hinted.each k l (ap (λ (o : Outcome). get_or hints (outcome_hint o) 0) (sym (same_one (entry (utf8 text)) (meaning rule table (value_at kinds keys k)) e)) ∙ ap (λ (y : ℕ). get_or hints y 0) (sym hint-is) ∙ sym is ∙ none)))

-- or by a key that it is
pub text_found_here : (text : List ℕ) {rule table kinds keys indices : List ℕ} {size otherwise : ℕ} (k : ℕ) {b : Bool} → Keys kinds keys indices size otherwise → EachOnce rule table kinds keys size → k < size
    → b ≡ same_key (entry (utf8 text)) (meaning rule table (value_at kinds keys k)) → b ≡ true → get_or indices k 0 ≡ key_index rule table kinds keys indices size otherwise (entry (utf8 text))
text_found_here text {rule} {table} {kinds} {keys} {indices} {size} {otherwise} k arrays once few same holds =
    found_at (λ i. same_key (entry (utf8 text)) (meaning rule table (value_at kinds keys i))) (λ i. get_or indices i 0) otherwise size k few (sym same ∙ holds)
    (λ j l. ap (λ (o : Outcome). same_key o (meaning rule table (value_at kinds keys j))) (same_one (entry (utf8 text)) (meaning rule table (value_at kinds keys k)) (sym same ∙ holds)) ∙ once.unlike j k l few)

-- the index of a row of text
module _ {rule table validity offsets texts kinds keys indices : List ℕ} {size otherwise row : ℕ} {b : Bool} (valid : b ≡ valid_in validity row) where
  pub text_null : {c : ℕ} → b ≡ false → c ≡ otherwise / 2 + 1 → TextRow rule table validity offsets texts kinds keys indices size otherwise row c
  text_null e p = record {
    is =
        p
        ∙ ap (λ (y : ℕ). y / 2 + 1) (sym (found_none (λ k. same_key (entry null) (meaning rule table (value_at kinds keys k))) (λ k. get_or indices k 0) otherwise size 0 (λ i. null_first (meaning rule table (value_at kinds keys i)))))
        ∙ ap (λ (y : Bool). key_index rule table kinds keys indices size otherwise (entry (cond y (columns.value_at Of.Utf8 offsets texts row) null)) / 2 + 1) (sym e ∙ valid);
  }

  pub text_value : {j c : ℕ} {text : List ℕ} → b ≡ true → text ≡ part texts (number_at 4 offsets (4 * row)) (number_at 4 offsets (4 * (row + 1)))
      → j ≡ key_index rule table kinds keys indices size otherwise (entry (utf8 text)) → c ≡ j / 2 + 1 → TextRow rule table validity offsets texts kinds keys indices size otherwise row c
  unfolding columns.value_at
  text_value {j} {c} {text} e text_is p q = record {
    is =
        q
        ∙ ap (λ (y : ℕ). y / 2 + 1) (p ∙ ap (λ (y : List ℕ). key_index rule table kinds keys indices size otherwise (entry (utf8 y))) (text_is ∙ ap (λ (y : ℕ). part texts (number_at 4 offsets (4 * row)) (number_at 4 offsets (4 * y))) (add-one row)))
        ∙ ap (λ (y : Bool). key_index rule table kinds keys indices size otherwise (entry (cond y (columns.value_at Of.Utf8 offsets texts row) null)) / 2 + 1) (sym e ∙ valid);
  }

-- it is at most ELSE's
pub text_below : (rule table text : List ℕ) {kinds keys indices : List ℕ} {size otherwise : ℕ} → Keys kinds keys indices size otherwise
    → key_index rule table kinds keys indices size otherwise (entry (utf8 text)) ≤ otherwise
text_below rule table text {kinds} {keys} {indices} {size} {otherwise} t =
    found_below (λ k. same_key (entry (utf8 text)) (meaning rule table (value_at kinds keys k))) (λ k. get_or indices k 0) otherwise size 0 (λ i l. t.below i (omega arith))

-- the rows by the fields of a map of its own
pub numbers_alike : {validity column numbers indices indices' w values : List ℕ} {size size' otherwise behind n : ℕ} → indices' ≡ indices → size' ≡ size → behind ≡ otherwise
    → RowsIndexed (NumberRow validity column numbers indices' size' behind) w 0 n values → RowsIndexed (NumberRow validity column numbers indices size otherwise) w 0 n values
numbers_alike {validity} {column} {numbers} {indices} {indices'} {w} {values} {size} {size'} {otherwise} {behind} {n} a b e s =
    subst (λ (x : ℕ). RowsIndexed (NumberRow validity column numbers indices size x) w 0 n values) e
    (subst (λ (x : ℕ). RowsIndexed (NumberRow validity column numbers indices x behind) w 0 n values) b
    (subst (λ (x : List ℕ). RowsIndexed (NumberRow validity column numbers x size' behind) w 0 n values) a s))

pub texts_alike : {rule rule' table table' validity offsets texts w values : List ℕ} {m m' : WhenLiteralIndexMap} {n : ℕ} → rule' ≡ rule → table' ≡ table → m' ≡ m
    → RowsIndexed (TextRow rule' table' validity offsets texts m'.kinds m'.keys m'.indices m'.size m'.else_index) w 0 n values
    → RowsIndexed (TextRow rule table validity offsets texts m.kinds m.keys m.indices m.size m.else_index) w 0 n values
texts_alike {rule} {rule'} {table} {table'} {validity} {offsets} {texts} {w} {values} {m} {m'} {n} a b e s =
    subst (λ (x : WhenLiteralIndexMap). RowsIndexed (TextRow rule table validity offsets texts x.kinds x.keys x.indices x.size x.else_index) w 0 n values) e
    (subst (λ (x : List ℕ). RowsIndexed (TextRow rule x validity offsets texts m'.kinds m'.keys m'.indices m'.size m'.else_index) w 0 n values) b
    (subst (λ (x : List ℕ). RowsIndexed (TextRow x table' validity offsets texts m'.kinds m'.keys m'.indices m'.size m'.else_index) w 0 n values) a s))

-- ---- a column

module _ {table : List ℕ} {place : ColumnPlace} {kinds keys indices : List ℕ} {size otherwise : ℕ} {w : List ℕ} {n : ℕ} where
  pub column_refused : {values : List ℕ} → (rule : List ℕ) → ColumnKeyed table place kinds keys indices size otherwise w n rule false values
  column_refused rule = record { each = λ h. absurd (false≢true h) }

  pub numbers_keyed : {rows code : ℕ} {entries validity numbers hints column values : List ℕ} → code ≡ type_number place.data_type → type_number place.data_type ≤ 4 → Rows w 0 n rows
      → NumbersRead kinds keys size code numbers hints → entries ≡ (column_in table place).values → KeysAt place.data_type entries rows column
      → validity ≡ (column_in table place).validity → RowsIndexed (NumberRow validity column numbers indices size otherwise) w 0 n values
      → (rule : List ℕ) → ColumnKeyed table place kinds keys indices size otherwise w n rule true values
  unfolding entry_at
  numbers_keyed {rows} {code} {entries} {validity} {numbers} {hints} {column} {values} code_is small listed r entries-is xs validity_is s rule = record {
    each = λ h q l. (s.each q l).is ∙ ap (λ (y : ℕ). y / 2 + 1) (go q (subst (λ (y : ℕ). y < rows) l.2 (listed.below l.0 l.1)));
  }
    where
      value : ℕ → Entry
      value q = columns.value_at place.data_type (column_in table place).offsets (column_in table place).values q

      numbered : (q : ℕ) → q < rows → Numbered code (get_or column q 0) (value q)
      numbered q h =
          subst (λ (y : ℕ). Numbered y (get_or column q 0) (value q)) (sym code_is)
          ((subst (λ (y : List ℕ). KeyAt place.data_type y q (get_or column q 0)) entries-is (xs.each q h)).is small (column_in table place).offsets)

      by : (q : ℕ) → q < rows → (b : Bool) → cond b (number_found numbers indices size otherwise (get_or column q 0)) otherwise ≡ key_index rule table kinds keys indices size otherwise (entry (cond b (value q) null))
      by q h true = found_same otherwise size 0 (λ k l. same_numbers rule table (value_at kinds keys k) (value q) (numbered q h) (r.each k (omega arith))) (λ k l. refl)
      by q h false = sym (found_none (λ k. same_key (entry null) (meaning rule table (value_at kinds keys k))) (λ k. get_or indices k 0) otherwise size 0 (λ i. null_first (meaning rule table (value_at kinds keys i))))

      go : (q : ℕ) → q < rows → cond (valid_in validity q) (number_found numbers indices size otherwise (get_or column q 0)) otherwise ≡ key_index rule table kinds keys indices size otherwise (entry (entry_at (column_in table place) q))
      go q h =
          by q h (valid_in validity q)
          ∙ ap (λ (y : List ℕ). key_index rule table kinds keys indices size otherwise (entry (cond (valid_in y q) (value q) null))) validity_is

  pub texts_keyed : {rule validity offsets texts values : List ℕ} → type_number place.data_type ≡ 5 → validity ≡ (column_in table place).validity → offsets ≡ (column_in table place).offsets
      → texts ≡ (column_in table place).values → RowsIndexed (TextRow rule table validity offsets texts kinds keys indices size otherwise) w 0 n values
      → ColumnKeyed table place kinds keys indices size otherwise w n rule true values
  unfolding entry_at
  texts_keyed {rule} {validity} {offsets} {texts} {values} code_is validity_is offsets_is texts-is s = record {
    each = λ h q l. (s.each q l).is ∙ ap (λ (y : Entry). key_index rule table kinds keys indices size otherwise (entry y) / 2 + 1) (go q);
  }
    where
      go : (q : ℕ) → text_entry validity offsets texts q ≡ entry_at (column_in table place) q
      go q =
          ap (λ (y : List ℕ). cond (valid_in y q) (columns.value_at Of.Utf8 offsets texts q) null) validity_is
          ∙ ap₂ (λ (y z : List ℕ). cond (valid_in (column_in table place).validity q) (columns.value_at Of.Utf8 y z q) null) offsets_is texts-is
          ∙ ap (λ (d : DataType). cond (valid_in (column_in table place).validity q) (columns.value_at d (column_in table place).offsets (column_in table place).values q) null) (sym (is_utf8 place.data_type code_is))
        where
          is_utf8 : (d : DataType) → type_number d ≡ 5 → d ≡ Of.Utf8
          is_utf8 Of.Boolean e = absurd (omega arith)
          is_utf8 Of.Int32 e = absurd (omega arith)
          is_utf8 Of.Int64 e = absurd (omega arith)
          is_utf8 Of.Float64 e = absurd (omega arith)
          is_utf8 Of.Utf8 e = refl

-- the number of a type, of any but text
pub number_type_lem : (d : DataType) → (d ≡ Of.Utf8 → ⊥) → type_number d ≤ 4
number_type_lem Of.Boolean h = omega arith
number_type_lem Of.Int32 h = omega arith
number_type_lem Of.Int64 h = omega arith
number_type_lem Of.Float64 h = omega arith
number_type_lem Of.Utf8 h = absurd (h refl)

-- ---- in a table

module _ {rule : List ℕ} {at end : ℕ} {table : List ℕ} {t : Table} {count : ℕ} {w : List ℕ} {n : ℕ} where
  pub keyed_refused : {values : List ℕ} → KeyedGive rule at end table t count w n false values
  keyed_refused = record { each = λ h. absurd (false≢true h) }

  pub keyed_gives : {tag c first : ℕ} {p : ColumnPlace} {served : Bool} {values : List ℕ} → tag ≡ byte rule at → tag ≡ 16 → c ≡ byte rule (at + 3)
      → Some p ≡ column_of t c → EndGives rule at first → BaseGives rule first end table p count w n served values → KeyedGive rule at end table t count w n served values
  unfolding eval
  keyed_gives {tag} {c} {first} {p} {served} {values} tag_is column_tag index there ends g = record {
    each = λ h q l.
        let x = g.each h q l in
        record {
          some = x.some;
          few = x.few;
          is = λ e bs els depth other trees counted serves.
              let (node, rest) = first_tree ends trees in
              ap (λ (o : Outcome). with_base o (λ test. eval_branches bs (row_in table t q) test other) other) (base_is q e node (node_of_tag node (sym tag_is ∙ column_tag)))
              ∙ x.is bs els depth (row_in table t q) other rest counted serves;
        };
  }
    where
      base_is : {depth : ℕ} (q : ℕ) (e : Expr) → NodeAt rule at first e depth → Tagged 16 e → eval e (row_in table t q) ≡ entry (entry_at (column_in table p) q)
      base_is q e node (of_column x) = ap (row_in table t q) (sym (index ∙ node_byte 0 (at + 3) node (omega arith) (omega arith))) ∙ cell_found table t c there q
