-- Lookup tables: a search for the first that is the same, equal keys, and a table that has each base at the index of the first WHEN that equals it.
-- Assumes nothing.
use Rattle.std.proofs.Common.{◌≡◌, ℕ, zero, suc, ◌+◌, ◌-◌, ◌*◌, ◌/◌, ◌%◌, ◌^◌, ◌<◌, ◌≤◌, Bool, true, false, cond, ◌&&◌, eqb, List, [], ◌∷◌, get_or, set, sym, refl, ap, ◌∙◌, subst, ap₂, add-zero, add-suc, suc-add, add-one, arith, length-set, get_or-set_other, get_or-set_same, eq-eqb, ne_eqb, eqb-true}
use native.Mathlib.Nat.{sub-zero}
use native.Mathlib.Decide.{ℕ_discrete}
use lib.Ieee.{binary64, nan_bits, of_bits}
use types.Run.{OneOf, hit, miss}
use denote.Enum.Declared.{tag_of}
use Rattle.scalar.specs.declared.value.Value.{Value}
use Rattle.scalar.specs.declared.value.Value.TheVariants.{Null, Boolean, Int32, Int64, Float64, Nan, RuleText, TableText, Failed}
use Rattle.scalar.specs.contracts.value.Value.{the_type}
use Rattle.scalar.specs.Entry.{null, boolean, int32, int64, float64, utf8, Outcome, entry, unfit, is_true_entry}
use Rattle.scalar.specs.Pair.{Pair, both_null, one_null, unlike, booleans, int32s, int64s, float64s, texts, pair_of, agree_pair}
use Rattle.scalar.specs.Compare.{equal_pair}
use Rattle.scalar.specs.Text.{same_bytes}
use Rattle.scalar.specs.Value.{meaning, value_of, kind_of, payload_of, place_text, Storable}
use Rattle.scalar.proofs.ValueLaws.{payload_back}
use Rattle.scalar.proofs.EntryLaws.{agree_eq}
use Rattle.case.specs.declared.boolean_lookup_table.BooleanIndexMap.{BooleanIndexMap}
use Rattle.case.specs.LookUpBooleans.{BooleansOf}
use Rattle.case.specs.LookUpTables.{same_key, found, value_at, key_index, when_index, base_index, number_index, Keys, EachOnce, TableOf, Added}

-- ---- a search

-- where a search stands: what is left gives the answer
pub record Searching (same : ℕ → Bool) (index : ℕ → ℕ) (n otherwise k : ℕ) : Type 0 where
  pub few : k ≤ n
  pub left : found same index 0 n otherwise ≡ found same index k (n - k) otherwise

pub search_starts : {same : ℕ → Bool} {index : ℕ → ℕ} {n otherwise : ℕ} → Searching same index n otherwise 0
search_starts {same} {index} {n} {otherwise} = record { few = omega arith; left = ap (λ (m : ℕ). found same index 0 m otherwise) (sym (sub-zero n)) }

module _ {same : ℕ → Bool} {index : ℕ → ℕ} {n otherwise k : ℕ} (s : Searching same index n otherwise k) where
  one_left : k < n → found same index k (n - k) otherwise ≡ cond (same k) (index k) (found same index (k + 1) (n - (k + 1)) otherwise)
  unfolding found
  one_left h = let e : n - k ≡ suc (n - (k + 1)) = omega arith in rw (e, add-one) refl

  pub search_misses : k < n → same k ≡ false → Searching same index n otherwise (k + 1)
  search_misses h p = record { few = omega arith; left = s.left ∙ one_left h ∙ ap (λ (x : Bool). cond x (index k) (found same index (k + 1) (n - (k + 1)) otherwise)) p }

  pub search_hits : k < n → same k ≡ true → index k ≡ found same index 0 n otherwise
  search_hits h p = sym (s.left ∙ one_left h ∙ ap (λ (x : Bool). cond x (index k) (found same index (k + 1) (n - (k + 1)) otherwise)) p)

  pub search_ends : n ≤ k → otherwise ≡ found same index 0 n otherwise
  unfolding found
  search_ends h = let e : n - k ≡ 0 = omega arith in sym (s.left ∙ ap (λ (m : ℕ). found same index k m otherwise) e)

-- one more at the end: where nothing was found yet
found_snoc : (same : ℕ → Bool) (index : ℕ → ℕ) (otherwise n k : ℕ) → ((i : ℕ) → i < k + n → index i ≡ otherwise → ⊥)
    → found same index k (suc n) otherwise ≡ cond (eqb (found same index k n otherwise) otherwise) (cond (same (k + n)) (index (k + n)) otherwise) (found same index k n otherwise)
unfolding found
found_snoc same index otherwise zero k differ = rw (eq-eqb otherwise otherwise refl, add-zero k) refl
found_snoc same index otherwise (suc n) k differ = go (same k) refl (found_snoc same index otherwise n (suc k) (λ i h. differ i (omega arith)))
  where
    next : k + suc n ≡ suc k + n
    next = add-suc k n ∙ sym (suc-add k n)

    go : (t : Bool) → same k ≡ t
        → found same index (suc k) (suc n) otherwise ≡ cond (eqb (found same index (suc k) n otherwise) otherwise) (cond (same (suc k + n)) (index (suc k + n)) otherwise) (found same index (suc k) n otherwise)
        → found same index k (suc (suc n)) otherwise
        ≡ cond (eqb (found same index k (suc n) otherwise) otherwise) (cond (same (k + suc n)) (index (k + suc n)) otherwise) (found same index k (suc n) otherwise)
    go true p later = rw (p, ne_eqb (index k) otherwise (differ k (omega arith))) refl
    go false p later = rw (p, next) later

found_more : (same : ℕ → Bool) (index : ℕ → ℕ) (otherwise n : ℕ) → ((i : ℕ) → i < n → index i ≡ otherwise → ⊥)
    → found same index 0 (n + 1) otherwise ≡ cond (eqb (found same index 0 n otherwise) otherwise) (cond (same n) (index n) otherwise) (found same index 0 n otherwise)
found_more same index otherwise n differ =
    let z : 0 + n ≡ n = omega arith in
    ap (λ (m : ℕ). found same index 0 m otherwise) (add-one n)
    ∙ found_snoc same index otherwise n 0 (λ i h. differ i (omega arith))
    ∙ ap (λ (m : ℕ). cond (eqb (found same index 0 n otherwise) otherwise) (cond (same m) (index m) otherwise) (found same index 0 n otherwise)) z

-- a search goes by what it passes alone
pub found_same : {same same' : ℕ → Bool} {index index' : ℕ → ℕ} (otherwise n k : ℕ) → ((i : ℕ) → i < k + n → same i ≡ same' i) → ((i : ℕ) → i < k + n → index i ≡ index' i)
    → found same index k n otherwise ≡ found same' index' k n otherwise
unfolding found
found_same otherwise zero k p q = refl
found_same {same} {same'} {index} {index'} otherwise (suc n) k p q =
    rw (p k (omega arith), q k (omega arith))
    (ap (λ (x : ℕ). cond (same' k) (index' k) x) (found_same otherwise n (suc k) (λ i h. p i (omega arith)) (λ i h. q i (omega arith))))

-- where none is the same
pub found_none : (same : ℕ → Bool) (index : ℕ → ℕ) (otherwise n k : ℕ) → ((i : ℕ) → same i ≡ false) → found same index k n otherwise ≡ otherwise
unfolding found
found_none same index otherwise zero k p = refl
found_none same index otherwise (suc n) k p = rw (p k) (found_none same index otherwise n (suc k) p)

-- where nothing is found, none is the same
found_nothing : (same : ℕ → Bool) (index : ℕ → ℕ) (otherwise n k : ℕ) → ((i : ℕ) → i < k + n → index i ≡ otherwise → ⊥) → found same index k n otherwise ≡ otherwise
    → (i : ℕ) → k ≤ i → i < k + n → same i ≡ false
unfolding found
found_nothing same index otherwise zero k differ p i a b = absurd (omega arith)
found_nothing same index otherwise (suc n) k differ p i a b =
    go (same k) refl (ℕ_discrete i k) (λ q c. found_nothing same index otherwise n (suc k) (λ j h. differ j (omega arith)) q i c (omega arith))
  where
    go : (t : Bool) → same k ≡ t → Dec (i ≡ k) → (found same index (suc k) n otherwise ≡ otherwise → suc k ≤ i → same i ≡ false) → same i ≡ false
    go true e d later = absurd (differ k (omega arith) (sym (ap (λ (x : Bool). cond x (index k) (found same index (suc k) n otherwise)) e) ∙ p))
    go false e (yes d) later = ap same d ∙ e
    go false e (no d) later = later (sym (ap (λ (x : Bool). cond x (index k) (found same index (suc k) n otherwise)) e) ∙ p) (omega arith)

-- what is found is no more than the ELSE index
pub found_below : (same : ℕ → Bool) (index : ℕ → ℕ) (otherwise n k : ℕ) → ((i : ℕ) → i < k + n → index i < otherwise) → found same index k n otherwise ≤ otherwise
unfolding found
found_below same index otherwise zero k h = omega arith
found_below same index otherwise (suc n) k h = go (same k) (found_below same index otherwise n (suc k) (λ i p. h i (omega arith)))
  where
    go : (t : Bool) → found same index (suc k) n otherwise ≤ otherwise → cond t (index k) (found same index (suc k) n otherwise) ≤ otherwise
    go true later = omega (arith, h k (omega arith))
    go false later = later

-- ---- equal keys

-- nothing both holds and fails
pub never : {A : Type 0} → false ≡ true → A
never p = let z : ◌≡◌ {A = ℕ} 0 1 = cc in absurd (omega arith)

true_agrees : (p : Pair) → is_true_entry (equal_pair p) ≡ true → agree_pair p ≡ true
true_agrees both_null e = refl
true_agrees one_null e = e
true_agrees unlike e = e
true_agrees (booleans x y) e = e
true_agrees (int32s x y) e = e
true_agrees (int64s x y) e = e
true_agrees (float64s x y) e = e
true_agrees (texts x y) e = e

-- equal keys are one
pub same_one : (a b : Outcome) → same_key a b ≡ true → a ≡ b
same_one (entry a) (entry b) p = ap entry (agree_eq a b (true_agrees (pair_of a b) p))
same_one (entry a) unfit p = never p
same_one unfit (entry b) p = never p
same_one unfit unfit p = never p

-- null is no key, and equals none
pub null_first : (b : Outcome) → same_key (entry null) b ≡ false
unfolding pair_of
null_first (entry null) = refl
null_first (entry (boolean y)) = refl
null_first (entry (int32 y)) = refl
null_first (entry (int64 y)) = refl
null_first (entry (float64 y)) = refl
null_first (entry (utf8 y)) = refl
null_first unfit = refl

null_second : (b : Outcome) → same_key b (entry null) ≡ false
unfolding pair_of
null_second (entry null) = refl
null_second (entry (boolean y)) = refl
null_second (entry (int32 y)) = refl
null_second (entry (int64 y)) = refl
null_second (entry (float64 y)) = refl
null_second (entry (utf8 y)) = refl
null_second unfit = refl

failed_second : (b : Outcome) → same_key b unfit ≡ false
failed_second (entry e) = refl
failed_second unfit = refl

-- ---- text keys

-- a key's test, by its kind and payload
module _ (rule table text : List ℕ) (k p : ℕ) where
  pub text_in_rule : {r : Bool} → k ≡ 5 → r ≡ same_bytes text (place_text rule (p % 2 ^ 32) (p / 2 ^ 32)) → r ≡ same_key (entry (utf8 text)) (meaning rule table (value_of k p))
  unfolding pair_of value_of
  text_in_rule e q = q ∙ sym (ap (λ (x : ℕ). same_key (entry (utf8 text)) (meaning rule table (value_of x p))) e)

  pub text_in_table : {r : Bool} → k ≡ 6 → r ≡ same_bytes text (place_text table (p % 2 ^ 32) (p / 2 ^ 32)) → r ≡ same_key (entry (utf8 text)) (meaning rule table (value_of k p))
  unfolding pair_of value_of
  text_in_table e q = q ∙ sym (ap (λ (x : ℕ). same_key (entry (utf8 text)) (meaning rule table (value_of x p))) e)

pub text_nowhere : (rule table text : List ℕ) (k p : ℕ) → (k ≡ 5 → ⊥) → (k ≡ 6 → ⊥) → false ≡ same_key (entry (utf8 text)) (meaning rule table (value_of k p))
unfolding pair_of value_of
text_nowhere rule table text zero p a b = refl
text_nowhere rule table text (suc zero) p a b = refl
text_nowhere rule table text (suc (suc zero)) p a b = refl
text_nowhere rule table text (suc (suc (suc zero))) p a b = refl
text_nowhere rule table text (suc (suc (suc (suc zero)))) p a b = either (nan_bits binary64 p)
  where
    either : (n : Bool) → false ≡ same_key (entry (utf8 text)) (meaning rule table (cond n (Nan p) (Float64 (of_bits binary64 p))))
    either true = refl
    either false = refl
text_nowhere rule table text (suc (suc (suc (suc (suc zero))))) p a b = absurd (a refl)
text_nowhere rule table text (suc (suc (suc (suc (suc (suc zero)))))) p a b = absurd (b refl)
text_nowhere rule table text (suc (suc (suc (suc (suc (suc (suc k))))))) p a b = refl

-- ---- number keys

-- the rest of a `match` that tells null, texts and failures
abbrev pub Number : Value → Type 0
Number v = OneOf (1 ∷ 2 ∷ 3 ∷ 4 ∷ 5 ∷ []) (tag_of the_type v)

flags_same : (x y : Bool) → same_key (entry (boolean x)) (entry (boolean y)) ≡ eqb (payload_of (Boolean x)) (payload_of (Boolean y))
unfolding pair_of
flags_same true true = refl
flags_same true false = refl
flags_same false true = refl
flags_same false false = refl

abbrev NumberSame : List ℕ → List ℕ → Value → Value → Type 0
NumberSame rule table v k = same_key (meaning rule table v) (meaning rule table k) ≡ (eqb (kind_of v) (kind_of k) && eqb (payload_of v) (payload_of k))

-- a number equals a key just where kind and payload are the same
number_same : (rule table : List ℕ) (v : Value) → Number v → (k : Value) → same_key (meaning rule table v) (meaning rule table k) ≡ (eqb (kind_of v) (kind_of k) && eqb (payload_of v) (payload_of k))
unfolding pair_of
number_same rule table (Boolean b) h k =
    elim k as (NumberSame rule table (Boolean b)) [ Null ↦ refl | Boolean y ↦ flags_same b y | Int32 y ↦ refl | Int64 y ↦ refl | Float64 y ↦ refl | Nan y ↦ refl | RuleText s n ↦ refl | TableText s n ↦ refl | Failed ↦ refl ]
number_same rule table (Int32 x) h k =
    elim k as (NumberSame rule table (Int32 x)) [ Null ↦ refl | Boolean y ↦ refl | Int32 y ↦ refl | Int64 y ↦ refl | Float64 y ↦ refl | Nan y ↦ refl | RuleText s n ↦ refl | TableText s n ↦ refl | Failed ↦ refl ]
number_same rule table (Int64 x) h k =
    elim k as (NumberSame rule table (Int64 x)) [ Null ↦ refl | Boolean y ↦ refl | Int32 y ↦ refl | Int64 y ↦ refl | Float64 y ↦ refl | Nan y ↦ refl | RuleText s n ↦ refl | TableText s n ↦ refl | Failed ↦ refl ]
number_same rule table (Float64 x) h k =
    elim k as (NumberSame rule table (Float64 x)) [ Null ↦ refl | Boolean y ↦ refl | Int32 y ↦ refl | Int64 y ↦ refl | Float64 y ↦ refl | Nan y ↦ refl | RuleText s n ↦ refl | TableText s n ↦ refl | Failed ↦ refl ]
number_same rule table (Nan x) h k =
    elim k as (NumberSame rule table (Nan x)) [ Null ↦ refl | Boolean y ↦ refl | Int32 y ↦ refl | Int64 y ↦ refl | Float64 y ↦ refl | Nan y ↦ refl | RuleText s n ↦ refl | TableText s n ↦ refl | Failed ↦ refl ]
number_same rule table Null h k = absurd (miss (1 ∷ 2 ∷ 3 ∷ 4 ∷ 5 ∷ []) 0 tt h)
number_same rule table (RuleText s n) h k = absurd (miss (1 ∷ 2 ∷ 3 ∷ 4 ∷ 5 ∷ []) 6 tt h)
number_same rule table (TableText s n) h k = absurd (miss (1 ∷ 2 ∷ 3 ∷ 4 ∷ 5 ∷ []) 7 tt h)
number_same rule table Failed h k = absurd (miss (1 ∷ 2 ∷ 3 ∷ 4 ∷ 5 ∷ []) 8 tt h)

number_entry : (rule table : List ℕ) (v : Value) → Number v → (search : Outcome → ℕ) (otherwise : ℕ) → search (meaning rule table v) ≡ base_index search otherwise (meaning rule table v)
number_entry rule table Null h search otherwise = refl
number_entry rule table (Boolean b) h search otherwise = refl
number_entry rule table (Int32 n) h search otherwise = refl
number_entry rule table (Int64 n) h search otherwise = refl
number_entry rule table (Float64 f) h search otherwise = refl
number_entry rule table (Nan n) h search otherwise = refl
number_entry rule table (RuleText s n) h search otherwise = refl
number_entry rule table (TableText s n) h search otherwise = refl
number_entry rule table Failed h search otherwise = absurd (miss (1 ∷ 2 ∷ 3 ∷ 4 ∷ 5 ∷ []) 8 tt h)

-- the tests of one key
pub kind_differs : (a b : Bool) → a ≡ false → (a && b) ≡ false
kind_differs true b p = never (sym p)
kind_differs false b p = refl

pub payload_differs : (a b : Bool) → b ≡ false → (a && b) ≡ false
payload_differs true b p = p
payload_differs false b p = refl

-- ---- the index of a value

module _ (rule table : List ℕ) {kinds keys indices : List ℕ} {size otherwise : ℕ} (t : Keys kinds keys indices size otherwise) where
  pub null_index : {v : Value} → v ≡ Null → otherwise ≡ base_index (key_index rule table kinds keys indices size otherwise) otherwise (meaning rule table v)
  null_index {v} e =
      sym (found_none (λ k. same_key (entry null) (meaning rule table (value_at kinds keys k))) (λ k. get_or indices k 0) otherwise size 0 (λ i. null_first (meaning rule table (value_at kinds keys i))))
      ∙ sym (ap (λ (x : Value). base_index (key_index rule table kinds keys indices size otherwise) otherwise (meaning rule table x)) e)

  pub rule_text_index : {v : Value} {start length r : ℕ} {text : List ℕ} → v ≡ RuleText start length → text ≡ place_text rule start length
      → r ≡ key_index rule table kinds keys indices size otherwise (entry (utf8 text)) → r ≡ base_index (key_index rule table kinds keys indices size otherwise) otherwise (meaning rule table v)
  rule_text_index {v} e q p =
      p
      ∙ ap (λ (x : List ℕ). key_index rule table kinds keys indices size otherwise (entry (utf8 x))) q
      ∙ sym (ap (λ (x : Value). base_index (key_index rule table kinds keys indices size otherwise) otherwise (meaning rule table x)) e)

  pub table_text_index : {v : Value} {start length r : ℕ} {text : List ℕ} → v ≡ TableText start length → text ≡ place_text table start length
      → r ≡ key_index rule table kinds keys indices size otherwise (entry (utf8 text)) → r ≡ base_index (key_index rule table kinds keys indices size otherwise) otherwise (meaning rule table v)
  table_text_index {v} e q p =
      p
      ∙ ap (λ (x : List ℕ). key_index rule table kinds keys indices size otherwise (entry (utf8 x))) q
      ∙ sym (ap (λ (x : Value). base_index (key_index rule table kinds keys indices size otherwise) otherwise (meaning rule table x)) e)

  pub failed_index : {v : Value} → v ≡ Failed → otherwise + 1 ≡ base_index (key_index rule table kinds keys indices size otherwise) otherwise (meaning rule table v)
  failed_index e = sym (ap (λ (x : Value). base_index (key_index rule table kinds keys indices size otherwise) otherwise (meaning rule table x)) e)

  pub number_index_lem : (v : Value) {kind payload r : ℕ} → Number v → kind ≡ kind_of v → payload ≡ payload_of v → r ≡ number_index kinds keys indices size otherwise kind payload
      → r ≡ base_index (key_index rule table kinds keys indices size otherwise) otherwise (meaning rule table v)
  number_index_lem v {kind} {payload} h a b p =
      p
      ∙ found_same otherwise size 0 (λ i l. ap₂ ◌&&◌ (ap₂ eqb a (sym (t.kind_is i (omega arith)))) (ap₂ eqb b (sym (t.payload_is i (omega arith)))) ∙ sym (number_same rule table v h (value_at kinds keys i))) (λ i l. refl)
      ∙ number_entry rule table v h (key_index rule table kinds keys indices size otherwise) otherwise

  -- each number by its own table
  told_index : {v : Value} (w : Value) {r : ℕ} → v ≡ w → Number w → r ≡ number_index kinds keys indices size otherwise (kind_of w) (payload_of w)
      → r ≡ base_index (key_index rule table kinds keys indices size otherwise) otherwise (meaning rule table v)
  told_index w e h p =
      number_index_lem w h refl refl p ∙ sym (ap (λ (x : Value). base_index (key_index rule table kinds keys indices size otherwise) otherwise (meaning rule table x)) e)

  pub boolean_index : {v : Value} {b : Bool} {m : BooleanIndexMap} {r : ℕ} → v ≡ Boolean b → BooleansOf kinds keys indices size otherwise m → r ≡ cond b m.true_index m.false_index
      → r ≡ base_index (key_index rule table kinds keys indices size otherwise) otherwise (meaning rule table v)
  boolean_index {b = b} {m} {r} e both p = told_index (Boolean b) e (hit (1 ∷ 2 ∷ 3 ∷ 4 ∷ 5 ∷ []) 1 tt) (p ∙ go b)
    where
      go : (x : Bool) → cond x m.true_index m.false_index ≡ number_index kinds keys indices size otherwise 1 (payload_of (Boolean x))
      go true = both.of_true
      go false = both.of_false

  -- an index lies in the arrays of the literals
  pub index_below : {r : ℕ} (v : Value) → r ≡ base_index (key_index rule table kinds keys indices size otherwise) otherwise (meaning rule table v) → otherwise < 65 → r < 66
  index_below {r} v p h = go (meaning rule table v) p
    where
      go : (o : Outcome) → r ≡ base_index (key_index rule table kinds keys indices size otherwise) otherwise o → r < 66
      go (entry e) q = omega (arith, found_below (λ k. same_key (entry e) (meaning rule table (value_at kinds keys k))) (λ k. get_or indices k 0) otherwise size 0 (λ i l. t.below i (omega arith)))
      go unfit q = omega arith

-- ---- a key more

-- a table with no key
pub no_keys : {kinds keys indices : List ℕ} {of : ℕ} (otherwise : ℕ) → Keys kinds keys indices 0 of → Keys kinds keys indices 0 otherwise
no_keys otherwise t = record {
  kinds_long = t.kinds_long;
  keys_long = t.keys_long;
  indices_long = t.indices_long;
  few = t.few;
  kind_is = λ k h. absurd (omega arith);
  payload_is = λ k h. absurd (omega arith);
  below = λ k h. absurd (omega arith);
}

module _ (rule table : List ℕ) {v : Value} {index otherwise : ℕ} {kinds keys indices : List ℕ} {size : ℕ} (t : Keys kinds keys indices size otherwise)
    (once : EachOnce rule table kinds keys size) where
  -- a key that no base without an index equals changes nothing
  dropped : ((b : Outcome) → key_index rule table kinds keys indices size otherwise b ≡ otherwise → same_key b (meaning rule table v) ≡ false)
      → Added rule table v index otherwise kinds keys indices size kinds keys indices size
  dropped none = record { arrays = t; each_once = once; one_more = omega arith; right = λ b. go b (eqb (key_index rule table kinds keys indices size otherwise b) otherwise) refl }
    where
      go : (b : Outcome) (x : Bool) → eqb (key_index rule table kinds keys indices size otherwise b) otherwise ≡ x
          → key_index rule table kinds keys indices size otherwise b ≡ cond x (cond (same_key b (meaning rule table v)) index otherwise) (key_index rule table kinds keys indices size otherwise b)
      go b true p =
          let same : key_index rule table kinds keys indices size otherwise b ≡ otherwise = eqb-true _ _ p in
          same ∙ sym (ap (λ (y : Bool). cond y index otherwise) (none b same))
      go b false p = refl

  -- null WHENs are dropped
  pub null_dropped : {k : ℕ} → k ≡ kind_of v → k ≡ 0 → Added rule table v index otherwise kinds keys indices size kinds keys indices size
  null_dropped a b = dropped (λ o p. ap (same_key o) (null_means v (sym a ∙ b)) ∙ null_second o)
    where
      null_means : (x : Value) → kind_of x ≡ 0 → meaning rule table x ≡ entry null
      null_means Null e = refl
      null_means (Boolean b) e = absurd (omega arith)
      null_means (Int32 n) e = absurd (omega arith)
      null_means (Int64 n) e = absurd (omega arith)
      null_means (Float64 f) e = absurd (omega arith)
      null_means (Nan n) e = absurd (omega arith)
      null_means (RuleText s n) e = absurd (omega arith)
      null_means (TableText s n) e = absurd (omega arith)
      null_means Failed e = absurd (omega arith)

  -- the first of equal keys is kept
  pub equal_dropped : {known : ℕ} → known ≡ base_index (key_index rule table kinds keys indices size otherwise) otherwise (meaning rule table v) → (known ≡ otherwise → ⊥)
      → Added rule table v index otherwise kinds keys indices size kinds keys indices size
  equal_dropped {known} p differ = dropped (λ o q. go o (meaning rule table v) p q (same_key o (meaning rule table v)) refl)
    where
      go : (o m : Outcome) → known ≡ base_index (key_index rule table kinds keys indices size otherwise) otherwise m → key_index rule table kinds keys indices size otherwise o ≡ otherwise
          → (x : Bool) → same_key o m ≡ x → x ≡ false
      go o (entry e) i q true s = absurd (differ (i ∙ ap (key_index rule table kinds keys indices size otherwise) (sym (same_one o (entry e) s)) ∙ q))
      go o unfit i q true s = never (sym (failed_second o) ∙ s)
      go o m i q false s = refl

  -- any other is added
  pub key_added : {kind payload nulled known : ℕ} → size < 32 → index < otherwise → Storable v → nulled ≡ kind_of v → (nulled ≡ 0 → ⊥)
      → known ≡ base_index (key_index rule table kinds keys indices size otherwise) otherwise (meaning rule table v) → known ≡ otherwise → kind ≡ kind_of v → payload ≡ payload_of v
      → Added rule table v index otherwise kinds keys indices size (set kinds size kind) (set keys size payload) (set indices size index) (size + 1)
  key_added {kind} {payload} {nulled} {known} room small stores kinded not_null searched unknown a b = record {
    arrays = record {
      kinds_long = length-set kinds size kind ∙ t.kinds_long;
      keys_long = length-set keys size payload ∙ t.keys_long;
      indices_long = length-set indices size index ∙ t.indices_long;
      few = omega arith;
      kind_is = λ k h. kind_at k h (ℕ_discrete k size);
      payload_is = λ k h. payload_at k h (ℕ_discrete k size);
      below = λ k h. below_at k h (ℕ_discrete k size);
    };
    each_once = record {
      no_null_lem = λ k h. some_at k h (ℕ_discrete k size);
      unlike = λ j k l h. unlike_at j k l h (ℕ_discrete k size);
    };
    one_more = omega arith;
    right = λ o. added_at o;
  }
    where
      kinds' : List ℕ
      kinds' = set kinds size kind

      keys' : List ℕ
      keys' = set keys size payload

      indices' : List ℕ
      indices' = set indices size index

      kind_new : get_or kinds' size 0 ≡ kind_of v
      kind_new = get_or-set_same kinds size kind 0 (omega (arith, t.kinds_long)) ∙ a

      payload_new : get_or keys' size 0 ≡ payload_of v
      payload_new = get_or-set_same keys size payload 0 (omega (arith, t.keys_long)) ∙ b

      index_new : get_or indices' size 0 ≡ index
      index_new = get_or-set_same indices size index 0 (omega (arith, t.indices_long))

      value_new : value_at kinds' keys' size ≡ v
      value_new = ap₂ value_of kind_new payload_new ∙ payload_back v stores

      kind_old : (k : ℕ) → (k ≡ size → ⊥) → get_or kinds' k 0 ≡ get_or kinds k 0
      kind_old k n = get_or-set_other kinds size k kind 0 n

      payload_old : (k : ℕ) → (k ≡ size → ⊥) → get_or keys' k 0 ≡ get_or keys k 0
      payload_old k n = get_or-set_other keys size k payload 0 n

      index_old : (k : ℕ) → (k ≡ size → ⊥) → get_or indices' k 0 ≡ get_or indices k 0
      index_old k n = get_or-set_other indices size k index 0 n

      value_old : (k : ℕ) → (k ≡ size → ⊥) → value_at kinds' keys' k ≡ value_at kinds keys k
      value_old k n = ap₂ value_of (kind_old k n) (payload_old k n)

      kind_at : (k : ℕ) → k < size + 1 → Dec (k ≡ size) → kind_of (value_at kinds' keys' k) ≡ get_or kinds' k 0
      kind_at k h (yes e) = subst (λ (x : ℕ). kind_of (value_at kinds' keys' x) ≡ get_or kinds' x 0) (sym e) (ap kind_of value_new ∙ sym kind_new)
      kind_at k h (no e) = ap kind_of (value_old k e) ∙ t.kind_is k (omega arith) ∙ sym (kind_old k e)

      payload_at : (k : ℕ) → k < size + 1 → Dec (k ≡ size) → payload_of (value_at kinds' keys' k) ≡ get_or keys' k 0
      payload_at k h (yes e) = subst (λ (x : ℕ). payload_of (value_at kinds' keys' x) ≡ get_or keys' x 0) (sym e) (ap payload_of value_new ∙ sym payload_new)
      payload_at k h (no e) = ap payload_of (value_old k e) ∙ t.payload_is k (omega arith) ∙ sym (payload_old k e)

      below_at : (k : ℕ) → k < size + 1 → Dec (k ≡ size) → get_or indices' k 0 < otherwise
      below_at k h (yes e) = subst (λ (x : ℕ). get_or indices' x 0 < otherwise) (sym e) (omega (arith, index_new))
      below_at k h (no e) = omega (arith, index_old k e, t.below k (omega arith))

      some_at : (k : ℕ) → k < size + 1 → Dec (k ≡ size) → get_or kinds' k 0 ≡ 0 → ⊥
      some_at k h (yes e) p = not_null (kinded ∙ sym kind_new ∙ ap (λ (x : ℕ). get_or kinds' x 0) (sym e) ∙ p)
      some_at k h (no e) p = once.no_null_lem k (omega arith) (sym (kind_old k e) ∙ p)

      -- it equals no key before it
      unknown_at : (o : Outcome) → known ≡ base_index (key_index rule table kinds keys indices size otherwise) otherwise o → (j : ℕ) → j < size → same_key o (meaning rule table (value_at kinds keys j)) ≡ false
      unknown_at (entry e) p j h =
          found_nothing (λ k. same_key (entry e) (meaning rule table (value_at kinds keys k))) (λ k. get_or indices k 0) otherwise size 0 (λ i l q. let b = t.below i (omega arith) in omega arith) (sym p ∙ unknown) j (omega arith) (omega arith)
      unknown_at unfit p j h = absurd (omega arith)

      unlike_at : (j k : ℕ) → j < k → k < size + 1 → Dec (k ≡ size) → same_key (meaning rule table (value_at kinds' keys' k)) (meaning rule table (value_at kinds' keys' j)) ≡ false
      unlike_at j k l h (yes e) =
          ap₂ (λ (x y : Value). same_key (meaning rule table x) (meaning rule table y)) (ap (value_at kinds' keys') e ∙ value_new) (value_old j (λ d. omega arith))
          ∙ unknown_at (meaning rule table v) searched j (omega arith)
      unlike_at j k l h (no e) =
          ap₂ (λ (x y : Value). same_key (meaning rule table x) (meaning rule table y)) (value_old k e) (value_old j (λ d. omega arith)) ∙ once.unlike j k l (omega arith)

      -- the keys before it are as they were
      still : (o : Outcome) → found (λ k. same_key o (meaning rule table (value_at kinds' keys' k))) (λ k. get_or indices' k 0) 0 size otherwise ≡ key_index rule table kinds keys indices size otherwise o
      still o = found_same otherwise size 0 (λ i l. ap (λ (x : Value). same_key o (meaning rule table x)) (value_old i (λ e. omega arith))) (λ i l. index_old i (λ e. omega arith))

      differs : (i : ℕ) → i < size → get_or indices' i 0 ≡ otherwise → ⊥
      differs i l e = omega (arith, index_old i (λ d. omega arith), t.below i (omega arith))

      added_at : (o : Outcome) → key_index rule table kinds' keys' indices' (size + 1) otherwise o
          ≡ cond (eqb (key_index rule table kinds keys indices size otherwise o) otherwise) (cond (same_key o (meaning rule table v)) index otherwise) (key_index rule table kinds keys indices size otherwise o)
      added_at o =
          found_more (λ k. same_key o (meaning rule table (value_at kinds' keys' k))) (λ k. get_or indices' k 0) otherwise size differs
          ∙ ap₂ (λ (x y : ℕ). cond (eqb x otherwise) (cond (same_key o (meaning rule table (value_at kinds' keys' size))) y otherwise) x) (still o) index_new
          ∙ ap (λ (x : Value). cond (eqb (key_index rule table kinds keys indices size otherwise o) otherwise) (cond (same_key o (meaning rule table x)) index otherwise) (key_index rule table kinds keys indices size otherwise o)) value_new

-- by the value that was made of its kind and payload
pub added_value : {rule table : List ℕ} {v w : Value} {index otherwise : ℕ} {ks ps is ks' ps' is' : List ℕ} {size size' : ℕ} → v ≡ w
    → Added rule table v index otherwise ks ps is size ks' ps' is' size' → Added rule table w index otherwise ks ps is size ks' ps' is' size'
added_value {rule} {table} {index = index} {otherwise} {ks} {ps} {is} {ks'} {ps'} {is'} {size} {size'} e a =
    subst (λ (x : Value). Added rule table x index otherwise ks ps is size ks' ps' is' size') e a

-- by the index of ELSE
pub added_behind : {rule table : List ℕ} {v : Value} {index behind otherwise : ℕ} {ks ps is ks' ps' is' : List ℕ} {size size' : ℕ} → behind ≡ otherwise
    → Added rule table v index behind ks ps is size ks' ps' is' size' → Added rule table v index otherwise ks ps is size ks' ps' is' size'
added_behind {rule} {table} {v} {index} {ks = ks} {ps} {is} {ks'} {ps'} {is'} {size} {size'} e a = subst (λ (x : ℕ). Added rule table v index x ks ps is size ks' ps' is' size') e a

-- ---- the table of the WHENs

module _ {rule table kinds payloads : List ℕ} {otherwise : ℕ} where
  pub table_none : {key-kinds keys indices : List ℕ} {size of : ℕ} → Keys key-kinds keys indices size of → size ≡ 0 → TableOf rule table kinds payloads 0 otherwise key-kinds keys indices size
  unfolding found
  table_none {size = suc n} t e = absurd (omega arith)
  table_none {size = zero} t e = record { arrays = no_keys otherwise t; each_once = record { no_null_lem = λ k h. absurd (omega arith); unlike = λ j k l h. absurd (omega arith) }; no_more = omega arith; right = λ b. refl }

  -- one WHEN more
  when_more : {n : ℕ} {ks ps is ks' ps' is' : List ℕ} {size size' index : ℕ} {v : Value} → TableOf rule table kinds payloads n otherwise ks ps is size → 2 * n + 1 < otherwise
      → v ≡ value_at kinds payloads (2 * n) → index ≡ 2 * n + 1 → Added rule table v index otherwise ks ps is size ks' ps' is' size'
      → TableOf rule table kinds payloads (n + 1) otherwise ks' ps' is' size'
  when_more {n} {ks} {ps} {is} {ks'} {ps'} {is'} {size} {size'} {index} {v} t small e i added = record {
    arrays = added.arrays;
    each_once = added.each_once;
    no_more = omega (arith, t.no_more, added.one_more);
    right = λ b. added.right b
        ∙ ap (λ (x : ℕ). cond (eqb x otherwise) (cond (same_key b (meaning rule table v)) index otherwise) x) (t.right b)
        ∙ ap₂ (λ (x : Value) (y : ℕ). cond (eqb (when_index rule table kinds payloads n otherwise b) otherwise) (cond (same_key b (meaning rule table x)) y otherwise) (when_index rule table kinds payloads n otherwise b)) e i
        ∙ sym (found_more (λ k. same_key b (meaning rule table (value_at kinds payloads (2 * k)))) (λ k. 2 * k + 1) otherwise n (λ k l p. omega arith));
  }

  -- the next WHEN, at its place
  pub table_more : (place : ℕ) {n m : ℕ} {ks ps is ks' ps' is' : List ℕ} {size size' : ℕ} → TableOf rule table kinds payloads n otherwise ks ps is size → place ≡ 2 * n → place + 1 < otherwise
      → n + 1 ≡ m → Added rule table (value_at kinds payloads place) (place + 1) otherwise ks ps is size ks' ps' is' size'
      → TableOf rule table kinds payloads m otherwise ks' ps' is' size'
  table_more place {n} {m} {ks' = ks'} {ps'} {is'} {size' = size'} t at-when small next added =
      subst (λ (x : ℕ). TableOf rule table kinds payloads x otherwise ks' ps' is' size') next (when_more t (omega arith) (ap (value_at kinds payloads) at-when) (omega arith) added)

  pub table_all : {n m : ℕ} {ks ps is : List ℕ} {size : ℕ} → TableOf rule table kinds payloads n otherwise ks ps is size → n ≡ m → TableOf rule table kinds payloads m otherwise ks ps is size
  table_all {ks = ks} {ps} {is} {size} t e = subst (λ (x : ℕ). TableOf rule table kinds payloads x otherwise ks ps is size) e t

-- ---- rows

-- the literal at the index of a row's base
pub mapped_row : (rule table kinds payloads : List ℕ) (index_of : Outcome → ℕ) (otherwise : ℕ) {j : ℕ} {v slot : Value} → v ≡ slot → j ≡ base_index index_of otherwise (meaning rule table v)
    → value_at kinds payloads j ≡ value_at kinds payloads (base_index index_of otherwise (meaning rule table slot))
mapped_row rule table kinds payloads index_of otherwise e p =
    ap (value_at kinds payloads) (p ∙ ap (λ (x : Value). base_index index_of otherwise (meaning rule table x)) e)
