-- The order of two values by their keys. Assumes nothing.
use Rattle.std.proofs.Common.{◌≡◌, ℕ, suc, ◌+◌, ◌-◌, ◌^◌, ◌<◌, ◌≤◌, Bool, true, false, cond, ◌&&◌, T, eqb, ltb, ◌⊎◌, List, [], ◌∷◌, ℤ, sym, refl, ap, ◌∙◌, subst, ap₂, inl, inr, pow-suc, arith, ltb-false, ltb-true, le-ltb, lt-ltb, eq-eqb, ne_eqb, eqb-true}
use mathlib.Core.Bool.{false≢true}
use types.Run.{OneOf, miss}
use mir.Val.{Val}
use denote.Laws.{Is}
use denote.Enum.Declared.{row, tag_of}
use lib.Signed.{lt_z}
use lib.Ieee.{binary64, fits}
use lib.Ieee.Bits.{to_bits-lt}
use borrow.Author.Tests.{eqb-false}
use Rattle.scalar.specs.declared.order.Order.{Order}
use Rattle.scalar.specs.declared.order.Order.TheVariants.{Less, Equal, Greater, Unlike}
use Rattle.scalar.specs.declared.order.Key.{Key}
use Rattle.scalar.specs.declared.order.Key.TheVariants as Keys
use Rattle.scalar.specs.declared.value.Value.{Value}
use Rattle.scalar.specs.declared.value.Value.TheVariants.{Null, Boolean, Int32, Int64, Float64, Nan, RuleText, TableText, Failed}
use Rattle.scalar.specs.Integer.{signed, signed_less}
use Rattle.scalar.specs.Float.{sign_turned, total_key, total_less}
use Rattle.scalar.specs.Types.{mark_number}
use Rattle.scalar.specs.Entry.{Entry, null, boolean, int32, int64, float64, utf8, Outcome, entry, unfit}
use Rattle.scalar.specs.Pair.{pair_of, booleans}
use Rattle.scalar.specs.Value.{meaning, Storable}
use Rattle.scalar.specs.Order.{order_of_pair, order_of, key_of, entry_key, is_text, Within, Numbered, text_in, text_order, number_order, key_order}
use Rattle.scalar.specs.contracts.value.Value.{the_type}
use Rattle.scalar.proofs.IntegerLaws.{signed_low, signed_high}

-- two tests of numbers that hold in the same cases
ltb_same : (p q a b : ℕ) → (a < b → p < q) → (b ≤ a → q ≤ p) → ltb p q ≡ ltb a b
ltb_same p q a b f g = go (ltb a b) refl
  where
    go : (t : Bool) → ltb a b ≡ t → ltb p q ≡ t
    go true e = lt-ltb p q (f (ltb-true a b e))
    go false e = le-ltb p q (g (ltb-false a b e))

eqb_same : (p q a b : ℕ) → (p ≡ q → a ≡ b) → (a ≡ b → p ≡ q) → eqb p q ≡ eqb a b
eqb_same p q a b f g = go (eqb a b) refl
  where
    go : (t : Bool) → eqb a b ≡ t → eqb p q ≡ t
    go true e = eq-eqb p q (g (eqb-true a b e))
    go false e = ne_eqb p q (λ i. eqb-false a b e (f i))

-- the order of two numbers by their keys
order_by_lem : (p q a b : ℕ) (l : Bool) → (p ≡ q → a ≡ b) → (a ≡ b → p ≡ q) → ltb p q ≡ l → number_order p q ≡ cond (eqb a b) Equal (cond l Less Greater)
order_by_lem p q a b l f g e = ap₂ (λ s t. cond s Equal (cond t Less Greater)) (eqb_same p q a b f g) e

-- a key: without the sign the bits rise above it, with it the key is another
abbrev Keyed : ℕ → ℕ → ℕ → ℕ → Type 0
Keyed h n high p = ((n < 2 ^ h) × (p ≡ n + 2 ^ h)) ⊎ ((2 ^ h ≤ n) × (p ≡ high))

keyed : (h n high : ℕ) → Keyed h n high (cond (ltb n (2 ^ h)) (n + 2 ^ h) high)
keyed h n high = go (ltb n (2 ^ h)) refl
  where
    go : (t : Bool) → ltb n (2 ^ h) ≡ t → Keyed h n high (cond t (n + 2 ^ h) high)
    go true e = inl (ltb-true _ _ e, refl)
    go false e = inr (ltb-false _ _ e, refl)

-- integers go by their bits with the sign turned
signed_keys : (h a b p q : ℕ) → a < 2 ^ suc h → b < 2 ^ suc h → Keyed h a (a - 2 ^ h) p → Keyed h b (b - 2 ^ h) q
    → number_order p q ≡ cond (eqb a b) Equal (cond (signed_less h a b) Less Greater)
signed_keys h a b p q ba bb = pairs
  where
    less : {x y : ℤ} → signed h a ≡ x → signed h b ≡ y → lt_z x y ≡ signed_less h a b
    less e f = cc

    pairs : Keyed h a (a - 2 ^ h) p → Keyed h b (b - 2 ^ h) q → number_order p q ≡ cond (eqb a b) Equal (cond (signed_less h a b) Less Greater)
    pairs (inl u) (inl v) = order_by_lem p q a b _ (λ e. omega arith) (λ e. omega arith) (ltb_same p q a b (λ l. omega arith) (λ l. omega arith) ∙ less (signed_low h a u.0) (signed_low h b v.0))
    pairs (inl u) (inr v) = order_by_lem p q a b _ (λ e. omega (arith, pow-suc 2 h)) (λ e. omega arith) (le-ltb p q (omega (arith, pow-suc 2 h)) ∙ less (signed_low h a u.0) (signed_high h b v.0))
    pairs (inr u) (inl v) = order_by_lem p q a b _ (λ e. omega (arith, pow-suc 2 h)) (λ e. omega arith) (lt-ltb p q (omega (arith, pow-suc 2 h)) ∙ less (signed_high h a u.0) (signed_low h b v.0))
    pairs (inr u) (inr v) =
        order_by_lem p q a b _ (λ e. omega arith) (λ e. omega arith)
        (ltb_same p q (2 ^ suc h - suc b) (2 ^ suc h - suc a) (λ l. omega arith) (λ l. omega arith) ∙ less (signed_high h a u.0) (signed_high h b v.0))

pub signed_order : (h a b : ℕ) → a < 2 ^ suc h → b < 2 ^ suc h → number_order (sign_turned h a) (sign_turned h b) ≡ cond (eqb a b) Equal (cond (signed_less h a b) Less Greater)
signed_order h a b ba bb = signed_keys h a b _ _ ba bb (keyed h a (a - 2 ^ h)) (keyed h b (b - 2 ^ h))

-- floats by the number that goes with totalOrder
total_keys : (h a b p q : ℕ) → a < 2 ^ suc h → b < 2 ^ suc h → Keyed h a (2 ^ suc h - suc a) p → Keyed h b (2 ^ suc h - suc b) q
    → number_order p q ≡ cond (eqb a b) Equal (cond (total_less h a b) Less Greater)
total_keys h a b p q ba bb (inl u) (inl v) =
    order_by_lem p q a b (total_less h a b) (λ e. omega arith) (λ e. omega arith)
    (ltb_same p q a b (λ l. omega arith) (λ l. omega arith) ∙ simp (lt-ltb a (2 ^ h) u.0, lt-ltb b (2 ^ h) v.0))
total_keys h a b p q ba bb (inl u) (inr v) =
    order_by_lem p q a b (total_less h a b) (λ e. omega (arith, pow-suc 2 h)) (λ e. omega arith)
    (le-ltb p q (omega (arith, pow-suc 2 h)) ∙ simp (lt-ltb a (2 ^ h) u.0, le-ltb b (2 ^ h) v.0))
total_keys h a b p q ba bb (inr u) (inl v) =
    order_by_lem p q a b (total_less h a b) (λ e. omega (arith, pow-suc 2 h)) (λ e. omega arith)
    (lt-ltb p q (omega (arith, pow-suc 2 h)) ∙ simp (le-ltb a (2 ^ h) u.0, lt-ltb b (2 ^ h) v.0))
total_keys h a b p q ba bb (inr u) (inr v) =
    order_by_lem p q a b (total_less h a b) (λ e. omega arith) (λ e. omega arith)
    (ltb_same p q b a (λ l. omega arith) (λ l. omega arith) ∙ simp (le-ltb a (2 ^ h) u.0, le-ltb b (2 ^ h) v.0))

pub total_order : (h a b : ℕ) → a < 2 ^ suc h → b < 2 ^ suc h → number_order (total_key h a) (total_key h b) ≡ cond (eqb a b) Equal (cond (total_less h a b) Less Greater)
total_order h a b ba bb = total_keys h a b _ _ ba bb (keyed h a (2 ^ suc h - suc a)) (keyed h b (2 ^ suc h - suc b))

-- the text of an entry
abbrev entry_text : Entry → List ℕ
entry_text null = []
entry_text (boolean b) = []
entry_text (int32 n) = []
entry_text (int64 n) = []
entry_text (float64 n) = []
entry_text (utf8 t) = t

-- Booleans go by 0 and 1
flags_order : (x y : Bool) → order_of_pair (booleans x y) ≡ number_order (mark_number x) (mark_number y)
flags_order true true = refl
flags_order true false = refl
flags_order false true = refl
flags_order false false = refl

-- the order of two entries is that of their keys and their texts
entries_order : (a b : Entry) → Within a → Within b → order_of_pair (pair_of a b) ≡ key_order (entry_key a) (entry_key b) (text_order (entry_text a) (entry_text b))
unfolding pair_of
entries_order null null wa = λ wb. refl
entries_order null (boolean y) wa = λ wb. refl
entries_order null (int32 y) wa = λ wb. refl
entries_order null (int64 y) wa = λ wb. refl
entries_order null (float64 y) wa = λ wb. refl
entries_order null (utf8 y) wa = λ wb. refl
entries_order (boolean x) null wa = λ wb. refl
entries_order (boolean x) (boolean y) wa = λ wb. flags_order x y
entries_order (boolean x) (int32 y) wa = λ wb. refl
entries_order (boolean x) (int64 y) wa = λ wb. refl
entries_order (boolean x) (float64 y) wa = λ wb. refl
entries_order (boolean x) (utf8 y) wa = λ wb. refl
entries_order (int32 x) null wa = λ wb. refl
entries_order (int32 x) (boolean y) wa = λ wb. refl
entries_order (int32 x) (int32 y) wa = λ wb. sym (signed_order 31 x y wa wb)
entries_order (int32 x) (int64 y) wa = λ wb. refl
entries_order (int32 x) (float64 y) wa = λ wb. refl
entries_order (int32 x) (utf8 y) wa = λ wb. refl
entries_order (int64 x) null wa = λ wb. refl
entries_order (int64 x) (boolean y) wa = λ wb. refl
entries_order (int64 x) (int32 y) wa = λ wb. refl
entries_order (int64 x) (int64 y) wa = λ wb. sym (signed_order 63 x y wa wb)
entries_order (int64 x) (float64 y) wa = λ wb. refl
entries_order (int64 x) (utf8 y) wa = λ wb. refl
entries_order (float64 x) null wa = λ wb. refl
entries_order (float64 x) (boolean y) wa = λ wb. refl
entries_order (float64 x) (int32 y) wa = λ wb. refl
entries_order (float64 x) (int64 y) wa = λ wb. refl
entries_order (float64 x) (float64 y) wa = λ wb. sym (total_order 63 x y wa wb)
entries_order (float64 x) (utf8 y) wa = λ wb. refl
entries_order (utf8 x) null wa = λ wb. refl
entries_order (utf8 x) (boolean y) wa = λ wb. refl
entries_order (utf8 x) (int32 y) wa = λ wb. refl
entries_order (utf8 x) (int64 y) wa = λ wb. refl
entries_order (utf8 x) (float64 y) wa = λ wb. refl
entries_order (utf8 x) (utf8 y) wa = λ wb. refl

-- two that go by numbers of one kind go as the numbers do
pub numbers_order : (a b : Entry) {kind x y : ℕ} → Numbered kind x a → Numbered kind y b → order_of_pair (pair_of a b) ≡ number_order x y
numbers_order a b {kind} {x} {y} p q =
    let between = text_order (entry_text a) (entry_text b) in
    entries_order a b p.within q.within
    ∙ ap₂ (λ (k l : Key). key_order k l between) p.key q.key
    ∙ ap (λ (t : Bool). cond t (number_order x y) Unlike) (eq-eqb kind kind refl)

-- the key and the text of an outcome
abbrev outcome_key : Outcome → Key
outcome_key (entry e) = entry_key e
outcome_key unfit = Keys.Failed

abbrev outcome_text : Outcome → List ℕ
outcome_text (entry e) = entry_text e
outcome_text unfit = []

abbrev WithinOut : Outcome → Type 0
WithinOut (entry e) = Within e
WithinOut unfit = Unit {0}

-- the order of two outcomes is that of their keys and their texts
outcomes_order : (o p : Outcome) → WithinOut o → WithinOut p → order_of o p ≡ key_order (outcome_key o) (outcome_key p) (text_order (outcome_text o) (outcome_text p))
outcomes_order (entry a) (entry b) wa wb = entries_order a b wa wb
outcomes_order (entry null) unfit wa wb = refl
outcomes_order (entry (boolean x)) unfit wa wb = refl
outcomes_order (entry (int32 x)) unfit wa wb = refl
outcomes_order (entry (int64 x)) unfit wa wb = refl
outcomes_order (entry (float64 x)) unfit wa wb = refl
outcomes_order (entry (utf8 x)) unfit wa wb = refl
outcomes_order unfit (entry b) wa wb = refl
outcomes_order unfit unfit wa wb = refl

-- a value of the code has the key and the text of its outcome, which is within its bits
record Known (rule table : List ℕ) (v : Value) : Type 0 where
  key : outcome_key (meaning rule table v) ≡ key_of v
  text : outcome_text (meaning rule table v) ≡ text_in rule table v
  within : WithinOut (meaning rule table v)

-- what owning a value tells
abbrev pub Owned : Value → Type 0
Owned v = (vs : List Val) × Is (row the_type) v vs

known : (rule table : List ℕ) (v : Value) → Owned v → Known rule table v
known rule table Null o = record { key = refl; text = refl; within = tt }
known rule table (Boolean b) o = record { key = refl; text = refl; within = tt }
known rule table (Int32 n) o = record { key = refl; text = refl; within = omega arith }
known rule table (Int64 n) o = record { key = refl; text = refl; within = omega arith }
known rule table (Float64 f) o = let t : fits binary64 f ≡ true = cc in record { key = refl; text = refl; within = to_bits-lt binary64 f (subst T (sym t) tt) }
known rule table (Nan n) o = record { key = refl; text = refl; within = omega arith }
known rule table (RuleText start size) o = record { key = refl; text = refl; within = tt }
known rule table (TableText start size) o = record { key = refl; text = refl; within = tt }
known rule table Failed o = record { key = refl; text = refl; within = tt }

-- and a value that can be stored
stored : (rule table : List ℕ) (v : Value) → Storable v → Known rule table v
stored rule table Null o = record { key = refl; text = refl; within = tt }
stored rule table (Boolean b) o = record { key = refl; text = refl; within = tt }
stored rule table (Int32 n) o = record { key = refl; text = refl; within = o }
stored rule table (Int64 n) o = record { key = refl; text = refl; within = o }
stored rule table (Float64 f) o = record { key = refl; text = refl; within = to_bits-lt binary64 f o.0 }
stored rule table (Nan n) o = record { key = refl; text = refl; within = o.0 }
stored rule table (RuleText start size) o = record { key = refl; text = refl; within = tt }
stored rule table (TableText start size) o = record { key = refl; text = refl; within = tt }
stored rule table Failed o = record { key = refl; text = refl; within = tt }

-- the entry that a value means goes by the value's number
pub value_numbered : (rule table : List ℕ) (v : Value) (e : Entry) {kind x : ℕ} → Storable v → meaning rule table v ≡ entry e → key_of v ≡ Keys.Number kind x → Numbered kind x e
value_numbered rule table v e s m k =
    let h = stored rule table v s in
    record { key = sym (ap outcome_key m) ∙ h.key ∙ k; within = subst WithinOut m h.within }

-- the order of two values is that of their keys and their texts
values_order : (rule table : List ℕ) (a b : Value) → Owned a → Owned b
    → key_order (key_of a) (key_of b) (text_order (text_in rule table a) (text_in rule table b)) ≡ order_of (meaning rule table a) (meaning rule table b)
values_order rule table a b oa ob =
    let p = known rule table a oa in
    let q = known rule table b ob in
    sym (outcomes_order (meaning rule table a) (meaning rule table b) p.within q.within ∙ rw (p.key, p.text, q.key, q.text))

-- a value in the arm that is left when the texts are told apart
abbrev pub NoText : Value → Type 0
NoText v = OneOf (0 ∷ 1 ∷ 2 ∷ 3 ∷ 4 ∷ 5 ∷ 8 ∷ []) (tag_of the_type v)

pub no_text : (v : Value) → NoText v → is_text (key_of v) ≡ false
no_text Null h = refl
no_text (Boolean b) h = refl
no_text (Int32 n) h = refl
no_text (Int64 n) h = refl
no_text (Float64 f) h = refl
no_text (Nan n) h = refl
no_text (RuleText start size) h = absurd (miss (0 ∷ 1 ∷ 2 ∷ 3 ∷ 4 ∷ 5 ∷ 8 ∷ []) 6 tt h)
no_text (TableText start size) h = absurd (miss (0 ∷ 1 ∷ 2 ∷ 3 ∷ 4 ∷ 5 ∷ 8 ∷ []) 7 tt h)
no_text Failed h = refl

-- it has no bytes
pub no_text_in : (v : Value) → NoText v → (rule table : List ℕ) → text_in rule table v ≡ []
no_text_in Null h rule table = refl
no_text_in (Boolean b) h rule table = refl
no_text_in (Int32 n) h rule table = refl
no_text_in (Int64 n) h rule table = refl
no_text_in (Float64 f) h rule table = refl
no_text_in (Nan n) h rule table = refl
no_text_in (RuleText start size) h rule table = absurd (miss (0 ∷ 1 ∷ 2 ∷ 3 ∷ 4 ∷ 5 ∷ 8 ∷ []) 6 tt h)
no_text_in (TableText start size) h rule table = absurd (miss (0 ∷ 1 ∷ 2 ∷ 3 ∷ 4 ∷ 5 ∷ 8 ∷ []) 7 tt h)
no_text_in Failed h rule table = refl

-- the order of the texts is asked for only where both are texts
apart : (k l : Key) (x y : Order) → (is_text k && is_text l) ≡ false → key_order k l x ≡ key_order k l y
apart Keys.Null Keys.Null x y e = refl
apart Keys.Null Keys.Failed x y e = refl
apart Keys.Null (Keys.Number a b) x y e = refl
apart Keys.Null Keys.Text x y e = refl
apart Keys.Failed l x y e = refl
apart (Keys.Number k n) Keys.Null x y e = refl
apart (Keys.Number k n) Keys.Failed x y e = refl
apart (Keys.Number k n) (Keys.Number a b) x y e = refl
apart (Keys.Number k n) Keys.Text x y e = refl
apart Keys.Text Keys.Null x y e = refl
apart Keys.Text Keys.Failed x y e = refl
apart Keys.Text (Keys.Number a b) x y e = refl
apart Keys.Text Keys.Text x y e = absurd (false≢true (sym e))

-- text beside a value that is none
pub text_beside_none : (v : Value) {k : Key} {r : Order} (x : Order) → NoText v → k ≡ key_of v → r ≡ key_order Keys.Text k Unlike → r ≡ key_order Keys.Text (key_of v) x
text_beside_none v x h e f = f ∙ ap (λ (l : Key). key_order Keys.Text l Unlike) e ∙ apart Keys.Text (key_of v) Unlike x (no_text v h)

-- two values of which the first is a text
pub text_first : (rule table : List ℕ) (a w b : Value) {s : List ℕ} {r : Order} → a ≡ w → key_of w ≡ Keys.Text → s ≡ text_in rule table w → Owned a → Owned b
    → r ≡ key_order Keys.Text (key_of b) (text_order s (text_in rule table b)) → r ≡ order_of (meaning rule table a) (meaning rule table b)
text_first rule table a w b e k p oa ob f =
    let t : key_of a ≡ Keys.Text = ap key_of e ∙ k in
    let q = ap (text_in rule table) e in
    f ∙ (rw (p, ← q, ← t) (values_order rule table a b oa ob))

-- two values that are not both text
pub not_both_text : (rule table : List ℕ) (a b : Value) {k l : Key} {r : Order} → Owned a → Owned b → (is_text (key_of a) && is_text (key_of b)) ≡ false → k ≡ key_of a → l ≡ key_of b
    → r ≡ key_order k l Unlike → r ≡ order_of (meaning rule table a) (meaning rule table b)
not_both_text rule table a b oa ob e p q f =
    f ∙ ap₂ (λ (x y : Key). key_order x y Unlike) p q
    ∙ apart (key_of a) (key_of b) Unlike (text_order (text_in rule table a) (text_in rule table b)) e
    ∙ values_order rule table a b oa ob

-- two values of which the first is no text
pub no_text_first : (rule table : List ℕ) (a b : Value) {k l : Key} {r : Order} → NoText a → Owned a → Owned b → k ≡ key_of a → l ≡ key_of b → r ≡ key_order k l Unlike
    → r ≡ order_of (meaning rule table a) (meaning rule table b)
no_text_first rule table a b h oa ob = not_both_text rule table a b oa ob (ap (λ (t : Bool). t && is_text (key_of b)) (no_text a h))

-- of two texts the order is that of their bytes
together : (k l : Key) (x : Order) → is_text k ≡ true → is_text l ≡ true → key_order k l x ≡ x
together Keys.Null l x e f = absurd (false≢true e)
together Keys.Failed l x e f = absurd (false≢true e)
together (Keys.Number k n) l x e f = absurd (false≢true e)
together Keys.Text Keys.Null x e f = absurd (false≢true f)
together Keys.Text Keys.Failed x e f = absurd (false≢true f)
together Keys.Text (Keys.Number a b) x e f = absurd (false≢true f)
together Keys.Text Keys.Text x e f = refl

-- two values that are both text
pub both_text : (rule table : List ℕ) (a b : Value) {x y : Bool} {r : Order} → Owned a → Owned b → x ≡ is_text (key_of a) → x ≡ true → y ≡ is_text (key_of b) → y ≡ true
    → r ≡ text_order (text_in rule table a) (text_in rule table b) → r ≡ order_of (meaning rule table a) (meaning rule table b)
both_text rule table a b oa ob p s q t f =
    f ∙ sym (together (key_of a) (key_of b) (text_order (text_in rule table a) (text_in rule table b)) (sym p ∙ s) (sym q ∙ t)) ∙ values_order rule table a b oa ob
