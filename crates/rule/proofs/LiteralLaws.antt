-- The value of a literal out of its bytes. Assumes nothing.
use Rattle.std.specs.Prelude.{unwrap_or}
use mathlib.Core.Path.{◌≡◌, refl, ap, sym, subst, ◌∙◌}
use mathlib.Core.Bool.{Bool, true, false, cond, ◌||◌}
use mathlib.Core.List.{List}
use Prim.Native.Nat.{ℕ, zero, suc, ◌+◌, ◌-◌, ◌^◌, ◌<◌}
use native.Mathlib.Omega.{arith}
use lib.Dec.{eqb, leb, ltb}
use lib.ListN.{length, take, drop}
use lib.Seq.{take_at}
use borrow.Author.Tests.{ltb-true, lt-leb, le-ltb}
use Rattle.layout.specs.Bytes.{byte, number, number_at, number_bytes}
use Rattle.layout.proofs.BytesLaws.{length_number_bytes, number_number_bytes}
use Rattle.scalar.specs.declared.types.DataType.{DataType}
use Rattle.scalar.specs.declared.types.DataType.TheVariants as Of
use Rattle.scalar.specs.declared.value.Value.{Value}
use Rattle.scalar.specs.declared.value.Value.TheVariants.{Null, RuleText}
use Rattle.scalar.specs.Types.{type_number, type_numbered, mark_number, type_answer}
use Rattle.scalar.specs.Entry.{Entry, null, boolean, int32, int64, float64, utf8, is_null, entry, of_type}
use Rattle.scalar.specs.Value.{meaning, Storable, float_value}
use Rattle.scalar.proofs.FloatLaws.{float_stores, float_means}
use Rattle.rule.specs.Tree.{literal}
use Rattle.rule.specs.TreeBytes.{value_bytes}
use Rattle.rule.specs.WellFormed.{well_formed}
use Rattle.rule.specs.Node.{NodeAt}
use Rattle.rule.specs.Walks.{HeldAt, LiteralGives, NumberedGives}
use Rattle.rule.specs.Walked.{type_from, value_from, literal_at}
use Rattle.rule.proofs.NodeLaws.{held_byte, held_behind, node_byte, literal_held}
use Rattle.rule.proofs.WalkLaws.{nothing_behind}

-- a value of a type
data Valued : DataType → Entry → Type 0 where
  a_boolean : (b : Bool) → Valued Of.Boolean (boolean b)
  an_int32 : (n : ℕ) → n < 2 ^ 32 → Valued Of.Int32 (int32 n)
  an_int64 : (n : ℕ) → n < 2 ^ 64 → Valued Of.Int64 (int64 n)
  a_float64 : (n : ℕ) → n < 2 ^ 64 → Valued Of.Float64 (float64 n)
  a_utf8 : (t : List ℕ) → Valued Of.Utf8 (utf8 t)

-- a test does not both hold and fail
never : {A : Type 0} → false ≡ true → A
never p = let z : ◌≡◌ {A = ℕ} 0 1 = cc in absurd (omega arith)

-- an entry of a type is null or a value of it
valued : (t : DataType) (v : Entry) → is_null v ≡ false → of_type t v ≡ true → Valued t v
unfolding of_type
valued t null p = never (sym p)
valued Of.Boolean (boolean b) p = λ q. a_boolean b
valued Of.Int32 (boolean b) p = never
valued Of.Int64 (boolean b) p = never
valued Of.Float64 (boolean b) p = never
valued Of.Utf8 (boolean b) p = never
valued Of.Boolean (int32 n) p = never
valued Of.Int32 (int32 n) p = λ q. an_int32 n (ltb-true _ _ q)
valued Of.Int64 (int32 n) p = never
valued Of.Float64 (int32 n) p = never
valued Of.Utf8 (int32 n) p = never
valued Of.Boolean (int64 n) p = never
valued Of.Int32 (int64 n) p = never
valued Of.Int64 (int64 n) p = λ q. an_int64 n (ltb-true _ _ q)
valued Of.Float64 (int64 n) p = never
valued Of.Utf8 (int64 n) p = never
valued Of.Boolean (float64 n) p = never
valued Of.Int32 (float64 n) p = never
valued Of.Int64 (float64 n) p = never
valued Of.Float64 (float64 n) p = λ q. a_float64 n (ltb-true _ _ q)
valued Of.Utf8 (float64 n) p = never
valued Of.Boolean (utf8 s) p = never
valued Of.Int32 (utf8 s) p = never
valued Of.Int64 (utf8 s) p = never
valued Of.Float64 (utf8 s) p = never
valued Of.Utf8 (utf8 s) p = λ q. a_utf8 s

-- a mark is told from its number
pub mark_told : (m : Bool) → eqb (mark_number m) 1 ≡ m
mark_told true = refl
mark_told false = refl

-- a number that is read back
held_number : {rule : List ℕ} {at end : ℕ} (k n : ℕ) → n < 256 ^ k → HeldAt rule at end (number_bytes k n) → number_at k rule at ≡ n
held_number {rule} {at} {end} k n small h =
    ap (λ (l : List ℕ). number (take k l)) (held_behind h) ∙ ap number (take_at (number_bytes k n) (drop end rule) k (length_number_bytes k n)) ∙ number_number_bytes k n small

-- the type of a number is the one that has it
pub type_from_lem : (t : DataType) → type_from (type_number t) ≡ t
unfolding type_from type_numbered
type_from_lem Of.Boolean = refl
type_from_lem Of.Int32 = refl
type_from_lem Of.Int64 = refl
type_from_lem Of.Float64 = refl
type_from_lem Of.Utf8 = refl

-- a number that no type has gives Utf8
pub type_or_text : (n : ℕ) → unwrap_or (type_answer (type_numbered 0 n)) Of.Utf8 ≡ type_from n
unfolding type_from type_numbered
type_or_text zero = refl
type_or_text (suc zero) = refl
type_or_text (suc (suc zero)) = refl
type_or_text (suc (suc (suc zero))) = refl
type_or_text (suc (suc (suc (suc zero)))) = refl
type_or_text (suc (suc (suc (suc (suc zero))))) = refl
type_or_text (suc (suc (suc (suc (suc (suc n)))))) = refl

-- a number gives the type that has it
pub numbered_gives : {n : ℕ} {r : DataType} → r ≡ type_from n → NumberedGives n r
numbered_gives is t same = is ∙ ap type_from same ∙ type_from_lem t

-- what a value out of its bytes means, and that it can be stored
value_means : {rule : List ℕ} {at end : ℕ} {t : DataType} {v : Entry} → Valued t v → HeldAt rule at end (value_bytes v)
    → ((table : List ℕ) → meaning rule table (value_from rule at end t) ≡ entry v) × Storable (value_from rule at end t)
value_means {at = at} (a_boolean b) h = (λ table. ap (λ (x : Bool). entry (boolean x)) (ap (λ (x : ℕ). eqb x 1) (held_byte 0 at h (omega arith) (omega arith)) ∙ mark_told b), tt)
value_means (an_int32 n small) h = let same = held_number 4 n small h in (λ table. ap (λ (x : ℕ). entry (int32 x)) same, omega arith)
value_means (an_int64 n small) h = let same = held_number 8 n small h in (λ table. ap (λ (x : ℕ). entry (int64 x)) same, omega arith)
value_means {rule} (a_float64 n small) h =
    let same = ap float_value (held_number 8 n small h) in
    (λ table. ap (meaning rule table) same ∙ float_means n small rule table, subst Storable (sym same) (float_stores n small))
value_means {rule} {at} {end} (a_utf8 t) h =
    let there : RuleText at (end - at) ≡ cond (ltb end at) Null (RuleText at (end - at)) = rw (le-ltb end at h.ordered) in (
      λ table. sym (ap (meaning rule table) there) ∙ ap (λ (x : List ℕ). entry (utf8 x)) h.is,
      subst Storable there (omega (arith, h.few, h.inside, h.ordered), omega (arith, h.few, h.inside)),
    )

-- a literal's value, by its entry
literal_at_lem : {rule : List ℕ} {start end depth : ℕ} (t : DataType) (v : Entry) → NodeAt rule start end (literal t v) depth
    → literal_at rule start end ≡ cond (is_null v) Null (value_from rule (start + 5) end t)
unfolding literal_at
literal_at_lem {rule} {start} {end} t v n =
    ap (λ (b : Bool). cond b Null (value_from rule (start + 5) end (type_from (byte rule (start + 3))))) marks ∙ ap (λ (x : DataType). cond (is_null v) Null (value_from rule (start + 5) end x)) types
  where
    marks : (leb (length rule) start || eqb (byte rule (start + 4)) 1) ≡ is_null v
    marks =
        ap (λ (b : Bool). b || eqb (byte rule (start + 4)) 1) (lt-leb (length rule) start (nothing_behind n))
        ∙ ap (λ (x : ℕ). eqb x 1) (node_byte 1 (start + 4) n (omega arith) (omega arith))
        ∙ mark_told (is_null v)

    types : type_from (byte rule (start + 3)) ≡ t
    types = ap type_from (node_byte 0 (start + 3) n (omega arith) (omega arith)) ∙ type_from_lem t

-- an entry of a type out of its bytes
entry_means : {rule : List ℕ} {at end : ℕ} (t : DataType) (v : Entry) → of_type t v ≡ true → HeldAt rule at end (value_bytes v)
    → ((table : List ℕ) → meaning rule table (cond (is_null v) Null (value_from rule at end t)) ≡ entry v) × Storable (cond (is_null v) Null (value_from rule at end t))
entry_means t null typed h = (λ table. refl, tt)
entry_means t (boolean b) typed h = value_means (valued t (boolean b) refl typed) h
entry_means t (int32 n) typed h = value_means (valued t (int32 n) refl typed) h
entry_means t (int64 n) typed h = value_means (valued t (int64 n) refl typed) h
entry_means t (float64 n) typed h = value_means (valued t (float64 n) refl typed) h
entry_means t (utf8 s) typed h = value_means (valued t (utf8 s) refl typed) h

-- the value of whatever literal stands at a place
pub literal_gives : {rule : List ℕ} {start end : ℕ} {r : Value} → r ≡ literal_at rule start end → LiteralGives rule start end r
unfolding well_formed
literal_gives {rule} {start} {end} gives t v depth n =
    subst (λ (x : Value). ((table : List ℕ) → meaning rule table x ≡ entry v) × Storable x) (sym (gives ∙ literal_at_lem t v n)) (entry_means t v n.formed (literal_held (start + 5) refl n))
