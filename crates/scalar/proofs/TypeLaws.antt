-- Types and marks by their numbers. Each operation keeps types: what it gives is null or a value of its type, within its bits. Assumes nothing.
use Rattle.std.proofs.Common.{◌≡◌, ℕ, zero, suc, Bool, true, false, cond, List, sym, refl, ap, ◌∙◌, ltb-true, lt-ltb, eqb-true}
use mathlib.Core.Bool.{false≢true}
use Rattle.layout.specs.Result.{ok}
use Rattle.layout.specs.Refusals.{among}
use Rattle.layout.proofs.ResultLaws.{refused_not_ok, ok_injective, RefusedAmong, ok_among, refused_among}
use Rattle.std.specs.Int.{from_bool}
use Rattle.scalar.specs.declared.types.DataType.{DataType}
use Rattle.std.specs.Prelude.{Option, Some, None}
use Rattle.scalar.specs.declared.types.DataType.TheVariants.{Boolean, Int32, Int64, Float64, Utf8}
use Rattle.scalar.specs.Types.{type_number, same_type, type_numbered, type_answer, type_means, mark_number, mark_numbered}
use Rattle.scalar.specs.Integer.{signed, in_range}
use Rattle.scalar.specs.Entry.{Entry, null, boolean, int32, int64, float64, utf8, Outcome, entry, unfit, of_type, outcome_of_type}
use Rattle.scalar.specs.Pair.{Pair, both_null, one_null, unlike, booleans, int32s, int64s, float64s, texts, pair_of}
use Rattle.scalar.specs.Not.{not_entry}
use Rattle.scalar.specs.Negative.{negative_entry}
use Rattle.scalar.specs.IsNotNull.{is_not_null_entry}
use Rattle.scalar.specs.Cast.{whole_fits, cast_entry}
use Rattle.scalar.specs.TryCast.{or_null, try_cast_entry}
use Rattle.scalar.specs.Compare.{equal_pair, equal_entry, less_pair, less_entry}
use Rattle.scalar.proofs.IntegerLaws.{bits_of_below}
use Rattle.scalar.proofs.FloatLaws.{float_bits_below, sign_turned_below}

-- a type is the one of its number
pub type_numbered_ok : (n a : ℕ) (t : DataType) → type_numbered n a ≡ ok t → a ≡ type_number t
unfolding type_numbered
type_numbered_ok n zero t e = absurd (refused_not_ok n t e)
type_numbered_ok n (suc zero) t e = ap type_number (ok_injective e)
type_numbered_ok n (suc (suc zero)) t e = ap type_number (ok_injective e)
type_numbered_ok n (suc (suc (suc zero))) t e = ap type_number (ok_injective e)
type_numbered_ok n (suc (suc (suc (suc zero)))) t e = ap type_number (ok_injective e)
type_numbered_ok n (suc (suc (suc (suc (suc zero))))) t e = ap type_number (ok_injective e)
type_numbered_ok n (suc (suc (suc (suc (suc (suc k)))))) t e = absurd (refused_not_ok n t e)

-- and so is a mark
pub mark_numbered_ok : (n a : ℕ) (b : Bool) → mark_numbered n a ≡ ok b → a ≡ mark_number b
unfolding mark_numbered
mark_numbered_ok n zero b e = ap mark_number (ok_injective e)
mark_numbered_ok n (suc zero) b e = ap mark_number (ok_injective e)
mark_numbered_ok n (suc (suc k)) b e = absurd (refused_not_ok n b e)

-- the number of a type is read as that type, and the number of a mark as that mark
pub type_numbered_back : (n : ℕ) (t : DataType) → type_numbered n (type_number t) ≡ ok t
unfolding type_numbered
type_numbered_back n Boolean = refl
type_numbered_back n Int32 = refl
type_numbered_back n Int64 = refl
type_numbered_back n Float64 = refl
type_numbered_back n Utf8 = refl

pub mark_numbered_back : (n : ℕ) (b : Bool) → mark_numbered n (mark_number b) ≡ ok b
unfolding mark_numbered
mark_numbered_back n true = refl
mark_numbered_back n false = refl

-- a number without a type is refused with the reader's number
pub type_numbered_among : (k : List ℕ) (n a : ℕ) → among k n ≡ true → RefusedAmong k (type_numbered n a)
unfolding type_numbered
type_numbered_among k n zero h = refused_among k n h
type_numbered_among k n (suc zero) h = ok_among k Boolean
type_numbered_among k n (suc (suc zero)) h = ok_among k Int32
type_numbered_among k n (suc (suc (suc zero))) h = ok_among k Int64
type_numbered_among k n (suc (suc (suc (suc zero)))) h = ok_among k Float64
type_numbered_among k n (suc (suc (suc (suc (suc zero))))) h = ok_among k Utf8
type_numbered_among k n (suc (suc (suc (suc (suc (suc j)))))) h = refused_among k n h

-- and so is a mark that is neither 0 nor 1
pub mark_numbered_among : (k : List ℕ) (n a : ℕ) → among k n ≡ true → RefusedAmong k (mark_numbered n a)
unfolding mark_numbered
mark_numbered_among k n zero h = ok_among k false
mark_numbered_among k n (suc zero) h = ok_among k true
mark_numbered_among k n (suc (suc j)) h = refused_among k n h

-- two types that are the same are one
pub same_type_eq : (a b : DataType) → same_type a b ≡ true → a ≡ b
same_type_eq a b p =
    let e : type_numbered 0 (type_number a) ≡ type_numbered 0 (type_number b) = ap (type_numbered 0) (eqb-true _ _ p) in
    cc (type_numbered_back 0 a, type_numbered_back 0 b)

never : {A : Type 0} → false ≡ true → A
never p = absurd (false≢true p)

-- a value is of one type alone
pub boolean_type : (t : DataType) (b : Bool) → of_type t (boolean b) ≡ true → t ≡ Boolean
unfolding of_type
boolean_type Boolean b = λ p. refl
boolean_type Int32 b = never
boolean_type Int64 b = never
boolean_type Float64 b = never
boolean_type Utf8 b = never

pub int32_type : (t : DataType) (n : ℕ) → of_type t (int32 n) ≡ true → t ≡ Int32
unfolding of_type
int32_type Boolean n = never
int32_type Int32 n = λ p. refl
int32_type Int64 n = never
int32_type Float64 n = never
int32_type Utf8 n = never

pub int64_type : (t : DataType) (n : ℕ) → of_type t (int64 n) ≡ true → t ≡ Int64
unfolding of_type
int64_type Boolean n = never
int64_type Int32 n = never
int64_type Int64 n = λ p. refl
int64_type Float64 n = never
int64_type Utf8 n = never

pub float64_type : (t : DataType) (n : ℕ) → of_type t (float64 n) ≡ true → t ≡ Float64
unfolding of_type
float64_type Boolean n = never
float64_type Int32 n = never
float64_type Int64 n = never
float64_type Float64 n = λ p. refl
float64_type Utf8 n = never

pub utf8_type : (t : DataType) (s : List ℕ) → of_type t (utf8 s) ≡ true → t ≡ Utf8
unfolding of_type
utf8_type Boolean s = never
utf8_type Int32 s = never
utf8_type Int64 s = never
utf8_type Float64 s = never
utf8_type Utf8 s = λ p. refl

-- not gives a Boolean
pub not_typed : (v : Entry) → of_type Boolean (not_entry v) ≡ true
unfolding of_type
not_typed null = refl
not_typed (boolean b) = refl
not_typed (int32 n) = refl
not_typed (int64 n) = refl
not_typed (float64 n) = refl
not_typed (utf8 t) = refl

-- is not null gives a Boolean
pub is_not_null_typed : (v : Entry) → of_type Boolean (is_not_null_entry v) ≡ true
unfolding of_type
is_not_null_typed v = refl

-- negative keeps the type
pub negative_typed : (t : DataType) (v : Entry) → of_type t v ≡ true → of_type t (negative_entry v) ≡ true
unfolding of_type
negative_typed t null p = refl
negative_typed t (boolean b) p = refl
negative_typed t (int32 n) p = rw (int32_type t n p) (lt-ltb _ _ (bits_of_below 31 _))
negative_typed t (int64 n) p = rw (int64_type t n p) (lt-ltb _ _ (bits_of_below 63 _))
negative_typed t (float64 n) p = rw (float64_type t n p) (lt-ltb _ _ (sign_turned_below 63 n (ltb-true _ _ (rw (float64_type t n p) at p))))
negative_typed t (utf8 s) p = refl

-- a value that may not fit
fitted_typed : (t : DataType) (v : Entry) (c : Bool) → of_type t v ≡ true → outcome_of_type t (cond c (entry v) unfit) ≡ true
fitted_typed t v true p = p
fitted_typed t v false p = refl

-- a cast gives its target type
pub cast_typed : (t : DataType) (v : Entry) (s : DataType) → of_type s v ≡ true → outcome_of_type t (cast_entry t v) ≡ true
unfolding of_type cast_entry
cast_typed Boolean null s p = refl
cast_typed Boolean (boolean b) s p = refl
cast_typed Boolean (int32 n) s p = refl
cast_typed Boolean (int64 n) s p = refl
cast_typed Boolean (float64 n) s p = refl
cast_typed Boolean (utf8 x) s p = refl
cast_typed Int32 null s p = refl
cast_typed Int32 (boolean true) s p = refl
cast_typed Int32 (boolean false) s p = refl
cast_typed Int32 (int32 n) s p = rw (int32_type s n p) at p
cast_typed Int32 (int64 n) s p = fitted_typed Int32 _ (in_range 31 (signed 63 n)) (lt-ltb _ _ (bits_of_below 31 _))
cast_typed Int32 (float64 n) s p = fitted_typed Int32 _ (whole_fits 31 n) (lt-ltb _ _ (bits_of_below 31 _))
cast_typed Int32 (utf8 x) s p = refl
cast_typed Int64 null s p = refl
cast_typed Int64 (boolean true) s p = refl
cast_typed Int64 (boolean false) s p = refl
cast_typed Int64 (int32 n) s p = lt-ltb _ _ (bits_of_below 63 _)
cast_typed Int64 (int64 n) s p = rw (int64_type s n p) at p
cast_typed Int64 (float64 n) s p = fitted_typed Int64 _ (whole_fits 63 n) (lt-ltb _ _ (bits_of_below 63 _))
cast_typed Int64 (utf8 x) s p = refl
cast_typed Float64 null s p = refl
cast_typed Float64 (boolean b) s p = refl
cast_typed Float64 (int32 n) s p = lt-ltb _ _ (float_bits_below _)
cast_typed Float64 (int64 n) s p = lt-ltb _ _ (float_bits_below _)
cast_typed Float64 (float64 n) s p = rw (float64_type s n p) at p
cast_typed Float64 (utf8 x) s p = refl
cast_typed Utf8 null s p = refl
cast_typed Utf8 (boolean b) s p = refl
cast_typed Utf8 (int32 n) s p = refl
cast_typed Utf8 (int64 n) s p = refl
cast_typed Utf8 (float64 n) s p = refl
cast_typed Utf8 (utf8 x) s p = refl

-- an outcome's entry, or null, is of the outcome's type
or_null_typed : (t : DataType) (o : Outcome) → outcome_of_type t o ≡ true → of_type t (or_null o) ≡ true
unfolding of_type
or_null_typed t (entry v) p = p
or_null_typed t unfit p = refl

-- a try-cast gives its target type
pub try_cast_typed : (t : DataType) (v : Entry) (s : DataType) → of_type s v ≡ true → of_type t (try_cast_entry t v) ≡ true
try_cast_typed t v s p = or_null_typed t (cast_entry t v) (cast_typed t v s p)

-- equal gives a Boolean
pub equal_typed : (a b : Entry) → of_type Boolean (equal_entry a b) ≡ true
unfolding of_type
equal_typed a b = go (pair_of a b)
  where
    go : (p : Pair) → of_type Boolean (equal_pair p) ≡ true
    go both_null = refl
    go one_null = refl
    go unlike = refl
    go (booleans x y) = refl
    go (int32s x y) = refl
    go (int64s x y) = refl
    go (float64s x y) = refl
    go (texts x y) = refl

-- less gives a Boolean
pub less_typed : (a b : Entry) → of_type Boolean (less_entry a b) ≡ true
unfolding of_type
less_typed a b = go (pair_of a b)
  where
    go : (p : Pair) → of_type Boolean (less_pair p) ≡ true
    go both_null = refl
    go one_null = refl
    go unlike = refl
    go (booleans x y) = refl
    go (int32s x y) = refl
    go (int64s x y) = refl
    go (float64s x y) = refl
    go (texts x y) = refl

-- ---- the type of a number, in a `match`

-- a number that is none of the types'
abbrev pub NoType : ℕ → Type 0
NoType k = (((((Unit {0} × (k ≡ 1 → ⊥)) × (k ≡ 2 → ⊥)) × (k ≡ 3 → ⊥)) × (k ≡ 4 → ⊥)) × (k ≡ 5 → ⊥))

pub no_type : (k : ℕ) → NoType k → None ≡ type_answer (type_numbered 0 k)
unfolding type_numbered
no_type zero h = refl
no_type (suc zero) h = absurd (h.0.0.0.0.1 refl)
no_type (suc (suc zero)) h = absurd (h.0.0.0.1 refl)
no_type (suc (suc (suc zero))) h = absurd (h.0.0.1 refl)
no_type (suc (suc (suc (suc zero)))) h = absurd (h.0.1 refl)
no_type (suc (suc (suc (suc (suc zero))))) h = absurd (h.1 refl)
no_type (suc (suc (suc (suc (suc (suc j)))))) h = refl

-- a number that is a type's
pub has_type : (k : ℕ) (t : DataType) → k ≡ type_number t → Some t ≡ type_answer (type_numbered 0 k)
has_type k t e = ap type_answer (sym (type_numbered_back 0 t)) ∙ ap (λ (x : ℕ). type_answer (type_numbered 0 x)) (sym e)

-- an answer is the reading, whatever the refusal
pub type_means_lem : (n k : ℕ) {r : Option DataType} → r ≡ type_answer (type_numbered 0 k) → type_means n r ≡ type_numbered n k
unfolding type_numbered
type_means_lem n k e = ap (type_means n) e ∙ go k
  where
    go : (k : ℕ) → type_means n (type_answer (type_numbered 0 k)) ≡ type_numbered n k
    go zero = refl
    go (suc zero) = refl
    go (suc (suc zero)) = refl
    go (suc (suc (suc zero))) = refl
    go (suc (suc (suc (suc zero)))) = refl
    go (suc (suc (suc (suc (suc zero))))) = refl
    go (suc (suc (suc (suc (suc (suc j)))))) = refl

-- a Boolean as a number is its mark
pub boolean_mark : (b : Bool) → from_bool b ≡ mark_number b
boolean_mark true = refl
boolean_mark false = refl
