-- Of the casts only three pairs can fail to fit: Int64 to Int32, at a value outside Int32's range (01, One row), and Float64 to Int32 and Int64,
-- at a NaN, an infinity or a whole part out of range (02, Change 2); each of them does at some value. Assumes nothing.
use Rattle.std.proofs.Common.{◌≡◌, ℕ, Bool, true, false, cond, List, sym, refl, subst, inl, inr, arith}
use mathlib.Core.Bool.{false≢true}
use Rattle.scalar.specs.declared.types.DataType.{DataType}
use Rattle.scalar.specs.declared.types.DataType.TheVariants.{Boolean, Int32, Int64, Float64, Utf8}
use Rattle.scalar.specs.Integer.{signed, in_range}
use Rattle.scalar.specs.Entry.{Entry, null, boolean, int32, int64, float64, utf8, entry, unfit, of_type}
use Rattle.scalar.proofs.TypeLaws.{boolean_type, int32_type, int64_type, float64_type, utf8_type}
use Rattle.scalar.specs.Cast.{listed, whole_fits, cast_entry, can_fail_to_fit, CanFailExactly, FailsToFit, CastFailsExactly}

-- an entry fits
entry_fits : {A : Type 0} (e : Entry) → entry e ≡ unfit → A
entry_fits e p = absurd (let z : ◌≡◌ {A = ℕ} 0 1 = cc in omega arith)

-- what may fit doesn't where the test fails, and only there
outside_given : (e : Entry) (t : Bool) → cond t (entry e) unfit ≡ unfit → t ≡ false
outside_given e true p = entry_fits e p
outside_given e false p = refl

-- the three pairs fail where they are said to
fails_given : (from to : DataType) (v : Entry) → FailsToFit from to v → cast_entry to v ≡ unfit
unfolding cast_entry
fails_given from to v (inl h) = rw (h.to_is, h.value_is, h.outside) refl
fails_given from to v (inr (inl h)) = rw (h.to_is, h.value_is, h.outside) refl
fails_given from to v (inr (inr h)) = rw (h.to_is, h.value_is, h.outside) refl

never : {A : Type 0} → false ≡ true → A
never p = absurd (false≢true p)

-- and no other does: by the value, whose type is known, and the target
null_fails : (from to : DataType) → cast_entry to null ≡ unfit → FailsToFit from to null
unfolding cast_entry
null_fails from Boolean = entry_fits null
null_fails from Int32 = entry_fits null
null_fails from Int64 = entry_fits null
null_fails from Float64 = entry_fits null
null_fails from Utf8 = entry_fits null

boolean_fails : (to : DataType) (b : Bool) → listed Boolean to ≡ true → cast_entry to (boolean b) ≡ unfit → FailsToFit Boolean to (boolean b)
unfolding cast_entry
boolean_fails Boolean b = λ l. entry_fits _
boolean_fails Int32 b = λ l. entry_fits _
boolean_fails Int64 b = λ l. entry_fits _
boolean_fails Float64 b = never
boolean_fails Utf8 b = never

int32_fails : (to : DataType) (n : ℕ) → listed Int32 to ≡ true → cast_entry to (int32 n) ≡ unfit → FailsToFit Int32 to (int32 n)
unfolding cast_entry
int32_fails Boolean n = λ l. entry_fits _
int32_fails Int32 n = λ l. entry_fits _
int32_fails Int64 n = λ l. entry_fits _
int32_fails Float64 n = λ l. entry_fits _
int32_fails Utf8 n = never

int64_fails : (to : DataType) (n : ℕ) → listed Int64 to ≡ true → cast_entry to (int64 n) ≡ unfit → FailsToFit Int64 to (int64 n)
unfolding cast_entry
int64_fails Int32 n l p = inl (record { number = n; from_is = refl; to_is = refl; value_is = refl; outside = outside_given _ (in_range 31 (signed 63 n)) p })
int64_fails Boolean n l p = entry_fits _ p
int64_fails Int64 n l p = entry_fits _ p
int64_fails Float64 n l p = entry_fits _ p
int64_fails Utf8 n l p = never l

float64_fails : (to : DataType) (n : ℕ) → listed Float64 to ≡ true → cast_entry to (float64 n) ≡ unfit → FailsToFit Float64 to (float64 n)
unfolding cast_entry
float64_fails Int32 n l p = inr (inl (record { number = n; from_is = refl; to_is = refl; value_is = refl; outside = outside_given _ (whole_fits 31 n) p }))
float64_fails Int64 n l p = inr (inr (record { number = n; from_is = refl; to_is = refl; value_is = refl; outside = outside_given _ (whole_fits 63 n) p }))
float64_fails Boolean n l p = never l
float64_fails Float64 n l p = entry_fits _ p
float64_fails Utf8 n l p = never l

utf8_fails : (to : DataType) (t : List ℕ) → listed Utf8 to ≡ true → cast_entry to (utf8 t) ≡ unfit → FailsToFit Utf8 to (utf8 t)
unfolding cast_entry
utf8_fails Boolean t = never
utf8_fails Int32 t = never
utf8_fails Int64 t = never
utf8_fails Float64 t = never
utf8_fails Utf8 t = λ l. entry_fits _

-- an entry that is known from one type on
at_type : {from own to : DataType} {v : Entry} → from ≡ own → (listed own to ≡ true → cast_entry to v ≡ unfit → FailsToFit own to v) → listed from to ≡ true → cast_entry to v ≡ unfit
    → FailsToFit from to v
at_type {to = to} {v} e fails l p = subst (λ (f : DataType). FailsToFit f to v) (sym e) (fails (subst (λ (f : DataType). listed f to ≡ true) e l) p)

pub cast_fails_exactly : CastFailsExactly
cast_fails_exactly from to v l p = (go v p, fails_given from to v)
  where
    go : (v : Entry) → of_type from v ≡ true → cast_entry to v ≡ unfit → FailsToFit from to v
    go null p = null_fails from to
    go (boolean b) p = at_type (boolean_type from b p) (boolean_fails to b) l
    go (int32 n) p = at_type (int32_type from n p) (int32_fails to n) l
    go (int64 n) p = at_type (int64_type from n p) (int64_fails to n) l
    go (float64 n) p = at_type (float64_type from n p) (float64_fails to n) l
    go (utf8 t) p = at_type (utf8_type from t p) (utf8_fails to t) l

-- each of the three pairs has a value that doesn't fit
some_fails : (from to : DataType) → can_fail_to_fit from to ≡ true → (v : Entry) × (of_type from v ≡ true) × (cast_entry to v ≡ unfit)
unfolding cast_entry of_type
some_fails Int64 Int32 = λ p. (int64 0x8000_0000, refl, refl)
some_fails Int64 Boolean = never
some_fails Int64 Int64 = never
some_fails Int64 Float64 = never
some_fails Int64 Utf8 = never
some_fails Float64 Int32 = λ p. (float64 0x7ff8_0000_0000_0000, refl, refl)
some_fails Float64 Int64 = λ p. (float64 0x7ff8_0000_0000_0000, refl, refl)
some_fails Float64 Boolean = never
some_fails Float64 Float64 = never
some_fails Float64 Utf8 = never
some_fails Boolean to = never
some_fails Int32 to = never
some_fails Utf8 to = never

-- a cast that fails is of one of them
fails_paired : (from to : DataType) (v : Entry) → FailsToFit from to v → can_fail_to_fit from to ≡ true
fails_paired from to v (inl h) = rw (h.from_is, h.to_is) refl
fails_paired from to v (inr (inl h)) = rw (h.from_is, h.to_is) refl
fails_paired from to v (inr (inr h)) = rw (h.from_is, h.to_is) refl

pub can_fail_exactly : CanFailExactly
can_fail_exactly from to l = (some_fails from to, λ (v, typed, fails). fails_paired from to v ((cast_fails_exactly from to v l typed).0 fails))
