-- What a value means, given the rule's and the table's bytes (01, What changes shape); its kind and its payload of 64 bits.
use Rattle.std.specs.Prelude.{◌≡◌, ℕ, zero, suc, ◌+◌, ◌*◌, ◌/◌, ◌%◌, ◌^◌, ◌<◌, cond, not, T, List, [], take, drop, ◌==◌, from_bits, is_nan, to_bits}
use Rattle.std.specs.Float.{binary64}
use Rattle.std.specs.Float.Ieee.{nan_bits, fits}
use Rattle.scalar.specs.declared.value.Value.{Value}
use Rattle.scalar.specs.declared.value.Value.TheVariants.{Null, Boolean, Int32, Int64, Float64, Nan, RuleText, TableText, Failed}
use Rattle.scalar.specs.Types.{mark_number}
use Rattle.scalar.specs.Entry.{Entry, null, boolean, int32, int64, float64, utf8, Outcome, entry, unfit, on_entry, on_entries}

-- the bytes of a text's place
abbrev pub place_text : List ℕ → ℕ → ℕ → List ℕ
place_text bytes start size = take size (drop start bytes)

-- the Float64 case carries the float itself; one that holds a NaN has the bits of one fixed NaN, and `Nan` carries any NaN's bits
abbrev pub meaning : List ℕ → List ℕ → Value → Outcome
meaning rule table Null = entry null
meaning rule table (Boolean b) = entry (boolean b)
meaning rule table (Int32 n) = entry (int32 n)
meaning rule table (Int64 n) = entry (int64 n)
meaning rule table (Float64 f) = entry (float64 (to_bits binary64 f))
meaning rule table (Nan n) = entry (float64 n)
meaning rule table (RuleText start size) = entry (utf8 (place_text rule start size))
meaning rule table (TableText start size) = entry (utf8 (place_text table start size))
meaning rule table Failed = unfit

-- a float by its bits: a NaN keeps them
abbrev pub float_value : ℕ → Value
float_value n = cond (nan_bits binary64 n) (Nan n) (Float64 (from_bits binary64 n))

-- the value of an outcome; a text is the value that is given, since an outcome has its bytes and not its place
abbrev pub value_saying : Value → Outcome → Value
value_saying text (entry null) = Null
value_saying text (entry (boolean b)) = Boolean b
value_saying text (entry (int32 n)) = Int32 n
value_saying text (entry (int64 n)) = Int64 n
value_saying text (entry (float64 n)) = float_value n
value_saying text (entry (utf8 t)) = text
value_saying text unfit = Failed

-- an operation on one value, whatever a text's bytes are; a text that it keeps is that value
abbrev pub on_value : (Entry → Outcome) → Value → Value
on_value operation v = value_saying v (on_entry operation (meaning [] [] v))

-- an operation on two values that gives no text, with the rule's and the table's bytes
abbrev pub on_values : (Entry → Entry → Entry) → List ℕ → List ℕ → Value → Value → Value
on_values operation rule table a b = value_saying Null (on_entries operation (meaning rule table a) (meaning rule table b))

-- the numbers of the kinds: those of the types, null 0, text in the table 6, failed 7
abbrev pub kind_of : Value → ℕ
kind_of Null = 0
kind_of (Boolean b) = 1
kind_of (Int32 n) = 2
kind_of (Int64 n) = 3
kind_of (Float64 f) = 4
kind_of (Nan n) = 4
kind_of (RuleText start size) = 5
kind_of (TableText start size) = 6
kind_of Failed = 7

-- a text's place in 64 bits: the start below, the size above, of each the low 32 bits
abbrev pub place_payload : ℕ → ℕ → ℕ
place_payload start size = start % 2 ^ 32 + size % 2 ^ 32 * 2 ^ 32

-- the payload of a value, 64 bits
abbrev pub payload_of : Value → ℕ
payload_of Null = 0
payload_of (Boolean b) = mark_number b
payload_of (Int32 n) = n
payload_of (Int64 n) = n
payload_of (Float64 f) = to_bits binary64 f
payload_of (Nan n) = n
payload_of (RuleText start size) = place_payload start size
payload_of (TableText start size) = place_payload start size
payload_of Failed = 0

-- the value of a kind and a payload
unfoldable pub value_of : ℕ → ℕ → Value
value_of zero p = Null
value_of (suc zero) p = Boolean (p % 2 == 1)
value_of (suc (suc zero)) p = Int32 (p % 2 ^ 32)
value_of (suc (suc (suc zero))) p = Int64 p
value_of (suc (suc (suc (suc zero)))) p = float_value p
value_of (suc (suc (suc (suc (suc zero))))) p = RuleText (p % 2 ^ 32) (p / 2 ^ 32)
value_of (suc (suc (suc (suc (suc (suc zero)))))) p = TableText (p % 2 ^ 32) (p / 2 ^ 32)
value_of (suc (suc (suc (suc (suc (suc (suc k))))))) p = Failed

-- what kind and payload keep whole: a Float64 that is no NaN, a NaN's bits, places below 2 ^ 32
abbrev pub Storable : Value → Type 0
Storable Null = Unit {0}
Storable (Boolean b) = Unit {0}
Storable (Int32 n) = n < 2 ^ 32
Storable (Int64 n) = n < 2 ^ 64
Storable (Float64 f) = T (fits binary64 f) × T (not (is_nan f))
Storable (Nan n) = (n < 2 ^ 64) × T (nan_bits binary64 n)
Storable (RuleText start size) = (start < 2 ^ 32) × (size < 2 ^ 32)
Storable (TableText start size) = (start < 2 ^ 32) × (size < 2 ^ 32)
Storable Failed = Unit {0}

-- an operation on one value: whatever the rule's and the table's bytes, the result means what the operation makes of the value, and a value
-- that can be stored gives one that can
pub record Gives (operation : Entry → Outcome) (v r : Value) : Type 0 where
  pub means : (rule table : List ℕ) → meaning rule table r ≡ on_entry operation (meaning rule table v)
  pub stores : Storable v → Storable r

-- an operation on two values, with the rule's and the table's bytes
pub record GivesBoth (operation : Entry → Entry → Entry) (rule table : List ℕ) (a b r : Value) : Type 0 where
  pub means : meaning rule table r ≡ on_entries operation (meaning rule table a) (meaning rule table b)
  pub stores : Storable r
