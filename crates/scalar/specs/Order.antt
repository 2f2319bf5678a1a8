-- The order of two values, from which equal and less are read.
use Rattle.std.specs.Prelude.{◌≡◌, ℕ, ◌^◌, ◌<◌, Bool, true, false, cond, List, [], ◌==◌, nat_lt, to_bits}
use Rattle.std.specs.Float.{binary64}
use Rattle.scalar.specs.declared.order.Order.{Order}
use Rattle.scalar.specs.declared.order.Order.TheVariants.{Less, Equal, Greater, SomeNull, SomeFailed, Unlike}
use Rattle.scalar.specs.declared.order.Key.{Key}
use Rattle.scalar.specs.declared.order.Key.TheVariants as Keys
use Rattle.scalar.specs.declared.value.Value.{Value}
use Rattle.scalar.specs.declared.value.Value.TheVariants.{Null, Boolean, Int32, Int64, Float64, Nan, RuleText, TableText, Failed}
use Rattle.scalar.specs.Types.{mark_number}
use Rattle.scalar.specs.Float.{sign_turned, total_key}
use Rattle.scalar.specs.Text.{same_bytes, text_less}
use Rattle.scalar.specs.Value.{place_text}
use Rattle.scalar.specs.Entry.{Entry, null, boolean, int32, int64, float64, utf8, is_true_entry, Outcome, entry, unfit}
use Rattle.scalar.specs.Pair.{Pair, both_null, one_null, unlike, booleans, int32s, int64s, float64s, texts, pair_of}
use Rattle.scalar.specs.Compare.{equal_pair, less_pair}

-- equal, else less or greater
abbrev pub order_by : Entry → Entry → Order
order_by equals lessThan = cond (is_true_entry equals) Equal (cond (is_true_entry lessThan) Less Greater)

-- the order of two entries: null where either is null, none between two types
abbrev pub order_of_pair : Pair → Order
order_of_pair both_null = SomeNull
order_of_pair one_null = SomeNull
order_of_pair unlike = Unlike
order_of_pair (booleans x y) = order_by (equal_pair (booleans x y)) (less_pair (booleans x y))
order_of_pair (int32s x y) = order_by (equal_pair (int32s x y)) (less_pair (int32s x y))
order_of_pair (int64s x y) = order_by (equal_pair (int64s x y)) (less_pair (int64s x y))
order_of_pair (float64s x y) = order_by (equal_pair (float64s x y)) (less_pair (float64s x y))
order_of_pair (texts x y) = order_by (equal_pair (texts x y)) (less_pair (texts x y))

-- the order of two outcomes: failed where either has failed, null where either is null
abbrev pub order_of : Outcome → Outcome → Order
order_of (entry a) (entry b) = order_of_pair (pair_of a b)
order_of (entry a) unfit = SomeFailed
order_of unfit (entry b) = SomeFailed
order_of unfit unfit = SomeFailed

-- the value of a comparison, by what it says of a less, an equal and a greater first side
abbrev pub compared : Bool → Bool → Bool → Order → Value
compared x y z Less = Boolean x
compared x y z Equal = Boolean y
compared x y z Greater = Boolean z
compared x y z SomeNull = Null
compared x y z SomeFailed = Failed
compared x y z Unlike = Null

-- how a value is compared: Booleans by 0 and 1, integers by their bits with the sign turned, floats by a number that goes with totalOrder
abbrev pub key_of : Value → Key
key_of Null = Keys.Null
key_of (Boolean b) = Keys.Number 1 (mark_number b)
key_of (Int32 n) = Keys.Number 2 (sign_turned 31 n)
key_of (Int64 n) = Keys.Number 3 (sign_turned 63 n)
key_of (Float64 f) = Keys.Number 4 (total_key 63 (to_bits binary64 f))
key_of (Nan n) = Keys.Number 4 (total_key 63 n)
key_of (RuleText start size) = Keys.Text
key_of (TableText start size) = Keys.Text
key_of Failed = Keys.Failed

-- whether a key is that of a text
abbrev pub is_text : Key → Bool
is_text Keys.Null = false
is_text Keys.Failed = false
is_text (Keys.Number k x) = false
is_text Keys.Text = true

-- how an entry is compared
abbrev pub entry_key : Entry → Key
entry_key null = Keys.Null
entry_key (boolean b) = Keys.Number 1 (mark_number b)
entry_key (int32 n) = Keys.Number 2 (sign_turned 31 n)
entry_key (int64 n) = Keys.Number 3 (sign_turned 63 n)
entry_key (float64 n) = Keys.Number 4 (total_key 63 n)
entry_key (utf8 t) = Keys.Text

-- an entry within its bits
abbrev pub Within : Entry → Type 0
Within null = Unit {0}
Within (boolean b) = Unit {0}
Within (int32 n) = n < 2 ^ 32
Within (int64 n) = n < 2 ^ 64
Within (float64 n) = n < 2 ^ 64
Within (utf8 t) = Unit {0}

-- an entry goes by a number among those of its kind
pub record Numbered (kind x : ℕ) (e : Entry) : Type 0 where
  pub key : entry_key e ≡ Keys.Number kind x
  pub within : Within e

-- the bytes of a text value; none of any other
abbrev pub text_in : List ℕ → List ℕ → Value → List ℕ
text_in rule table Null = []
text_in rule table (Boolean b) = []
text_in rule table (Int32 n) = []
text_in rule table (Int64 n) = []
text_in rule table (Float64 f) = []
text_in rule table (Nan n) = []
text_in rule table (RuleText start size) = place_text rule start size
text_in rule table (TableText start size) = place_text table start size
text_in rule table Failed = []

-- the order of two texts
abbrev pub text_order : List ℕ → List ℕ → Order
text_order s t = cond (same_bytes s t) Equal (cond (text_less s t) Less Greater)

-- the order of two numbers
abbrev pub number_order : ℕ → ℕ → Order
number_order x y = cond (x == y) Equal (cond (nat_lt x y) Less Greater)

-- the order of two keys, given that of the texts
abbrev pub key_order : Key → Key → Order → Order
key_order Keys.Null Keys.Null between = SomeNull
key_order Keys.Null Keys.Failed between = SomeFailed
key_order Keys.Null (Keys.Number l y) between = SomeNull
key_order Keys.Null Keys.Text between = SomeNull
key_order Keys.Failed other between = SomeFailed
key_order (Keys.Number k x) Keys.Null between = SomeNull
key_order (Keys.Number k x) Keys.Failed between = SomeFailed
key_order (Keys.Number k x) (Keys.Number l y) between = cond (k == l) (number_order x y) Unlike
key_order (Keys.Number k x) Keys.Text between = Unlike
key_order Keys.Text Keys.Null between = SomeNull
key_order Keys.Text Keys.Failed between = SomeFailed
key_order Keys.Text (Keys.Number l y) between = Unlike
key_order Keys.Text Keys.Text between = between
