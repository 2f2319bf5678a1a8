-- The rows as a column: what is written row by row is the answer's column. Assumes nothing.
use mathlib.Core.Path.{◌≡◌, refl, sym, ap, ap₂, ◌∙◌}
use mathlib.Core.Bool.{Bool, true, false, cond, not, ◌||◌, false≢true}
use mathlib.Core.List.{List, [], ◌∷◌, ◌++◌, map, map-append, append-nil, append_assoc}
use Prim.Native.Nat.{ℕ, zero, suc, ◌+◌, ◌-◌, ◌*◌, ◌/◌, ◌%◌, ◌^◌, ◌<◌, ◌≤◌}
use native.Mathlib.Nat.{pow-suc, pow-succ', add-zero, zero-add, suc-add}
use native.Mathlib.Omega.{arith}
use lib.Dec.{eqb}
use lib.Pow.{pow-add}
use lib.ListN.{length, length-append, length-map}
use borrow.Author.Tests.{lt-ltb}
use Rattle.layout.specs.Bytes.{number_bytes, bitmap_length, bit_number, bitmap}
use Rattle.layout.specs.Field.{field_bytes}
use Rattle.scalar.specs.declared.types.DataType.{DataType}
use Rattle.scalar.specs.declared.value.Value.{Value}
use Rattle.scalar.specs.declared.value.Value.TheVariants.{Null, Boolean, Int32, Int64, Float64, Nan, RuleText, TableText, Failed}
use Rattle.scalar.specs.Entry.{Entry, is_null, is_true_entry}
use Rattle.scalar.specs.Value.{meaning, kind_of}
use Rattle.scalar.specs.Order.{text_in}
use Rattle.scalar.specs.TryCast.{or_null}
use Rattle.scalar.specs.Types.{type_number, mark_number}
use Rattle.writer.specs.Written.{rows_from}
use Rattle.writer.specs.Answer as answer
use Rattle.table.specs.TableBytes.{offsets_field, column_bytes}
use Rattle.writer.specs.Answer.{some_null, null_entries, validity_of, number_in, numbers_of, texts_of, offsets_from, offsets_of, values_of, column_of}
use Rattle.writer.specs.Writing.{row_bytes, any_row, count_rows, some_of_kind, row_nulls, row_entry, row_entries, true_of, number_of, width_of, flag_at, bits_from, row_bits, row_numbers, row_text, row_offset, row_validity, row_values, row_column}
use Rattle.writer.proofs.RowKindLaws.{none_at}
use Rattle.writer.proofs.RowBitLaws.{flag_out, bits_lt}

-- ---- a row more, at the end

-- the last of the row numbers
rows_snoc : (a n : ℕ) → rows_from a (suc n) ≡ rows_from a n ++ ((a + n) ∷ [])
unfolding rows_from
rows_snoc a zero = ap (λ (k : ℕ). k ∷ []) (sym (add-zero a))
rows_snoc a (suc n) =
    let e : suc a + n ≡ a + suc n = omega arith in
    ap (λ (l : List ℕ). a ∷ l) (rows_snoc (suc a) n ∙ ap (λ (k : ℕ). rows_from (suc a) n ++ (k ∷ [])) e)

-- the last row's entry
entries_snoc : (f : ℕ → Entry) (n : ℕ) → map f (rows_from 0 (suc n)) ≡ map f (rows_from 0 n) ++ (f n ∷ [])
entries_snoc f n = ap (map f) (rows_snoc 0 n) ∙ map-append f (rows_from 0 n) ((0 + n) ∷ []) ∙ ap (λ (k : ℕ). map f (rows_from 0 n) ++ (f k ∷ [])) (zero-add n)

-- the last entry's number
numbers_snoc : (k : ℕ) (es : List Entry) (e : Entry) → numbers_of k (es ++ (e ∷ [])) ≡ numbers_of k es ++ number_bytes k (number_in e)
unfolding numbers_of
numbers_snoc k [] e = append-nil (number_bytes k (number_in e))
numbers_snoc k (x ∷ es) e =
    ap (λ (l : List ℕ). number_bytes k (number_in x) ++ l) (numbers_snoc k es e) ∙ sym (append_assoc (number_bytes k (number_in x)) (numbers_of k es) (number_bytes k (number_in e)))

-- the last entry's text
texts_snoc : (es : List Entry) (e : Entry) → texts_of (es ++ (e ∷ [])) ≡ texts_of es ++ answer.text_in e
unfolding texts_of
texts_snoc [] e = append-nil (answer.text_in e)
texts_snoc (x ∷ es) e = ap (λ (l : List ℕ). answer.text_in x ++ l) (texts_snoc es e) ∙ sym (append_assoc (answer.text_in x) (texts_of es) (answer.text_in e))

-- where the last entry's text ends
offsets_snoc : (from : ℕ) (es : List Entry) (e : Entry) → offsets_from from (es ++ (e ∷ [])) ≡ offsets_from from es ++ number_bytes 4 (from + length (texts_of es) + length (answer.text_in e))
unfolding offsets_from texts_of
offsets_snoc from [] e = let z : from + length (answer.text_in e) ≡ from + 0 + length (answer.text_in e) = omega arith in ap (λ (k : ℕ). number_bytes 4 from ++ number_bytes 4 k) z
offsets_snoc from (x ∷ es) e =
    let n = from + length (answer.text_in x) in
    let z : n + length (texts_of es) + length (answer.text_in e) ≡ from + length (answer.text_in x ++ texts_of es) + length (answer.text_in e) = omega (arith, length-append (answer.text_in x) (texts_of es)) in
    ap (λ (l : List ℕ). number_bytes 4 from ++ l) (offsets_snoc n es e ∙ ap (λ (k : ℕ). offsets_from n es ++ number_bytes 4 k) z)
    ∙ sym (append_assoc (number_bytes 4 from) (offsets_from n es) (number_bytes 4 (from + length (answer.text_in x ++ texts_of es) + length (answer.text_in e))))

-- whether the last entry is null
null_snoc : (es : List Entry) (e : Entry) → some_null (es ++ (e ∷ [])) ≡ cond (is_null e) true (some_null es)
unfolding some_null
null_snoc [] e = last (is_null e)
  where
    last : (b : Bool) → (b || false) ≡ cond b true false
    last true = refl
    last false = refl
null_snoc (x ∷ es) e = ap (λ (b : Bool). is_null x || b) (null_snoc es e) ∙ swap (is_null x) (is_null e) (some_null es)
  where
    swap : (a b c : Bool) → (a || cond b true c) ≡ cond b true (a || c)
    swap true true c = refl
    swap true false c = refl
    swap false true c = refl
    swap false false c = refl

-- how many entries are null, with the last
nulls_snoc : (es : List Entry) (e : Entry) → null_entries (es ++ (e ∷ [])) ≡ cond (is_null e) 1 0 + null_entries es
unfolding null_entries
nulls_snoc [] e = refl
nulls_snoc (x ∷ es) e = omega (arith, nulls_snoc es e)

-- ---- a value and its entry

-- a value is true just where its entry is
true_of_lem : (rule table : List ℕ) (v : Value) → is_true_entry (or_null (meaning rule table v)) ≡ true_of v
true_of_lem rule table Null = refl
true_of_lem rule table (Boolean b) = refl
true_of_lem rule table (Int32 n) = refl
true_of_lem rule table (Int64 n) = refl
true_of_lem rule table (Float64 f) = refl
true_of_lem rule table (Nan n) = refl
true_of_lem rule table (RuleText start size) = refl
true_of_lem rule table (TableText start size) = refl
true_of_lem rule table Failed = refl

-- a value's number is its entry's
pub number_of_lem : (rule table : List ℕ) (v : Value) → number_in (or_null (meaning rule table v)) ≡ number_of v
number_of_lem rule table Null = refl
number_of_lem rule table (Boolean b) = refl
number_of_lem rule table (Int32 n) = refl
number_of_lem rule table (Int64 n) = refl
number_of_lem rule table (Float64 f) = refl
number_of_lem rule table (Nan n) = refl
number_of_lem rule table (RuleText start size) = refl
number_of_lem rule table (TableText start size) = refl
number_of_lem rule table Failed = refl

-- a value's text is its entry's
text_of : (rule table : List ℕ) (v : Value) → answer.text_in (or_null (meaning rule table v)) ≡ text_in rule table v
text_of rule table Null = refl
text_of rule table (Boolean b) = refl
text_of rule table (Int32 n) = refl
text_of rule table (Int64 n) = refl
text_of rule table (Float64 f) = refl
text_of rule table (Nan n) = refl
text_of rule table (RuleText start size) = refl
text_of rule table (TableText start size) = refl
text_of rule table Failed = refl

-- a value that has not failed is null just where its kind is 0
null_of : (rule table : List ℕ) (v : Value) → eqb (kind_of v) 7 ≡ false → is_null (or_null (meaning rule table v)) ≡ eqb (kind_of v) 0
null_of rule table Null h = refl
null_of rule table (Boolean b) h = refl
null_of rule table (Int32 n) h = refl
null_of rule table (Int64 n) h = refl
null_of rule table (Float64 f) h = refl
null_of rule table (Nan n) h = refl
null_of rule table (RuleText start size) h = refl
null_of rule table (TableText start size) h = refl
null_of rule table Failed h = absurd (false≢true (sym h))

-- ---- the rows' numbers, texts and offsets

module _ (rule table : List ℕ) (v : ℕ → Value) where
  -- the numbers are those of the entries
  numbers_rows : (wide : Bool) (n : ℕ) → row_bytes (row_numbers wide v) n ≡ numbers_of (width_of wide) (row_entries rule table v n)
  unfolding row_bytes numbers_of rows_from
  numbers_rows wide zero = refl
  numbers_rows wide (suc n) =
      ap₂ ◌++◌ (numbers_rows wide n) (ap (number_bytes (width_of wide)) (sym (number_of_lem rule table (v n))))
      ∙ sym (numbers_snoc (width_of wide) (row_entries rule table v n) (row_entry rule table v n))
      ∙ ap (numbers_of (width_of wide)) (sym (entries_snoc (row_entry rule table v) n))

  -- so are the texts
  pub texts_rows : (n : ℕ) → row_bytes (row_text rule table v) n ≡ texts_of (row_entries rule table v n)
  unfolding row_bytes texts_of rows_from
  texts_rows zero = refl
  texts_rows (suc n) =
      ap₂ ◌++◌ (texts_rows n) (sym (text_of rule table (v n)))
      ∙ sym (texts_snoc (row_entries rule table v n) (row_entry rule table v n))
      ∙ ap texts_of (sym (entries_snoc (row_entry rule table v) n))

  -- and the offsets
  offsets_rows : (n : ℕ) → row_bytes (row_offset rule table v) (suc n) ≡ offsets_from 0 (row_entries rule table v n)
  unfolding row_bytes offsets_from rows_from
  offsets_rows zero = refl
  offsets_rows (suc n) =
      let es = row_entries rule table v n in
      let e = row_entry rule table v n in
      let size : length (row_bytes (row_text rule table v) n ++ row_text rule table v n) ≡ 0 + length (texts_of es) + length (answer.text_in e) =
      omega (arith, length-append (row_bytes (row_text rule table v) n) (row_text rule table v n), ap length (texts_rows n), ap length (text_of rule table (v n))) in
      ap₂ ◌++◌ (offsets_rows n) (ap (number_bytes 4) size) ∙ sym (offsets_snoc 0 es e) ∙ ap (offsets_from 0) (sym (entries_snoc (row_entry rule table v) n))

-- ---- the rows' bits

-- some bits, then others
bits_add : (f : ℕ → Bool) (a m d : ℕ) → bits_from f a (m + d) ≡ bits_from f a m + 2 ^ m * bits_from f (a + m) d
unfolding bits_from
bits_add f a zero d = rw (zero-add d, add-zero a) (omega arith)
bits_add f a (suc m) d =
    let x = bits_from f (a + suc m) d in
    let e : suc a + m ≡ a + suc m = omega arith in
    let p : 2 ^ suc m * x ≡ 2 * (2 ^ m * x) = rw (pow-suc 2 m) (omega arith) in
    let rest : bits_from f (suc a) (m + d) ≡ bits_from f (suc a) m + 2 ^ m * x = bits_add f (suc a) m d ∙ ap (λ (k : ℕ). bits_from f (suc a) m + 2 ^ m * bits_from f k d) e in
    rw (suc-add m d) (omega arith)

-- bits that are not set
bits_unset : (f : ℕ → Bool) (a d : ℕ) → ((i : ℕ) → a ≤ i → f i ≡ false) → bits_from f a d ≡ 0
unfolding bits_from
bits_unset f a zero h = refl
bits_unset f a (suc d) h = rw (h a (omega arith)) (omega (arith, bits_unset f (suc a) d (λ i b. h i (omega arith))))

-- the same bits
bits_same : (f g : ℕ → Bool) (a n : ℕ) → ((i : ℕ) → a ≤ i → i < a + n → f i ≡ g i) → bits_from f a n ≡ bits_from g a n
unfolding bits_from
bits_same f g a zero h = refl
bits_same f g a (suc n) h = ap₂ (λ (b : Bool) (k : ℕ). cond b 1 0 + 2 * k) (h a (omega arith) (omega arith)) (bits_same f g (suc a) n (λ i p q. h i (omega arith) (omega arith)))

-- a number's highest byte
byte_snoc : (k n q : ℕ) → n < 256 ^ k → q < 256 → number_bytes (suc k) (n + 256 ^ k * q) ≡ number_bytes k n ++ (q ∷ [])
unfolding number_bytes
byte_snoc zero n q h b = let e : (n + 1 * q) % 256 ≡ q = omega arith in ap (λ (x : ℕ). x ∷ []) e
byte_snoc (suc k) n q h b =
    let e : 256 ^ suc k * q ≡ 256 * (256 ^ k * q) = rw (pow-suc 256 k) (omega arith) in
    let low : (n + 256 ^ suc k * q) % 256 ≡ n % 256 = omega arith in
    let high : (n + 256 ^ suc k * q) / 256 ≡ n / 256 + 256 ^ k * q = omega arith in
    ap₂ ◌∷◌ low (ap (number_bytes (suc k)) high ∙ byte_snoc k (n / 256) q (omega (arith, pow-suc 256 k)) b)

-- eight bits are a byte
eight_bits : (k : ℕ) → 2 ^ (8 * k) ≡ 256 ^ k
eight_bits zero = refl
eight_bits (suc k) =
    let e : 8 * suc k ≡ 8 + 8 * k = omega arith in
    ap (λ (n : ℕ). 2 ^ n) e ∙ pow-add 2 8 (8 * k) ∙ ap (λ (n : ℕ). 256 * n) (eight_bits k) ∙ sym (pow-succ' 256 k)

-- no bytes hold no number
no_bytes : (n : ℕ) → number_bytes 0 n ≡ []
unfolding number_bytes
no_bytes n = refl

-- the bytes of a bitmap, eight bits each
bytes_of_bits : (f : ℕ → Bool) (k : ℕ) → number_bytes k (bits_from f 0 (8 * k)) ≡ row_bytes (λ j. bits_from f (8 * j) 8 ∷ []) k
unfolding row_bytes
bytes_of_bits f zero = no_bytes (bits_from f 0 (8 * 0))
bytes_of_bits f (suc k) =
    let low = bits_from f 0 (8 * k) in
    let top = bits_from f (8 * k) 8 in
    let e : 8 * suc k ≡ 8 * k + 8 = omega arith in
    let z : 0 + 8 * k ≡ 8 * k = omega arith in
    let whole : bits_from f 0 (8 * suc k) ≡ low + 256 ^ k * top =
    ap (bits_from f 0) e ∙ bits_add f 0 (8 * k) 8 ∙ ap₂ (λ (x y : ℕ). low + x * bits_from f y 8) (eight_bits k) z in
    ap (number_bytes (suc k)) whole
    ∙ byte_snoc k low top (omega (arith, bits_lt f 0 (8 * k), eight_bits k)) (bits_lt f (8 * k) 8)
    ∙ ap (λ (l : List ℕ). l ++ (top ∷ [])) (bytes_of_bits f k)

-- the number of the entries' bits
bit_number_lem : (g : Entry → Bool) (e : ℕ → Entry) (a n : ℕ) → bit_number (map g (map e (rows_from a n))) ≡ bits_from (λ i. g (e i)) a n
unfolding bit_number bits_from rows_from
bit_number_lem g e a zero = refl
bit_number_lem g e a (suc n) = ap (λ (k : ℕ). cond (g (e a)) 1 0 + 2 * k) (bit_number_lem g e (suc a) n)

-- as many rows
length_rows_from : (a n : ℕ) → length (rows_from a n) ≡ n
unfolding rows_from
length_rows_from a zero = refl
length_rows_from a (suc n) = ap suc (length_rows_from (suc a) n)

-- an entry's bit
abbrev entry_flag : Bool → Entry → Bool
entry_flag true e = is_true_entry e
entry_flag false e = not (is_null e)

module _ (rule table : List ℕ) (v : ℕ → Value) (rows : ℕ) (fine : some_of_kind v 7 rows ≡ false) where
  -- no row failed
  fine_at : (i : ℕ) → i < rows → eqb (kind_of (v i)) 7 ≡ false
  fine_at i h = none_at (λ i. eqb (kind_of (v i)) 7) rows i fine h

  -- an entry's bit is its row's
  flag_same : (truth : Bool) (i : ℕ) → i < rows → entry_flag truth (row_entry rule table v i) ≡ flag_at truth v rows i
  flag_same true i h = rw (lt-ltb i rows h) (true_of_lem rule table (v i))
  flag_same false i h = rw (lt-ltb i rows h) (ap not (null_of rule table (v i) (fine_at i h)))

  -- the entries' bitmap
  bits_rows : (truth : Bool) → bitmap (map (entry_flag truth) (row_entries rule table v rows)) ≡ row_bytes (row_bits truth v rows) (bitmap_length rows)
  bits_rows truth =
      let es = row_entries rule table v rows in
      let k = bitmap_length rows in
      let size : length (map (entry_flag truth) es) ≡ rows = length-map es (entry_flag truth) ∙ length-map (rows_from 0 rows) (row_entry rule table v) ∙ length_rows_from 0 rows in
      let far : rows + (8 * k - rows) ≡ 8 * k = omega arith in
      let spare : bits_from (flag_at truth v rows) 0 (8 * k) ≡ bits_from (flag_at truth v rows) 0 rows =
      ap (bits_from (flag_at truth v rows) 0) (sym far)
      ∙ bits_add (flag_at truth v rows) 0 rows (8 * k - rows)
      ∙ ap (λ (x : ℕ). bits_from (flag_at truth v rows) 0 rows + 2 ^ rows * x) (bits_unset (flag_at truth v rows) (0 + rows) (8 * k - rows) (λ i b. flag_out truth v rows i (omega arith)))
      ∙ (omega arith) in
      ap₂ number_bytes (ap bitmap_length size) (bit_number_lem (entry_flag truth) (row_entry rule table v) 0 rows ∙ bits_same (λ i. entry_flag truth (row_entry rule table v i)) (flag_at truth v rows) 0 rows (λ i a b. flag_same truth i (omega arith)) ∙ sym spare)
      ∙ bytes_of_bits (flag_at truth v rows) k

-- whether some entry is null
null_rows_lem : (rule table : List ℕ) (v : ℕ → Value) (n : ℕ) → ((i : ℕ) → i < n → eqb (kind_of (v i)) 7 ≡ false) → some_of_kind v 0 n ≡ some_null (row_entries rule table v n)
unfolding any_row some_null rows_from
null_rows_lem rule table v zero h = refl
null_rows_lem rule table v (suc n) h =
    ap₂ (λ (a b : Bool). cond a true b) (sym (null_of rule table (v n) (h n (omega arith)))) (null_rows_lem rule table v n (λ i b. h i (omega arith)))
    ∙ sym (null_snoc (row_entries rule table v n) (row_entry rule table v n))
    ∙ ap some_null (sym (entries_snoc (row_entry rule table v) n))

-- how many are
count_rows_lem : (rule table : List ℕ) (v : ℕ → Value) (n : ℕ) → ((i : ℕ) → i < n → eqb (kind_of (v i)) 7 ≡ false) → row_nulls v n ≡ null_entries (row_entries rule table v n)
unfolding count_rows null_entries rows_from
count_rows_lem rule table v zero h = refl
count_rows_lem rule table v (suc n) h =
    ap₂ (λ (a : Bool) (b : ℕ). cond a 1 0 + b) (sym (null_of rule table (v n) (h n (omega arith)))) (count_rows_lem rule table v n (λ i b. h i (omega arith)))
    ∙ sym (nulls_snoc (row_entries rule table v n) (row_entry rule table v n))
    ∙ ap null_entries (sym (entries_snoc (row_entry rule table v) n))

-- ---- the column

module _ (rule table : List ℕ) (v : ℕ → Value) (rows : ℕ) (fine : some_of_kind v 7 rows ≡ false) where
  -- tag 3's content
  validity_rows : row_validity (some_of_kind v 0 rows) v rows ≡ validity_of (row_entries rule table v rows)
  validity_rows =
      ap (λ (b : Bool). row_validity b v rows) (null_rows_lem rule table v rows (fine_at rule table v rows fine)) ∙ either (some_null (row_entries rule table v rows))
    where
      either : (b : Bool) → row_validity b v rows ≡ cond b (bitmap (map (λ e. not (is_null e)) (row_entries rule table v rows))) []
      either true = sym (bits_rows rule table v rows fine false)
      either false = refl

  -- tags 5 and 4
  values_rows : (t : DataType) → row_values rule table v rows t ≡ offsets_field t (offsets_of t (row_entries rule table v rows)) ++ field_bytes 4 (values_of t (row_entries rule table v rows))
  values_rows DataType.Boolean = ap (field_bytes 4) (sym (bits_rows rule table v rows fine true))
  values_rows DataType.Int32 = ap (field_bytes 4) (numbers_rows rule table v false rows)
  values_rows DataType.Int64 = ap (field_bytes 4) (numbers_rows rule table v true rows)
  values_rows DataType.Float64 = ap (field_bytes 4) (numbers_rows rule table v true rows)
  values_rows DataType.Utf8 = ap₂ (λ (a b : List ℕ). field_bytes 5 a ++ field_bytes 4 b) (offsets_rows rule table v rows) (texts_rows rule table v rows)

  -- the answer's bytes
  pub column_rows : (t : DataType) (nullable : Bool) → row_column rule table v rows t nullable (some_of_kind v 0 rows) ≡ column_bytes (column_of t nullable (row_entries rule table v rows))
  unfolding column_bytes
  column_rows t nullable =
      let x = field_bytes 2 (type_number t ∷ mark_number nullable ∷ []) in
      let count = field_bytes 6 (number_bytes 2 (row_nulls v rows)) in
      let y = field_bytes 3 (row_validity (some_of_kind v 0 rows) v rows) in
      let z = row_values rule table v rows t in
      append_assoc (x ++ count) y z
      ∙ append_assoc x count (y ++ z)
      ∙ ap₂ (λ (n : ℕ) (l : List ℕ). x ++ (field_bytes 6 (number_bytes 2 n) ++ l)) (count_rows_lem rule table v rows (fine_at rule table v rows fine))
      (ap₂ (λ (a b : List ℕ). field_bytes 3 a ++ b) validity_rows (values_rows t))
