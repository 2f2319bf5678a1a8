-- What is shown of a value, and whether it fits. Assumes nothing.
use mathlib.Core.Path.{◌≡◌, refl, sym, ap, subst, ◌∙◌}
use mathlib.Core.Bool.{Bool}
use mathlib.Core.List.{List, [], ◌∷◌}
use Prim.Native.Nat.{ℕ, suc, ◌+◌, ◌-◌, ◌*◌, ◌%◌, ◌^◌, ◌<◌, ◌≤◌}
use native.Mathlib.Decide.{dec_lt}
use native.Mathlib.Omega.{arith}
use lib.Dec.{leb}
use lib.Ieee.{Float, binary64, to_bits}
use lib.IntN.{ℤ, negsuc}
use lib.ListN.{length, take}
use lib.Seq.{take-nil, drop-nil}
use Rattle.layout.specs.Put.{Wrote}
use Rattle.scalar.specs.declared.value.Value.{Value}
use Rattle.scalar.specs.Integer.{signed, bits_of}
use Rattle.scalar.specs.Value.{place_text}
use Rattle.scalar.proofs.IntegerLaws.{signed_low, signed_high}
use Rattle.listing.specs.declared.shown.Shown.{Shown}
use Rattle.listing.specs.declared.shown.Shown.TheVariants.{Null, Truth, Number, Negative, Bits, Text}
use Rattle.listing.specs.Listing.{digits, places, decimal, hex_bytes, truth_word, integer_bytes, entry_bytes, listing_most}
use Rattle.listing.specs.Putting.{shown_bytes, Shows, ShowsInteger}
use Rattle.listing.proofs.DigitLaws.{length_digits, length_decimal, length_hex}

-- ---- an integer

-- not negative
pub integer_low : (n : ℕ) → n < 9223372036854775808 → ShowsInteger (signed 63 n) (Number n)
integer_low n h = record { says = λ bytes. ap integer_bytes (sym (signed_low 63 n h)) }

-- negative
pub integer_high : (n : ℕ) → 9223372036854775808 ≤ n → ShowsInteger (signed 63 n) (Negative (18446744073709551615 - n + 1))
integer_high n h =
    let e : 18446744073709551615 - n + 1 ≡ suc (2 ^ 64 - suc n) = omega arith in
    record { says = λ bytes. ap (λ (k : ℕ). 45 ∷ decimal k) e ∙ ap integer_bytes (sym (signed_high 63 n h)) }

-- an Int32 widened is the same integer
same_integer : (n : ℕ) → signed 63 (bits_of 63 (signed 31 n)) ≡ signed 31 n
unfolding bits_of
same_integer n = go (dec_lt n (2 ^ 31))
  where
    go : Dec (n < 2 ^ 31) → signed 63 (bits_of 63 (signed 31 n)) ≡ signed 31 n
    go (yes p) =
        let low = signed_low 31 n p in
        let e : n % 2 ^ 64 ≡ n = omega arith in
        ap (λ (z : ℤ). signed 63 (bits_of 63 z)) low ∙ ap (signed 63) e ∙ signed_low 63 n (omega arith) ∙ sym low
    go (no p) =
        let k = 2 ^ 32 - suc n in
        let high = signed_high 31 n (omega arith) in
        let m : 2 ^ 64 - suc (k % 2 ^ 64) ≡ 2 ^ 64 - suc k = omega arith in
        let e : 2 ^ 64 - suc (2 ^ 64 - suc k) ≡ k = omega arith in
        ap (λ (z : ℤ). signed 63 (bits_of 63 z)) high ∙ ap (signed 63) m ∙ signed_high 63 (2 ^ 64 - suc k) (omega arith) ∙ ap negsuc e ∙ sym high

-- ---- a value, kind by kind

-- a value by another name
shows_at : {v w : Value} {s : Shown} → v ≡ w → Shows w s → Shows v s
shows_at {v} {w} {s} e = subst (λ (x : Value). Shows x s) (sym e)

pub shows_null : {v : Value} → v ≡ Value.Null → Shows v Null
unfolding entry_bytes
shows_null e = shows_at e (record { says = λ bytes. refl })

pub shows_truth : {v : Value} {b : Bool} → v ≡ Value.Boolean b → Shows v (Truth b)
unfolding entry_bytes
shows_truth e = shows_at e (record { says = λ bytes. refl })

pub shows_int32 : {v : Value} {n x : ℕ} {s : Shown} → v ≡ Value.Int32 n → x ≡ bits_of 63 (signed 31 n) → ShowsInteger (signed 63 x) s → Shows v s
unfolding entry_bytes
shows_int32 {v} {n} {x} e w i = shows_at e (record { says = λ bytes. i.says bytes ∙ ap (λ (k : ℕ). integer_bytes (signed 63 k)) w ∙ ap integer_bytes (same_integer n) })

pub shows_int64 : {v : Value} {n : ℕ} {s : Shown} → v ≡ Value.Int64 n → ShowsInteger (signed 63 n) s → Shows v s
unfolding entry_bytes
shows_int64 e i = shows_at e (record { says = i.says })

pub shows_float : {v : Value} {f : Float} {n : ℕ} → v ≡ Value.Float64 f → n ≡ to_bits binary64 f → Shows v (Bits n)
unfolding entry_bytes
shows_float e q = shows_at e (record { says = λ bytes. ap (digits 16 16) q })

pub shows_nan : {v : Value} {n : ℕ} → v ≡ Value.Nan n → Shows v (Bits n)
unfolding entry_bytes
shows_nan e = shows_at e (record { says = λ bytes. refl })

-- there are no rule's bytes here
pub shows_rule : {v : Value} {start size : ℕ} → v ≡ Value.RuleText start size → Shows v (Text 0 0)
unfolding entry_bytes
shows_rule {v} {start} {size} e =
    let none : [] ≡ place_text [] start size = sym (ap (take size) (drop-nil start) ∙ take-nil size) in
    shows_at e (record { says = λ bytes. ap (λ (t : List ℕ). 116 ∷ hex_bytes t) none })

pub shows_table : {v : Value} {start size : ℕ} → v ≡ Value.TableText start size → Shows v (Text start size)
unfolding entry_bytes
shows_table e = shows_at e (record { says = λ bytes. refl })

pub shows_failed : {v : Value} → v ≡ Value.Failed → Shows v Null
unfolding entry_bytes
shows_failed e = shows_at e (record { says = λ bytes. refl })

-- ---- whether it fits

module _ (bytes : List ℕ) {s t : Shown} (e : s ≡ t) where
  -- the test by another name of what is shown
  pub fits_at_lem : (room : ℕ) {b : Bool} (n : ℕ) → n ≡ length (shown_bytes bytes t) → b ≡ leb n room → b ≡ leb (length (shown_bytes bytes s)) room
  fits_at_lem room n q h = h ∙ ap (λ (k : ℕ). leb k room) (q ∙ ap (λ (x : Shown). length (shown_bytes bytes x)) (sym e))

  -- so many bytes by another name of what is shown
  pub size_at : {n : ℕ} → n ≡ length (shown_bytes bytes t) → n ≡ length (shown_bytes bytes s)
  size_at q = q ∙ ap (λ (x : Shown). length (shown_bytes bytes x)) (sym e)

  -- the same room
  pub room_at : (at n : ℕ) → at + length (shown_bytes bytes s) ≤ n → at + length (shown_bytes bytes t) ≤ n
  room_at at n h = subst (λ (x : Shown). at + length (shown_bytes bytes x) ≤ n) e h

  -- the same bytes
  pub wrote_at : {out : List ℕ} {at p : ℕ} {m : List ℕ} → Wrote out at (shown_bytes bytes t) p m → Wrote out at (shown_bytes bytes s) p m
  wrote_at {out} {at} {p} {m} w = subst (λ (x : Shown). Wrote out at (shown_bytes bytes x) p m) (sym e) w

-- one more than a decimal
pub after_sign : (n : ℕ) {k : ℕ} → k ≡ places n → suc k ≡ length (45 ∷ decimal n)
after_sign n e = ap suc (e ∙ sym (length_decimal n))

pub with_sign : (n : ℕ) {k : ℕ} → k ≡ places n → 1 + k ≡ length (45 ∷ decimal n)
with_sign n e = omega (arith, after_sign n e)

-- as long as a decimal
pub as_decimal : (n : ℕ) {k : ℕ} → k ≡ places n → k ≡ length (decimal n)
as_decimal n e = e ∙ sym (length_decimal n)

-- as long as the word of a truth
pub as_truth : (b c : Bool) → b ≡ c → length (truth_word c) ≡ length (truth_word b)
as_truth b c e = ap (λ (x : Bool). length (truth_word x)) (sym e)

-- the room of 16 digits
pub digits_room : (n at size : ℕ) → at + length (digits 16 16 n) ≤ size → at + 16 ≤ size
digits_room n at size h = omega (arith, h, length_digits 16 16 n)

-- as long as a text in hex and one byte before it
pub as_text : {text place : List ℕ} → text ≡ place → 1 + 2 * length text ≡ length (116 ∷ hex_bytes place)
as_text {text} {place} e = omega (arith, length_hex place, ap length e)

-- which is no longer than a listing where what is shown isn't
pub text_room : (bytes : List ℕ) {s : Shown} {start size : ℕ} {text : List ℕ} → s ≡ Text start size → text ≡ place_text bytes start size → length (shown_bytes bytes s) ≤ listing_most
    → 1 + 2 * length text ≤ listing_most
text_room bytes e q h = let k = size_at bytes e (as_text q) in omega arith
