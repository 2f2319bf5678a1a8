-- Values: kind and payload keep a value that can be stored. Assumes nothing.
use Rattle.std.proofs.Common.{◌≡◌, ℕ, zero, suc, ◌/◌, ◌%◌, ◌^◌, ◌<◌, true, false, refl, ap, ap₂, mod-eq_of_lt, arith}
use lib.Ieee.{binary64, nan_bits}
use lib.Ieee.Bits.{is_true}
use Rattle.scalar.specs.declared.value.Value.{Value}
use Rattle.scalar.specs.declared.value.Value.TheVariants.{Null, Boolean, Int32, Int64, Float64, Nan, RuleText, TableText, Failed}
use Rattle.scalar.specs.Value.{kind_of, payload_of, value_of, place_payload, Storable}
use Rattle.scalar.proofs.FloatLaws.{float_stores, float_back}

-- what the last arm of a `match` on a kind leaves
abbrev pub Rest : ℕ → Type 0
Rest k =
    (((((((Unit {0} × (k ≡ 0 → ⊥)) × (k ≡ 1 → ⊥)) × (k ≡ 2 → ⊥)) × (k ≡ 3 → ⊥)) × (k ≡ 4 → ⊥)) × (k ≡ 5 → ⊥)) × (k ≡ 6 → ⊥))

-- any other kind is failed
pub other_kind : (k p : ℕ) → Rest k → value_of k p ≡ Failed
unfolding value_of
other_kind zero p h = absurd (h.0.0.0.0.0.0.1 refl)
other_kind (suc zero) p h = absurd (h.0.0.0.0.0.1 refl)
other_kind (suc (suc zero)) p h = absurd (h.0.0.0.0.1 refl)
other_kind (suc (suc (suc zero))) p h = absurd (h.0.0.0.1 refl)
other_kind (suc (suc (suc (suc zero)))) p h = absurd (h.0.0.1 refl)
other_kind (suc (suc (suc (suc (suc zero))))) p h = absurd (h.0.1 refl)
other_kind (suc (suc (suc (suc (suc (suc zero)))))) p h = absurd (h.1 refl)
other_kind (suc (suc (suc (suc (suc (suc (suc k))))))) p h = refl

-- the start and the size come out of a place's payload
place_start : (start size : ℕ) → start < 2 ^ 32 → place_payload start size % 2 ^ 32 ≡ start
place_start start size a = omega arith

place_size : (start size : ℕ) → start < 2 ^ 32 → size < 2 ^ 32 → place_payload start size / 2 ^ 32 ≡ size
place_size start size a b = omega arith

-- kind and payload keep a value that can be stored
pub payload_back : (v : Value) → Storable v → value_of (kind_of v) (payload_of v) ≡ v
unfolding value_of
payload_back Null s = refl
payload_back (Boolean true) s = refl
payload_back (Boolean false) s = refl
payload_back (Int32 n) s = ap Int32 (mod-eq_of_lt s)
payload_back (Int64 n) s = refl
payload_back (Float64 f) s = float_back f s.0 s.1
payload_back (Nan n) s = simp (is_true (nan_bits binary64 n) s.1)
payload_back (RuleText start size) s = ap₂ RuleText (place_start start size s.0) (place_size start size s.0 s.1)
payload_back (TableText start size) s = ap₂ TableText (place_start start size s.0) (place_size start size s.0 s.1)
payload_back Failed s = refl

-- the value of a kind and a payload can be stored
pub value_of_stores : (k p : ℕ) → p < 2 ^ 64 → Storable (value_of k p)
unfolding value_of
value_of_stores zero p b = tt
value_of_stores (suc zero) p b = tt
value_of_stores (suc (suc zero)) p b = omega arith
value_of_stores (suc (suc (suc zero))) p b = b
value_of_stores (suc (suc (suc (suc zero)))) p b = float_stores p b
value_of_stores (suc (suc (suc (suc (suc zero))))) p b = (omega arith, omega arith)
value_of_stores (suc (suc (suc (suc (suc (suc zero)))))) p b = (omega arith, omega arith)
value_of_stores (suc (suc (suc (suc (suc (suc (suc k))))))) p b = tt
