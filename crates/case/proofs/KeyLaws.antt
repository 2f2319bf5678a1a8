-- The numbers by which the values of a column are compared, row by row. Assumes nothing.
use Rattle.std.proofs.Common.{◌≡◌, ℕ, suc, ◌+◌, ◌-◌, ◌*◌, ◌%◌, ◌^◌, ◌<◌, ◌≤◌, Bool, true, false, cond, ltb, List, length, get_or, set, sym, refl, ap, ◌∙◌, subst, mod-eq_of_lt, pow-suc, arith, get_or-set_other, get_or-set_same, ltb-false, ltb-true}
use native.Mathlib.Nat.{add-mod_right}
use native.Mathlib.Decide.{ℕ_discrete}
use Rattle.layout.specs.Bytes.{bit_at, number_at}
use Rattle.scalar.specs.declared.types.DataType.{DataType}
use Rattle.scalar.specs.declared.types.DataType.TheVariants as Of
use Rattle.scalar.specs.declared.order.Key.TheVariants as Keys
use Rattle.scalar.specs.Types.{mark_number}
use Rattle.scalar.specs.Float.{sign_turned, total_key}
use Rattle.table.specs.Column.{value_at}
use Rattle.case.specs.Steps.{KeyAt, KeysAt}

-- the number of a value, by its type
module _ {kind : DataType} {values : List ℕ} {row : ℕ} where
  key_of : {d : DataType} {x : ℕ} → kind ≡ d → KeyAt d values row x → KeyAt kind values row x
  key_of {d} {x} e = subst (λ (y : DataType). KeyAt y values row x) (sym e)

  pub key_boolean : {b : Bool} {x : ℕ} → kind ≡ Of.Boolean → b ≡ bit_at values row → x ≡ mark_number b → KeyAt kind values row x
  unfolding value_at
  key_boolean {b} {x} e p q =
      key_of e (record { is = λ h offsets. record { key = ap (Keys.Number 1) (sym (q ∙ ap mark_number p)); within = tt } })

  pub key_int32 : {n x : ℕ} → kind ≡ Of.Int32 → n ≡ number_at 4 values (4 * row) → n < 2 ^ 32 → x ≡ sign_turned 31 n → KeyAt kind values row x
  unfolding value_at
  key_int32 {n} {x} e p b q =
      key_of e (record { is = λ h offsets. record { key = ap (Keys.Number 2) (sym (q ∙ ap (sign_turned 31) p)); within = subst (λ (y : ℕ). y < 2 ^ 32) p b } })

  pub key_int64 : {n x : ℕ} → kind ≡ Of.Int64 → n ≡ number_at 8 values (8 * row) → n < 2 ^ 64 → x ≡ sign_turned 63 n → KeyAt kind values row x
  unfolding value_at
  key_int64 {n} {x} e p b q =
      key_of e (record { is = λ h offsets. record { key = ap (Keys.Number 3) (sym (q ∙ ap (sign_turned 63) p)); within = subst (λ (y : ℕ). y < 2 ^ 64) p b } })

  pub key_float64 : {n x : ℕ} → kind ≡ Of.Float64 → n ≡ number_at 8 values (8 * row) → n < 2 ^ 64 → x ≡ total_key 63 n → KeyAt kind values row x
  unfolding value_at
  key_float64 {n} {x} e p b q =
      key_of e (record { is = λ h offsets. record { key = ap (Keys.Number 4) (sym (q ∙ ap (total_key 63) p)); within = subst (λ (y : ℕ). y < 2 ^ 64) p b } })

  pub key_utf8 : {x : ℕ} → kind ≡ Of.Utf8 → KeyAt kind values row x
  key_utf8 e = key_of e (record { is = λ h. absurd (omega arith) })

-- the sign is turned by a sum that wraps, at any width
pub turned_wraps : (h n : ℕ) → n < 2 ^ suc h → (n + 2 ^ h) % 2 ^ suc h ≡ sign_turned h n
turned_wraps h n b = go (ltb n (2 ^ h)) refl
  where
    go : (t : Bool) → ltb n (2 ^ h) ≡ t → (n + 2 ^ h) % 2 ^ suc h ≡ cond t (n + 2 ^ h) (n - 2 ^ h)
    go true e = let k : n < 2 ^ h = ltb-true n (2 ^ h) e in mod-eq_of_lt (omega (arith, pow-suc 2 h))
    go false e =
        let k : 2 ^ h ≤ n = ltb-false n (2 ^ h) e in
        let over : n + 2 ^ h ≡ n - 2 ^ h + 2 ^ suc h = omega (arith, pow-suc 2 h) in
        ap (λ (m : ℕ). m % 2 ^ suc h) over ∙ add-mod_right (n - 2 ^ h) (2 ^ suc h) ∙ mod-eq_of_lt (omega arith)

-- ---- row by row

pub keys_none : {kind : DataType} {values keys : List ℕ} → KeysAt kind values 0 keys
keys_none = record { each = λ r h. absurd (omega arith) }

module _ {kind : DataType} {values keys : List ℕ} {i : ℕ} (s : KeysAt kind values i keys) where
  pub keys_more : {x rows : ℕ} → length keys ≡ 512 → i < rows → rows ≤ 512 → KeyAt kind values i x → KeysAt kind values (i + 1) (set keys i x)
  keys_more {x} long more few here = record { each = λ r h. go r h (ℕ_discrete r i) }
    where
      room : i < length keys
      room = omega arith

      go : (r : ℕ) → r < i + 1 → Dec (r ≡ i) → KeyAt kind values r (get_or (set keys i x) r 0)
      go r h (yes e) = subst (λ (y : ℕ). KeyAt kind values y (get_or (set keys i x) y 0)) (sym e) (subst (KeyAt kind values i) (sym (get_or-set_same keys i x 0 room)) here)
      go r h (no d) = subst (KeyAt kind values r) (sym (get_or-set_other keys i r x 0 d)) (s.each r (omega arith))

  pub keys_all : {rows : ℕ} → rows ≤ i → KeysAt kind values rows keys
  keys_all h = record { each = λ r l. s.each r (omega arith) }

-- of a type that is told
pub keys_as : {kind d : DataType} {values keys : List ℕ} {rows : ℕ} → kind ≡ d → KeysAt d values rows keys → KeysAt kind values rows keys
keys_as {kind} {d} {values} {keys} {rows} e = subst (λ (y : DataType). KeysAt y values rows keys) (sym e)
