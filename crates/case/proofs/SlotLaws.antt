-- Slots of the work buffer: what was put is there, a put changes no other slot, and a slot is read from its nine bytes alone. Assumes nothing.
use Rattle.std.proofs.Common.{◌≡◌, ℕ, zero, suc, ◌+◌, ◌*◌, ◌^◌, ◌<◌, ◌≤◌, ◌⊎◌, List, [], ◌∷◌, length, take, drop, set, sym, refl, ap, ◌∙◌, subst, ap₂, inl, inr, ⊎_elim, add-zero, add-suc, suc-add, arith, length-set, get_or-drop, take_all, get_or-set_other, get_or-set_same, drop-drop}
use native.Mathlib.Decide.{dec_lt}
use lib.Seq.{sets, length-sets, take-nil}
use Rattle.layout.specs.Bytes.{byte, number, number_at, number_bytes}
use Rattle.layout.proofs.BytesLaws.{length_number_bytes, number_number_bytes}
use Rattle.scalar.specs.declared.value.Value.{Value}
use Rattle.scalar.specs.Value.{kind_of, payload_of, value_of, Storable}
use Rattle.scalar.proofs.ValueLaws.{payload_back, value_of_stores}
use Rattle.case.specs.Frame.{slot_at, next_slot, SlotPut}

-- ---- a run of stores

sets_below : (vs l : List ℕ) (i j : ℕ) → j < i → byte (sets l i vs) j ≡ byte l j
sets_below [] l i j h = refl
sets_below (v ∷ vs) l i j h = sets_below vs (set l i v) (suc i) j (omega arith) ∙ get_or-set_other l i j v 0 (λ e. omega arith)

sets_above : (vs l : List ℕ) (i j : ℕ) → i + length vs ≤ j → byte (sets l i vs) j ≡ byte l j
sets_above [] l i j h = refl
sets_above (v ∷ vs) l i j h = sets_above vs (set l i v) (suc i) j (omega arith) ∙ get_or-set_other l i j v 0 (λ e. omega arith)

sets_at : (vs l : List ℕ) (i k : ℕ) → i + length vs ≤ length l → k < length vs → byte (sets l i vs) (i + k) ≡ byte vs k
sets_at [] l i k h b = absurd (omega arith)
sets_at (v ∷ vs) l i zero h b =
    ap (byte (sets l i (v ∷ vs))) (add-zero i)
    ∙ sets_below vs (set l i v) (suc i) i (omega arith)
    ∙ get_or-set_same l i v 0 (omega arith)
sets_at (v ∷ vs) l i (suc k) h b =
    ap (byte (sets l i (v ∷ vs))) (add-suc i k ∙ sym (suc-add i k))
    ∙ sets_at vs (set l i v) (suc i) k (simp length-set (omega arith)) (omega arith)

-- ---- numbers at places

number_first : (k : ℕ) (l : List ℕ) → number (take (suc k) l) ≡ byte l 0 + 256 * number (take k (drop 1 l))
unfolding number
number_first k [] = rw (take-nil k) refl
number_first k (b ∷ l) = refl

-- a number is its first byte and, times 256, the number behind it
number_step : (k : ℕ) (l : List ℕ) (at : ℕ) → number_at (suc k) l at ≡ byte l at + 256 * number_at k l (at + 1)
number_step k l at =
    let low : byte (drop at l) 0 ≡ byte l at = get_or-drop at l 0 0 ∙ ap (byte l) (add-zero at) in
    let high : number (take k (drop 1 (drop at l))) ≡ number_at k l (at + 1) = ap (λ (m : List ℕ). number (take k m)) (drop-drop 1 at l) in
    number_first k (drop at l) ∙ ap₂ (λ (a b : ℕ). a + 256 * b) low high

-- numbers are equal where their bytes are
pub number_same : (k : ℕ) (l m : List ℕ) (at to : ℕ) → ((j : ℕ) → j < k → byte l (at + j) ≡ byte m (to + j)) → number_at k l at ≡ number_at k m to
number_same zero l m at to h = refl
number_same (suc k) l m at to h =
    number_step k l at
    ∙ ap₂ (λ (a b : ℕ). a + 256 * b) first (number_same k l m (at + 1) (to + 1) later)
    ∙ sym (number_step k m to)
  where
    first : byte l at ≡ byte m to
    first = ap (byte l) (sym (add-zero at)) ∙ h 0 (omega arith) ∙ ap (byte m) (add-zero to)

    later : (j : ℕ) → j < k → byte l (at + 1 + j) ≡ byte m (to + 1 + j)
    later j b =
        let p : at + 1 + j ≡ at + suc j = omega arith in
        let q : to + suc j ≡ to + 1 + j = omega arith in
        ap (byte l) p ∙ h (suc j) (omega arith) ∙ ap (byte m) q

-- ---- slots

-- a slot is read from its nine bytes alone
pub slot_same : (l m : List ℕ) (r : ℕ) → ((j : ℕ) → 1024 + 9 * r ≤ j → j < 1033 + 9 * r → byte l j ≡ byte m j) → slot_at l r ≡ slot_at m r
slot_same l m r h =
    ap₂ value_of (h (1024 + 9 * r) (omega arith) (omega arith))
    (number_same 8 l m (1025 + 9 * r) (1025 + 9 * r) (λ j b. h (1025 + 9 * r + j) (omega arith) (omega arith)))

-- of the next frame too
pub next_same : (l m : List ℕ) (r : ℕ) → ((j : ℕ) → 7680 + 9 * r ≤ j → j < 7689 + 9 * r → byte l j ≡ byte m j) → next_slot l r ≡ next_slot m r
next_same l m r h =
    ap₂ value_of (h (7680 + 9 * r) (omega arith) (omega arith))
    (number_same 8 l m (7681 + 9 * r) (7681 + 9 * r) (λ j b. h (7681 + 9 * r + j) (omega arith) (omega arith)))

-- the slots of two rows stand apart
rows_apart : (r q : ℕ) → (q ≡ r → ⊥) → (1033 + 9 * q ≤ 1024 + 9 * r) ⊎ (1033 + 9 * r ≤ 1024 + 9 * q)
rows_apart r q n = go (dec_lt r q)
  where
    go : Dec (r < q) → (1033 + 9 * q ≤ 1024 + 9 * r) ⊎ (1033 + 9 * r ≤ 1024 + 9 * q)
    go (yes h) = inr (omega arith)
    go (no h) = inl (omega arith)

-- the nine bytes of a kind and a payload
abbrev slot_bytes : ℕ → ℕ → List ℕ
slot_bytes k p = k ∷ number_bytes 8 p

nine : (k p : ℕ) → length (slot_bytes k p) ≡ 9
nine k p = ap suc (length_number_bytes 8 p)

-- a kind's and a payload's nine bytes, stored in the slot of a row
pub parts_put : (w : List ℕ) (r k p : ℕ) → r < 512 → 5632 ≤ length w → p < 2 ^ 64 → (w' : List ℕ) → w' ≡ sets w (1024 + 9 * r) (slot_bytes k p) → SlotPut w r (value_of k p) w'
parts_put w r k p small room bits w' e = subst (SlotPut w r (value_of k p)) (sym e) (record {
  long = length-sets w (1024 + 9 * r) (slot_bytes k p);
  here = ap₂ value_of first payload;
  others = λ q n. slot_same m w q (λ j a b. ⊎_elim (λ (h : 1033 + 9 * q ≤ 1024 + 9 * r). below j (omega arith)) (λ (h : 1033 + 9 * r ≤ 1024 + 9 * q). above j (omega arith)) (rows_apart r q n));
  low = λ j h. below j (omega arith);
  high = λ j h. above j (omega arith);
})
  where
    m : List ℕ
    m = sets w (1024 + 9 * r) (slot_bytes k p)

    below : (j : ℕ) → j < 1024 + 9 * r → byte m j ≡ byte w j
    below j h = sets_below (slot_bytes k p) w (1024 + 9 * r) j h

    above : (j : ℕ) → 1033 + 9 * r ≤ j → byte m j ≡ byte w j
    above j h = sets_above (slot_bytes k p) w (1024 + 9 * r) j (omega (arith, nine k p))

    nth : (j : ℕ) → j < 9 → byte m (1024 + 9 * r + j) ≡ byte (slot_bytes k p) j
    nth j h = sets_at (slot_bytes k p) w (1024 + 9 * r) j (omega (arith, nine k p)) (omega (arith, nine k p))

    first : byte m (1024 + 9 * r) ≡ k
    first = ap (byte m) (sym (add-zero (1024 + 9 * r))) ∙ nth 0 (omega arith)

    behind : (j : ℕ) → j < 8 → byte m (1025 + 9 * r + j) ≡ byte (number_bytes 8 p) (0 + j)
    behind j h =
        let before : 1025 + 9 * r + j ≡ 1024 + 9 * r + suc j = omega arith in
        let after : j ≡ 0 + j = omega arith in
        ap (byte m) before ∙ nth (suc j) (omega arith) ∙ ap (byte (number_bytes 8 p)) after

    payload : number_at 8 m (1025 + 9 * r) ≡ p
    payload =
        number_same 8 m (number_bytes 8 p) (1025 + 9 * r) 0 behind
        ∙ ap number (take_all 8 (number_bytes 8 p) (omega (arith, length_number_bytes 8 p)))
        ∙ number_number_bytes 8 p bits

-- a value's kind and payload keep it
pub slot_put : {w : List ℕ} {r : ℕ} {v : Value} {w' : List ℕ} {k p : ℕ} → Storable v → k ≡ kind_of v → p ≡ payload_of v → SlotPut w r (value_of k p) w' → SlotPut w r v w'
slot_put {w} {r} {v} {w'} stores a b s = subst (λ (x : Value). SlotPut w r x w') (ap₂ value_of a b ∙ payload_back v stores) s

-- the value of a slot's kind and payload, and that it can be stored
pub slot_got : (w : List ℕ) (at p : ℕ) (v : Value) → p ≡ number_at 8 w (at + 1) → p < 2 ^ 64 → v ≡ value_of (byte w at) p → (v ≡ value_of (byte w at) (number_at 8 w (at + 1))) × Storable v
slot_got w at p v e b f = (f ∙ ap (value_of (byte w at)) e, subst Storable (sym f) (value_of_stores (byte w at) p b))

-- a slot of the next frame, by its parts
pub slot_copied : {w : List ℕ} {r : ℕ} {w' : List ℕ} {k p : ℕ} → k ≡ byte w (7680 + 9 * r) → p ≡ number_at 8 w (7680 + 9 * r + 1) → SlotPut w r (value_of k p) w' → SlotPut w r (next_slot w r) w'
slot_copied {w} {r} {w'} a b s =
    let e : 7680 + 9 * r + 1 ≡ 7681 + 9 * r = omega arith in
    subst (λ (x : Value). SlotPut w r x w') (ap₂ value_of a (b ∙ ap (number_at 8 w) e)) s

-- a value by its kind and its payload
pub stored_is : (v : Value) {k p : ℕ} {r : Value} → k ≡ kind_of v → p ≡ payload_of v → r ≡ value_of k p → p < 2 ^ 64 → Storable r × (Storable v → r ≡ v)
stored_is v {k} {p} {r} a b c small = (
  subst Storable (sym c) (value_of_stores k p small),
  λ s. c ∙ ap₂ value_of a b ∙ payload_back v s,
)
