-- Casts in the slots of the listed rows: floats by their bits as far as they go, the rows behind them by the values. Assumes nothing.
use Rattle.std.proofs.Common.{◌≡◌, ℕ, ◌+◌, ◌-◌, ◌*◌, ◌^◌, ◌<◌, ◌≤◌, Bool, true, false, cond, eqb, List, [], ◌∷◌, sym, refl, ap, ◌∙◌, subst, inl, true≢false, arith, eqb-true}
use native.Mathlib.Decide.{dec_lt}
use Rattle.layout.specs.Bytes.{byte, number_at}
use Rattle.scalar.specs.declared.types.DataType.{DataType}
use Rattle.scalar.specs.declared.types.DataType.TheVariants.{Int32, Int64}
use Rattle.scalar.specs.declared.value.Value.{Value}
use Rattle.scalar.specs.declared.value.Value.TheVariants.{Null, Failed}
use Rattle.scalar.specs.Cast.{cast_entry}
use Rattle.scalar.specs.Casts.{truncated_as, failed, cast_value}
use Rattle.scalar.specs.Value.{value_of, float_value, Gives}
use Rattle.scalar.proofs.CastLaws.{cast_gives, bits_cast}
use Rattle.scalar.proofs.OperationLaws.{NotFailed, not_failed, float_held, tried_gives}
use types.Run.{OneOf, miss}
use denote.Enum.Declared.{tag_of}
use Rattle.case.specs.contracts.rows.Op.{the_type}
use Rattle.case.specs.declared.rows.Op.{Op}
use Rattle.case.specs.declared.rows.Op.TheVariants.{Not, Negative, IsNotNull, Cast, TryCast}
use Rattle.case.specs.Frame.{row_at, slot_at, Listed, SlotPut, FilledFrom, Filled, Fillable, FillableFrom, operation_of}
use Rattle.case.specs.Casting.{castless, cast_to, integer_type, RowTruncated}
use Rattle.case.proofs.SlotLaws.{number_same}
use Rattle.case.proofs.RowsLaws.{FilledSoFar, none_yet, slot_fresh, next}

-- ---- one float

-- the integer of a float's bits is the float's cast
cut_gives : (short : Bool) (n : ℕ) {v : Value} → n < 2 ^ 64 → v ≡ truncated_as (integer_type short) n → Gives (cast_entry (integer_type short)) (float_value n) v
cut_gives true n h p = cast_gives Int32 (float_value n) (p ∙ bits_cast Int32 n h)
cut_gives false n h p = cast_gives Int64 (float_value n) (p ∙ bits_cast Int64 n h)

-- and, null where it has failed, its try-cast
pub cast_right : (short tried : Bool) (n : ℕ) {v : Value} → tried ≡ false → n < 2 ^ 64 → v ≡ truncated_as (integer_type short) n → Gives (operation_of (cast_to tried (integer_type short))) (float_value n) v
cast_right short tried n e h p = rw e (cut_gives short n h p)

pub try_right : (short tried : Bool) (n : ℕ) {v r : Value} → tried ≡ true → n < 2 ^ 64 → v ≡ truncated_as (integer_type short) n → r ≡ cond (failed v) Null v
    → Gives (operation_of (cast_to tried (integer_type short))) (float_value n) r
try_right short tried n {v} e h p q = rw (e, q) (tried_gives (integer_type short) (float_value n) (float_held n) v (failed v) refl (cut_gives short n h p))

-- ---- one value

-- what has failed stays so
pub failed_right : (tried : Bool) (to : DataType) {v : Value} → v ≡ Failed → Gives (operation_of (cast_to tried to)) v v
failed_right true to e = rw e (record { means = λ rule table. refl; stores = λ s. s })
failed_right false to e = rw e (record { means = λ rule table. refl; stores = λ s. s })

-- a value is cast, or try-cast
pub value_cast : (tried : Bool) (to : DataType) (v : Value) {r : Value} → tried ≡ false → r ≡ cast_value to v → Gives (operation_of (cast_to tried to)) v r
value_cast tried to v k p = rw k (cast_gives to v p)

pub value_tried : (tried : Bool) (to : DataType) (v : Value) {u r : Value} → tried ≡ true → NotFailed v → u ≡ cast_value to v → r ≡ cond (failed u) Null u → Gives (operation_of (cast_to tried to)) v r
value_tried tried to v {u} k h p q = rw (k, q) (tried_gives to v (not_failed v h) u (failed u) refl (cast_gives to v p))

-- ---- one row

-- null is cast to null
null_gives : (short tried : Bool) → Gives (operation_of (cast_to tried (integer_type short))) Null Null
unfolding cast_entry
null_gives true true = record { means = λ rule table. refl; stores = λ s. s }
null_gives true false = record { means = λ rule table. refl; stores = λ s. s }
null_gives false true = record { means = λ rule table. refl; stores = λ s. s }
null_gives false false = record { means = λ rule table. refl; stores = λ s. s }

module _ (short tried : Bool) {w : List ℕ} {r : ℕ} where
  -- a slot of a float has its bits
  pub float_row : {w' : List ℕ} {bits : ℕ} {v : Value} → byte w (1024 + 9 * r) ≡ 4 → bits ≡ number_at 8 w (1025 + 9 * r) → Gives (operation_of (cast_to tried (integer_type short))) (float_value bits) v → SlotPut w r v w'
      → RowTruncated short tried w r true w'
  unfolding value_of
  float_row {w'} {bits} {v} k b g p = record {
    put = λ _. (v, p, subst (λ (x : Value). Gives (operation_of (cast_to tried (integer_type short))) x v) (ap float_value b ∙ ap (λ (x : ℕ). value_of x (number_at 8 w (1025 + 9 * r))) (sym k)) g);
    kept = λ e. absurd (true≢false e);
  }

  -- a slot of null stays, and so does any other
  pub other_row : {k : ℕ} → k ≡ byte w (1024 + 9 * r) → RowTruncated short tried w r (eqb k 0) w
  unfolding value_of
  other_row {k} e = record {
    put = λ z.
        let is_null_lem : Null ≡ slot_at w r = ap (λ (x : ℕ). value_of x (number_at 8 w (1025 + 9 * r))) (sym (eqb-true _ _ z) ∙ e) in
        (slot_at w r, put_same, subst (λ (x : Value). Gives (operation_of (cast_to tried (integer_type short))) x x) is_null_lem (null_gives short tried));
    kept = λ _. refl;
  }
    where
      put_same : SlotPut w r (slot_at w r) w
      put_same = record { long = refl; here = refl; others = λ q h. refl; low = λ j h. refl; high = λ j h. refl }

-- one turn of the loop: the row is done, or nothing has changed
module _ {short tried : Bool} {w m m' : List ℕ} {n i r : ℕ} {b : Bool} (s : FilledSoFar (λ q x. Gives (operation_of (cast_to tried (integer_type short))) (slot_at w q) x) w n i m) (ok : Fillable w n) (more : i < n)
    (at : r ≡ row_at m 0 i) (row : RowTruncated short tried m r b m') where
  pub row_done : b ≡ true → FilledSoFar (λ q x. Gives (operation_of (cast_to tried (integer_type short))) (slot_at w q) x) w n (i + 1) m'
  row_done e =
      let p = row.put e in
      next s ok more at p.1 (subst (λ (x : Value). Gives (operation_of (cast_to tried (integer_type short))) x p.0) (slot_fresh s ok more at) p.2)

  pub row_kept : b ≡ false → FilledSoFar (λ q x. Gives (operation_of (cast_to tried (integer_type short))) (slot_at w q) x) w n i m'
  row_kept e = subst (FilledSoFar (λ q x. Gives (operation_of (cast_to tried (integer_type short))) (slot_at w q) x) w n i) (sym (row.kept e)) s

-- no row yet
pub none_cast : {right : ℕ → Value → Type 0} {w : List ℕ} {n : ℕ} → (0 ≤ n) × Filled right w 0 w
none_cast {right} {w} {n} = let s : FilledSoFar right w n 0 w = none_yet in (s.few, s.done)

-- the cast by the type
pub cast_by : {tried b : Bool} {to t : DataType} {w w' : List ℕ} {n r : ℕ} → to ≡ t → tried ≡ b → (r ≤ n) × Filled (λ q x. Gives (operation_of (cast_to b t)) (slot_at w q) x) w r w'
    → (r ≤ n) × Filled (λ q x. Gives (operation_of (cast_to tried to)) (slot_at w q) x) w r w'
cast_by e k f = rw (e, k) f

-- ---- the rows behind the first k

module _ (op : Op) {w w₁ : List ℕ} {n k : ℕ} (ok : Fillable w n) (few : k ≤ n) (first : Filled (λ q x. Gives (operation_of op) (slot_at w q) x) w k w₁) where
  -- they are the list's
  row_behind : (i : ℕ) → i < n - k → row_at w₁ (2 * k) i ≡ row_at w 0 (k + i)
  row_behind i h =
      number_same 2 w₁ w (2 * k + 2 * i) (0 + 2 * (k + i))
      (λ j b. let e : 2 * k + 2 * i + j ≡ 0 + 2 * (k + i) + j = omega arith in ap (byte w₁) e ∙ first.low (0 + 2 * (k + i) + j) (omega (arith, ok.rows_ok.few)))

  pub behind_fillable : FillableFrom (2 * k) w₁ (n - k)
  behind_fillable = record {
    rows_ok = record {
      few = omega (arith, ok.rows_ok.few);
      below = λ i h. omega (arith, row_behind i h, ok.rows_ok.below (k + i) (omega arith));
      rising = λ i j a b. omega (arith, row_behind i (omega arith), row_behind j b, ok.rows_ok.rising (k + i) (k + j) (omega arith) (omega arith));
    };
    room = omega (arith, ok.room, first.long);
    list_in = omega (arith, ok.room, first.long, ok.rows_ok.few);
    clear = inl (omega (arith, ok.rows_ok.few));
  }

  -- none of them is among the first
  apart : (r : ℕ) → Listed w 0 k r → Listed w₁ (2 * k) (n - k) r → ⊥
  apart r a b =
      let i = a.1 in
      let j = b.1 in
      omega (arith, a.2, b.2, row_behind b.0 j, ok.rows_ok.rising a.0 (k + b.0) (omega arith) (omega arith))

  -- with both, all rows are done
  pub behind_done : {w₂ : List ℕ} → FilledFrom (2 * k) (λ q x. Gives (operation_of op) (slot_at w₁ q) x) w₁ (n - k) w₂ → Filled (λ q x. Gives (operation_of op) (slot_at w q) x) w n w₂
  behind_done {w₂} rest = record {
    long = rest.long ∙ first.long;
    here = λ r l. here_at r l.0 l.1 l.2 (dec_lt l.0 k);
    others = λ r h o. rest.others r h (λ l. o (among r l)) ∙ first.others r h (λ l. o (l.0, (let b = l.1 in omega arith), l.2));
    low = λ j h. rest.low j h ∙ first.low j h;
    high = λ j h. rest.high j h ∙ first.high j h;
  }
    where
      among : (r : ℕ) → Listed w₁ (2 * k) (n - k) r → Listed w 0 n r
      among r l = let b = l.1 in (k + l.0, omega arith, sym (row_behind l.0 b) ∙ l.2)

      small : (r i : ℕ) → i < n → row_at w 0 i ≡ r → r < 512
      small r i b e = omega (arith, ok.rows_ok.below i b)

      here_at : (r i : ℕ) → i < n → row_at w 0 i ≡ r → Dec (i < k) → Gives (operation_of op) (slot_at w r) (slot_at w₂ r)
      here_at r i b e (yes l) = subst (Gives (operation_of op) (slot_at w r)) (sym (rest.others r (small r i b e) (apart r (i, l, e)))) (first.here r (i, l, e))
      here_at r i b e (no g) =
          let p : k + (i - k) ≡ i = omega arith in
          let l : Listed w₁ (2 * k) (n - k) r = (i - k, omega arith, row_behind (i - k) (omega arith) ∙ ap (row_at w 0) p ∙ e) in
          subst (λ (x : Value). Gives (operation_of op) x (slot_at w₂ r)) (first.others r (small r i b e) (λ a. apart r a l)) (rest.here r l)

-- ---- the operations by their kind

-- and one that is no cast is one of these
pub no_cast : (op : Op) → OneOf (0 ∷ 1 ∷ 2 ∷ []) (tag_of the_type op) → castless op ≡ true
no_cast Not h = refl
no_cast Negative h = refl
no_cast IsNotNull h = refl
no_cast (Cast to) h = absurd (miss (0 ∷ 1 ∷ 2 ∷ []) 3 tt h)
no_cast (TryCast to) h = absurd (miss (0 ∷ 1 ∷ 2 ∷ []) 4 tt h)

-- what is filled by the operation's name
pub filled_by : {op o : Op} {w w' : List ℕ} {n : ℕ} → op ≡ o → Filled (λ q x. Gives (operation_of o) (slot_at w q) x) w n w' → Filled (λ q x. Gives (operation_of op) (slot_at w q) x) w n w'
filled_by {w = w} {w'} {n} e f = subst (λ (p : Op). Filled (λ q x. Gives (operation_of p) (slot_at w q) x) w n w') (sym e) f
