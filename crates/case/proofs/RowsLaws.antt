-- Loops over the listed rows of the work buffer: one row a turn. Assumes nothing.
use Rattle.std.proofs.Common.{◌≡◌, ℕ, ◌+◌, ◌*◌, ◌<◌, ◌≤◌, List, length, set, sym, refl, ap, ◌∙◌, subst, inl, ⊎_elim, arith, length-set, get_or-set_other, get_or-set_same}
use native.Mathlib.Decide.{ℕ_discrete}
use Rattle.layout.specs.Bytes.{byte}
use Rattle.scalar.specs.declared.value.Value.{Value}
use Rattle.scalar.specs.Value.{Gives}
use Rattle.case.specs.declared.rows.Op.{Op}
use Rattle.case.specs.Frame.{operation_of, row_at, slot_at, next_slot, Listed, SlotPut, FilledFrom, Fillable, FillableFrom, Copied, Rows, AllRows}
use Rattle.case.specs.Parting.{RowPut}
use Rattle.case.proofs.SlotLaws.{number_same, next_same}

-- what an operation gives, by its name
pub operation_gives : {op o : Op} {v r : Value} → op ≡ o → Gives (operation_of o) v r → Gives (operation_of op) v r
operation_gives {op} {o} {v} {r} e g = subst (λ (x : Op). Gives (operation_of x) v r) (sym e) g

-- ---- the slots of the listed rows

-- where the loop stands: i of the n rows of the list at a place are done
pub record FilledFromSoFar (at : ℕ) (right : ℕ → Value → Type 0) (w : List ℕ) (n i : ℕ) (w' : List ℕ) : Type 0 where
  pub few : i ≤ n
  pub done : FilledFrom at right w i w'

-- of the frame's own list
abbrev pub FilledSoFar : (ℕ → Value → Type 0) → List ℕ → ℕ → ℕ → List ℕ → Type 0
FilledSoFar = FilledFromSoFar 0

pub none_yet : {at : ℕ} {right : ℕ → Value → Type 0} {w : List ℕ} {n : ℕ} → FilledFromSoFar at right w n 0 w
none_yet = record {
  few = omega arith;
  done = record {
    long = refl;
    here = λ r l. let h : l.0 < 0 = l.1 in absurd (omega arith);
    others = λ r h o. refl;
    low = λ j h. refl;
    high = λ j h. refl;
  };
}

pub ends : {at : ℕ} {right : ℕ → Value → Type 0} {w : List ℕ} {n i : ℕ} {w' : List ℕ} → FilledFromSoFar at right w n i w' → n ≤ i → FilledFrom at right w n w'
ends {at} {right} {w} {n} {i} {w'} s h =
    let few = s.few in
    let e : i ≡ n = omega arith in
    subst (λ (k : ℕ). FilledFrom at right w k w') e s.done

-- the same by what is right of the listed rows
pub filled_as : {at : ℕ} {first right : ℕ → Value → Type 0} {w : List ℕ} {n : ℕ} {w' : List ℕ} → FilledFrom at first w n w' → ((r : ℕ) (v : Value) → first r v → right r v) → FilledFrom at right w n w'
filled_as {w' = w'} d fits = record { long = d.long; here = λ r l. fits r (slot_at w' r) (d.here r l); others = d.others; low = d.low; high = d.high }

-- one turn, at the row that is read
module _ {at : ℕ} {right : ℕ → Value → Type 0} {w : List ℕ} {n i : ℕ} {m : List ℕ} (s : FilledFromSoFar at right w n i m) (ok : FillableFrom at w n) (more : i < n) where
  -- the row lies in the buffer
  pub row_in_from : at + 2 * i + 2 ≤ length m
  row_in_from = omega (arith, ok.list_in, s.done.long)

  module _ {r : ℕ} (e : r ≡ row_at m at i) where
    -- the list is as it was
    same_row : r ≡ row_at w at i
    same_row =
        e ∙ number_same 2 m w (at + 2 * i) (at + 2 * i)
        (λ j b. ⊎_elim
        (λ (c : at + 2 * n ≤ 1024). s.done.low (at + 2 * i + j) (omega arith))
        (λ (c : 5632 ≤ at). s.done.high (at + 2 * i + j) (omega arith))
        ok.clear)

    -- its slot lies in the buffer
    pub row_fits_from : (r < 512) × (5632 ≤ length m)
    row_fits_from = (omega (arith, same_row, ok.rows_ok.below i more), omega (arith, ok.room, s.done.long))

    -- the row has not been written
    fresh : Listed w at i r → ⊥
    fresh l = let b = l.1 in omega (arith, ok.rows_ok.rising l.0 i b more, l.2, same_row)

    pub slot_fresh_from : slot_at m r ≡ slot_at w r
    slot_fresh_from = s.done.others r row_fits_from.0 fresh

    -- the next frame is as it was
    pub next_fresh_from : next_slot m r ≡ next_slot w r
    next_fresh_from = next_same m w r (λ j a b. s.done.high j (omega arith))

    -- a right value in its slot
    pub next_from : {v : Value} {m' : List ℕ} → SlotPut m r v m' → right r v → FilledFromSoFar at right w n (i + 1) m'
    next_from {v} {m'} put fits = record {
      few = omega arith;
      done = record {
        long = put.long ∙ s.done.long;
        here = λ q l. here_at q l (ℕ_discrete q r);
        others = λ q h o. put.others q (λ p. o (i, omega arith, sym (p ∙ same_row))) ∙ s.done.others q h (λ l. o (l.0, (let b = l.1 in omega arith), l.2));
        low = λ j h. put.low j h ∙ s.done.low j h;
        high = λ j h. put.high j h ∙ s.done.high j h;
      };
    }
      where
        earlier : (q k : ℕ) → k < i + 1 → row_at w at k ≡ q → (q ≡ r → ⊥) → Dec (k ≡ i) → k < i
        earlier q k b p ne (yes t) = absurd (ne (sym p ∙ ap (row_at w at) t ∙ sym same_row))
        earlier q k b p ne (no t) = omega arith

        here_at : (q : ℕ) → Listed w at (i + 1) q → Dec (q ≡ r) → right q (slot_at m' q)
        here_at q l (yes p) = subst (λ (x : ℕ). right x (slot_at m' x)) (sym p) (subst (right r) (sym put.here) fits)
        here_at q l (no p) =
            subst (right q) (sym (put.others q p)) (s.done.here q (l.0, earlier q l.0 l.1 l.2 p (ℕ_discrete l.0 i), l.2))

-- the frame's own list
pub own : {w : List ℕ} {n : ℕ} → Fillable w n → FillableFrom 0 w n
own ok = record {
  rows_ok = ok.rows_ok;
  room = ok.room;
  list_in = omega (arith, ok.rows_ok.few, ok.room);
  clear = inl (omega (arith, ok.rows_ok.few));
}

-- one turn over it
module _ {right : ℕ → Value → Type 0} {w : List ℕ} {n i : ℕ} {m : List ℕ} (s : FilledSoFar right w n i m) (ok : Fillable w n) (more : i < n) where
  pub row_in : 0 + 2 * i + 2 ≤ length m
  row_in = row_in_from s (own ok) more

  module _ {r : ℕ} (e : r ≡ row_at m 0 i) where
    pub row_fits : (r < 512) × (5632 ≤ length m)
    row_fits = row_fits_from s (own ok) more e

    pub slot_fresh : slot_at m r ≡ slot_at w r
    slot_fresh = slot_fresh_from s (own ok) more e

    pub next : {v : Value} {m' : List ℕ} → SlotPut m r v m' → right r v → FilledSoFar right w n (i + 1) m'
    next = next_from s (own ok) more e

-- ---- a list, copied behind it byte by byte

-- where the loop stands: i bytes are copied
pub record CopiedSoFar (w : List ℕ) (n from to i : ℕ) (w' : List ℕ) : Type 0 where
  pub few : i ≤ 2 * n
  pub long : length w' ≡ length w
  pub bytes_copied : (k : ℕ) → k < i → byte w' (to + k) ≡ byte w (from + k)
  pub before : (j : ℕ) → j < to → byte w' j ≡ byte w j

pub copied_none : {w : List ℕ} {n from to : ℕ} → CopiedSoFar w n from to 0 w
copied_none = record { few = omega arith; long = refl; bytes_copied = λ k h. absurd (omega arith); before = λ j h. refl }

pub copied_more : {w : List ℕ} {n from to i : ℕ} {m : List ℕ} → CopiedSoFar w n from to i m → from + 2 * n ≤ to → to + 2 * n ≤ length w → i < 2 * n
    → CopiedSoFar w n from to (i + 1) (set m (to + i) (byte m (from + i)))
copied_more {w} {n} {from} {to} {i} {m} s apart room more = record {
  few = omega arith;
  long = length-set m (to + i) (byte m (from + i)) ∙ s.long;
  bytes_copied = λ k h. copied_at k h (ℕ_discrete k i);
  before = λ j h. get_or-set_other m (to + i) j (byte m (from + i)) 0 (λ e. omega arith) ∙ s.before j h;
}
  where
    copied_at : (k : ℕ) → k < i + 1 → Dec (k ≡ i) → byte (set m (to + i) (byte m (from + i))) (to + k) ≡ byte w (from + k)
    copied_at k h (yes e) =
        subst (λ (x : ℕ). byte (set m (to + i) (byte m (from + i))) (to + x) ≡ byte w (from + x)) (sym e)
        (get_or-set_same m (to + i) (byte m (from + i)) 0 (omega (arith, s.long)) ∙ s.before (from + i) (omega arith))
    copied_at k h (no e) = get_or-set_other m (to + i) (to + k) (byte m (from + i)) 0 (λ p. e (omega arith)) ∙ s.bytes_copied k (omega arith)

pub copied_all : {w : List ℕ} {n from to i : ℕ} {w' : List ℕ} → CopiedSoFar w n from to i w' → 2 * n ≤ i → Copied w n from to w'
copied_all {w} {n} {from} {to} {i} {w'} s all = record {
  long = s.long;
  rows_copied = λ k h. number_same 2 w' w (to + 2 * k) (from + 2 * k) (λ j b. byte_at k h j b);
  before = s.before;
}
  where
    byte_at : (k : ℕ) → k < n → (j : ℕ) → j < 2 → byte w' (to + 2 * k + j) ≡ byte w (from + 2 * k + j)
    byte_at k h j b =
        let p : to + 2 * k + j ≡ to + (2 * k + j) = omega arith in
        let q : from + (2 * k + j) ≡ from + 2 * k + j = omega arith in
        ap (byte w') p ∙ s.bytes_copied (2 * k + j) (omega arith) ∙ ap (byte w) q

-- ---- all rows, put in the frame's own list

-- where the loop stands: i of the n rows are there
pub record AllRowsSoFar (n i : ℕ) (w w' : List ℕ) : Type 0 where
  pub few : i ≤ n
  pub done : AllRows i w w'

module _ {n i : ℕ} {w m : List ℕ} (s : AllRowsSoFar n i w m) (ok : (n ≤ 512) × (1024 ≤ length w)) (more : i < n) where
  pub all_more : {m' : List ℕ} → RowPut m 0 i i m' → AllRowsSoFar n (i + 1) w m'
  all_more {m'} put = record {
    few = omega arith;
    done = record {
      long = put.long ∙ s.done.long;
      rows_are = λ k h. row_is k h (ℕ_discrete k i);
      high = λ j h. put.behind j (omega (arith, ok.0)) ∙ s.done.high j h;
    };
  }
    where
      row_is : (k : ℕ) → k < i + 1 → Dec (k ≡ i) → row_at m' 0 k ≡ k
      row_is k h (yes e) = ap (row_at m' 0) e ∙ put.here ∙ sym e
      row_is k h (no e) = number_same 2 m' m (0 + 2 * k) (0 + 2 * k) (λ j b. put.before (0 + 2 * k + j) (omega arith)) ∙ s.done.rows_are k (omega arith)

-- all rows rise, and each is listed
module _ {n : ℕ} {w w' : List ℕ} (a : AllRows n w w') where
  pub all_rise : n ≤ 512 → Rows w' 0 n n
  all_rise few = record {
    few = few;
    below = λ i h. omega (arith, a.rows_are i h);
    rising = λ i j b h. omega (arith, a.rows_are i (omega arith), a.rows_are j h);
  }

  pub all_listed : (i : ℕ) → i < n → Listed w' 0 n i
  all_listed i h = (i, h, a.rows_are i h)
