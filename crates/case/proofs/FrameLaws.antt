-- Lists and slots over several steps, and the next frame, lent and back. Assumes nothing.
use Rattle.std.proofs.Common.{◌≡◌, ℕ, ◌+◌, ◌-◌, ◌*◌, ◌^◌, ◌<◌, ◌≤◌, List, ◌++◌, length, take, drop, sym, refl, ap, ◌∙◌, subst, ap₂, arith, length-append, length-drop, length-take, length-take-le, get_or-drop, take_all, get_or-take, get_or-append-add}
use mathlib.Core.Option.{Option, some, none}
use lib.ListN.{get_or-append}
use Rattle.layout.specs.Bytes.{byte}
use Rattle.scalar.specs.declared.value.Value.{Value}
use Rattle.scalar.specs.Value.{value_of}
use Rattle.table.specs.declared.places.Table.{Table}
use Rattle.case.specs.Frame.{row_at, slot_at, next_slot, Rows, Listed, Filled, Fillable}
use Rattle.case.specs.Evaluation.{Framed, Done}
use Rattle.case.proofs.SlotLaws.{number_same, slot_same}

pub none_some : {A : Type 0} {x : A} → ◌≡◌ {A = Option A} none (some x) → ⊥
none_some p = let z : ◌≡◌ {A = ℕ} 0 1 = cc in omega arith

-- the bytes below k are as they were
abbrev pub Kept : ℕ → List ℕ → List ℕ → Type 0
Kept k w w' = (j : ℕ) → j < k → byte w' j ≡ byte w j

-- rows as they were
abbrev pub SameRows : List ℕ → ℕ → List ℕ → ℕ → ℕ → Type 0
SameRows w at w' at' n = (i : ℕ) → i < n → row_at w' at' i ≡ row_at w at i

pub row_same : (w w' : List ℕ) (at at' i : ℕ) → ((j : ℕ) → j < 2 → byte w' (at' + 2 * i + j) ≡ byte w (at + 2 * i + j)) → row_at w' at' i ≡ row_at w at i
row_same w w' at at' i h = number_same 2 w' w (at' + 2 * i) (at + 2 * i) h

-- what is kept below keeps the list, and the slots
pub kept_rows : (k : ℕ) (w w' : List ℕ) (at n : ℕ) → at + 2 * n ≤ k → Kept k w w' → SameRows w at w' at n
kept_rows k w w' at n fits kept i h = row_same w w' at at i (λ j b. kept (at + 2 * i + j) (omega arith))

pub kept_slot : (w w' : List ℕ) → Kept 5632 w w' → (r : ℕ) → r < 512 → slot_at w' r ≡ slot_at w r
kept_slot w w' kept r h = slot_same w' w r (λ j a b. kept j (omega arith))

pub listed_to : (w w' : List ℕ) (at at' n : ℕ) → SameRows w at w' at' n → (r : ℕ) → Listed w at n r → Listed w' at' n r
listed_to w w' at at' n same r l = (l.0, l.1, same l.0 l.1 ∙ l.2)

pub listed_from : (w w' : List ℕ) (at at' n : ℕ) → SameRows w at w' at' n → (r : ℕ) → Listed w' at' n r → Listed w at n r
listed_from w w' at at' n same r l = (l.0, l.1, sym (same l.0 l.1) ∙ l.2)

pub rows_to : (w w' : List ℕ) (at at' n rows : ℕ) → SameRows w at w' at' n → Rows w at n rows → Rows w' at' n rows
rows_to w w' at at' n rows same ok = record {
  few = ok.few;
  below = λ i h. let e = same i h in let b = ok.below i h in omega arith;
  rising = λ i j a b. let e = same i (omega arith) in let f = same j b in let c = ok.rising i j a b in omega arith;
}

pub rows_small : {w : List ℕ} {at n rows : ℕ} → rows ≤ 512 → Rows w at n rows → Rows w at n 512
rows_small s ok = record { few = ok.few; below = λ i h. let b = ok.below i h in omega arith; rising = ok.rising }

-- a listed row is a row of the table
pub listed_below : {w : List ℕ} {at n rows : ℕ} → Rows w at n rows → (r : ℕ) → Listed w at n r → r < rows
listed_below ok r l = let b = ok.below l.0 l.1 in let e = l.2 in omega arith

-- ---- what calls ask

module _ {table : List ℕ} {t : Table} {w : List ℕ} {n depth : ℕ} (f : Framed table t w n depth) where
  pub framed_fillable : 0 < depth → Fillable w n
  framed_fillable deep = record { rows_ok = rows_small f.small f.list_ok; room = let r = f.room in omega arith }

  -- after a step that keeps the list
  pub framed_kept : (d : ℕ) → d ≤ depth → (w' : List ℕ) → length w' ≡ length w → Kept 1024 w w' → Framed table t w' n d
  framed_kept d le w' long kept = record {
    list_ok = rows_to w w' 0 0 n t.rows (kept_rows 1024 w w' 0 n (let k = f.list_ok.few in omega arith) kept) f.list_ok;
    small = f.small;
    room = let r = f.room in omega arith;
    short = f.short;
  }

  -- a shallower call in the same frame
  pub framed_below : (d : ℕ) → d ≤ depth → Framed table t w n d
  framed_below d le = framed_kept d le w refl (λ j h. refl)

-- ---- what calls give

-- two steps as one: the second fills what the first left
pub done_done : {first right : ℕ → Value → Type 0} {w w₁ w₂ : List ℕ} {n : ℕ} → n ≤ 512 → length w₁ ≡ length w → Kept 1024 w w₁ → Done first w₁ n w₂
    → ((r : ℕ) (v : Value) → Listed w 0 n r → first r v → right r v) → Done right w n w₂
done_done {w = w} {w₁} {w₂} {n} few long kept d fits = record {
  long = d.long ∙ long;
  here = λ r l. fits r (slot_at w₂ r) l (d.here r (listed_to w w₁ 0 0 n (kept_rows 1024 w w₁ 0 n (omega arith) kept) r l));
  low = λ j h. d.low j h ∙ kept j h;
}

pub done_filled : {first right : ℕ → Value → Type 0} {w w₁ w₂ : List ℕ} {n : ℕ} → n ≤ 512 → length w₁ ≡ length w → Kept 1024 w w₁ → Filled first w₁ n w₂
    → ((r : ℕ) (v : Value) → Listed w 0 n r → first r v → right r v) → Done right w n w₂
done_filled few long kept d = done_done few long kept (record { long = d.long; here = d.here; low = d.low })

-- nothing done is right where nothing is asked
pub done_none : {right : ℕ → Value → Type 0} {w : List ℕ} {n : ℕ} → ((r : ℕ) → right r (slot_at w r)) → Done right w n w
done_none any = record { long = refl; here = λ r l. any r; low = λ j h. refl }

-- ---- the next frame, as it is lent, and the buffer once it is back at ys

abbrev pub lent : List ℕ → List ℕ
lent w = take (length w - 6656) (drop 6656 w)

abbrev pub back : List ℕ → List ℕ → List ℕ
back w ys = take 6656 w ++ (ys ++ drop (length w - 6656) (drop 6656 w))

lent_rest : (w : List ℕ) → lent w ≡ drop 6656 w
lent_rest w = take_all (length w - 6656) (drop 6656 w) (let l = length-drop 6656 w in omega arith)

pub lent_byte : (w : List ℕ) (j : ℕ) → byte (lent w) j ≡ byte w (6656 + j)
lent_byte w j = ap (λ (l : List ℕ). byte l j) (lent_rest w) ∙ get_or-drop 6656 w j 0

pub lent_length : (w : List ℕ) → length (lent w) ≡ length w - 6656
lent_length w = ap length (lent_rest w) ∙ length-drop 6656 w

pub lent_rows : (w : List ℕ) (n : ℕ) → SameRows w 6656 (lent w) 0 n
lent_rows w n i h = row_same w (lent w) 6656 0 i (λ j b. lent_byte w (0 + 2 * i + j) ∙ ap (byte w) (at_row j))
  where
    at_row : (j : ℕ) → 6656 + (0 + 2 * i + j) ≡ 6656 + 2 * i + j
    at_row j = omega arith

-- a slot of the lent part is one of the next frame
pub slot_moved : (w ys : List ℕ) (r : ℕ) → ((j : ℕ) → j < 5632 → byte w (6656 + j) ≡ byte ys j) → r < 512 → next_slot w r ≡ slot_at ys r
slot_moved w ys r same h =
    ap₂ value_of (ap (byte w) kind_at ∙ same (1024 + 9 * r) (omega arith))
    (number_same 8 w ys (7681 + 9 * r) (1025 + 9 * r) (λ j b. ap (byte w) (payload_at j) ∙ same (1025 + 9 * r + j) (omega arith)))
  where
    kind_at : 7680 + 9 * r ≡ 6656 + (1024 + 9 * r)
    kind_at = omega arith

    payload_at : (j : ℕ) → 7681 + 9 * r + j ≡ 6656 + (1025 + 9 * r + j)
    payload_at j = omega arith

pub lent_slot : (w : List ℕ) (r : ℕ) → r < 512 → next_slot w r ≡ slot_at (lent w) r
lent_slot w r h = slot_moved w (lent w) r (λ j b. sym (lent_byte w j)) h

module _ (w ys : List ℕ) (long : 13312 ≤ length w) (same : length ys ≡ length (lent w)) where
  pub back_low : Kept 6656 w (back w ys)
  back_low j h =
      get_or-append (take 6656 w) (ys ++ drop (length w - 6656) (drop 6656 w)) 0 j (let l = length-take 6656 w in omega arith)
      ∙ get_or-take 6656 w j 0 h

  pub back_high : (j : ℕ) → j < length ys → byte (back w ys) (6656 + j) ≡ byte ys j
  back_high j h =
      ap (λ (k : ℕ). byte (back w ys) (k + j)) (sym (length-take-le 6656 w (omega arith)))
      ∙ get_or-append-add (take 6656 w) (ys ++ drop (length w - 6656) (drop 6656 w)) j 0
      ∙ get_or-append ys (drop (length w - 6656) (drop 6656 w)) 0 j h

  pub back_length : length (back w ys) ≡ length w
  back_length =
      let a = length-append (take 6656 w) (ys ++ drop (length w - 6656) (drop 6656 w)) in
      let b = length-append ys (drop (length w - 6656) (drop 6656 w)) in
      let c = length-take-le 6656 w (omega arith) in
      let d = length-drop (length w - 6656) (drop 6656 w) in
      let e = length-drop 6656 w in
      let p = lent_length w in
      omega arith

  pub back_slot : (r : ℕ) → r < 512 → next_slot (back w ys) r ≡ slot_at ys r
  back_slot r h = slot_moved (back w ys) ys r (λ j b. back_high j (let p = lent_length w in omega arith)) h

  -- a list of the next frame that the call kept
  pub back_rows : (n : ℕ) → n ≤ 512 → Kept 1024 (lent w) ys → SameRows w 6656 (back w ys) 6656 n
  back_rows n few kept i h = row_same w (back w ys) 6656 6656 i kept_at
    where
      at_row : (j : ℕ) → 6656 + 2 * i + j ≡ 6656 + (2 * i + j)
      at_row j = omega arith

      kept_at : (j : ℕ) → j < 2 → byte (back w ys) (6656 + 2 * i + j) ≡ byte w (6656 + 2 * i + j)
      kept_at j b =
          ap (byte (back w ys)) (at_row j) ∙ back_high (2 * i + j) (let p = lent_length w in omega arith) ∙ kept (2 * i + j) (omega arith)
          ∙ lent_byte w (2 * i + j) ∙ ap (byte w) (sym (at_row j))

-- what a call in the next frame asks
pub lent_framed : {table : List ℕ} {t : Table} {w : List ℕ} {n : ℕ} (depth : ℕ) → Rows w 6656 n t.rows → t.rows ≤ 512 → 6656 * (depth + 1) ≤ length w → length table < 2 ^ 32
    → Framed table t (lent w) n depth
lent_framed {t = t} {w} {n} depth ok small room short = record {
  list_ok = rows_to w (lent w) 6656 0 n t.rows (lent_rows w n) ok;
  small = small;
  room = let l = lent_length w in omega arith;
  short = short;
}

-- what is known of the buffer once the next frame is back
pub record NextDone (right : ℕ → Value → Type 0) (w : List ℕ) (n : ℕ) (w' : List ℕ) : Type 0 where
  pub long : length w' ≡ length w
  pub low : Kept 6656 w w'
  pub same_rows : SameRows w 6656 w' 6656 n
  pub here : (r : ℕ) → r < 512 → Listed w 6656 n r → right r (next_slot w' r)

pub next_done : {right : ℕ → Value → Type 0} {w : List ℕ} {n : ℕ} {ys : List ℕ} → n ≤ 512 → 13312 ≤ length w → Done right (lent w) n ys → NextDone right w n (back w ys)
next_done {right} {w} {n} {ys} few room d = record {
  long = back_length w ys room d.long;
  low = back_low w ys room d.long;
  same_rows = back_rows w ys room d.long n few d.low;
  here = λ r h l. subst (right r) (sym (back_slot w ys room d.long r h)) (d.here r (listed_to w (lent w) 6656 0 n (lent_rows w n) r l));
}
