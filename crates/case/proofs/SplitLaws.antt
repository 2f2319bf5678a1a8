-- The loop that parts the rows of the open list that leave from those that stay. Assumes nothing.
use Rattle.std.proofs.Common.{◌≡◌, ℕ, ◌+◌, ◌-◌, ◌*◌, ◌<◌, ◌≤◌, List, length, get_or, set, sym, refl, ap, ◌∙◌, subst, arith, get_or-set_other, get_or-set_same}
use native.Mathlib.Decide.{ℕ_discrete}
use Rattle.layout.specs.Bytes.{byte}
use Rattle.case.specs.Frame.{row_at, slot_at, next_slot, Rows}
use Rattle.case.specs.Parting.{RowPut, Sifted, Parted}
use Rattle.case.proofs.SlotLaws.{number_same, slot_same, next_same}
use Rattle.case.proofs.SiftLaws.{put_kept, sifted_none, sifted_miss, sifted_hit}

-- where the loop stands: i of the n rows are done, m of them leave
pub record SplitSoFar (class : ℕ → ℕ) (w : List ℕ) (n i m : ℕ) (rows values w' : List ℕ) : Type 0 where
  pub upto : i ≤ n
  pub long : length w' ≡ length w
  pub low : (j : ℕ) → j < 5632 → byte w' j ≡ byte w j
  pub tail : (j : ℕ) → 5632 + 2 * i ≤ j → byte w' j ≡ byte w j
  pub stay : Sifted (λ r. class r ≡ 0) (row_at w 5632) i (row_at w' 5632) (i - m)
  pub gone : Sifted (λ r. class r ≡ 0 → ⊥) (row_at w 5632) i (λ k. get_or rows k 0) m
  pub classes : (k : ℕ) → k < m → get_or values k 0 ≡ class (get_or rows k 0)

pub split_none : {class : ℕ → ℕ} {w : List ℕ} {n : ℕ} {rows values : List ℕ} → SplitSoFar class w n 0 0 rows values w
split_none = record {
  upto = omega arith;
  long = refl;
  low = λ j h. refl;
  tail = λ j h. refl;
  stay = sifted_none;
  gone = sifted_none;
  classes = λ k h. absurd (omega arith);
}

pub split_ends : {class : ℕ → ℕ} {w : List ℕ} {n i m : ℕ} {rows values w' : List ℕ} → SplitSoFar class w n i m rows values w' → Rows w 5632 n 512 → n ≤ i
    → Parted class w n m rows values w'
split_ends {class} {w} {n} {i} {m} {rows} {values} {w'} s ok h =
    let upto = s.upto in
    let few = ok.few in
    let e : i ≡ n = omega arith in
    record {
      long = s.long;
      low = s.low;
      high = λ j b. s.tail j (omega arith);
      stay = subst (λ (k : ℕ). Sifted (λ (r : ℕ). class r ≡ 0) (row_at w 5632) k (row_at w' 5632) (k - m)) e s.stay;
      gone = subst (λ (k : ℕ). Sifted (λ (r : ℕ). class r ≡ 0 → ⊥) (row_at w 5632) k (λ (j : ℕ). get_or rows j 0) m) e s.gone;
      classes = s.classes;
    }

-- by other names
moved : {class : ℕ → ℕ} {w : List ℕ} {n i m m' : ℕ} {rows values w' rows' values' x : List ℕ} → SplitSoFar class w n i m rows values w'
    → x ≡ w' → rows' ≡ rows → values' ≡ values → m' ≡ m → SplitSoFar class w n i m' rows' values' x
moved {class} {w} {n} {i} {m} {m'} {rows} {values} {w'} {rows'} {values'} {x} s a b c d =
    subst (λ (k : ℕ). SplitSoFar class w n i k rows' values' x) (sym d)
    (subst (λ (l : List ℕ). SplitSoFar class w n i m rows' l x) (sym c)
    (subst (λ (l : List ℕ). SplitSoFar class w n i m l values x) (sym b)
    (subst (λ (l : List ℕ). SplitSoFar class w n i m rows values l) (sym a) s)))

-- one turn, at the row that is read
module _ {class : ℕ → ℕ} {w : List ℕ} {n i m : ℕ} {rows values w' : List ℕ} (s : SplitSoFar class w n i m rows values w') (ok : Rows w 5632 n 512) (room : 12288 ≤ length w)
    (more : i < n) where
  -- the row lies in the buffer
  pub split_in : 5632 + 2 * i + 2 ≤ length w'
  split_in = omega (arith, ok.few, s.long)

  -- the places that are stored to
  pub split_few : (m ≤ i) × (m < 512)
  split_few = (s.gone.few, omega (arith, s.gone.few, ok.few))

  module _ {r : ℕ} (e : r ≡ row_at w' 5632 i) where
    -- the list is as it was from here on
    same_row : r ≡ row_at w 5632 i
    same_row = e ∙ number_same 2 w' w (5632 + 2 * i) (5632 + 2 * i) (λ j b. s.tail (5632 + 2 * i + j) (omega arith))

    -- its slots lie in the buffer
    pub split_fits : (r < 512) × (12288 ≤ length w')
    split_fits = (omega (arith, same_row, ok.below i more), omega (arith, s.long))

    -- the place where it stays lies in the buffer
    pub stay_in : (5632 + 2 * (i - m) + 2 ≤ length w') × (r < 65536)
    stay_in = (omega (arith, ok.few, s.long), omega (arith, split_fits.0))

    -- its slots are as they were
    pub slots_kept : (slot_at w' r ≡ slot_at w r) × (next_slot w' r ≡ next_slot w r)
    slots_kept =
        let small = split_fits.0 in
        let upto = s.upto in
        let few = ok.few in
        (slot_same w' w r (λ j a b. s.low j (omega arith)), next_same w' w r (λ j a b. s.tail j (omega arith)))

    -- it stays
    stayed : {w'' : List ℕ} → RowPut w' 5632 (i - m) r w'' → class r ≡ 0 → SplitSoFar class w n (i + 1) m rows values w''
    stayed {w''} put zero-class =
        let few = s.gone.few in
        let count : (i - m) + 1 ≡ (i + 1) - m = omega arith in
        record {
          upto = omega arith;
          long = put.long ∙ s.long;
          low = λ j h. put.before j (omega arith) ∙ s.low j h;
          tail = λ j h. put.behind j (omega arith) ∙ s.tail j (omega arith);
          stay = subst (λ (k : ℕ). Sifted (λ (x : ℕ). class x ≡ 0) (row_at w 5632) (i + 1) (row_at w'' 5632) k) count
              (sifted_hit s.stay (put_kept put) (put.here ∙ same_row) (sym (ap class same_row) ∙ zero-class) (λ k h. ok.rising k i h more));
          gone = sifted_miss s.gone (λ k h. refl) (λ n. n (sym (ap class same_row) ∙ zero-class));
          classes = s.classes;
        }

    -- it leaves
    left : (k : ℕ) → k ≡ class r → (k ≡ 0 → ⊥) → length rows ≡ 512 → length values ≡ 512 → SplitSoFar class w n (i + 1) (m + 1) (set rows m r) (set values m k) w'
    left k is some-class big big' =
        let few = s.gone.few in
        let small : m < 512 = split_few.1 in
        let count : i - m ≡ (i + 1) - (m + 1) = omega arith in
        record {
          upto = omega arith;
          long = s.long;
          low = s.low;
          tail = λ j h. s.tail j (omega arith);
          stay = subst (λ (x : ℕ). Sifted (λ (y : ℕ). class y ≡ 0) (row_at w 5632) (i + 1) (row_at w' 5632) x) count
              (sifted_miss s.stay (λ x h. refl) (λ z. some-class (is ∙ ap class same_row ∙ z)));
          gone = sifted_hit s.gone (λ x h. get_or-set_other rows m x r 0 (λ q. omega arith)) (get_or-set_same rows m r 0 (omega (arith, big)) ∙ same_row)
              (λ z. some-class (is ∙ ap class same_row ∙ z)) (λ x h. ok.rising x i h more);
          classes = λ x h. class_at_lem x h (ℕ_discrete x m);
        }
      where
        class_at_lem : (x : ℕ) → x < m + 1 → Dec (x ≡ m) → get_or (set values m k) x 0 ≡ class (get_or (set rows m r) x 0)
        class_at_lem x h (yes q) =
            let small : m < 512 = split_few.1 in
            subst (λ (y : ℕ). get_or (set values m k) y 0 ≡ class (get_or (set rows m r) y 0)) (sym q)
            (get_or-set_same values m k 0 (omega (arith, big')) ∙ is ∙ ap class (sym (get_or-set_same rows m r 0 (omega (arith, big)))))
        class_at_lem x h (no q) =
            get_or-set_other values m x k 0 q ∙ s.classes x (omega arith) ∙ ap class (sym (get_or-set_other rows m x r 0 q))

    -- the same where the branches have met
    pub split_stays : {w'' x : List ℕ} {rows' values' : List ℕ} {m' : ℕ} → RowPut w' 5632 (i - m) r w'' → class r ≡ 0 → x ≡ w'' → rows' ≡ rows → values' ≡ values → m' ≡ m
        → SplitSoFar class w n (i + 1) m' rows' values' x
    split_stays {w''} {x} {rows'} {values'} {m'} put z a b c d =
        moved (stayed put z) a b c d

    pub split_leaves : {k : ℕ} {x rows' values' : List ℕ} {m' : ℕ} → k ≡ class r → (k ≡ 0 → ⊥) → length rows ≡ 512 → length values ≡ 512 → x ≡ w' → rows' ≡ set rows m r → values' ≡ set values m k → m' ≡ m + 1
        → SplitSoFar class w n (i + 1) m' rows' values' x
    split_leaves {k} is some-class big big' a b c d = moved (left k is some-class big big') a b c d
