-- A dense table of number keys: what stands at a number's distance from the least is the number's index. Assumes nothing.
use Rattle.std.proofs.Common.{◌≡◌, ℕ, zero, suc, ◌+◌, ◌-◌, ◌/◌, ◌<◌, ◌≤◌, Bool, true, false, cond, eqb, ltb, ◌⊎◌, List, length, get_or, set, replicate, sym, refl, ap, ◌∙◌, subst, inl, inr, arith, length-set, get_or-set_other, get_or-set_same, ltb-false, ltb-true, eq-eqb, ne_eqb}
use native.Mathlib.Decide.{ℕ_discrete}
use Rattle.table.specs.Column.{valid_in}
use Rattle.case.specs.LookUpColumns.{number_found, DenseFilled, dense_row, NumberRow}
use Rattle.case.specs.Steps.{RowsIndexed}
use Rattle.case.proofs.LookUpColumnLaws.{found_at, found_nowhere}

-- ---- the ELSE index everywhere

filled_alike : (n x i : ℕ) → i < n → get_or (replicate n x) i 0 ≡ x
filled_alike zero x i h = absurd (omega arith)
filled_alike (suc n) x zero h = refl
filled_alike (suc n) x (suc i) h = filled_alike n x i (omega arith)

-- ---- the keys

-- where the loop stands: the first k keys are in the table, and what no key has is ELSE's
pub record DenseSoFar (numbers indices : List ℕ) (size otherwise least k : ℕ) (answers : List ℕ) : Type 0 where
  pub few : k ≤ size
  pub long : length answers ≡ 256
  pub near : (j : ℕ) → j < k → (least ≤ get_or numbers j 0) × (get_or numbers j 0 ≤ least + 255)
  pub held : (j : ℕ) → j < k → get_or answers (get_or numbers j 0 - least) 0 ≡ get_or indices j 0 / 2 + 1
  pub free : (d : ℕ) → d < 256 → ((j : ℕ) → j < k → get_or numbers j 0 ≡ least + d → ⊥) → get_or answers d 0 ≡ otherwise / 2 + 1

pub dense_none : {numbers indices : List ℕ} {size otherwise least : ℕ} → DenseSoFar numbers indices size otherwise least 0 (replicate 256 (otherwise / 2 + 1))
dense_none {otherwise = otherwise} = record { few = omega arith; long = refl; near = λ j h. absurd (omega arith); held = λ j h. absurd (omega arith); free = λ d h no_key. filled_alike 256 (otherwise / 2 + 1) d h }

-- a number is that of a key, or of none
key_or_none : (numbers : List ℕ) (x n : ℕ) → ((j : ℕ) × (j < n) × (get_or numbers j 0 ≡ x)) ⊎ ((j : ℕ) → j < n → get_or numbers j 0 ≡ x → ⊥)
key_or_none numbers x zero = inr (λ j h. absurd (omega arith))
key_or_none numbers x (suc n) = go (key_or_none numbers x n) (ℕ_discrete (get_or numbers n 0) x)
  where
    last : ((j : ℕ) → j < n → get_or numbers j 0 ≡ x → ⊥) → (get_or numbers n 0 ≡ x → ⊥) → (j : ℕ) → j < suc n → Dec (j ≡ n) → get_or numbers j 0 ≡ x → ⊥
    last before d j h (yes e) p = d (ap (λ (i : ℕ). get_or numbers i 0) (sym e) ∙ p)
    last before d j h (no e) p = before j (omega arith) p

    go : ((j : ℕ) × (j < n) × (get_or numbers j 0 ≡ x)) ⊎ ((j : ℕ) → j < n → get_or numbers j 0 ≡ x → ⊥) → Dec (get_or numbers n 0 ≡ x)
        → ((j : ℕ) × (j < suc n) × (get_or numbers j 0 ≡ x)) ⊎ ((j : ℕ) → j < suc n → get_or numbers j 0 ≡ x → ⊥)
    go (inl (j, h, e)) d = inl (j, omega arith, e)
    go (inr before) (yes e) = inl (n, omega arith, e)
    go (inr before) (no d) = inr (λ j h p. last before d j h (ℕ_discrete j n) p)

module _ {numbers indices : List ℕ} {size otherwise least k : ℕ} {answers : List ℕ} (s : DenseSoFar numbers indices size otherwise least k answers) where
  module _ (once : (i j : ℕ) → i < j → j < size → get_or numbers j 0 ≡ get_or numbers i 0 → ⊥) where
    -- one more
    pub dense_more : k < size → least ≤ get_or numbers k 0 → get_or numbers k 0 - least ≤ 255
        → DenseSoFar numbers indices size otherwise least (k + 1) (set answers (get_or numbers k 0 - least) (get_or indices k 0 / 2 + 1))
    dense_more h low high = record {
      few = omega arith;
      long = length-set answers at new ∙ s.long;
      near = λ j l. near_at j l (ℕ_discrete j k);
      held = λ j l. held_at j l (ℕ_discrete j k);
      free = λ d l no_key. get_or-set_other answers at d new 0 (λ e. no_key k (omega arith) (omega (arith, e, low))) ∙ s.free d l (λ j m. no_key j (omega arith));
    }
      where
        at : ℕ
        at = get_or numbers k 0 - least

        new : ℕ
        new = get_or indices k 0 / 2 + 1

        near_at : (j : ℕ) → j < k + 1 → Dec (j ≡ k) → (least ≤ get_or numbers j 0) × (get_or numbers j 0 ≤ least + 255)
        near_at j l (yes e) = subst (λ (i : ℕ). (least ≤ get_or numbers i 0) × (get_or numbers i 0 ≤ least + 255)) (sym e) (low, omega arith)
        near_at j l (no d) = s.near j (omega arith)

        held_at : (j : ℕ) → j < k + 1 → Dec (j ≡ k) → get_or (set answers at new) (get_or numbers j 0 - least) 0 ≡ get_or indices j 0 / 2 + 1
        held_at j l (yes e) =
            subst (λ (i : ℕ). get_or (set answers at new) (get_or numbers i 0 - least) 0 ≡ get_or indices i 0 / 2 + 1) (sym e) (get_or-set_same answers at new 0 (omega (arith, s.long, high)))
        held_at j l (no d) =
            let before : j < k = omega arith in
            let n = s.near j before in
            get_or-set_other answers at (get_or numbers j 0 - least) new 0 (λ e. once j k before h (omega (arith, e, n.0, low))) ∙ s.held j before

    -- all
    pub dense_all : size ≤ k → DenseFilled numbers indices size otherwise least answers
    dense_all h = record {
      long = s.long;
      inside = λ d l. at_distance d l (key_or_none numbers (least + d) size);
      outside = λ x out. sym (found_nowhere (λ j. eqb x (get_or numbers j 0)) (λ j. get_or indices j 0) otherwise size (λ j l. ne_eqb x (get_or numbers j 0) (beyond x out j l)));
    }
      where
        beyond : (x : ℕ) → (x < least) ⊎ (least + 255 < x) → (j : ℕ) → j < size → x ≡ get_or numbers j 0 → ⊥
        beyond x (inl a) j l e = let n = s.near j (omega arith) in let u = n.0 in omega arith
        beyond x (inr a) j l e = let n = s.near j (omega arith) in let u = n.1 in omega arith

        at_distance : (d : ℕ) → d < 256 → ((j : ℕ) × (j < size) × (get_or numbers j 0 ≡ least + d)) ⊎ ((j : ℕ) → j < size → get_or numbers j 0 ≡ least + d → ⊥)
            → get_or answers d 0 ≡ number_found numbers indices size otherwise (least + d) / 2 + 1
        at_distance d l (inl (j, m, e)) =
            ap (λ (i : ℕ). get_or answers i 0) (let z : d ≡ get_or numbers j 0 - least = omega arith in z)
            ∙ s.held j (omega arith)
            ∙ ap (λ (y : ℕ). y / 2 + 1)
            (found_at (λ i. eqb (least + d) (get_or numbers i 0)) (λ i. get_or indices i 0) otherwise size j m (eq-eqb (least + d) (get_or numbers j 0) (sym e))
            (λ i b. ne_eqb (least + d) (get_or numbers i 0) (λ p. once i j b m (e ∙ p))))
        at_distance d l (inr no_key) =
            s.free d l (λ j m. no_key j (omega arith))
            ∙ ap (λ (y : ℕ). y / 2 + 1)
            (found_nowhere (λ i. eqb (least + d) (get_or numbers i 0)) (λ i. get_or indices i 0) otherwise size (λ i b. ne_eqb (least + d) (get_or numbers i 0) (λ p. no_key i b (sym p))))

-- ---- the rows

pub rows_dense : {validity column numbers indices answers w values : List ℕ} {size otherwise behind least n : ℕ} → DenseFilled numbers indices size otherwise least answers → behind ≡ otherwise
    → RowsIndexed (λ r c. c ≡ dense_row validity column least answers behind r) w 0 n values → RowsIndexed (NumberRow validity column numbers indices size otherwise) w 0 n values
rows_dense {validity} {column} {numbers} {indices} {answers} {size = size} {otherwise} {least = least} t e s = record { each = λ q l. record { is = s.each q l ∙ ap (λ (x : ℕ). dense_row validity column least answers x q) e ∙ by q (valid_in validity q) } }
  where
    value : (x : ℕ) → cond (ltb x least) (otherwise / 2 + 1) (cond (ltb 255 (x - least)) (otherwise / 2 + 1) (get_or answers (x - least) 0)) ≡ number_found numbers indices size otherwise x / 2 + 1
    value x = go (ltb x least) refl (ltb 255 (x - least)) refl
      where
        go : (a : Bool) → ltb x least ≡ a → (b : Bool) → ltb 255 (x - least) ≡ b
            → cond a (otherwise / 2 + 1) (cond b (otherwise / 2 + 1) (get_or answers (x - least) 0)) ≡ number_found numbers indices size otherwise x / 2 + 1
        go true p b q = ap (λ (y : ℕ). y / 2 + 1) (sym (t.outside x (inl (ltb-true x least p))))
        go false p true q = ap (λ (y : ℕ). y / 2 + 1) (sym (t.outside x (inr (let m = ltb-true 255 (x - least) q in omega arith))))
        go false p false q =
            let a = ltb-false x least p in
            let b = ltb-false 255 (x - least) q in
            t.inside (x - least) (omega arith) ∙ ap (λ (y : ℕ). number_found numbers indices size otherwise y / 2 + 1) (let z : least + (x - least) ≡ x = omega arith in z)

    by : (q : ℕ) (b : Bool)
        → cond b (cond (ltb (get_or column q 0) least) (otherwise / 2 + 1) (cond (ltb 255 (get_or column q 0 - least)) (otherwise / 2 + 1) (get_or answers (get_or column q 0 - least) 0))) (otherwise / 2 + 1)
        ≡ cond b (number_found numbers indices size otherwise (get_or column q 0)) otherwise / 2 + 1
    by q true = value (get_or column q 0)
    by q false = refl
