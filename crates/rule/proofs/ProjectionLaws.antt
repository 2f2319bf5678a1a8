-- The columns that a rule names, rising, from its marks. Assumes nothing.
use mathlib.Core.Path.{◌≡◌, refl, ap, ap₂, sym, subst, ◌∙◌}
use mathlib.Core.Bool.{Bool, true, false, cond, not, ◌&&◌, ◌||◌, false≢true, or-true}
use mathlib.Core.List.{List, [], ◌∷◌, ◌++◌}
use mathlib.Core.Logic.{◌⊎◌, inl, inr}
use Prim.Native.Nat.{ℕ, zero, suc, ◌+◌, ◌-◌, ◌<◌, ◌≤◌}
use native.Mathlib.Omega.{arith}
use native.Mathlib.Numerals.{add-one}
use lib.Dec.{eqb, ltb}
use lib.ListN.{length, get_or, set, replicate, length-append, get_or-eq_default}
use lib.Seq.{set-append_seam, append_snoc}
use borrow.Author.Tests.{eqb-true, eqb-false, ltb-true, ltb-false, lt-ltb, le-ltb, eq-eqb, ne_eqb}
use Rattle.layout.proofs.TestLaws.{both_hold}
use Rattle.rule.specs.declared.seen.Seen.{Seen}
use Rattle.rule.specs.Tree.{Column}
use Rattle.rule.specs.Projection.{insert_rising, indexes}
use Rattle.rule.specs.Answers.{columns_in256}
use Rattle.rule.specs.Seen.{mark_of, mark_at, SeenIs}
use Rattle.rule.proofs.SeenLaws.{mark_some}

-- whether a column of an index is among columns
unfoldable pub named : List Column → ℕ → Bool
named [] i = false
named (c ∷ l) i = eqb i c.index || named l i

-- the numbers below k of which a test holds, rising
unfoldable pub risen : (ℕ → Bool) → ℕ → List ℕ
risen f zero = []
risen f (suc k) = cond (f k) (risen f k ++ (k ∷ [])) (risen f k)

-- tests that agree below k give the same
pub risen_same : (f g : ℕ → Bool) (k : ℕ) → ((i : ℕ) → i < k → f i ≡ g i) → risen f k ≡ risen g k
unfolding risen
risen_same f g zero h = refl
risen_same f g (suc k) h =
    ap₂ (λ (t : Bool) (l : List ℕ). cond t (l ++ (k ∷ [])) l) (h k (omega arith)) (risen_same f g k (λ i p. h i (omega arith)))

-- numbers below k
unfoldable below : ℕ → List ℕ → Bool
below k [] = true
below k (d ∷ l) = ltb d k && below k l

below_more : (k : ℕ) (l : List ℕ) (j : ℕ) → below k l ≡ true → j < k → below k (l ++ (j ∷ [])) ≡ true
unfolding below
below_more k [] j h p = rw (lt-ltb _ _ p) refl
below_more k (d ∷ l) j h p = let b = both_hold (ltb d k) (below k l) h in rw b.0 (below_more k l j b.1 p)

risen_below : (f : ℕ → Bool) (k j : ℕ) → j ≤ k → below k (risen f j) ≡ true
unfolding risen below
risen_below f k zero h = refl
risen_below f k (suc j) h = go (f j) (risen_below f k j (omega arith))
  where
    go : (t : Bool) → below k (risen f j) ≡ true → below k (cond t (risen f j ++ (j ∷ [])) (risen f j)) ≡ true
    go true e = below_more k (risen f j) j e (omega arith)
    go false e = e

-- a number that none reaches goes to the end, once
insert_last : (k : ℕ) (l : List ℕ) → below k l ≡ true → (insert_rising k l ≡ l ++ (k ∷ [])) × (insert_rising k (l ++ (k ∷ [])) ≡ l ++ (k ∷ []))
unfolding insert_rising below
insert_last k [] h = (refl, rw (eq-eqb k k refl) refl)
insert_last k (d ∷ l) h =
    let b = both_hold (ltb d k) (below k l) h in
    let less : d < k = ltb-true d k b.0 in
    let (p, q) = insert_last k l b.1 in
    let no : eqb k d ≡ false = ne_eqb k d (λ e. omega arith) in
    let nor : ltb k d ≡ false = le-ltb k d (omega arith) in
    (rw (no, nor) (ap (λ (m : List ℕ). d ∷ m) p), rw (no, nor) (ap (λ (m : List ℕ). d ∷ m) q))

-- a number below the last goes before it
insert_before : (c k : ℕ) (l : List ℕ) → c < k → insert_rising c (l ++ (k ∷ [])) ≡ insert_rising c l ++ (k ∷ [])
unfolding insert_rising
insert_before c k [] h = let no : eqb c k ≡ false = ne_eqb c k (λ e. omega arith) in rw (no, lt-ltb c k h) refl
insert_before c k (d ∷ l) h = go (eqb c d) (ltb c d) (insert_before c k l h)
  where
    go : (t u : Bool) → insert_rising c (l ++ (k ∷ [])) ≡ insert_rising c l ++ (k ∷ [])
        → cond t (d ∷ l ++ (k ∷ [])) (cond u (c ∷ d ∷ l ++ (k ∷ [])) (d ∷ insert_rising c (l ++ (k ∷ [])))) ≡ cond t (d ∷ l) (cond u (c ∷ d ∷ l) (d ∷ insert_rising c l)) ++ (k ∷ [])
    go true u e = refl
    go false true e = refl
    go false false e = ap (λ (m : List ℕ). d ∷ m) e

-- one more number among those of a test
insert_risen : (f : ℕ → Bool) (c k : ℕ) → c < k → insert_rising c (risen f k) ≡ risen (λ i. eqb i c || f i) k
unfolding risen
insert_risen f c zero h = absurd (omega arith)
insert_risen f c (suc k) h = go (eqb k c) refl (insert_risen f c k)
  where
    last : (t : Bool) → insert_rising k (cond t (risen f k ++ (k ∷ [])) (risen f k)) ≡ risen f k ++ (k ∷ [])
    last true = (insert_last k (risen f k) (risen_below f k k (omega arith))).1
    last false = (insert_last k (risen f k) (risen_below f k k (omega arith))).0

    amid : (t : Bool) → c < k → insert_rising c (risen f k) ≡ risen (λ i. eqb i c || f i) k
        → insert_rising c (cond t (risen f k ++ (k ∷ [])) (risen f k)) ≡ cond t (risen (λ i. eqb i c || f i) k ++ (k ∷ [])) (risen (λ i. eqb i c || f i) k)
    amid true p e = insert_before c k (risen f k) p ∙ ap (λ (m : List ℕ). m ++ (k ∷ [])) e
    amid false p e = e

    go : (t : Bool) → eqb k c ≡ t → (c < k → insert_rising c (risen f k) ≡ risen (λ i. eqb i c || f i) k)
        → insert_rising c (cond (f k) (risen f k ++ (k ∷ [])) (risen f k)) ≡ cond (t || f k) (risen (λ i. eqb i c || f i) k ++ (k ∷ [])) (risen (λ i. eqb i c || f i) k)
    go true e ih =
        let is : k ≡ c = eqb-true k c e in
        let same : risen f k ≡ risen (λ i. eqb i c || f i) k =
        risen_same f (λ i. eqb i c || f i) k (λ i p. let no : eqb i c ≡ false = ne_eqb i c (λ q. omega arith) in sym (ap (λ (t : Bool). t || f i) no)) in
        ap (λ (n : ℕ). insert_rising n (cond (f k) (risen f k ++ (k ∷ [])) (risen f k))) (sym is) ∙ last (f k) ∙ ap (λ (m : List ℕ). m ++ (k ∷ [])) same
    go false e ih =
        let n = eqb-false k c e in
        let p : c < k = omega (arith, n) in
        amid (f k) p (ih p)

-- no number
risen_none : (k : ℕ) → risen (λ i. false) k ≡ []
unfolding risen
risen_none zero = refl
risen_none (suc k) = risen_none k

-- the indexes of columns, rising
pub indexes_risen : (l : List Column) → ((i : ℕ) → named l i ≡ true → i < 256) → indexes l ≡ risen (named l) 256
unfolding indexes named
indexes_risen [] h = sym (risen_none 256)
indexes_risen (c ∷ l) h =
    ap (insert_rising c.index) (indexes_risen l (λ i p. h i (rw p (or-true (eqb i c.index)))))
    ∙ insert_risen (named l) c.index 256 (h c.index (rw (eq-eqb c.index c.index refl) refl))

-- there is a mark where a column was met
abbrev marked : List ℕ → ℕ → Bool
marked marks i = not (eqb (get_or marks i 0) 0)

pub named_marked : (l : List Column) (i : ℕ) → named l i ≡ not (eqb (mark_at l i) 0)
unfolding named mark_at
named_marked [] i = refl
named_marked (c ∷ l) i = go (eqb i c.index) (named_marked l i)
  where
    go : (t : Bool) → named l i ≡ not (eqb (mark_at l i) 0) → (t || named l i) ≡ not (eqb (cond t (mark_of c) (mark_at l i)) 0)
    go true e = ap not (sym (mark_some c))
    go false e = e

module _ (cols : List Column) (seen : Seen) (s : SeenIs cols seen) where
  seen_named : (i : ℕ) → named cols i ≡ marked seen.marks i
  seen_named i = named_marked cols i ∙ ap (λ (n : ℕ). not (eqb n 0)) (sym (s.marked i))

  -- so its index is a byte
  pub seen_bound : (i : ℕ) → named cols i ≡ true → i < 256
  seen_bound i e = go (ltb i 256) refl
    where
      go : (t : Bool) → ltb i 256 ≡ t → i < 256
      go true p = ltb-true i 256 p
      go false p =
          let far : length seen.marks ≤ i = subst (λ (n : ℕ). n ≤ i) (sym s.sized) (ltb-false i 256 p) in
          let none : marked seen.marks i ≡ false = ap (λ (n : ℕ). not (eqb n 0)) (get_or-eq_default seen.marks 0 far) in
          absurd (false≢true (sym none ∙ sym (seen_named i) ∙ e))

  -- the indexes met are those of the marks
  indexes_marked : risen (marked seen.marks) 256 ≡ indexes cols
  indexes_marked = risen_same (marked seen.marks) (named cols) 256 (λ i p. sym (seen_named i)) ∙ sym (indexes_risen cols seen_bound)

-- one more column in 256 bytes
column_more : (l : List ℕ) (x : ℕ) → length l < 256 → set (columns_in256 l) (length l) x ≡ columns_in256 (l ++ (x ∷ []))
column_more l x h =
    let n = 255 - length l in
    let room : 256 - length l ≡ suc n = omega arith in
    let left : n ≡ 256 - length (l ++ (x ∷ [])) = let size = length-append l (x ∷ []) in omega arith in
    ap (λ (m : ℕ). set (l ++ replicate m 0) (length l) x) room ∙ set-append_seam l 0 (replicate n 0) x ∙ sym (append_snoc l x (replicate n 0))
    ∙ ap (λ (m : ℕ). (l ++ (x ∷ [])) ++ replicate m 0) left

-- the loop over the marks: the columns below i
pub record Projecting (marks : List ℕ) (i count : ℕ) (columns : List ℕ) : Type 0 where
  pub upto : i ≤ 256
  pub count_is : count ≡ length (risen (marked marks) i)
  pub columns_are : columns ≡ columns_in256 (risen (marked marks) i)

length_risen : (f : ℕ → Bool) (k : ℕ) → length (risen f k) ≤ k
unfolding risen
length_risen f zero = omega arith
length_risen f (suc k) = go (f k) (length_risen f k)
  where
    go : (t : Bool) → length (risen f k) ≤ k → length (cond t (risen f k ++ (k ∷ [])) (risen f k)) ≤ suc k
    go true h = let a = length-append (risen f k) (k ∷ []) in omega arith
    go false h = omega arith

module _ (marks : List ℕ) where
  pub projecting_none : Projecting marks 0 0 (replicate 256 0)
  unfolding risen
  projecting_none = record { upto = omega arith; count_is = refl; columns_are = refl }

  module _ (i count : ℕ) (columns : List ℕ) (g : Projecting marks i count columns) (more : i < 256) where
    -- there is room for one more
    pub projecting_room : count < 256
    projecting_room = omega (arith, g.count_is, length_risen (marked marks) i)

    projecting_skips : get_or marks i 0 ≡ 0 → Projecting marks (i + 1) count columns
    unfolding risen
    projecting_skips z =
        let none : marked marks i ≡ false = ap (λ (n : ℕ). not (eqb n 0)) z in
        let same : risen (marked marks) (i + 1) ≡ risen (marked marks) i =
        ap (risen (marked marks)) (add-one i) ∙ ap (λ (t : Bool). cond t (risen (marked marks) i ++ (i ∷ [])) (risen (marked marks) i)) none in
        record { upto = omega arith; count_is = g.count_is ∙ ap length (sym same); columns_are = g.columns_are ∙ ap columns_in256 (sym same) }

    projecting_adds : (get_or marks i 0 ≡ 0 → ⊥) → Projecting marks (i + 1) (count + 1) (set columns count i)
    unfolding risen
    projecting_adds n =
        let l = risen (marked marks) i in
        let some : marked marks i ≡ true = ap not (ne_eqb (get_or marks i 0) 0 n) in
        let same : risen (marked marks) (i + 1) ≡ l ++ (i ∷ []) = ap (risen (marked marks)) (add-one i) ∙ ap (λ (t : Bool). cond t (l ++ (i ∷ [])) l) some in
        let size = length-append l (i ∷ []) in
        record {
          upto = omega arith;
          count_is = let c = g.count_is in let k : count + 1 ≡ length (l ++ (i ∷ [])) = omega arith in k ∙ ap length (sym same);
          columns_are = ap₂ (λ (m : List ℕ) (k : ℕ). set m k i) g.columns_are g.count_is
              ∙ column_more l i (omega (arith, length_risen (marked marks) i)) ∙ ap columns_in256 (sym same);
        }

    -- by either way round the loop
    pub projecting_goes : {count' : ℕ} {columns' : List ℕ}
        → (((get_or marks i 0 ≡ 0 → ⊥) × (columns' ≡ set columns count i) × (count' ≡ count + 1)) ⊎ ((get_or marks i 0 ≡ 0) × (columns' ≡ columns) × (count' ≡ count)))
        → Projecting marks (i + 1) count' columns'
    projecting_goes (inl (n, p, q)) = rw (p, q) (projecting_adds n)
    projecting_goes (inr (z, p, q)) = rw (p, q) (projecting_skips z)

  pub projecting_ends : (cols : List Column) (seen : Seen) (i count : ℕ) (columns : List ℕ) → marks ≡ seen.marks → SeenIs cols seen → Projecting marks i count columns → 256 ≤ i
      → (count ≡ length (indexes cols)) × (columns ≡ columns_in256 (indexes cols))
  projecting_ends cols seen i count columns e s g h =
      let last : i ≡ 256 = omega (arith, g.upto) in
      let same : risen (marked marks) i ≡ indexes cols = ap₂ (λ (m : List ℕ) (n : ℕ). risen (marked m) n) e last ∙ indexes_marked cols seen s in
      (g.count_is ∙ ap length same, g.columns_are ∙ ap columns_in256 same)
