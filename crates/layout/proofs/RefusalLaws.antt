-- The numbers of refusals: that of the refusal of a number is the number, where it is one of the list. Assumes nothing.
use mathlib.Core.Path.{◌≡◌, refl, sym, ap, ◌∙◌}
use mathlib.Core.Bool.{Bool, true, false, ◌&&◌, ◌||◌, false≢true}
use mathlib.Core.List.{List, [], ◌∷◌}
use Prim.Native.Nat.{ℕ}
use lib.Dec.{eqb}
use borrow.Author.Tests.{eqb-true}
use Rattle.layout.specs.Refusals.{among, all_refusals, number_of, refusal_numbered}
use Rattle.layout.proofs.TestLaws.{both_hold}

-- every number of a list is that of its refusal
abbrev pub all_kept : List ℕ → Bool
all_kept [] = true
all_kept (m ∷ l) = eqb (number_of (refusal_numbered m)) m && all_kept l

-- so is one of them
pub number_kept : (l : List ℕ) (n : ℕ) → all_kept l ≡ true → among l n ≡ true → number_of (refusal_numbered n) ≡ n
number_kept [] n b e = absurd (false≢true e)
number_kept (m ∷ l) n b e =
    let all = both_hold (eqb (number_of (refusal_numbered m)) m) (all_kept l) b in
    go (eqb n m) refl e (number_kept l n all.1) (eqb-true (number_of (refusal_numbered m)) m all.0)
  where
    go : (t : Bool) → eqb n m ≡ t → (t || among l n) ≡ true → (among l n ≡ true → number_of (refusal_numbered n) ≡ n) → number_of (refusal_numbered m) ≡ m
        → number_of (refusal_numbered n) ≡ n
    go true is e later here = let same : n ≡ m = eqb-true n m is in ap (λ (k : ℕ). number_of (refusal_numbered k)) same ∙ here ∙ sym same
    go false is e later here = later e

-- the numbers of a run's and of the builder's refusals
pub every_number_kept : (n : ℕ) → among all_refusals n ≡ true → number_of (refusal_numbered n) ≡ n
every_number_kept n e = number_kept all_refusals n refl e
