-- Results, taken backwards: what a reading that gives something went through, and which numbers its refusals have. Assumes nothing.
use mathlib.Core.Path.{◌≡◌, refl, sym, ap, ◌∙◌}
use mathlib.Core.Bool.{Bool, true, false, cond, not, ◌&&◌, ◌||◌, false≢true, or-true, not-not}
use mathlib.Core.List.{List, [], ◌∷◌, ◌++◌}
use Prim.Native.Nat.{ℕ, ◌≤◌}
use lib.Dec.{eqb, leb}
use borrow.Author.Tests.{eqb-true, leb-true}
use native.Mathlib.Omega.{arith}
use Rattle.layout.specs.Result.{Result, refused, ok, ◌>>=◌, require}
use Rattle.layout.specs.Refusals.{among}
use Rattle.layout.proofs.TestLaws.{both_hold}

-- a refusal gives nothing
pub refused_not_ok : {A : Type 0} (n : ℕ) (a : A) → refused n ≡ ok a → ⊥
refused_not_ok n a e = let z : ◌≡◌ {A = ℕ} 0 1 = cc in omega arith

-- what a reading gives is one thing
pub ok_injective : {A : Type 0} {a b : A} → ok a ≡ ok b → a ≡ b
ok_injective e = cc

-- a chain gives what its last step gives of what its first gave
pub bind_ok : {A B : Type 0} (m : Result A) (f : A → Result B) (b : B) → (m >>= f) ≡ ok b → (a : A) × (m ≡ ok a) × (f a ≡ ok b)
bind_ok (refused n) f b e = absurd (refused_not_ok n b e)
bind_ok (ok a) f b e = (a, refl, e)

-- a test that was passed holds
pub require_ok : (t : Bool) (n : ℕ) (u : Unit {0}) → require t n ≡ ok u → t ≡ true
require_ok true n u e = refl
require_ok false n u e = absurd (refused_not_ok n u e)

-- behind a test, the test holds
pub require_then : {B : Type 0} (t : Bool) (n : ℕ) (f : Unit {0} → Result B) (b : B) → (require t n >>= f) ≡ ok b → (t ≡ true) × (f tt ≡ ok b)
require_then t n f b e = let i = bind_ok (require t n) f b e in (require_ok t n i.0 i.1, i.2)

-- a reading is refused only with one of these numbers
pub record RefusedAmong {A : Type 0} (numbers : List ℕ) (m : Result A) : Type 0 where
  pub one : (n : ℕ) → m ≡ refused n → among numbers n ≡ true

-- what is given is no refusal
pub ok_among : {A : Type 0} (l : List ℕ) (a : A) → RefusedAmong l (ok a)
ok_among l a = record { one = λ n e. absurd (refused_not_ok n a (sym e)) }

-- a refusal has its own number
pub refused_among : {A : Type 0} (l : List ℕ) (n : ℕ) → among l n ≡ true → RefusedAmong {A = A} l (refused n)
refused_among l n h = record { one = λ i e. let z : n ≡ i = cc in ap (among l) (sym z) ∙ h }

-- a test refuses with its number alone
pub require_among : (l : List ℕ) (t : Bool) (n : ℕ) → among l n ≡ true → RefusedAmong l (require t n)
require_among l true n h = ok_among l tt
require_among l false n h = refused_among l n h

-- a chain refuses as its first step or as its next
pub bind_among : {A B : Type 0} (l : List ℕ) (m : Result A) (f : A → Result B) → RefusedAmong l m → ((a : A) → RefusedAmong l (f a)) → RefusedAmong l (m >>= f)
bind_among l (refused n) f p q = refused_among l n (p.one n refl)
bind_among l (ok a) f p q = q a

-- behind a test, a chain refuses with the test's number or as its next step
pub require_among_then : {B : Type 0} (l : List ℕ) (t : Bool) (n : ℕ) (f : Unit {0} → Result B) → among l n ≡ true
    → ((u : Unit {0}) → RefusedAmong l (f u)) → RefusedAmong l (require t n >>= f)
require_among_then l t n f h q = bind_among l (require t n) f (require_among l t n h) q

-- a choice refuses as one of its two sides
pub cond_among : {A : Type 0} (l : List ℕ) (t : Bool) (a b : Result A) → RefusedAmong l a → RefusedAmong l b → RefusedAmong l (cond t a b)
cond_among l true a b p q = p
cond_among l false a b p q = q

-- every number lies between two
abbrev pub all_between : ℕ → ℕ → List ℕ → Bool
all_between low high [] = true
all_between low high (m ∷ l) = (leb low m && leb m high) && all_between low high l

-- so does one of them
pub among_between : (low high : ℕ) (l : List ℕ) (n : ℕ) → all_between low high l ≡ true → among l n ≡ true → (low ≤ n) × (n ≤ high)
among_between low high [] n b e = absurd (false≢true e)
among_between low high (m ∷ l) n b e =
    let all = both_hold (leb low m && leb m high) (all_between low high l) b in
    go (both_hold (leb low m) (leb m high) all.0) (eqb n m) refl e (among_between low high l n all.1)
  where
    go : (leb low m ≡ true) × (leb m high ≡ true) → (t : Bool) → eqb n m ≡ t → (t || among l n) ≡ true → (among l n ≡ true → (low ≤ n) × (n ≤ high))
        → (low ≤ n) × (n ≤ high)
    go here true is e later =
        let same : n ≡ m = eqb-true n m is in
        let least : low ≤ m = leb-true low m here.0 in
        let most : m ≤ high = leb-true m high here.1 in
        (omega arith, omega arith)
    go here false is e later = later e

-- none of some numbers is one of others
abbrev pub apart : List ℕ → List ℕ → Bool
apart [] m = true
apart (k ∷ l) m = not (among m k) && apart l m

-- so one of them is none of the others
pub among_apart : (l m : List ℕ) (n : ℕ) → apart l m ≡ true → among l n ≡ true → among m n ≡ false
among_apart [] m n b e = absurd (false≢true e)
among_apart (k ∷ l) m n b e =
    let all = both_hold (not (among m k)) (apart l m) b in
    go (eqb n k) refl e (sym (not-not (among m k)) ∙ ap not all.0) (among_apart l m n all.1)
  where
    go : (t : Bool) → eqb n k ≡ t → (t || among l n) ≡ true → among m k ≡ false → (among l n ≡ true → among m n ≡ false) → among m n ≡ false
    go true is e here later = ap (among m) (eqb-true n k is) ∙ here
    go false is e here later = later e

-- one of these is one of more
pub among_more : (before l after : List ℕ) (n : ℕ) → among l n ≡ true → among (before ++ (l ++ after)) n ≡ true
among_more [] [] after n e = absurd (false≢true e)
among_more [] (m ∷ l) after n e = go (eqb n m) e (among_more [] l after n)
  where
    go : (t : Bool) → (t || among l n) ≡ true → (among l n ≡ true → among (l ++ after) n ≡ true) → (t || among (l ++ after) n) ≡ true
    go true e later = refl
    go false e later = later e
among_more (b ∷ before) l after n e = rw (among_more before l after n e) (or-true (eqb n b))
