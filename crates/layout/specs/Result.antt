-- What a reading gives: a result, or one of document 01's refusal numbers.
use Rattle.std.specs.Prelude.{Bool, true, false, ℕ, Result as RustResult, Ok, Err}
use Rattle.layout.specs.declared.refusal.Refusal.{Refusal}
use Rattle.layout.specs.Refusals.{refusal_numbered}

-- a refusal with one of document 01's numbers, or a result
pub data Result (A : Type 0) : Type 0 where
  refused : ℕ → Result A
  ok : A → Result A

infixl 20 ◌>>=◌
-- the first refusal is the answer (01, Where a call stops)
abbrev pub ◌>>=◌ : {A B : Type 0} → Result A → (A → Result B) → Result B
refused n >>= f = refused n
ok a >>= f = f a

-- go on where the test holds, else refuse with the number
abbrev pub require : Bool → ℕ → Result (Unit {0})
require true n = ok tt
require false n = refused n

-- a reading as the code answers it: the refusal of the number, or what is taken from the result
abbrev pub answered : {A B : Type 0} → (A → B) → Result A → RustResult B Refusal
answered f (refused n) = Err (refusal_numbered n)
answered f (ok a) = Ok (f a)
