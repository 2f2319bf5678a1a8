-- The answers: the length of a sequence, if there is one; and of a test, well-formed or the place of the first ill-formed sequence.
use Rattle.std.proofs.Math.Option.{Option, some, none}
use Rattle.std.specs.Prelude.{ℕ, zero, suc, Result, Ok, Err, Option as RustOption, Some, None}
use Rattle.utf8.specs.declared.validation.IllFormed.{IllFormed}

-- by the first ill-formed sequence
abbrev pub validation : Option ℕ → Result (Unit {0}) IllFormed
validation none = Ok tt
validation (some place) = Err (record { place = place })

-- a length; 0 is that of no sequence
abbrev pub some_length : ℕ → RustOption ℕ
some_length zero = None
some_length (suc n) = Some (suc n)
