-- What a run writes of its rows' outcomes (01, Where a call stops).
use Rattle.std.specs.Prelude.{Bool, List, [], ◌∷◌, ◌++◌, ℕ, zero, suc, leb, length, drop, replicate, Result as RustResult}
use Rattle.layout.specs.Result.{Result, refused, ok, ◌>>=◌, require, answered}
use Rattle.scalar.specs.Entry.{Entry, Outcome, entry, unfit}
use Rattle.scalar.specs.declared.types.DataType.{DataType}
use Rattle.layout.specs.declared.refusal.Refusal.{Refusal}
use Rattle.table.specs.TableBytes.{column_bytes}
use Rattle.writer.specs.Answer.{column_of, text_length}

-- so many row numbers, rising
unfoldable pub rows_from : ℕ → ℕ → List ℕ
rows_from from zero = []
rows_from from (suc n) = from ∷ rows_from (suc from) n

-- a cast on some row's path fails: 15
unfoldable pub entries_of : List Outcome → Result (List Entry)
entries_of [] = ok []
entries_of (entry v ∷ os) = entries_of os >>= λ es. ok (v ∷ es)
entries_of (unfit ∷ os) = refused 15

-- the answer's text is at most 65,535 bytes in all
abbrev pub text_most : ℕ
text_most = 65535

-- text above its limit (16), output shorter than the answer (17)
unfoldable pub written_as : DataType → Bool → List Entry → ℕ → Result (List ℕ)
written_as t n es output = do
  _ ← require (leb (text_length es) text_most) 16
  let bytes : List ℕ = column_bytes (column_of t n es)
  _ ← require (leb (length bytes) output) 17
  ok bytes

-- the length of the answer, or the refusal
abbrev pub run_answer : Result (List ℕ) → RustResult ℕ Refusal
run_answer = answered length

-- a refusal leaves the output untouched; output past the answer is untouched
unfoldable pub output_after : Result (List ℕ) → List ℕ → List ℕ
output_after (refused n) output = output
output_after (ok bytes) output = bytes ++ drop (length bytes) output

-- as many bytes, all zero
abbrev pub zeros : List ℕ → List ℕ
zeros l = replicate (length l) 0
