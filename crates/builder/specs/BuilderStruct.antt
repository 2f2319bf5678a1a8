-- What a `ResultBuilder` struct says, and what its functions promise.
use Rattle.std.specs.Prelude.{◌≡◌, Bool, false, not, ◌||◌, List, [], ◌∷◌, ◌++◌, ℕ, zero, suc, min, ◌-◌, eqb, get_or, set, take, replicate, Result as RustResult, Ok, Err, IfOk, OnErr}
use Rattle.std.proofs.Math.Option.{Option, some, none}
use Rattle.layout.specs.declared.refusal.Refusal.{Refusal}
use Rattle.layout.specs.Refusals.{number_of}
use Rattle.layout.specs.Result.{Result, refused, ok, answered}
use Rattle.builder.specs.declared.ResultBuilder.{ResultBuilder}
use Rattle.builder.specs.declared.Finished.{Finished}
use Rattle.builder.specs.Builder.{Builder, new_builder, add_branch_result, finish}

-- a row holds its value where its mark isn't 0
abbrev pub marked : ℕ → ℕ → Option ℕ
marked zero v = none
marked (suc m) v = some v

-- the rows' values, by their marks
unfoldable pub held_all : List ℕ → List ℕ → List (Option ℕ)
held_all [] values = []
held_all (m ∷ marks) [] = []
held_all (m ∷ marks) (v ∷ values) = marked m v ∷ held_all marks values

-- of the first so many rows
abbrev pub held_in : ℕ → List ℕ → List ℕ → List (Option ℕ)
held_in count marks values = take count (held_all marks values)

-- some row is marked
unfoldable pub some_marked : List ℕ → List ℕ → Bool
some_marked marks [] = false
some_marked marks (r ∷ rows) = not (eqb (get_or marks r 0) 0) || some_marked marks rows

-- a struct has 512 rows at most
abbrev pub count_of : ResultBuilder → ℕ
count_of b = min b.rows 512

-- the builder of the definitions that a struct stands for
abbrev pub builder_of : ResultBuilder → Builder ℕ
builder_of b = record { part = b.part; whole = b.whole; held = held_in (count_of b) b.held b.values }

-- ---- the outcome of each function

-- a builder for so many rows, none of which is held
abbrev pub empty_builder : ℕ → ResultBuilder
empty_builder rows = record { rows = rows; part = false; whole = false; held = replicate 512 0; values = replicate 512 0 }

-- a builder for more than 512 rows is refused with 10 (01, Where a call stops)
unfoldable pub new_answer : ℕ → RustResult ResultBuilder Refusal
new_answer rows = answered (λ (b : Builder ℕ). empty_builder rows) (new_builder rows)

-- the marks of the rows set to 1, one after the other
unfoldable pub marks_after : List ℕ → List ℕ → List ℕ
marks_after marks [] = marks
marks_after marks (r ∷ rows) = marks_after (set marks r 1) rows

-- the rows' values stored, one after the other
unfoldable pub values_after : List ℕ → List ℕ → List ℕ → List ℕ
values_after values [] given = values
values_after values (r ∷ rows) [] = values
values_after values (r ∷ rows) (v ∷ given) = values_after (set values r v) rows given

-- the builder with a value for each of the rows
abbrev pub holding : ResultBuilder → List ℕ → List ℕ → ResultBuilder
holding b rows values = record { rows = b.rows; part = b.part; whole = b.whole; held = marks_after b.held rows; values = values_after b.values rows values }

-- the answer by the definition's refusals
unfoldable pub add_answer : ResultBuilder → List ℕ → List ℕ → RustResult (Unit {0}) Refusal
add_answer b rows values = answered (λ (x : Builder ℕ). tt {0}) (add_branch_result (builder_of b) rows values)

-- 18 to 21 leave the builder as it was; else the rows hold their values (01, Where a call stops)
abbrev pub left_by : ResultBuilder → List ℕ → List ℕ → Result (Builder ℕ) → ResultBuilder
left_by b rows values (refused n) = b
left_by b rows values (ok x) = record { rows = b.rows; part = x.part; whole = x.whole; held = marks_after b.held rows; values = values_after b.values rows values }

-- the builder that the definition's refusals leave
unfoldable pub add_after : ResultBuilder → List ℕ → List ℕ → ResultBuilder
add_after b rows values = left_by b rows values (add_branch_result (builder_of b) rows values)

-- each row's value, 0 where it holds none and behind the rows
unfoldable pub finish_answer : ResultBuilder → Finished
finish_answer b = record { count = count_of b; values = finish 0 (builder_of b) ++ replicate (512 - count_of b) 0 }

-- ---- what the outcomes mean

-- an answer in the definition's words: its refusal's number, or the builder of what it gives
abbrev pub answer_of : {A : Type 0} → (A → Builder ℕ) → RustResult A Refusal → Result (Builder ℕ)
answer_of builder (Err e) = refused (number_of e)
answer_of builder (Ok a) = ok (builder a)

-- a new builder is the definition's
pub record NewGives (rows : ℕ) (r : RustResult ResultBuilder Refusal) : Type 0 where
  pub says : answer_of builder_of r ≡ new_builder rows
  pub same_rows : IfOk r (λ b. b.rows ≡ rows)

-- a branch's answer, and the builder that it leaves, are the definition's; 18 to 21 leave the builder as it was
pub record AddGives (b : ResultBuilder) (rows values : List ℕ) (r : RustResult (Unit {0}) Refusal) (b' : ResultBuilder) : Type 0 where
  pub says : answer_of (λ _. builder_of b') r ≡ add_branch_result (builder_of b) rows values
  pub same_rows : b'.rows ≡ b.rows
  pub unchanged : OnErr r (b' ≡ b)

-- the end's first values are the definition's
pub record FinishGives (b : ResultBuilder) (r : Finished) : Type 0 where
  pub count_is : r.count ≡ count_of b
  pub says : take r.count r.values ≡ finish 0 (builder_of b)
