-- `ResultBuilder` takes rising row lists with values, kept as given (01, Strategies; Where a call stops: 10, 18 to 21).
use Rattle.std.specs.Prelude.{Bool, true, false, cond, not, ◌&&◌, ◌||◌, List, [], ◌∷◌, map, ℕ, suc, eqb, leb, ltb, length, get_or, set, replicate}
use Rattle.std.proofs.Math.Option.{Option, some, none}
use Rattle.layout.specs.Result.{Result, ok, ◌>>=◌, require}

-- for each row the value that it holds, if any; whether a part or the whole was added
pub record Builder (A : Type 0) : Type 0 where
  pub part : Bool
  pub whole : Bool
  pub held : List (Option A)

-- a builder for more than 512 rows is refused with 10
abbrev pub new_builder : {A : Type 0} → ℕ → Result (Builder A)
new_builder rows = require (leb rows 512) 10 >>= λ _. ok (record { part = false; whole = false; held = replicate rows none })

-- the rows rise and are below the count; `from` is the least that may come next
unfoldable pub rising_below : ℕ → ℕ → List ℕ → Bool
rising_below from count [] = true
rising_below from count (r ∷ rows) = leb from r && ltb r count && rising_below (suc r) count rows

-- a list of all rows is the whole result, shorter ones are parts
abbrev pub is_whole : {A : Type 0} → Builder A → List ℕ → Bool
is_whole b rows = eqb (length rows) (length b.held)

-- a row holds a value
abbrev pub holds : {A : Type 0} → Option A → Bool
holds none = false
holds (some a) = true

-- some row is already held
unfoldable pub some_held : {A : Type 0} → List (Option A) → List ℕ → Bool
some_held held [] = false
some_held held (r ∷ rows) = holds (get_or held r none) || some_held held rows

-- each row holds its value
unfoldable pub hold_all : {A : Type 0} → List (Option A) → List ℕ → List A → List (Option A)
hold_all held [] values = held
hold_all held (r ∷ rows) [] = held
hold_all held (r ∷ rows) (v ∷ values) = hold_all (set held r (some v)) rows values

-- what the rows hold afterwards
abbrev pub held_after : {A : Type 0} → Builder A → List ℕ → List A → List (Option A)
held_after b rows values = cond (is_whole b rows) (map some values) (hold_all b.held rows values)

-- list and values differ in length, 19; a row at or above the count, or list not rising, 18; whole after a part, or anything after a whole, 21; row already held, 20
unfoldable pub add_branch_result : {A : Type 0} → Builder A → List ℕ → List A → Result (Builder A)
add_branch_result b rows values = do
  _ ← require (eqb (length rows) (length values)) 19
  _ ← require (rising_below 0 (length b.held) rows) 18
  _ ← require (not b.whole && not (b.part && is_whole b rows)) 21
  _ ← require (not (some_held b.held rows)) 20
  ok (record { part = b.part || not (is_whole b rows); whole = is_whole b rows; held = held_after b rows values })

-- a row that no part holds is null
abbrev pub or_else : {A : Type 0} → A → Option A → A
or_else null none = null
or_else null (some a) = a

-- each row's value
abbrev pub finish : {A : Type 0} → A → Builder A → List A
finish null b = map (or_else null) b.held
