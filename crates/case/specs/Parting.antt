-- Parting rows, in the work buffer: a row is put in a list; of a list of rows some are sifted out, and what the builder is asked with them.
use Rattle.std.specs.Prelude.{◌≡◌, ℕ, ◌+◌, ◌-◌, ◌*◌, ◌<◌, ◌≤◌, true, cond, ◌⊎◌, List, length, ◌≢◌, slice_index}
use Rattle.std.proofs.Math.Option.{some, none}
use Rattle.layout.specs.Bytes.{byte}
use Rattle.scalar.specs.Entry.{Outcome, entry, unfit, is_true_entry}
use Rattle.builder.specs.declared.ResultBuilder.{ResultBuilder}
use Rattle.builder.specs.Builder.{holds}
use Rattle.case.specs.declared.truth.Truth.{Truth}
use Rattle.case.specs.declared.truth.Truth.TheVariants.{Yes, No, Unfit}
use Rattle.case.specs.Choosing.{held_by}
use Rattle.case.specs.Frame.{row_at}

-- whether an outcome is true
abbrev pub truth_of : Outcome → Truth
truth_of (entry v) = cond (is_true_entry v) Yes No
truth_of unfit = Unfit

-- w is now w': the i-th row of the list at a place is r, and nothing else is changed
pub record RowPut (w : List ℕ) (at i r : ℕ) (w' : List ℕ) : Type 0 where
  pub long : length w' ≡ length w
  pub here : row_at w' at i ≡ r
  pub before : (j : ℕ) → j < at + 2 * i → byte w' j ≡ byte w j
  pub behind : (j : ℕ) → at + 2 * i + 2 ≤ j → byte w' j ≡ byte w j

-- r is one of the first n rows
abbrev pub Among : (ℕ → ℕ) → ℕ → ℕ → Type 0
Among rows n r = (i : ℕ) × (i < n) × (rows i ≡ r)

-- of the first n rows of one list, those that are wanted are the first m of another, rising
pub record Sifted (wanted : ℕ → Type 0) (from : ℕ → ℕ) (n : ℕ) (to : ℕ → ℕ) (m : ℕ) : Type 0 where
  pub few : m ≤ n
  pub taken : (k : ℕ) → k < m → Among from n (to k) × wanted (to k)
  pub all : (r : ℕ) → Among from n r → wanted r → Among to m r
  pub rising : (k l : ℕ) → k < l → l < m → to k < to l

-- w is now w': of the n rows of the open list those of a class are the first m of `rows`, with their classes in `values`, the others stay, and
-- nothing but the open list is changed
pub record Parted (class : ℕ → ℕ) (w : List ℕ) (n m : ℕ) (rows values w' : List ℕ) : Type 0 where
  pub long : length w' ≡ length w
  pub low : (j : ℕ) → j < 5632 → byte w' j ≡ byte w j
  pub high : (j : ℕ) → 6656 ≤ j → byte w' j ≡ byte w j
  pub stay : Sifted (λ r. class r ≡ 0) (row_at w 5632) n (row_at w' 5632) (n - m)
  pub gone : Sifted (λ r. class r ≢ 0) (row_at w 5632) n (λ k. slice_index rows k) m
  pub classes : (k : ℕ) → k < m → slice_index values k ≡ class (slice_index rows k)

-- what a builder is asked with a part: its rows rise, lie below the count and are not held, and nothing comes after a whole
pub record PartAsks (b : ResultBuilder) (rows values : List ℕ) : Type 0 where
  pub small : b.rows ≤ 512
  pub same : length rows ≡ length values
  pub rising : (k l : ℕ) → k < l → l < length rows → slice_index rows k < slice_index rows l
  pub below : (k : ℕ) → k < length rows → slice_index rows k < b.rows
  pub free : (k : ℕ) → k < length rows → held_by b (slice_index rows k) ≡ none
  pub whole_done : b.whole ≡ true → length rows ≡ 0
  pub part_held : b.part ≡ true → (r : ℕ) × (r < b.rows) × (holds (held_by b r) ≡ true)

-- the part's rows hold their values, the others what they held
pub record PartGives (b : ResultBuilder) (rows values : List ℕ) (r : ResultBuilder) : Type 0 where
  pub same_rows : r.rows ≡ b.rows
  pub here : (k : ℕ) → k < length rows → held_by r (slice_index rows k) ≡ some (slice_index values k)
  pub others : (q : ℕ) → (Among (λ k. slice_index rows k) (length rows) q → ⊥) → held_by r q ≡ held_by b q
  pub whole_is : r.whole ≡ true → (b.whole ≡ true) ⊎ (length rows ≡ b.rows)
  pub part_is : r.part ≡ true → (b.part ≡ true) ⊎ (0 < length rows)
