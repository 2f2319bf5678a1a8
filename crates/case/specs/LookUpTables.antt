-- The lookup tables of strategy 6 (01, Strategies: "The table drops null WHENs and keeps the first of equal keys"; What changes shape).
-- The literals of a CASE with a base stand in two arrays, their kinds and their payloads: WHEN i at 2 * i, THEN i at 2 * i + 1, ELSE, or null, behind
-- the last of them, and a failure behind ELSE. The table has a key's kind, its payload and the index of its THEN.
use Rattle.std.specs.Prelude.{◌≡◌, ℕ, zero, suc, ◌+◌, ◌*◌, ◌<◌, ◌≤◌, Bool, true, false, cond, ◌&&◌, List, [], ◌∷◌, length, ◌==◌, ◌≢◌, slice_index, slice_index_or}
use Rattle.scalar.specs.declared.value.Value.{Value}
use Rattle.scalar.specs.Entry.{Entry, null, Outcome, entry, unfit, on_entries}
use Rattle.scalar.specs.Compare.{equal_entry}
use Rattle.scalar.specs.Value.{meaning, value_of, kind_of, payload_of}
use Rattle.rule.specs.Tree.{Expr, column, literal, negation, negative, is_not_null, cast, try_cast, equal, less, case_when}
use Rattle.rule.specs.Walks.{TreesAt}
use Rattle.rule.specs.AnswerWalks.{trees_literal}
use Rattle.case.specs.Choosing.{true_outcome}
use Rattle.case.specs.Frame.{slot_at}

-- two outcomes are equal keys (01, One row: a WHEN equals the base)
abbrev pub same_key : Outcome → Outcome → Bool
same_key a b = true_outcome (on_entries equal_entry a b)

-- the search breaks out with the index it found, or the ELSE index (01, What changes shape): the first of the next n from k on that is the same
unfoldable pub found : (ℕ → Bool) → (ℕ → ℕ) → ℕ → ℕ → ℕ → ℕ
found same index k zero otherwise = otherwise
found same index k (suc n) otherwise = cond (same k) (index k) (found same index (suc k) n otherwise)

-- the value of a kind and a payload of two arrays
abbrev pub value_at : List ℕ → List ℕ → ℕ → Value
value_at kinds payloads i = value_of (slice_index kinds i) (slice_index payloads i)

-- a base in the table
abbrev pub key_index : List ℕ → List ℕ → List ℕ → List ℕ → List ℕ → ℕ → ℕ → Outcome → ℕ
key_index rule table kinds keys indices size otherwise b =
    found (λ k. same_key b (meaning rule table (value_at kinds keys k))) (λ k. slice_index indices k) 0 size otherwise

-- a base among the first n WHENs
abbrev pub when_index : List ℕ → List ℕ → List ℕ → List ℕ → ℕ → ℕ → Outcome → ℕ
when_index rule table kinds payloads n otherwise b =
    found (λ i. same_key b (meaning rule table (value_at kinds payloads (2 * i)))) (λ i. 2 * i + 1) 0 n otherwise

-- a base that failed has the index behind ELSE
abbrev pub base_index : (Outcome → ℕ) → ℕ → Outcome → ℕ
base_index search otherwise (entry e) = search (entry e)
base_index search otherwise unfit = otherwise + 1

-- a number key by its kind and its payload, floats by bits (01, Modules: primitive_lookup_table.rs)
abbrev pub number_index : List ℕ → List ℕ → List ℕ → ℕ → ℕ → ℕ → ℕ → ℕ
number_index kinds keys indices size otherwise kind payload =
    found (λ k. (kind == slice_index kinds k) && payload == slice_index keys k) (λ k. slice_index indices k) 0 size otherwise

-- the arrays of a table with so many keys: each key's kind and payload are those of its value, and its index is below ELSE's
pub record Keys (kinds keys indices : List ℕ) (size otherwise : ℕ) : Type 0 where
  pub kinds_long : length kinds ≡ 32
  pub keys_long : length keys ≡ 32
  pub indices_long : length indices ≡ 32
  pub few : size ≤ 32
  pub kind_is : (k : ℕ) → k < size → kind_of (value_at kinds keys k) ≡ slice_index kinds k
  pub payload_is : (k : ℕ) → k < size → payload_of (value_at kinds keys k) ≡ slice_index keys k
  pub below : (k : ℕ) → k < size → slice_index indices k < otherwise

-- the table drops null WHENs and keeps the first of equal keys (01, Strategies): no key is null, and none equals an earlier one
pub record EachOnce (rule table kinds keys : List ℕ) (size : ℕ) : Type 0 where
  pub no_null_lem : (k : ℕ) → k < size → slice_index kinds k ≢ 0
  pub unlike : (j k : ℕ) → j < k → k < size → same_key (meaning rule table (value_at kinds keys k)) (meaning rule table (value_at kinds keys j)) ≡ false

-- the table has for every base the index that the first n WHENs have
pub record TableOf (rule table kinds payloads : List ℕ) (n otherwise : ℕ) (key-kinds keys indices : List ℕ) (size : ℕ) : Type 0 where
  pub arrays : Keys key-kinds keys indices size otherwise
  pub each_once : EachOnce rule table key-kinds keys size
  pub no_more : size ≤ n
  pub right : (b : Outcome) → key_index rule table key-kinds keys indices size otherwise b ≡ when_index rule table kinds payloads n otherwise b

-- a key was added to a table, or dropped: a base that has no index yet has the new one where it is the same
pub record Added (rule table : List ℕ) (v : Value) (index otherwise : ℕ) (kinds keys indices : List ℕ) (size : ℕ) (kinds' keys' indices' : List ℕ) (size' : ℕ) : Type 0 where
  pub arrays : Keys kinds' keys' indices' size' otherwise
  pub each_once : EachOnce rule table kinds' keys' size'
  pub one_more : size' ≤ size + 1
  pub right : (b : Outcome) → key_index rule table kinds' keys' indices' size' otherwise b
      ≡ cond (key_index rule table kinds keys indices size otherwise b == otherwise) (cond (same_key b (meaning rule table v)) index otherwise) (key_index rule table kinds keys indices size otherwise b)

-- the entry of a literal
abbrev pub literal_entry : Expr → Entry
literal_entry (column c) = null
literal_entry (literal t v) = v
literal_entry (negation e) = null
literal_entry (negative e) = null
literal_entry (is_not_null e) = null
literal_entry (cast t e) = null
literal_entry (try_cast t e) = null
literal_entry (equal a b) = null
literal_entry (less a b) = null
literal_entry (case_when b bs e) = null

-- of literals the entry of the i-th; null where there is none
unfoldable pub entry_at : List Expr → ℕ → Entry
entry_at [] i = null
entry_at (e ∷ es) zero = literal_entry e
entry_at (e ∷ es) (suc i) = entry_at es i

-- the arrays hold whatever literals stand at a place, and a failure behind the last of them
pub record LiteralsRead (rule : List ℕ) (at end most : ℕ) (kinds payloads : List ℕ) : Type 0 where
  pub kinds_long : length kinds ≡ 66
  pub payloads_long : length payloads ≡ 66
  pub failed : slice_index_or kinds most 0 ≡ 7
  pub held : (es : List Expr) (depth : ℕ) → TreesAt rule at end es depth → trees_literal es ≡ true → (table : List ℕ) (i : ℕ) → i < most
      → meaning rule table (value_at kinds payloads i) ≡ entry (entry_at es i)

-- the literals at a place, and the table of the WHENs
pub record TableRead (rule : List ℕ) (at end : ℕ) (table : List ℕ) (n : ℕ) (kinds payloads key-kinds keys indices : List ℕ) (size : ℕ) : Type 0 where
  pub literals : LiteralsRead rule at end (2 * n + 1) kinds payloads
  pub whens : TableOf rule table kinds payloads n (2 * n) key-kinds keys indices size

-- the value of a row has the kind and the payload at the index of the row's base
abbrev pub MappedBy : List ℕ → List ℕ → List ℕ → List ℕ → (Outcome → ℕ) → ℕ → List ℕ → ℕ → Value → Type 0
MappedBy rule table kinds payloads search otherwise w r v =
    v ≡ value_at kinds payloads (base_index search otherwise (meaning rule table (slot_at w r)))
