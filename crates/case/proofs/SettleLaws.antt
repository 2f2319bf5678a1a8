-- Settling: the rows that leave go to the builder, and the open list stays one. Assumes nothing.
use Rattle.std.proofs.Common.{◌≡◌, ℕ, zero, suc, ◌-◌, ◌<◌, ◌≤◌, Bool, true, false, List, length, get_or, take, replicate, sym, refl, ap, ◌∙◌, subst, ⊎_elim, arith, length-take-le, get_or-take, le-leb}
use mathlib.Core.Bool.{false≢true}
use mathlib.Core.Option.{Option, some, none}
use lib.ListN.{get_or-map}
use Rattle.builder.specs.declared.ResultBuilder.{ResultBuilder}
use Rattle.builder.specs.declared.Finished.{Finished}
use Rattle.builder.specs.Builder.{Builder, holds, or_else}
use Rattle.builder.specs.BuilderStruct.{builder_of, empty_builder, new_answer, finish_answer}
use Rattle.builder.proofs.BuilderLaws.{new_gives, finish_gives}
use Rattle.case.specs.Frame.{row_at, Rows, Listed}
use Rattle.case.specs.declared.settle.Settled.{Settled}
use Rattle.case.specs.Choosing.{held_by, Open, Settles}
use Rattle.case.specs.Parting.{Among, Parted, PartAsks, PartGives}
use Rattle.layout.specs.declared.refusal.Refusal.{Refusal}
use Rattle.layout.specs.Result.{◌>>=◌, require, answered}
use Rattle.layout.specs.Result as Read
use Rattle.layout.proofs.ResultLaws.{ok_injective}
use Rattle.std.specs.Prelude.{Result as RustResult, Ok, is_ok, IsOk}

-- ---- the beginning and the end

-- no row is held
nothing : (n q : ℕ) → get_or {A = Option ℕ} (replicate n none) q none ≡ none
nothing zero q = refl
nothing (suc n) zero = refl
nothing (suc n) (suc q) = nothing n q

-- so many rows have a builder
pub new_there : {rows : ℕ} {r : RustResult ResultBuilder Refusal} → r ≡ new_answer rows → rows ≤ 512 → IsOk r
unfolding new_answer
new_there {rows} e few = ap is_ok e ∙ ap (λ (t : Bool). is_ok (answered (λ (b : Builder ℕ). empty_builder rows) (require t 10 >>= λ _. Read.ok (record { part = false; whole = false; held = replicate rows none })))) (le-leb rows 512 few)

module _ (rows : ℕ) (b : ResultBuilder) (said : Ok b ≡ new_answer rows) (few : rows ≤ 512) where
  new_is : builder_of b ≡ record { part = false; whole = false; held = replicate rows none }
  new_is = ok_injective ((new_gives said).says ∙ simp (le-leb rows 512 few))

  pub new_free : (q : ℕ) → held_by b q ≡ none
  new_free q = ap (λ (x : Builder ℕ). get_or x.held q none) new_is ∙ nothing rows q

  pub new_open : (w : List ℕ) (left : ℕ) → Rows w 5632 left rows → Open b w left rows
  new_open w left ok = record {
    sized = (new_gives said).same_rows;
    small = few;
    list_ok = ok;
    free = λ q l. new_free q;
    whole_done = λ p. absurd (false≢true (sym (ap (λ (x : Builder ℕ). x.whole) new_is) ∙ p));
    part_held = λ p. absurd (false≢true (sym (ap (λ (x : Builder ℕ). x.part) new_is) ∙ p));
  }

pub finished_at : (b : ResultBuilder) (f : Finished) → length b.held ≡ 512 → length b.values ≡ 512 → f ≡ finish_answer b → b.rows ≤ 512 → (r : ℕ) → r < b.rows → get_or f.values r 0 ≡ or_else 0 (held_by b r)
finished_at b f long long_values said few r h =
    let g = finish_gives b long long_values said in
    sym (get_or-take f.count f.values r 0 (omega (arith, g.count_is)))
    ∙ ap (λ (l : List ℕ). get_or l r 0) g.says
    ∙ get_or-map (or_else 0) (builder_of b).held r none

-- ---- a step

-- a row is no less than its place among rising rows
place_least : (f : ℕ → ℕ) (n : ℕ) → ((i j : ℕ) → i < j → j < n → f i < f j) → (k : ℕ) → k < n → k ≤ f k
place_least f n rising zero h = omega arith
place_least f n rising (suc k) h = let a : k ≤ f k = place_least f n rising k (omega arith) in omega (arith, rising k (suc k) (omega arith) h)

-- rising rows are no more than lie below the count
rows_few : (n : ℕ) {w : List ℕ} {at rows : ℕ} → Rows w at n rows → n ≤ rows
rows_few zero {w} {at} ok = omega arith
rows_few (suc n) {w} {at} ok = omega (arith, place_least (row_at w at) (suc n) ok.rising n (omega arith), ok.below n (omega arith))

-- the open list as one of rows of a frame
pub open_rows : {w : List ℕ} {left : ℕ} {b : ResultBuilder} → Open b w left b.rows → Rows w 5632 left 512
open_rows o = record { few = o.list_ok.few; below = λ i h. omega (arith, o.list_ok.below i h, o.small); rising = o.list_ok.rising }

module _ {class : ℕ → ℕ} {w : List ℕ} {left : ℕ} {b : ResultBuilder} (ready : Open b w left b.rows) {m : ℕ} {rows values w' : List ℕ} (g : Parted class w left m rows values w')
    (long : length rows ≡ 512) (long_values : length values ≡ 512) where
  few : m ≤ 512
  few = omega (arith, g.gone.few, ready.list_ok.few)

  -- how many rows the part has
  pub size : length (take m rows) ≡ m
  size = length-take-le m rows (omega (arith, few))

  pub size_values : length (take m values) ≡ m
  size_values = length-take-le m values (omega (arith, few))

  row_is : (k : ℕ) → k < length (take m rows) → get_or (take m rows) k 0 ≡ get_or rows k 0
  row_is k h = get_or-take m rows k 0 (omega (arith, size))

  -- a row of the part was open and leaves
  from_open : (k : ℕ) → k < length (take m rows) → Listed w 5632 left (get_or (take m rows) k 0) × (class (get_or (take m rows) k 0) ≡ 0 → ⊥)
  from_open k h =
      subst (λ (q : ℕ). Listed w 5632 left q × (class q ≡ 0 → ⊥)) (sym (row_is k h)) (g.gone.taken k (omega (arith, size)))

  below : (q : ℕ) → Listed w 5632 left q → q < b.rows
  below q l = omega (arith, l.2, ready.list_ok.below l.0 l.1)

  pub part_asks : PartAsks b (take m rows) (take m values)
  part_asks = record {
    small = ready.small;
    same = size ∙ sym size_values;
    rising = λ k l a h. omega (arith, row_is k (omega arith), row_is l h, g.gone.rising k l a (omega (arith, size)));
    below = λ k h. below (get_or (take m rows) k 0) (from_open k h).0;
    free = λ k h. ready.free (get_or (take m rows) k 0) (from_open k h).0;
    whole_done = λ p. let none_left = ready.whole_done p in omega (arith, size, g.gone.few);
    part_held = ready.part_held;
  }

  module _ {r : ResultBuilder} (p : PartGives b (take m rows) (take m values) r) where
    -- a row of the part, by its place
    abbrev Leaves : ℕ → Type 0
    Leaves = Among (λ (k : ℕ). get_or (take m rows) k 0) (length (take m rows))

    listed_leaves : (q : ℕ) → Leaves q → Listed w 5632 left q × (class q ≡ 0 → ⊥)
    listed_leaves q l = subst (λ (x : ℕ). Listed w 5632 left x × (class x ≡ 0 → ⊥)) l.2 (from_open l.0 l.1)

    others_kept : (q : ℕ) → (Listed w 5632 left q → ⊥) → held_by r q ≡ held_by b q
    others_kept q n = p.others q (λ l. n (listed_leaves q l).0)

    stays_listed : (q : ℕ) → Listed w' 5632 (left - m) q → Listed w 5632 left q × (class q ≡ 0)
    stays_listed q l = subst (λ (x : ℕ). Listed w 5632 left x × (class x ≡ 0)) l.2 (g.stay.taken l.0 l.1)

    -- a row that stays is held as it was
    stays_free : (q : ℕ) → Listed w' 5632 (left - m) q → held_by r q ≡ none
    stays_free q l = let s = stays_listed q l in p.others q (λ t. (listed_leaves q t).1 s.1) ∙ ready.free q s.0

    -- a row that was held is
    still_held : (q : ℕ) → holds (held_by b q) ≡ true → holds (held_by r q) ≡ true
    still_held q t =
        ap holds (p.others q (λ l. let o = listed_leaves q l in false≢true (sym (ap holds (ready.free q o.0)) ∙ t))) ∙ t

    gone_held : (q : ℕ) → Listed w 5632 left q → (class q ≡ 0 → ⊥) → held_by r q ≡ some (class q)
    gone_held q l n =
        let a = g.gone.all q l n in
        let in_part : a.0 < length (take m rows) = omega (arith, size, a.1) in
        let is : get_or (take m rows) a.0 0 ≡ q = row_is a.0 in_part ∙ a.2 in
        sym (ap (held_by r) is) ∙ p.here a.0 in_part
        ∙ ap some (get_or-take m values a.0 0 a.1 ∙ g.classes a.0 a.1 ∙ ap class a.2)

    pub settles : Settles class w left b.rows b (record { left = left - m; builder = r }) w'
    settles = record {
      long = g.long;
      low = g.low;
      high = g.high;
      still_open = record {
        sized = p.same_rows;
        small = ready.small;
        list_ok = record {
          few = omega (arith, ready.list_ok.few);
          below = λ i h. below (row_at w' 5632 i) (g.stay.taken i h).0;
          rising = g.stay.rising;
        };
        free = stays_free;
        whole_done = λ t.
            ⊎_elim
            (λ (q : b.whole ≡ true). omega (arith, ready.whole_done q))
            (λ (q : length (take m rows) ≡ b.rows). omega (arith, size, rows_few left ready.list_ok))
            (p.whole_is t);
        part_held = λ t.
            ⊎_elim
            (λ (q : b.part ≡ true). let h = ready.part_held q in (h.0, h.1, still_held h.0 h.2))
            (λ (q : 0 < length (take m rows)). (get_or (take m rows) 0 0, below (get_or (take m rows) 0 0) (from_open 0 q).0, ap holds (p.here 0 q)))
            (p.part_is t);
      };
      stays = stays_listed;
      kept = λ q l z. g.stay.all q l z;
      gone = gone_held;
      others = others_kept;
    }

-- the same by classes that are those of the listed rows
pub settles_as : {class class' : ℕ → ℕ} {w : List ℕ} {left rows : ℕ} {b : ResultBuilder} {r : Settled} {w' : List ℕ} → ((q : ℕ) → Listed w 5632 left q → class q ≡ class' q)
    → Settles class w left rows b r w' → Settles class' w left rows b r w'
settles_as same s = record {
  long = s.long;
  low = s.low;
  high = s.high;
  still_open = s.still_open;
  stays = λ q l. let t = s.stays q l in (t.0, sym (same q t.0) ∙ t.1);
  kept = λ q l z. s.kept q l (same q l ∙ z);
  gone = λ q l n. s.gone q l (λ z. n (sym (same q l) ∙ z)) ∙ ap some (same q l);
  others = s.others;
}
