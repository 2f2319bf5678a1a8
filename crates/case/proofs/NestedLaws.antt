-- The classes of rows by a CASE of literals that is a THEN of the root. Assumes nothing.
use Rattle.std.proofs.Common.{◌≡◌, ℕ, zero, suc, ◌+◌, ◌-◌, ◌*◌, ◌<◌, ◌≤◌, Bool, true, false, cond, eqb, ◌⊎◌, List, length, get_or, set, sym, refl, ap, ◌∙◌, subst, ap₂, inl, inr, arith, get_or-set_other, get_or-set_same, eqb-true, Option, Some, None, ◌&&◌, take, drop, length-drop}
use Rattle.std.specs.List.{list_all}
use Rattle.std.proofs.lemmas.List.{get_or-drop}
use Rattle.std.proofs.lemmas.Option.{IfSome_then, same_Some}
use Rattle.std.proofs.lemmas.List.Folds.{list_all_more}
use mathlib.Core.Bool.{false≢true}
use native.Mathlib.Decide.{ℕ_discrete, dec_lt}
use Rattle.layout.specs.Bytes.{byte}
use Rattle.scalar.specs.declared.types.DataType.{DataType}
use Rattle.scalar.specs.declared.types.DataType.TheVariants.{Boolean, Int32, Int64, Float64, Utf8}
use Rattle.scalar.specs.Types.{type_number}
use Rattle.scalar.specs.Entry.{Outcome}
use Rattle.scalar.specs.Value.{meaning, value_of}
use Rattle.rule.specs.Tree.{Expr, Branches}
use Rattle.rule.specs.Row.{Row, eval}
use Rattle.rule.specs.Walks.{EndGives, BehindGives, TypeGives}
use Rattle.rule.proofs.WalkLaws.{first_two}
use Rattle.table.specs.declared.places.Table.{Table}
use Rattle.case.specs.Frame.{row_at, Rows, Listed}
use Rattle.case.specs.Taking.{Picked, HasIndex}
use Rattle.case.specs.LookUpTables.{value_at}
use Rattle.case.specs.Evaluation.{Framed, row_in, result_at, indexed}
use Rattle.case.specs.Results.{ResultsRead}
use Rattle.case.specs.Classes.{CaseTree, CaseIndex, CaseValues, all_of_kind, Grown, BlockCopied, BlockRead, NestedResults, Numbered, ClassRight, CaseClassed, WantedRows, ThenClassed, ThensAsk, ResultClass, ThensClassed}
use Rattle.case.proofs.FrameLaws.{SameRows, kept_rows, listed_to, listed_from, framed_kept, lent, lent_rows}
use Rattle.case.proofs.BranchLaws.{branch_at, branch_stands, behind_none, behind_two}

-- ---- the kinds of the classes

-- they are a part of the kinds
pub kinds_all : (kinds : List ℕ) (k from n : ℕ) → from + n < length kinds → all_of_kind kinds k from n ≡ list_all (λ (x : ℕ). eqb x k) (take n (drop (from + 1) kinds))
unfolding all_of_kind
kinds_all kinds k from zero h = refl
kinds_all kinds k from (suc n) h =
    let one : from + 1 + n ≡ from + suc n = omega arith in
    let more : n + 1 ≡ suc n = omega arith in
    let at : get_or (drop (from + 1) kinds) n 0 ≡ get_or kinds (from + suc n) 0 = get_or-drop (from + 1) kinds n 0 ∙ ap (λ (i : ℕ). get_or kinds i 0) one in
    ap (λ (b : Bool). cond (eqb (get_or kinds (from + suc n) 0) k) b false) (kinds_all kinds k from n (omega arith))
    ∙ turned (eqb (get_or kinds (from + suc n) 0) k) (list_all (λ (x : ℕ). eqb x k) (take n (drop (from + 1) kinds)))
    ∙ ap (λ (i : ℕ). list_all (λ (x : ℕ). eqb x k) (take n (drop (from + 1) kinds)) && eqb i k) (sym at)
    ∙ sym (list_all_more (λ (x : ℕ). eqb x k) (drop (from + 1) kinds) n 0 (omega (arith, length-drop (from + 1) kinds)))
    ∙ ap (λ (i : ℕ). list_all (λ (x : ℕ). eqb x k) (take i (drop (from + 1) kinds))) more
  where
    turned : (a b : Bool) → cond a b false ≡ (b && a)
    turned true true = refl
    turned true false = refl
    turned false true = refl
    turned false false = refl

-- each of them
kind_at : (kinds : List ℕ) (k from n : ℕ) → all_of_kind kinds k from n ≡ true → (j : ℕ) → j < n → get_or kinds (from + suc j) 0 ≡ k
unfolding all_of_kind
kind_at kinds k from zero all j h = absurd (omega arith)
kind_at kinds k from (suc n) all j h = go (eqb (get_or kinds (from + suc n) 0) k) refl (ℕ_discrete j n) (λ p q. kind_at kinds k from n p j q)
  where
    go : (b : Bool) → eqb (get_or kinds (from + suc n) 0) k ≡ b → Dec (j ≡ n) → (all_of_kind kinds k from n ≡ true → j < n → get_or kinds (from + suc j) 0 ≡ k) → get_or kinds (from + suc j) 0 ≡ k
    go true e (yes d) later = ap (λ (i : ℕ). get_or kinds (from + suc i) 0) d ∙ eqb-true (get_or kinds (from + suc n) 0) k e
    go true e (no d) later = later (sym (ap (λ (b : Bool). cond b (all_of_kind kinds k from n) false) e) ∙ all) (omega arith)
    go false e d later = absurd (false≢true (sym (ap (λ (b : Bool). cond b (all_of_kind kinds k from n) false) e) ∙ all))

-- every type has one
pub type_some : (t : DataType) → 0 < type_number t
type_some Boolean = omega arith
type_some Int32 = omega arith
type_some Int64 = omega arith
type_some Float64 = omega arith
type_some Utf8 = omega arith

-- ---- the literals of a block

-- those that nothing was put behind
pub grown_none : {from : ℕ} {kinds payloads : List ℕ} → Grown from kinds payloads kinds payloads
grown_none = record { kinds_same = λ c h. refl; payloads_same = λ c h. refl }

-- the literals that were read, behind a class
pub block_read : {rule : List ℕ} {at end count : ℕ} {to : DataType} {from : ℕ} {block-kinds block-payloads kinds payloads kinds' payloads' : List ℕ}
    → ResultsRead rule at end count to block-kinds block-payloads → BlockCopied from (count + 1) block-kinds block-payloads kinds payloads kinds' payloads'
    → BlockRead rule at end count to from kinds' payloads'
block_read {rule} {count = count} {from = from} {block-kinds} {block-payloads} {kinds' = kinds'} {payloads'} read c = record {
  held = λ bs els depth row table trees n j h some.
      let k = c.kinds_are (suc j) (omega arith) (omega arith) in
      let p = c.payloads_are (suc j) (omega arith) (omega arith) in
      ap₂ (λ (x y : ℕ). meaning rule table (value_of x y)) k p
      ∙ read.held bs els depth row table trees n j h (inr (λ z. some (k ∙ z)));
}

-- ---- the classes of a list's rows

-- where the loop stands: the first i rows have theirs
pub record NumberedSoFar (w : List ℕ) (n : ℕ) (values : List ℕ) (from : ℕ) (classes classes' : List ℕ) (i : ℕ) : Type 0 where
  pub few : i ≤ n
  pub numbered : Numbered w i values from classes classes'

module _ {w : List ℕ} {n : ℕ} {values : List ℕ} {from : ℕ} {classes classes' : List ℕ} {i : ℕ} (s : NumberedSoFar w n values from classes classes' i) where
  module _ (long : length classes' ≡ 512) (ok : Rows w 0 n 512) (more : i < n) {r : ℕ} (e : r ≡ row_at w 0 i) where
    number_in : r < 512
    number_in = let b = ok.below i more in omega arith

    pub numbered_next : NumberedSoFar w n values from classes (set classes' r (from + get_or values r 0)) (i + 1)
    numbered_next = record {
      few = omega arith;
      numbered = record {
        here = λ q l. here_at q l (ℕ_discrete q r);
        others = λ q none_left.
            get_or-set_other classes' r q (from + get_or values r 0) 0 (λ d. none_left (i, omega arith, sym e ∙ sym d))
            ∙ s.numbered.others q (λ l. none_left (l.0, (let h = l.1 in omega arith), l.2));
      };
    }
      where
        here_at : (q : ℕ) → Listed w 0 (i + 1) q → Dec (q ≡ r) → get_or (set classes' r (from + get_or values r 0)) q 0 ≡ from + get_or values q 0
        here_at q l (yes d) =
            ap (λ (x : ℕ). get_or (set classes' r (from + get_or values r 0)) x 0) d
            ∙ get_or-set_same classes' r (from + get_or values r 0) 0 (let b = number_in in omega arith) ∙ ap (λ (x : ℕ). from + get_or values x 0) (sym d)
        here_at q l (no d) =
            get_or-set_other classes' r q (from + get_or values r 0) 0 d
            ∙ s.numbered.here q (l.0, (let h = l.1 in let k = earlier in omega arith), l.2)
          where
            earlier : l.0 ≡ i → ⊥
            earlier k = d (sym l.2 ∙ ap (row_at w 0) k ∙ sym e)

-- ---- the rows of a CASE

-- no classes were found
pub case_none : {wanted : ℕ → Type 0} {rule : List ℕ} {start end : ℕ} {table : List ℕ} {t : Table} {code from : ℕ} {classes kinds payloads kinds' payloads' : List ℕ}
    → Grown from kinds payloads kinds' payloads' → CaseClassed wanted rule start end table t code from classes kinds payloads None classes kinds' payloads'
case_none grown = record {
  grown = grown;
  few = tt;
  onward = tt;
  others = λ q n. refl;
  here = tt;
}

-- the results of a CASE, as they have to be
pub nested_give : {rule : List ℕ} {start end code from place count : ℕ} {kinds payloads kinds' payloads' : List ℕ} {to : DataType} {all : Bool} → start < length rule → count ≡ byte rule (start + 4)
    → from + count + 3 ≤ 258 → TypeGives rule start to → Grown from kinds payloads kinds' payloads' → BlockRead rule place end count to from kinds' payloads' → all ≡ all_of_kind kinds' code from (count + 1) → all ≡ true
    → NestedResults rule start end code from kinds payloads (Some place) kinds' payloads'
nested_give {rule} {start} {end} {code} {from} {place} {count} {kinds' = kinds'} {payloads'} {to} inside counted room types grown read all-is all_of = record {
  grown = grown;
  found = record {
    inside = inside;
    room = (let c = counted in omega arith);
    type = to;
    type_is = types;
    read = subst (λ (n : ℕ). BlockRead rule place end n to from kinds' payloads') counted read;
    of_kind = subst (λ (n : ℕ). all_of_kind kinds' code from (n + 1) ≡ true) counted (sym all-is ∙ all_of);
  };
}

module _ {rule : List ℕ} {start end : ℕ} {table : List ℕ} {t : Table} {code from : ℕ} {w : List ℕ} {n : ℕ} {values kinds payloads kinds' payloads' : List ℕ} {found : Option ℕ} {place : ℕ}
    (v : CaseValues rule start end table t w n values found) (is : found ≡ Some place) (results : NestedResults rule start end code from kinds payloads (Some place) kinds' payloads') where
  given : CaseValues rule start end table t w n values (Some place)
  given = subst (λ (x : Option ℕ). CaseValues rule start end table t w n values x) is v

  -- an index of a CASE's results lies in the classes behind a class
  pub index_in : (q : ℕ) → Listed w 0 n q → from + get_or values q 0 < 258
  index_in q l = let f = (given.each q l).few in let r = results.found.room in omega arith

  -- the literal at a row's index behind a class is the row's outcome
  pub case_classed : {classes classes' : List ℕ} {count : ℕ} → count ≡ byte rule (start + 4) → 0 < code → Numbered w n values from classes classes'
      → CaseClassed (Listed w 0 n) rule start end table t code from classes kinds payloads (Some (from + count + 3)) classes' kinds' payloads'
  case_classed {classes' = classes'} {count} counted some numbered = record {
    grown = results.grown;
    few = room;
    onward = omega arith;
    others = numbered.others;
    here = λ q l. subst (ClassRight rule start end table t kinds' payloads' code from (from + count + 3) q) (sym (numbered.here q l)) (right_at q (given.each q l));
  }
    where
      room : from + count + 3 ≤ 258
      room = let r = results.found.room in omega arith

      read : BlockRead rule place end (byte rule (start + 4)) results.found.type from kinds' payloads'
      read = results.found.read

      of_kind : (c : ℕ) → 0 < c → c ≤ byte rule (start + 4) + 1 → get_or kinds' (from + c) 0 ≡ code
      of_kind zero a b = absurd (omega arith)
      of_kind (suc j) a b = kind_at kinds' code from (byte rule (start + 4) + 1) results.found.of_kind j (omega arith)

      by : (q c : ℕ) → 0 < c → c ≤ byte rule (start + 4) + 1 → (e : Expr) (depth : ℕ) → CaseTree rule start end table t place depth q c e
          → meaning rule table (value_at kinds' payloads' (from + c)) ≡ eval e (row_in table t q)
      by q zero a b e depth tree = absurd (omega arith)
      by q (suc j) a b e depth tree =
          read.held tree.bs tree.els depth (row_in table t q) table tree.trees tree.counted j (omega arith) (λ z. let k = of_kind (suc j) a b in omega arith)
          ∙ sym (tree.outcome results.found.type results.found.type_is)

      right_at : (q : ℕ) → CaseIndex rule start end table t place q (get_or values q 0) → ClassRight rule start end table t kinds' payloads' code from (from + count + 3) q (from + get_or values q 0)
      right_at q x = record {
        above = (let a = x.some in omega arith);
        below = (let b = x.few in omega arith);
        kind_is = of_kind (get_or values q 0) x.some x.few;
        means = λ e depth node. by q (get_or values q 0) x.some x.few e depth (x.is e depth node);
      }

-- ---- the rows of a THEN

-- a literal of the kind: nothing is done
pub then_same : {rule : List ℕ} {start end : ℕ} {table : List ℕ} {t : Table} {code : ℕ} {w : List ℕ} {n class from : ℕ} {classes kinds payloads : List ℕ} → get_or kinds class 0 ≡ code
    → ThenClassed rule start end table t code w n class from classes kinds payloads (Some from) w classes kinds payloads
then_same is = record { long = refl; low = λ j h. refl; same = λ e. (refl, refl, refl, refl); found = λ n. absurd (n is) }

-- a CASE: its rows in the next frame
pub then_case : {rule : List ℕ} {start end : ℕ} {table : List ℕ} {t : Table} {code : ℕ} {w w₁ : List ℕ} {n m class from : ℕ} {classes kinds payloads : List ℕ} {used : Option ℕ} {classes' kinds' payloads' : List ℕ}
    → (get_or kinds class 0 ≡ code → ⊥) → Picked (HasIndex classes class) w n m w₁
    → CaseClassed (Listed (lent w₁) 0 m) rule start end table t code from classes kinds payloads used classes' kinds' payloads'
    → ThenClassed rule start end table t code w n class from classes kinds payloads used w₁ classes' kinds' payloads'
then_case {w₁ = w₁} {m = m} {used = used} other p c = record {
  long = p.long;
  low = p.low;
  same = λ e. absurd (other e);
  found = λ d. record {
    grown = c.grown;
    few = c.few;
    onward = c.onward;
    others = λ q no_row. c.others q (λ l. no_row (p.picked q (listed_from w₁ (lent w₁) 6656 0 m (lent_rows w₁ m) q l)));
    here = IfSome_then used c.here (λ u h q l. h q (listed_to w₁ (lent w₁) 6656 0 m (lent_rows w₁ m) q (p.all q l.0 l.1)));
  };
}

-- ---- the rows of all THENs

-- the class c of a row, which had the class j: right, and no class of a THEN behind j
pub record RowSettled (rule : List ℕ) (at : ℕ) (table : List ℕ) (t : Table) (code count : ℕ) (kinds payloads kinds' payloads' : List ℕ) (used q j c : ℕ) : Type 0 where
  pub right : ResultClass rule at table t code count kinds payloads kinds' payloads' q j c
  pub in_use : c < used
  pub apart : (c ≡ j) ⊎ (count + 3 ≤ c)

-- where the loop stands: the rows of the classes below k are settled, those of the others have the class that they had
pub record ClassedSoFar (rule : List ℕ) (at : ℕ) (table : List ℕ) (t : Table) (code count : ℕ) (w : List ℕ) (n : ℕ) (classes kinds payloads : List ℕ) (w' classes' kinds' payloads' : List ℕ) (used place k : ℕ) : Type 0 where
  pub first : 1 ≤ k
  pub few : k ≤ count + 1
  pub behind : BehindGives rule at (2 * (k - 1)) place
  pub long : length w' ≡ length w
  pub low : (j : ℕ) → j < 6656 → byte w' j ≡ byte w j
  pub used_from : count + 3 ≤ used
  pub used_to : used ≤ 258
  pub grown : Grown (count + 2) kinds payloads kinds' payloads'
  pub done : (q : ℕ) → Listed w 0 n q → get_or classes q 0 < k → RowSettled rule at table t code count kinds payloads kinds' payloads' used q (get_or classes q 0) (get_or classes' q 0)
  pub left : (q : ℕ) → Listed w 0 n q → k ≤ get_or classes q 0 → get_or classes' q 0 ≡ get_or classes q 0

pub classed_none : {rule : List ℕ} {at : ℕ} {table : List ℕ} {t : Table} {code count : ℕ} {w : List ℕ} {n : ℕ} {classes kinds payloads : List ℕ} → ThensAsk code count w n classes kinds payloads
    → ClassedSoFar rule at table t code count w n classes kinds payloads w classes kinds payloads (count + 3) at 1
classed_none a = record {
  first = omega arith;
  few = omega arith;
  behind = behind_none (2 * (1 - 1)) refl;
  long = refl;
  low = λ j h. refl;
  used_from = omega arith;
  used_to = (let f = a.few in omega arith);
  grown = grown_none;
  done = λ q l h. absurd (let p = (a.each q l).0 in omega arith);
  left = λ q l h. refl;
}

-- a class that has the literal of its result from before
result_kept : {rule : List ℕ} {at : ℕ} {table : List ℕ} {t : Table} {code count : ℕ} {kinds payloads kinds' payloads' : List ℕ} {q : ℕ} (j : ℕ) → count ≤ 255 → 1 ≤ j → j ≤ count + 1
    → get_or kinds j 0 ≡ code → get_or kinds' j 0 ≡ get_or kinds j 0 → get_or payloads' j 0 ≡ get_or payloads j 0 → ResultClass rule at table t code count kinds payloads kinds' payloads' q j j
result_kept zero few a b is k p = absurd (omega arith)
result_kept {rule} {table = table} (suc i) few a b is k p = record {
  below = omega arith;
  kind_is = k ∙ is;
  means = λ bs rest end o trees n was. ap₂ (λ (x y : ℕ). meaning rule table (value_of x y)) k p ∙ was i (omega arith) is;
}

-- the outcome of a result behind the first so many
index_result : (bs : Branches) (row : Row) (o : Outcome) (j : ℕ) → 1 ≤ j → result_at bs row o (j - 1) ≡ indexed bs row o j
index_result bs row o zero h = absurd (omega arith)
index_result bs row o (suc i) h = let e : suc i - 1 ≡ i = omega arith in ap (result_at bs row o) e

module _ {rule : List ℕ} {at : ℕ} {table : List ℕ} {t : Table} {code count : ℕ} {w : List ℕ} {n : ℕ} {classes kinds payloads : List ℕ} {w₁ classes₁ kinds₁ payloads₁ : List ℕ} {used place k : ℕ}
    (ask : ThensAsk code count w n classes kinds payloads) (ok : n ≤ 512) (s : ClassedSoFar rule at table t code count w n classes kinds payloads w₁ classes₁ kinds₁ payloads₁ used place k) where
  pub classed_framed : Framed table t w n 2 → Framed table t w₁ n 2
  classed_framed f = framed_kept f 2 (omega arith) w₁ s.long (λ j h. s.low j (omega arith))

  same_list : SameRows w 0 w₁ 0 n
  same_list = kept_rows 1024 w w₁ 0 n (omega arith) (λ j h. s.low j (omega arith))

  -- all are settled
  pub classed_all : count < k → ThensClassed rule at table t code count w n classes kinds payloads true w₁ classes₁ kinds₁ payloads₁
  classed_all all = record {
    long = s.long;
    low = s.low;
    here = λ h q l. go q l (dec_lt (get_or classes q 0) k);
  }
    where
      go : (q : ℕ) → Listed w 0 n q → Dec (get_or classes q 0 < k) → ResultClass rule at table t code count kinds payloads kinds₁ payloads₁ q (get_or classes q 0) (get_or classes₁ q 0)
      go q l (yes h) = (s.done q l h).right
      go q l (no h) =
          let (a, b) = ask.each q l in
          let f = s.few in
          let last : get_or classes q 0 ≡ count + 1 = omega arith in
          subst (ResultClass rule at table t code count kinds payloads kinds₁ payloads₁ q (get_or classes q 0)) (sym (s.left q l (omega arith)))
          (result_kept (get_or classes q 0) ask.few a b (ap (λ (c : ℕ). get_or kinds c 0) last ∙ ask.else_kind) (s.grown.kinds_same (get_or classes q 0) (omega arith))
          (s.grown.payloads_same (get_or classes q 0) (omega arith)))

  -- the THEN of the class k is done
  module _ {then next : ℕ} {found : Option ℕ} {w₂ classes₂ kinds₂ payloads₂ : List ℕ} (d : ThenClassed rule then next table t code w₁ n k used classes₁ kinds₁ payloads₁ found w₂ classes₂ kinds₂ payloads₂) where
    -- where no classes were found
    pub classed_not : ThensClassed rule at table t code count w n classes kinds payloads false w₂ classes₂ kinds₂ payloads₂
    classed_not = record {
      long = d.long ∙ s.long;
      low = λ j h. d.low j h ∙ s.low j h;
      here = λ h. absurd (false≢true h);
    }

  -- one THEN more
  module _ {then next used' : ℕ} {w₂ classes₂ kinds₂ payloads₂ : List ℕ} (d : ThenClassed rule then next table t code w₁ n k used classes₁ kinds₁ payloads₁ (Some used') w₂ classes₂ kinds₂ payloads₂) where
    module _ (more : k ≤ count) (to-then : EndGives rule place then) (to-next : EndGives rule then next) where
      -- what became of the class of a row of the THEN
      abbrev Now : ℕ → ℕ → Type 0
      Now q c = ((c ≡ k) × (get_or kinds₁ k 0 ≡ code)) ⊎ ClassRight rule then next table t kinds₂ payloads₂ code used used' q c

      -- the same, whether the THEN is a literal or a CASE
      record Stepped : Type 0 where
        pub onward : used ≤ used'
        pub few : used' ≤ 258
        pub grown : Grown used kinds₁ payloads₁ kinds₂ payloads₂
        pub others : (q : ℕ) → (WantedRows w₁ n classes₁ k q → ⊥) → get_or classes₂ q 0 ≡ get_or classes₁ q 0
        pub here : (q : ℕ) → WantedRows w₁ n classes₁ k q → Now q (get_or classes₂ q 0)

      stepped : Stepped
      stepped = go (ℕ_discrete (get_or kinds₁ k 0) code)
        where
          go : Dec (get_or kinds₁ k 0 ≡ code) → Stepped
          go (yes e) =
              let (u, a, b, c) = d.same e in
              record {
                onward = (let v = same_Some used' used u in omega arith);
                few = (let f = s.used_to in let v = same_Some used' used u in omega arith);
                grown = record {
                  kinds_same = λ i h. ap (λ (x : List ℕ). get_or x i 0) b;
                  payloads_same = λ i h. ap (λ (x : List ℕ). get_or x i 0) c;
                };
                others = λ q h. ap (λ (x : List ℕ). get_or x q 0) a;
                here = λ q l. inl (ap (λ (x : List ℕ). get_or x q 0) a ∙ l.1, e);
              }
          go (no e) = let f = d.found e in record { onward = f.onward; few = f.few; grown = f.grown; others = f.others; here = λ q l. inr (f.here q l) }

      -- a row of the THEN
      now_settled : (q j : ℕ) → j ≡ k → Now q (get_or classes₂ q 0) → RowSettled rule at table t code count kinds payloads kinds₂ payloads₂ used' q j (get_or classes₂ q 0)
      now_settled q j is (inl (c-is, kind)) = record {
        right =
            subst (λ (c : ℕ). ResultClass rule at table t code count kinds payloads kinds₂ payloads₂ q j c) (is ∙ sym c-is)
            (subst (λ (i : ℕ). ResultClass rule at table t code count kinds payloads kinds₂ payloads₂ q i i) (sym is)
            (result_kept k ask.few s.first (omega arith) (sym (s.grown.kinds_same k (omega arith)) ∙ kind) (stepped.grown.kinds_same k in_used ∙ s.grown.kinds_same k (omega arith))
            (stepped.grown.payloads_same k in_used ∙ s.grown.payloads_same k (omega arith))));
        in_use = (let a = in_used in let b = stepped.onward in let f = s.used_from in omega arith);
        apart = inl (c-is ∙ sym is);
      }
        where
          in_used : k ≤ used
          in_used = let f = s.used_from in omega arith
      now_settled q j is (inr r) = record {
        right = record {
          below = (let a = r.below in let b = stepped.few in omega arith);
          kind_is = r.kind_is;
          means = λ bs rest end o trees m was.
              let x = branch_at (k - 1) bs (let f = s.first in omega arith) in
              let node = (first_two to-then to-next (branch_stands rest s.behind x trees)).1 in
              r.means x.then_is 6 node ∙ sym (x.result (row_in table t q) o) ∙ index_result bs (row_in table t q) o k s.first ∙ ap (indexed bs (row_in table t q) o) (sym is);
        };
        in_use = r.below;
        apart = inr (let a = r.above in let f = s.used_from in omega arith);
      }

      -- a row that was settled is so still
      still_settled : (q j : ℕ) → Listed w 0 n q → j < k → RowSettled rule at table t code count kinds payloads kinds₁ payloads₁ used q j (get_or classes₁ q 0)
          → RowSettled rule at table t code count kinds payloads kinds₂ payloads₂ used' q j (get_or classes₂ q 0)
      still_settled q j l h x =
          subst (RowSettled rule at table t code count kinds payloads kinds₂ payloads₂ used' q j) (sym (stepped.others q (λ z. not_wanted z.1 x.apart)))
          (record {
            right = record {
              below = x.right.below;
              kind_is = kinds_are ∙ x.right.kind_is;
              means = λ bs rest end o trees m was. ap₂ (λ (a b : ℕ). meaning rule table (value_of a b)) kinds_are payloads_are ∙ x.right.means bs rest end o trees m was;
            };
            in_use = (let a = x.in_use in let b = stepped.onward in omega arith);
            apart = x.apart;
          })
        where
          kinds_are : get_or kinds₂ (get_or classes₁ q 0) 0 ≡ get_or kinds₁ (get_or classes₁ q 0) 0
          kinds_are = stepped.grown.kinds_same (get_or classes₁ q 0) (let a = x.in_use in omega arith)

          payloads_are : get_or payloads₂ (get_or classes₁ q 0) 0 ≡ get_or payloads₁ (get_or classes₁ q 0) 0
          payloads_are = stepped.grown.payloads_same (get_or classes₁ q 0) (let a = x.in_use in omega arith)

          not_wanted : get_or classes₁ q 0 ≡ k → (get_or classes₁ q 0 ≡ j) ⊎ (count + 3 ≤ get_or classes₁ q 0) → ⊥
          not_wanted e (inl a) = omega arith
          not_wanted e (inr a) = omega arith

      pub classed_next : ClassedSoFar rule at table t code count w n classes kinds payloads w₂ classes₂ kinds₂ payloads₂ used' next (k + 1)
      classed_next = record {
        first = omega arith;
        few = omega arith;
        behind = behind_two (2 * (k - 1)) (2 * (k + 1 - 1)) (let f = s.first in omega arith) s.behind to-then to-next;
        long = d.long ∙ s.long;
        low = λ j h. d.low j h ∙ s.low j h;
        used_from = (let a = s.used_from in let b = stepped.onward in omega arith);
        used_to = stepped.few;
        grown = record {
          kinds_same = λ c h. stepped.grown.kinds_same c (let f = s.used_from in omega arith) ∙ s.grown.kinds_same c h;
          payloads_same = λ c h. stepped.grown.payloads_same c (let f = s.used_from in omega arith) ∙ s.grown.payloads_same c h;
        };
        done = λ q l h. go q l h (ℕ_discrete (get_or classes q 0) k);
        left = λ q l h.
            let was : get_or classes₁ q 0 ≡ get_or classes q 0 = s.left q l (omega arith) in
            stepped.others q (λ z. let e = z.1 in omega arith) ∙ was;
      }
        where
          go : (q : ℕ) → Listed w 0 n q → get_or classes q 0 < k + 1 → Dec (get_or classes q 0 ≡ k)
              → RowSettled rule at table t code count kinds payloads kinds₂ payloads₂ used' q (get_or classes q 0) (get_or classes₂ q 0)
          go q l h (yes e) = now_settled q (get_or classes q 0) e (stepped.here q (listed_to w w₁ 0 0 n same_list q l, s.left q l (omega arith) ∙ e))
          go q l h (no e) = still_settled q (get_or classes q 0) l (omega arith) (s.done q l (omega arith))
