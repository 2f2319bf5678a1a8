-- Steps of the reading beside their definitions. Assumes nothing.
use Rattle.std.specs.Prelude.{Option, None, ok_or, Result as RustResult, Ok, Err}
use mathlib.Core.Path.{◌≡◌, refl, ap, sym, subst, ◌∙◌}
use mathlib.Core.Bool.{Bool, true, false, cond}
use mathlib.Core.List.{List, [], ◌∷◌}
use Prim.Native.Nat.{ℕ, zero, suc, ◌<◌, ◌≤◌}
use native.Mathlib.Omega.{arith}
use lib.Dec.{eqb, ltb}
use lib.ListN.{length, drop}
use borrow.Author.Tests.{eqb-true, eqb-false, ltb-true, ltb-false}
use Rattle.layout.specs.declared.refusal.Refusal.{Refusal}
use Rattle.layout.specs.declared.refusal.Refusal.TheVariants.{RuleContent, RuleTypes}
use Rattle.layout.specs.Refusals.{refusal_numbered}
use Rattle.layout.specs.Result.{Result, refused, ok, ◌>>=◌, require}
use Rattle.layout.proofs.ResultLaws.{refused_not_ok, ok_injective}
use Rattle.scalar.specs.declared.types.DataType.{DataType}
use Rattle.rule.specs.declared.node.FieldFound.{FieldFound}
use Rattle.rule.specs.Tree.{Expr, is_null_literal}
use Rattle.rule.specs.Typing.{type_of, node_typed}
use Rattle.rule.specs.Constant.{is_empty}
use Rattle.rule.specs.Reading.{Read, close_node}
use Rattle.rule.specs.Steps.{closed, Gives, Behind, ReadGives}

ok_not_err : {A : Type 0} {e : Refusal} {x : A} → Ok x ≡ Err e → ⊥
ok_not_err e = cc

module _ {A B : Type 0} {good : B → A → Type 0} {m : Result A} {k : RustResult B Refusal} where
  -- a definition that refuses
  pub gives_refusal : (n : ℕ) → m ≡ refused n → k ≡ Err (refusal_numbered n) → Gives good m k
  gives_refusal n e q = record {
    refuses = λ j h. let same : n ≡ j = cc in q ∙ ap (λ (i : ℕ). Err (refusal_numbered i)) same;
    reads = λ x h. absurd (refused_not_ok n x (sym e ∙ h));
  }

  -- a definition that reads
  pub gives_read : (x : A) (y : B) → m ≡ ok x → k ≡ Ok y → good y x → Gives good m k
  gives_read x y e z g = record {
    refuses = λ n h. absurd (refused_not_ok n x (sym h ∙ e));
    reads = λ w h. (y, z, subst (good y) (ok_injective (sym e ∙ h)) g);
  }

-- taken backwards
module _ {A B : Type 0} {good : B → A → Type 0} {k : RustResult B Refusal} where
  pub was_refused : (m : Result A) {e : Refusal} → Gives good m k → k ≡ Err e → (n : ℕ) × (m ≡ refused n) × (e ≡ refusal_numbered n)
  was_refused (refused n) g z = let i = g.refuses n refl in (n, refl, cc)
  was_refused (ok x) g z = let (y, is, i) = g.reads x refl in absurd (ok_not_err (sym is ∙ z))

  pub was_read : (m : Result A) {y : B} → Gives good m k → k ≡ Ok y → (x : A) × (m ≡ ok x) × good y x
  was_read (refused n) g z = let i = g.refuses n refl in absurd (ok_not_err (sym z ∙ i))
  was_read (ok x) {y} g z = let (w, is, i) = g.reads x refl in let same : w ≡ y = cc in (x, refl, subst (λ (v : B). good v x) same i)

module _ {A B C : Type 0} {good : C → B → Type 0} {k : RustResult C Refusal} where
  -- a step that goes on, and one that refuses
  pub on_ok : (m : Result A) (f : A → Result B) (a : A) → m ≡ ok a → Gives good (f a) k → Gives good (m >>= f) k
  on_ok m f a e g = subst (λ (x : Result A). Gives good (x >>= f) k) (sym e) g

  pub on_refused : (m : Result A) (f : A → Result B) (n : ℕ) → m ≡ refused n → k ≡ Err (refusal_numbered n) → Gives good (m >>= f) k
  on_refused m f n e q = gives_refusal n (ap (λ (x : Result A). x >>= f) e) q

  module _ {D : Type 0} {first : D → A → Type 0} {j : RustResult D Refusal} where
    -- behind a part that was read, and behind one that was refused
    pub behind_read : (m : Result A) (f : A → Result B) {y : D} → Gives first m j → j ≡ Ok y → ((x : A) → first y x → Gives good (f x) k) → Gives good (m >>= f) k
    behind_read m f g z h = let (x, is, read) = was_read m g z in on_ok m f x is (h x read)

    pub behind_refused : (m : Result A) (f : A → Result B) {e : Refusal} → Gives first m j → j ≡ Err e → k ≡ Err e → Gives good (m >>= f) k
    behind_refused m f g z q = let (n, is, same) = was_refused m g z in on_refused m f n is (q ∙ ap Err same)

-- a part that makes up the whole
pub gives_map : {A B C : Type 0} {first : C → A → Type 0} {good : C → B → Type 0} {j : RustResult C Refusal} (m : Result A) (h : A → B) → Gives first m j
    → ((y : C) (x : A) → first y x → good y (h x)) → Gives good (m >>= λ x. ok (h x)) j
gives_map (refused n) h g f = gives_refusal n refl (g.refuses n refl)
gives_map (ok x) h g f = let (y, is, i) = g.reads x refl in gives_read (h x) y refl is (f y x i)

-- where a value was none
pub none_of : {A : Type 0} (e : Refusal) {d : Refusal} (o : Option A) → o ≡ None → Err d ≡ ok_or o e → d ≡ e
none_of {A} e {d} o z is = let same : ◌≡◌ {A = RustResult A Refusal} (Err d) (Err e) = is ∙ ap (λ (p : Option A). ok_or p e) z in cc

-- a length that is 0, and one that is not, by the test
pub none_there : (n : ℕ) {empty : Bool} → empty ≡ eqb n 0 → empty ≡ true → n ≡ 0
none_there n told is = eqb-true n 0 (sym told ∙ is)

pub some_there : (n : ℕ) {empty : Bool} → empty ≡ eqb n 0 → empty ≡ false → n ≡ 0 → ⊥
some_there n told is = eqb-false n 0 (sym told ∙ is)

-- bytes left over
pub empty_drop : (n : ℕ) (l : List ℕ) → length l ≤ n → is_empty (drop n l) ≡ true
empty_drop n [] h = go n
  where
    go : (n : ℕ) → is_empty (drop {A = ℕ} n []) ≡ true
    go zero = refl
    go (suc n) = refl
empty_drop zero (a ∷ l) h = absurd (omega arith)
empty_drop (suc n) (a ∷ l) h = empty_drop n l (omega arith)

pub some_drop : (n : ℕ) (l : List ℕ) → n < length l → is_empty (drop n l) ≡ false
some_drop n [] h = absurd (omega arith)
some_drop zero (a ∷ l) h = refl
some_drop (suc n) (a ∷ l) h = some_drop n l (omega arith)

-- a node behind its last child, which was read, with the marks `after`
module _ {A : Type 0} (node : A → Expr) (bytes outer after : List ℕ) (next size : ℕ) (fits : Bool) (t : DataType) (end : ℕ) (size_is : size ≡ length bytes) (x : Read A)
    (behind : Behind bytes next after x) (fits_is : fits ≡ node_typed (node x.tree)) (type_is : t ≡ type_of (node x.tree)) (null_is : false ≡ is_null_literal (node x.tree)) where
  abbrev typed : Bool → RustResult FieldFound Refusal
  typed b = cond b (Ok (record { result = t; null = false; next = end })) (Err RuleTypes)

  abbrev ClosedBy : RustResult FieldFound Refusal → Type 0
  ClosedBy r = ReadGives outer (close_node (node x.tree) x.seen x.rest (drop end outer)) r after

  typed_gives : size ≤ next → (b : Bool) → node_typed (node x.tree) ≡ b → ClosedBy (typed b)
  unfolding close_node
  typed_gives h b e =
      let none : is_empty x.rest ≡ true = ap is_empty behind.rest_is ∙ empty_drop next bytes (omega arith) in
      on_ok (require (is_empty x.rest) 3) _ tt (ap (λ (q : Bool). require q 3) none) (go b e)
    where
      go : (b : Bool) → node_typed (node x.tree) ≡ b
          → ReadGives outer (require (node_typed (node x.tree)) 7 >>= λ _. ok (record { tree = node x.tree; seen = x.seen; rest = drop end outer })) (typed b) after
      go true e =
          on_ok (require (node_typed (node x.tree)) 7) _ tt (ap (λ (q : Bool). require q 7) e)
          (gives_read (record { tree = node x.tree; seen = x.seen; rest = drop end outer }) _ refl refl
          (record { type_is = type_is; null_is = null_is; behind = record { rest_is = refl; seen_are = behind.seen_are } }))
      go false e = on_refused (require (node_typed (node x.tree)) 7) _ 7 (ap (λ (q : Bool). require q 7) e) refl

  pub close_gives : ClosedBy (closed next size fits t end)
  unfolding close_node
  close_gives = go (ltb next size) refl
    where
      go : (b : Bool) → ltb next size ≡ b → ClosedBy (cond b (Err RuleContent) (typed fits))
      go true e =
          let some : is_empty x.rest ≡ false = ap is_empty behind.rest_is ∙ some_drop next bytes (subst (λ (n : ℕ). next < n) size_is (ltb-true _ _ e)) in
          on_refused (require (is_empty x.rest) 3) _ 3 (ap (λ (q : Bool). require q 3) some) refl
      go false e = typed_gives (ltb-false _ _ e) fits (sym fits_is)
