-- What a node of a rule is, worked out without reading a column, arm by arm. Assumes nothing.
use mathlib.Core.Path.{◌≡◌, refl, ap, ap₂, sym, subst, ◌∙◌}
use mathlib.Core.Bool.{Bool, true, false}
use mathlib.Core.List.{List, [], ◌∷◌}
use Prim.Native.Nat.{ℕ, ◌+◌, ◌-◌, ◌<◌, ◌≤◌}
use native.Mathlib.Omega.{arith}
use lib.ListN.{length}
use types.Run.{OneOf, miss}
use denote.Enum.Declared.{tag_of}
use Rattle.scalar.specs.contracts.value.Value.{the_type}
use Rattle.layout.specs.Bytes.{byte, part}
use Rattle.scalar.specs.declared.types.DataType.{DataType}
use Rattle.scalar.specs.declared.types.DataType.TheVariants as Of
use Rattle.scalar.specs.declared.value.Value.{Value}
use Rattle.scalar.specs.declared.value.Value.TheVariants.{Null, Boolean, Int32, Int64, Float64, Nan, RuleText, TableText, Failed}
use Rattle.scalar.specs.Entry.{Entry, Outcome, entry, unfit, on_entry, on_entries, of_type, outcome_of_type}
use Rattle.scalar.specs.Text.{same_bytes}
use Rattle.scalar.specs.Not.{not_entry}
use Rattle.scalar.specs.Negative.{negative_entry}
use Rattle.scalar.specs.IsNotNull.{is_not_null_entry}
use Rattle.scalar.specs.Cast.{cast_entry}
use Rattle.scalar.specs.TryCast.{try_cast_entry}
use Rattle.scalar.specs.Compare.{equal_entry, less_entry}
use Rattle.scalar.specs.Value.{meaning, Gives, GivesBoth}
use Rattle.scalar.proofs.TypeLaws.{equal_typed, less_typed}
use Rattle.rule.specs.Tree.{Expr}
use Rattle.rule.specs.TreeBytes.{bytes_of}
use Rattle.rule.specs.Row.{eval}
use Rattle.rule.specs.Constant.{unread}
use Rattle.rule.specs.Nullable.{replaced, may_pass}
use Rattle.rule.specs.Node.{NodeAt}
use Rattle.rule.specs.Walks.{children_of, TreesAt, EndGives, ChildrenGives, LiteralGives, NumberedGives}
use Rattle.rule.specs.ConstantWalks.{within, Means, OneGives, TwoGives, PassGives, ConstantGives, WithinGives, CaseGives}
use Rattle.rule.proofs.NodeLaws.{Tagged, of_column, of_literal, of_negation, of_negative, of_is_not_null, of_cast, of_try_cast, of_equal, of_less, of_case, node_byte, node_deep, node_deeper, trees_one, trees_deeper}
use Rattle.rule.proofs.WalkLaws.{nothing_behind, node_of_tag, first_tree}
use Rattle.rule.proofs.ConstantLaws.{whole_null, not_whole}

-- a value that is no text means the same whatever the table
any_table : (rule s t : List ℕ) (r : Value) → outcome_of_type Of.Boolean (meaning rule s r) ≡ true → meaning rule t r ≡ meaning rule s r
unfolding of_type
any_table rule s t Null p = refl
any_table rule s t (Boolean b) p = refl
any_table rule s t (Int32 n) p = refl
any_table rule s t (Int64 n) p = refl
any_table rule s t (Float64 f) p = refl
any_table rule s t (Nan n) p = refl
any_table rule s t (RuleText start size) p = refl
any_table rule s t (TableText start size) p = let z : ◌≡◌ {A = ℕ} 0 1 = cc in absurd (omega arith)
any_table rule s t Failed p = refl

-- a comparison of outcomes is Boolean
compared : (f : Entry → Entry → Entry) → ((a b : Entry) → of_type Of.Boolean (f a b) ≡ true) → (x y : Outcome) → outcome_of_type Of.Boolean (on_entries f x y) ≡ true
compared f typed (entry a) (entry b) = typed a b
compared f typed (entry a) unfit = refl
compared f typed unfit (entry b) = refl
compared f typed unfit unfit = refl

-- so it means the same whatever the table
both_mean : {rule s : List ℕ} {a b r : Value} (f : Entry → Entry → Entry) → ((a b : Entry) → of_type Of.Boolean (f a b) ≡ true) → GivesBoth f rule s a b r
    → (x y : Outcome) → Means rule a x → Means rule b y → Means rule r (on_entries f x y)
both_mean {rule} {s} {a} {b} {r} f typed gives x y p q table =
    let here : meaning rule s r ≡ on_entries f x y = gives.means ∙ ap₂ (on_entries f) (p s) (q s) in
    any_table rule s table r (ap (outcome_of_type Of.Boolean) here ∙ compared f typed x y) ∙ here

pub two_equal : {rule s : List ℕ} {tag : ℕ} {a b r : Value} → tag ≡ 23 → GivesBoth equal_entry rule s a b r → TwoGives rule tag a b r
two_equal is gives = record { of_equal = λ p. both_mean equal_entry equal_typed gives; of_less = λ p. absurd (omega arith) }

pub two_less : {rule s : List ℕ} {tag : ℕ} {a b r : Value} → (tag ≡ 23 → ⊥) → GivesBoth less_entry rule s a b r → TwoGives rule tag a b r
two_less is gives = record { of_equal = λ p. absurd (is p); of_less = λ p. both_mean less_entry less_typed gives }

-- whether a node equals the target's bytes
told : {rule : List ℕ} (target : List ℕ) {start end depth : ℕ} {same : Bool} {l : List ℕ} → l ≡ part rule start end → same ≡ same_bytes l target → (e : Expr) → NodeAt rule start end e depth
    → same_bytes (bytes_of e) target ≡ same
told target place is e n = ap (λ (x : List ℕ). same_bytes x target) (sym n.is ∙ sym place) ∙ sym is

module _ {rule target : List ℕ} {start end depth : ℕ} where
  -- a column can't be read
  pub within_column : byte rule start < 17 → WithinGives rule start end target depth Failed
  unfolding eval
  within_column low = record { means = λ e n. go (node_of_tag n refl) low }
    where
      go : {k : ℕ} {e : Expr} → Tagged k e → k < 17 → Means rule Failed (eval (within e target) unread)
      go (of_column c) l = λ table. refl
      go (of_literal u w) l = absurd (omega arith)
      go (of_negation f) l = absurd (omega arith)
      go (of_negative f) l = absurd (omega arith)
      go (of_is_not_null f) l = absurd (omega arith)
      go (of_cast u f) l = absurd (omega arith)
      go (of_try_cast u f) l = absurd (omega arith)
      go (of_equal x y) l = absurd (omega arith)
      go (of_less x y) l = absurd (omega arith)
      go (of_case x bs els) l = absurd (omega arith)

  -- and no node has a tag that is higher than those
  pub within_none : {r : Value} → 25 < byte rule start → WithinGives rule start end target depth r
  within_none {r} high = record { means = λ e n. absurd (go (node_of_tag n refl) high) }
    where
      go : {k : ℕ} {e : Expr} → Tagged k e → 25 < k → ⊥
      go (of_column c) h = omega arith
      go (of_literal u w) h = omega arith
      go (of_negation f) h = omega arith
      go (of_negative f) h = omega arith
      go (of_is_not_null f) h = omega arith
      go (of_cast u f) h = omega arith
      go (of_try_cast u f) h = omega arith
      go (of_equal x y) h = omega arith
      go (of_less x y) h = omega arith
      go (of_case x bs els) h = omega arith

  pub within_literal : {r : Value} → byte rule start ≡ 17 → LiteralGives rule start end r → WithinGives rule start end target depth r
  unfolding eval
  within_literal {r} is gives = record { means = λ e n. go e (node_of_tag n is) n }
    where
      go : (e : Expr) → Tagged 17 e → NodeAt rule start end e (depth + 1) → Means rule r (eval (within e target) unread)
      go e (of_literal t v) n = (gives t v (depth + 1) n).0

  pub within_case : {r : Value} → byte rule start ≡ 25 → CaseGives rule start end target depth r → WithinGives rule start end target depth r
  within_case {r} is gives = record { means = λ e n. go e (node_of_tag n is) n }
    where
      go : (e : Expr) → Tagged 25 e → NodeAt rule start end e (depth + 1) → Means rule r (eval (within e target) unread)
      go e (of_case b bs els) n = gives.means b bs els n

  -- a node of one child
  pub within_one : {tag number at : ℕ} {v r : Value} → byte rule start ≡ tag → (tag ≡ 16 → ⊥) → (tag ≡ 17 → ⊥) → tag < 23 → number ≡ byte rule (start + 3)
      → ChildrenGives rule start at → ConstantGives rule at end target depth v → OneGives tag number v r → WithinGives rule start end target depth r
  unfolding eval
  within_one {tag} {number} {at} {v} {r} is no_column_lem no_literal below typed children child gives =
      record { means = λ e n. go (node_of_tag n is) no_column_lem no_literal below gives n (children.stand end e (depth + 1) n) }
    where
      through : (f : Expr) {make : Entry → Outcome} → Gives make v r → TreesAt rule at end (f ∷ []) (depth + 1 - 1) → Means rule r (on_entry make (eval (replaced f target) unread))
      through f {make} g t table = g.means rule table ∙ ap (on_entry make) (child.means f (node_deeper depth (omega arith) (trees_one t)) table)

      go : {k : ℕ} {e : Expr} → Tagged k e → (k ≡ 16 → ⊥) → (k ≡ 17 → ⊥) → k < 23 → OneGives k number v r → NodeAt rule start end e (depth + 1)
          → TreesAt rule at end (children_of e) (depth + 1 - 1) → Means rule r (eval (within e target) unread)
      go (of_column c) a b l g n t = absurd (a refl)
      go (of_literal u w) a b l g n t = absurd (b refl)
      go (of_negation f) a b l g n t = through f (g.of_not refl) t
      go (of_negative f) a b l g n t = through f (g.of_negative refl) t
      go (of_is_not_null f) a b l g n t = through f (g.of_is_not_null refl) t
      go (of_cast u f) a b l g n t = through f (g.of_cast refl u (typed ∙ node_byte 0 (start + 3) n (omega arith) (omega arith))) t
      go (of_try_cast u f) a b l g n t = through f (g.of_try_cast refl u (typed ∙ node_byte 0 (start + 3) n (omega arith) (omega arith))) t
      go (of_equal x y) a b l g n t = absurd (omega arith)
      go (of_less x y) a b l g n t = absurd (omega arith)
      go (of_case x bs els) a b l g n t = absurd (omega arith)

  -- a node of two children
  pub within_two : {tag at m : ℕ} {a b r : Value} → byte rule start ≡ tag → 23 ≤ tag → (tag ≡ 25 → ⊥)
      → ChildrenGives rule start at → EndGives rule at m → ConstantGives rule at m target depth a → ConstantGives rule m end target depth b → TwoGives rule tag a b r
      → WithinGives rule start end target depth r
  unfolding eval
  within_two {tag} {at} {m} {a} {b} {r} is above no_case children ends first second gives =
      record { means = λ e n. go (node_of_tag n is) above no_case gives (children.stand end e (depth + 1) n) }
    where
      two : (x y : Expr) → TreesAt rule at end (x ∷ y ∷ []) (depth + 1 - 1) → Means rule a (eval (replaced x target) unread) × Means rule b (eval (replaced y target) unread)
      two x y t =
          let (one, later) = first_tree ends (trees_deeper depth (omega arith) t) in
          (first.means x one, second.means y (trees_one later))

      go : {k : ℕ} {e : Expr} → Tagged k e → 23 ≤ k → (k ≡ 25 → ⊥) → TwoGives rule k a b r → TreesAt rule at end (children_of e) (depth + 1 - 1)
          → Means rule r (eval (within e target) unread)
      go (of_column c) l p g t = absurd (omega arith)
      go (of_literal u w) l p g t = absurd (omega arith)
      go (of_negation f) l p g t = absurd (omega arith)
      go (of_negative f) l p g t = absurd (omega arith)
      go (of_is_not_null f) l p g t = absurd (omega arith)
      go (of_cast u f) l p g t = absurd (omega arith)
      go (of_try_cast u f) l p g t = absurd (omega arith)
      go (of_equal x y) l p g t = let (h, k) = two x y t in g.of_equal refl (eval (replaced x target) unread) (eval (replaced y target) unread) h k
      go (of_less x y) l p g t = let (h, k) = two x y t in g.of_less refl (eval (replaced x target) unread) (eval (replaced y target) unread) h k
      go (of_case x bs els) l p g t = absurd (p refl)

  -- a node that equals them, and one that doesn't
  pub constant_same : {same : Bool} {l : List ℕ} → l ≡ part rule start end → same ≡ same_bytes l target → same ≡ true → ConstantGives rule start end target depth Null
  constant_same place is holds = record { means = λ e n table. whole_null e target unread (told target place is e n ∙ holds) }

  pub constant_other : {same : Bool} {l : List ℕ} {r : Value} → l ≡ part rule start end → same ≡ same_bytes l target → same ≡ false → 0 < depth
      → WithinGives rule start end target (depth - 1) r → ConstantGives rule start end target depth r
  constant_other {r = r} place is differs some gives = record {
    means = λ e n table.
        gives.means e (node_deeper (depth - 1 + 1) (omega arith) n) table
        ∙ ap (λ (x : Expr). eval x unread) (sym (not_whole e target (told target place is e n ∙ differs)));
  }

  pub constant_none : {r : Value} → depth ≤ 0 → ConstantGives rule start end target depth r
  constant_none none = record { means = λ e n. absurd (let k = node_deep n in omega arith) }

  -- behind the end no node stands
  pub within_behind : {r : Value} → length rule ≤ start → WithinGives rule start end target depth r
  within_behind none = record { means = λ e n. absurd (let k = nothing_behind n in omega arith) }

-- an operation on one value, by its tag
module _ {tag number : ℕ} {v r : Value} where
  pub one_not : tag ≡ 18 → Gives (λ e. entry (not_entry e)) v r → OneGives tag number v r
  one_not is gives = record { of_not = λ p. gives; of_negative = λ p. absurd (omega arith); of_is_not_null = λ p. absurd (omega arith); of_cast = λ p. absurd (omega arith); of_try_cast = λ p. absurd (omega arith) }

  pub one_negative : tag ≡ 19 → Gives (λ e. entry (negative_entry e)) v r → OneGives tag number v r
  one_negative is gives = record { of_not = λ p. absurd (omega arith); of_negative = λ p. gives; of_is_not_null = λ p. absurd (omega arith); of_cast = λ p. absurd (omega arith); of_try_cast = λ p. absurd (omega arith) }

  pub one_is_not_null : tag ≡ 20 → Gives (λ e. entry (is_not_null_entry e)) v r → OneGives tag number v r
  one_is_not_null is gives = record { of_not = λ p. absurd (omega arith); of_negative = λ p. absurd (omega arith); of_is_not_null = λ p. gives; of_cast = λ p. absurd (omega arith); of_try_cast = λ p. absurd (omega arith) }

  pub one_cast : {t : DataType} → tag ≡ 21 → NumberedGives number t → Gives (cast_entry t) v r → OneGives tag number v r
  one_cast is numbers gives = record {
    of_not = λ p. absurd (omega arith);
    of_negative = λ p. absurd (omega arith);
    of_is_not_null = λ p. absurd (omega arith);
    of_cast = λ p u q. subst (λ (x : DataType). Gives (cast_entry x) v r) (numbers u q) gives;
    of_try_cast = λ p. absurd (omega arith);
  }

  pub one_try_cast : {t : DataType} → (((Unit {0} × (tag ≡ 18 → ⊥)) × (tag ≡ 19 → ⊥)) × (tag ≡ 20 → ⊥)) × (tag ≡ 21 → ⊥) → NumberedGives number t
      → Gives (λ e. entry (try_cast_entry t e)) v r → OneGives tag number v r
  one_try_cast rest numbers gives = record {
    of_not = λ p. absurd (rest.0.0.0.1 p);
    of_negative = λ p. absurd (rest.0.0.1 p);
    of_is_not_null = λ p. absurd (rest.0.1 p);
    of_cast = λ p. absurd (rest.1 p);
    of_try_cast = λ p u q. subst (λ (x : DataType). Gives (λ e. entry (try_cast_entry x e)) v r) (numbers u q) gives;
  }

-- whether a WHEN passes or failed, by the value
pub pass_at : {v : Value} {r : Bool} (w : Value) → v ≡ w → PassGives w r → PassGives v r
pass_at {v} {r} w is gives rule table = gives rule table ∙ ap (λ (x : Value). may_pass (meaning rule table x)) (sym is)

pub pass_other : (v : Value) → OneOf (0 ∷ 2 ∷ 3 ∷ 4 ∷ 5 ∷ 6 ∷ 7 ∷ []) (tag_of the_type v) → PassGives v false
pass_other Null h rule table = refl
pass_other (Boolean b) h rule table = absurd (miss (0 ∷ 2 ∷ 3 ∷ 4 ∷ 5 ∷ 6 ∷ 7 ∷ []) 1 tt h)
pass_other (Int32 n) h rule table = refl
pass_other (Int64 n) h rule table = refl
pass_other (Float64 f) h rule table = refl
pass_other (Nan n) h rule table = refl
pass_other (RuleText start size) h rule table = refl
pass_other (TableText start size) h rule table = refl
pass_other Failed h rule table = absurd (miss (0 ∷ 2 ∷ 3 ∷ 4 ∷ 5 ∷ 6 ∷ 7 ∷ []) 8 tt h)
