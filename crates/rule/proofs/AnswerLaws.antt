-- The public answers about a rule, from what its reading gives. Assumes nothing.
use Rattle.std.specs.Prelude.{Result as RustResult, Ok, Err}
use mathlib.Core.Path.{◌≡◌, refl, ap, sym, subst, ◌∙◌}
use mathlib.Core.Bool.{Bool, true, false, not}
use mathlib.Core.List.{List, reverse}
use Prim.Native.Nat.{ℕ}
use native.Mathlib.Omega.{arith}
use lib.ListN.{length}
use Rattle.layout.specs.declared.refusal.Refusal.{Refusal}
use Rattle.layout.specs.declared.refusal.Refusal.TheVariants.{ConstantCast}
use Rattle.layout.specs.Refusals.{refusal_numbered}
use Rattle.layout.specs.Result.{Result, refused, ok, require, answered}
use Rattle.layout.specs.Bytes.{Bytes}
use Rattle.rule.specs.declared.node.RuleFound.{RuleFound}
use Rattle.rule.specs.declared.read.RuleReading.{RuleReading}
use Rattle.rule.specs.declared.projection.Projection.{Projection}
use Rattle.rule.specs.declared.seen.Seen.{Seen}
use Rattle.rule.specs.declared.strategy.Strategy.{Strategy}
use Rattle.rule.specs.Tree.{Column, Expr}
use Rattle.rule.specs.Typing.{type_of}
use Rattle.rule.specs.Nullable.{nullable}
use Rattle.rule.specs.Constant.{columns_of, constant_fails}
use Rattle.rule.specs.Reading.{read_tree, read_rule}
use Rattle.rule.specs.Projection.{indexes}
use Rattle.rule.specs.Answers.{rule_answer, strategy_answer, nullable_answer, marks_of, rule_reading, columns_in256, projection_answer}
use Rattle.rule.specs.Seen.{alike, SeenIs}
use Rattle.rule.specs.Steps.{TreeGives, RuleGives, ColumnsMet, ReadingIs}
use Rattle.rule.specs.ConstantWalks.{FailsGives}
use Rattle.rule.specs.AnswerWalks.{StrategyGives, RuleNullableGives}
use Rattle.rule.proofs.ReadNode.{read_node, accepted_node}
use Rattle.rule.proofs.StepLaws.{gives_read, was_refused, was_read, on_ok, on_refused, behind_refused}
use Rattle.rule.proofs.ReadTyped.{read_typed}
use Rattle.rule.proofs.ReadColumns.{tree_columns, rule_alike, met_projection}
use Rattle.rule.proofs.MarksLaws.{seen_is_marks, marks_seen}

-- a rule from its tree
module _ (rule : List ℕ) {tree : RustResult RuleFound Refusal} (h : TreeGives (read_tree rule) tree) where
  pub rule_unread : {e : Refusal} → tree ≡ Err e → RuleGives (read_rule rule) (Err e)
  unfolding read_rule
  rule_unread is = behind_refused (read_tree rule) _ h is refl

  module _ (a : RuleFound) (there : tree ≡ Ok a) (b : Bytes rule) (fails : Bool) (fails-is : FailsGives rule fails) where
    pub rule_fails : fails ≡ true → RuleGives (read_rule rule) (Err ConstantCast)
    unfolding read_rule
    rule_fails t =
        let (x, is, g) = was_read (read_tree rule) h there in
        let bad : constant_fails x.tree ≡ true = sym (fails-is.is x.tree (read_node rule x b is)) ∙ t in
        on_ok (read_tree rule) _ x is (on_refused (require (not (constant_fails x.tree)) 8) _ 8 (ap (λ (q : Bool). require (not q) 8) bad) refl)

    pub rule_read : fails ≡ false → RuleGives (read_rule rule) (Ok a)
    unfolding read_rule
    rule_read t =
        let (x, is, g) = was_read (read_tree rule) h there in
        let good : constant_fails x.tree ≡ false = sym (fails-is.is x.tree (read_node rule x b is)) ∙ t in
        on_ok (read_tree rule) _ x is
        (on_ok (require (not (constant_fails x.tree)) 8) _ tt (ap (λ (q : Bool). require (not q) 8) good)
        (gives_read x.tree a refl refl (record {
          type_is = g.type_is;
          seen_are = subst (λ (l : List Column). SeenIs l a.seen) (tree_columns rule x is).0 g.seen_are;
        })))

-- the answers
module _ (rule : List ℕ) {read : RustResult RuleFound Refusal} (h : RuleGives (read_rule rule) read) where
  pub answer_refused : {A : Type 0} (f : Expr → A) {e : Refusal} → read ≡ Err e → Err e ≡ answered f (read_rule rule)
  answer_refused f is = let (n, refuses, same) = was_refused (read_rule rule) h is in ap Err same ∙ ap (answered f) (sym refuses)

  module _ (a : RuleFound) (there : read ≡ Ok a) where
    pub type_answer_lem : Ok a.result ≡ rule_answer (read_rule rule)
    type_answer_lem =
        let (e, is, g) = was_read (read_rule rule) h there in
        ap Ok g.type_is ∙ ap rule_answer (sym is)

    pub strategy_answer_lem : Bytes rule → (r : Strategy) → StrategyGives rule 0 (length rule) r → Ok r ≡ strategy_answer (read_rule rule)
    strategy_answer_lem b r s =
        let (e, is, g) = was_read (read_rule rule) h there in
        ap Ok (s.is e 8 (accepted_node rule e b is)) ∙ ap strategy_answer (sym is)

    pub projection_answer_lem : (p : Projection)
        → ((cols : List Column) → SeenIs cols a.seen → (p.count ≡ length (indexes cols)) × (p.columns ≡ columns_in256 (indexes cols)))
        → Ok p ≡ projection_answer (read_rule rule)
    projection_answer_lem p given =
        let (e, is, g) = was_read (read_rule rule) h there in
        let (count_is, columns_are) = given (reverse (columns_of e)) g.seen_are in
        let same = met_projection e a.seen g.seen_are in
        let n = count_is ∙ ap length same in
        let l = columns_are ∙ ap columns_in256 same in
        (λ i. Ok (record { count = n i; columns = l i })) ∙ ap projection_answer (sym is)

    -- the reading for an evaluation
    pub reading_accepted : Bytes rule → (r : Bool) → RuleNullableGives rule r → Ok (record { result = a.result; nullable = r; seen = a.seen }) ≡ rule_reading (read_rule rule)
    reading_accepted b r s =
        let (e, is, g) = was_read (read_rule rule) h there in
        let t = g.type_is in
        let n = s.is e (accepted_node rule e b is) in
        let m = seen_is_marks (reverse (columns_of e)) a.seen g.seen_are in
        (λ i. Ok (record { result = t i; nullable = n i; seen = m i })) ∙ ap rule_reading (sym is)

-- and taken backwards: what a reading that is the definition's says
module _ (rule : List ℕ) {read : RustResult RuleReading Refusal} (is : read ≡ rule_reading (read_rule rule)) where
  pub reading_was_refused : {d : Refusal} → read ≡ Err d → (n : ℕ) × (read_rule rule ≡ refused n) × (d ≡ refusal_numbered n)
  reading_was_refused {d} was = go (read_rule rule) refl
    where
      go : (x : Result Expr) → read_rule rule ≡ x → (n : ℕ) × (read_rule rule ≡ refused n) × (d ≡ refusal_numbered n)
      go (refused k) e = let same : Err d ≡ rule_reading (refused k) = sym was ∙ is ∙ ap rule_reading e in (k, e, cc)
      go (ok t) e = let same : Err d ≡ rule_reading (ok t) = sym was ∙ is ∙ ap rule_reading e in absurd (let never : ◌≡◌ {A = ℕ} 0 1 = cc in omega arith)

  -- the rule that was read, and that the reading is of it
  pub reading_was_read : Bytes rule → (r : RuleReading) → read ≡ Ok r → (e : Expr) × (read_rule rule ≡ ok e) × ReadingIs r e
  reading_was_read b r was = go (read_rule rule) refl
    where
      go : (x : Result Expr) → read_rule rule ≡ x → (e : Expr) × (read_rule rule ≡ ok e) × ReadingIs r e
      go (refused k) e = let same : Ok r ≡ rule_reading (refused k) = sym was ∙ is ∙ ap rule_reading e in absurd (let never : ◌≡◌ {A = ℕ} 0 1 = cc in omega arith)
      go (ok t) e =
          let whole : Ok r ≡ rule_reading (ok t) = sym was ∙ is ∙ ap rule_reading e in
          let same : r ≡ record { result = type_of t; nullable = nullable t; seen = record { marks = marks_of t } } = cc in
          let met : alike (reverse (columns_of t)) ≡ true = rule_alike rule t e in
          let marks = marks_seen t (read_typed rule t b e) met in (
            t,
            e,
            record {
              type_is = ap (λ (x : RuleReading). x.result) same;
              nullable_is = ap (λ (x : RuleReading). x.nullable) same;
              seen_are = subst (λ (s : Seen). ColumnsMet s t) (sym (ap (λ (x : RuleReading). x.seen) same)) marks;
            },
          )

  -- the nullability answer
  pub nullable_refused : {d : Refusal} → read ≡ Err d → Err d ≡ nullable_answer (read_rule rule)
  nullable_refused was = let (n, refuses, same) = reading_was_refused was in ap Err same ∙ ap nullable_answer (sym refuses)

  pub nullable_accepted : Bytes rule → (r : RuleReading) → read ≡ Ok r → Ok r.nullable ≡ nullable_answer (read_rule rule)
  nullable_accepted b r was =
      let (e, p, g) = reading_was_read b r was in
      ap Ok g.nullable_is ∙ ap nullable_answer (sym p)
