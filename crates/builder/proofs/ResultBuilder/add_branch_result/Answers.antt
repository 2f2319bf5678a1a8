-- `add_branch_result` is the definition's tests in their order, and the stored values.
use mathlib.Core.Path.{◌≡◌, sym, ap, ◌∙◌}
use mathlib.Core.Bool.{not, ◌&&◌, ◌||◌}
use lib.ListN.{length}
use lib.Dec.{eqb}
use Prim.Native.Nat.{ℕ}
use Rattle.builder.specs.Builder.{rising_below}
use Rattle.builder.specs.declared.ResultBuilder.{ResultBuilder}
use Rattle.builder.proofs.BuilderLaws.{add_19, add_18, add_21, add_20, add_given}
use borrow.Author.Rules.{rules}
use Rattle.builder.proofs.ResultBuilder.add_branch_result.Goals.{then-self, else-self}
use Rattle.builder.proofs.ResultBuilder.add_branch_result.Goals as goal

pub returns-then-rows-values : goal.returns-then-rows-values
returns-then-rows-values c = add_19 c.args.self.now c.args.rows.now c.args.values.now (search rules) (search rules) c.if-rows-values.true

pub returns-then-not-rising_below : goal.returns-then-not-rising_below
returns-then-not-rising_below c =
    let rises = sym (ap (λ (n : ℕ). rising_below 0 n c.args.rows.now) c.count_of-count.ensures) ∙ sym c.rising_below.ensures ∙ c.if-not-rising_below.true in
    add_18 c.args.self.now c.args.rows.now c.args.values.now (search rules) (search rules) c.if-rows-values.false rises

pub returns-then-clashes : goal.returns-then-clashes
returns-then-clashes c =
    let rises = sym (ap (λ (n : ℕ). rising_below 0 n c.args.rows.now) c.count_of-count.ensures) ∙ sym c.rising_below.ensures ∙ c.if-not-rising_below.false in
    let clashes = sym (c.clashes.ensures ∙ ap (λ (n : ℕ). not (not c.args.self.now.whole && not (c.args.self.now.part && eqb (length c.args.rows.now) n))) c.count_of-count.ensures) ∙ c.if-clashes.true in
    add_21 c.args.self.now c.args.rows.now c.args.values.now (search rules) (search rules) c.if-rows-values.false rises clashes

pub returns-then-some_marked : goal.returns-then-some_marked
returns-then-some_marked c =
    let rises = sym (ap (λ (n : ℕ). rising_below 0 n c.args.rows.now) c.count_of-count.ensures) ∙ sym c.rising_below.ensures ∙ c.if-not-rising_below.false in
    let clashes = sym (c.clashes.ensures ∙ ap (λ (n : ℕ). not (not c.args.self.now.whole && not (c.args.self.now.part && eqb (length c.args.rows.now) n))) c.count_of-count.ensures) ∙ c.if-clashes.false in
    add_20 c.args.self.now c.args.rows.now c.args.values.now (search rules) (search rules) c.if-rows-values.false rises clashes (sym c.some_marked.ensures ∙ c.if-some_marked.true)

pub returns : goal.returns
returns c =
    let rises = sym (ap (λ (n : ℕ). rising_below 0 n c.args.rows.now) c.count_of-count.ensures) ∙ sym c.rising_below.ensures ∙ c.if-not-rising_below.false in
    let clashes = sym (c.clashes.ensures ∙ ap (λ (n : ℕ). not (not c.args.self.now.whole && not (c.args.self.now.part && eqb (length c.args.rows.now) n))) c.count_of-count.ensures) ∙ c.if-clashes.false in
    let was = sym (ap (λ (b : ResultBuilder). b.part) c.hold.ensures) in
    let all = eqb (length c.args.rows.now) c.count_of-count.result in
    let part : c.if-self.self ≡ (c.args.self.now.part || not all) = elim c.if-self.branch [
      | then-self w ↦ w.self-is ∙ w.if-self.true ∙ sym (ap (λ p. p || not all) (was ∙ w.if-self.true))
      | else-self w ↦ w.self-is ∙ sym (ap (λ p. p || not all) (was ∙ w.if-self.false))
    ] in
    add_given c.args.self.now c.args.rows.now c.args.values.now (search rules) (search rules) c.if-rows-values.false rises clashes (sym c.some_marked.ensures ∙ c.if-some_marked.false) c.hold.new.self c.hold.ensures c.if-self.self _ part (ap (eqb (length c.args.rows.now)) c.count_of-count.ensures)
