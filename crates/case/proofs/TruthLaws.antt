-- Whether a value is true, and what is chosen by it. Assumes nothing.
use Rattle.std.proofs.Common.{◌≡◌, Bool, true, false, cond, sym, refl, ap, ◌∙◌}
use Rattle.scalar.specs.Entry.{Outcome, entry, unfit, is_true_entry}
use Rattle.rule.specs.Row.{is_true_test, chosen}
use Rattle.case.specs.declared.truth.Truth.{Truth}
use Rattle.case.specs.declared.truth.Truth.TheVariants.{Yes, No, Unfit}
use Rattle.case.specs.Parting.{truth_of}

-- a choice goes by the truth alone
abbrev by_truth : Truth → Outcome → Outcome → Outcome
by_truth Yes a b = a
by_truth No a b = b
by_truth Unfit a b = unfit

chosen_is : (o a b : Outcome) → chosen is_true_test o a b ≡ by_truth (truth_of o) a b
chosen_is (entry v) a b = go (is_true_entry v)
  where
    go : (t : Bool) → cond t a b ≡ by_truth (cond t Yes No) a b
    go true = refl
    go false = refl
chosen_is unfit a b = refl

-- what is chosen where the truth is told
pub chosen_by : (o : Outcome) {t u : Truth} → t ≡ truth_of o → t ≡ u → (a b : Outcome) → by_truth u a b ≡ chosen is_true_test o a b
chosen_by o {t} {u} p q a b = ap (λ (x : Truth). by_truth x a b) (sym q ∙ p) ∙ sym (chosen_is o a b)
