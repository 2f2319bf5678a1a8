-- Answers with a refusal beside what the definitions read. Assumes nothing.
use mathlib.Core.Path.{◌≡◌, refl, sym, ap, ◌∙◌}
use Prim.Native.Nat.{ℕ}
use native.Mathlib.Omega.{arith}
use Rattle.std.specs.Prelude.{Result as RustResult, Ok, Err, IsErrAnd}
use Rattle.std.proofs.lemmas.Result.{err_from_is_err_and}
use Rattle.layout.specs.declared.refusal.Refusal.{Refusal}
use Rattle.layout.specs.declared.refusal.Refusal.TheVariants as Is
use Rattle.layout.specs.Refusals.{number_of, refusal_numbered}
use Rattle.layout.specs.Result.{Result, refused, ok, ◌>>=◌, answered}

-- the refusal of a refusal's number is the refusal
pub refusal_kept : (e : Refusal) → refusal_numbered (number_of e) ≡ e
refusal_kept Is.RuleSize = refl
refusal_kept Is.RuleCut = refl
refusal_kept Is.RuleContent = refl
refusal_kept Is.RuleDepth = refl
refusal_kept Is.CaseEmpty = refl
refusal_kept Is.CaseBranches = refl
refusal_kept Is.RuleTypes = refl
refusal_kept Is.ConstantCast = refl
refusal_kept Is.TableFields = refl
refusal_kept Is.TableSize = refl
refusal_kept Is.TableContent = refl
refusal_kept Is.TableNull = refl
refusal_kept Is.Fit = refl
refusal_kept Is.WorkSize = refl
refusal_kept Is.Cast = refl
refusal_kept Is.TextSize = refl
refusal_kept Is.OutputSize = refl
refusal_kept Is.BuilderRow = refl
refusal_kept Is.BuilderLength = refl
refusal_kept Is.BuilderHeld = refl
refusal_kept Is.BuilderWhole = refl
refusal_kept Is.NullCount = refl

-- a value is what the reading gives
pub answered_ok : {A B : Type 0} (f : A → B) (d : Result A) {b : B} → Ok b ≡ answered f d → (a : A) × (d ≡ ok a) × (b ≡ f a)
answered_ok f (refused n) e = let z : ◌≡◌ {A = ℕ} 0 1 = cc in absurd (omega arith)
answered_ok f (ok a) e = (a, refl, cc)

-- and a refusal its refusal
pub answered_err : {A B : Type 0} (f : A → B) (d : Result A) {e : Refusal} → Err e ≡ answered f d → (n : ℕ) × (d ≡ refused n) × (e ≡ refusal_numbered n)
answered_err f (refused n) e = (n, refl, cc)
answered_err f (ok a) e = let z : ◌≡◌ {A = ℕ} 0 1 = cc in absurd (omega arith)

-- a refusal passes what comes behind it
pub answered_refused : {A B C D : Type 0} (f : A → B) (d : Result A) {e : Refusal} → Err e ≡ answered f d → (step : A → Result C) (g : C → D) → Err e ≡ answered g (d >>= step)
answered_refused f d p step g = let r = answered_err f d p in ap Err r.2 ∙ sym (ap (λ x. answered g (x >>= step)) r.1)

-- by its number
pub number_refused : {A B C : Type 0} {d : Result A} {e : Refusal} → refused (number_of e) ≡ d → (step : A → Result B) (g : B → C) → Err e ≡ answered g (d >>= step)
number_refused {e = e} p step g = ap Err (sym (refusal_kept e)) ∙ ap (λ x. answered g (x >>= step)) p

-- what the exit of a `?` returns
pub passed_on : {B : Type 0} {e : Refusal} (r : RustResult B Refusal) → IsErrAnd r (λ d. d ≡ e) → r ≡ Err e
passed_on r h = let p = err_from_is_err_and r h in p.1 ∙ ap Err p.2
