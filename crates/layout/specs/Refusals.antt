-- The numbers of the refusals (01, Where a call stops).
use Rattle.std.specs.Prelude.{Bool, false, cond, ◌||◌, List, [], ◌∷◌, ◌++◌, ℕ, eqb}
use Rattle.layout.specs.declared.refusal.Refusal.{Refusal}
use Rattle.layout.specs.declared.refusal.Refusal.TheVariants as Is

-- a rule is refused with one of 1 to 8
abbrev pub rule_refusals : List ℕ
rule_refusals = 1 ∷ 2 ∷ 3 ∷ 4 ∷ 5 ∷ 6 ∷ 7 ∷ 8 ∷ []

-- a table with one of 9 to 12, or 25 (02, Change 3)
abbrev pub table_refusals : List ℕ
table_refusals = 9 ∷ 10 ∷ 11 ∷ 12 ∷ 25 ∷ []

-- an evaluation of a rule and a table that were accepted with one of 13 to 17
abbrev pub evaluation_refusals : List ℕ
evaluation_refusals = 13 ∷ 14 ∷ 15 ∷ 16 ∷ 17 ∷ []

-- those of a run that come once its work has begun; all others come before it and leave all memory untouched (01, Where a call stops; 02, Change 1)
abbrev pub late_refusals : List ℕ
late_refusals = 15 ∷ 16 ∷ 17 ∷ []

-- a run, which is one whole evaluation, with any of these
abbrev pub run_refusals : List ℕ
run_refusals = rule_refusals ++ (table_refusals ++ evaluation_refusals)

-- a builder with 10 or one of 18 to 21
abbrev pub builder_refusals : List ℕ
builder_refusals = 10 ∷ 18 ∷ 19 ∷ 20 ∷ 21 ∷ []

-- a number is one of these
abbrev pub among : List ℕ → ℕ → Bool
among [] n = false
among (m ∷ l) n = eqb n m || among l n

-- the number of a refusal (01, Where a call stops)
abbrev pub number_of : Refusal → ℕ
number_of Is.RuleSize = 1
number_of Is.RuleCut = 2
number_of Is.RuleContent = 3
number_of Is.RuleDepth = 4
number_of Is.CaseEmpty = 5
number_of Is.CaseBranches = 6
number_of Is.RuleTypes = 7
number_of Is.ConstantCast = 8
number_of Is.TableFields = 9
number_of Is.TableSize = 10
number_of Is.TableContent = 11
number_of Is.TableNull = 12
number_of Is.Fit = 13
number_of Is.WorkSize = 14
number_of Is.Cast = 15
number_of Is.TextSize = 16
number_of Is.OutputSize = 17
number_of Is.BuilderRow = 18
number_of Is.BuilderLength = 19
number_of Is.BuilderHeld = 20
number_of Is.BuilderWhole = 21
number_of Is.NullCount = 25

-- every number that a call can stop with
abbrev pub all_refusals : List ℕ
all_refusals = run_refusals ++ builder_refusals

-- the refusal of a number; of a number that is none, that of a null count
abbrev pub refusal_numbered : ℕ → Refusal
refusal_numbered n =
    cond (eqb n 1) Is.RuleSize
    (cond (eqb n 2) Is.RuleCut
    (cond (eqb n 3) Is.RuleContent
    (cond (eqb n 4) Is.RuleDepth
    (cond (eqb n 5) Is.CaseEmpty
    (cond (eqb n 6) Is.CaseBranches
    (cond (eqb n 7) Is.RuleTypes
    (cond (eqb n 8) Is.ConstantCast
    (cond (eqb n 9) Is.TableFields
    (cond (eqb n 10) Is.TableSize
    (cond (eqb n 11) Is.TableContent
    (cond (eqb n 12) Is.TableNull
    (cond (eqb n 13) Is.Fit
    (cond (eqb n 14) Is.WorkSize
    (cond (eqb n 15) Is.Cast
    (cond (eqb n 16) Is.TextSize
    (cond (eqb n 17) Is.OutputSize
    (cond (eqb n 18) Is.BuilderRow
    (cond (eqb n 19) Is.BuilderLength
    (cond (eqb n 20) Is.BuilderHeld
    (cond (eqb n 21) Is.BuilderWhole
    Is.NullCount))))))))))))))))))))
