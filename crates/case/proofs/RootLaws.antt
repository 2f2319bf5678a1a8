-- The classes of a table's rows by the root CASE: the outcome of a row is the literal of its class. Assumes nothing.
use Rattle.std.proofs.Common.{◌≡◌, ℕ, ◌+◌, ◌<◌, ◌≤◌, Bool, true, false, if◌then◌else◌, List, length, get_or, refl, sym, ap, ◌∙◌, subst, inr, arith, Option, Some, None}
use Rattle.layout.specs.Bytes.{byte}
use Rattle.scalar.specs.declared.types.DataType.{DataType}
use Rattle.scalar.specs.Types.{type_number}
use Rattle.scalar.specs.Value.{meaning, value_of}
use Rattle.rule.specs.Tree.{Expr}
use Rattle.rule.specs.Row.{eval, eval_else}
use Rattle.rule.specs.Walks.{optional_trees, TypeGives}
use Rattle.table.specs.declared.places.Table.{Table}
use Rattle.writer.specs.Write.{class_value}
use Rattle.case.specs.declared.results.Results.{Results}
use Rattle.case.specs.Frame.{Listed}
use Rattle.case.specs.Evaluation.{Framed, row_in}
use Rattle.case.specs.Results.{ResultsRead}
use Rattle.case.specs.Classes.{RootAsks, RootRead, CaseTree, CaseValues, ThensAsk, ThensClassed, ClassesGive}

-- ---- the list of all rows

module _ {t : Table} {w table : List ℕ} (a : RootAsks t w table) where
  pub root_framed : (depth : ℕ) → depth ≤ 2 → Framed table t w t.rows depth
  root_framed depth deep = record {
    list_ok = record {
      few = a.few;
      below = λ i h. omega (arith, a.rows_are i h);
      rising = λ i j b h. omega (arith, a.rows_are i (omega arith), a.rows_are j h);
    };
    small = a.few;
    room = (let r = a.room in omega arith);
    short = (let s = a.short in omega arith);
  }

  root_listed : (i : ℕ) → i < t.rows → Listed w 0 t.rows i
  root_listed i h = (i, h, a.rows_are i h)

-- ---- the root's results

pub results_give : {rule kinds payloads : List ℕ} {place code count : ℕ} {to : DataType} → count ≡ byte rule 4 → TypeGives rule 0 to → ResultsRead rule place (length rule) count to kinds payloads
    → get_or kinds (count + 1) 0 ≡ code → RootRead rule code place kinds payloads
results_give {rule} {kinds} {payloads} {place} {code} {to = to} counted types read last = record {
  type = to;
  type_is = types;
  read = subst (λ (n : ℕ). ResultsRead rule place (length rule) n to kinds payloads) counted read;
  else_kind = subst (λ (n : ℕ). get_or kinds (n + 1) 0 ≡ code) counted last;
}

-- ---- the classes

module _ {rule table : List ℕ} {t : Table} {w classes kinds payloads : List ℕ} {found : Option ℕ} {place code count : ℕ}
    (values : CaseValues rule 0 (length rule) table t w t.rows classes found) (is : found ≡ Some place) (counted : count ≡ byte rule 4) (small : count ≤ 255)
    (results : RootRead rule code place kinds payloads) where
  given_values : CaseValues rule 0 (length rule) table t w t.rows classes (Some place)
  given_values = subst (λ (x : Option ℕ). CaseValues rule 0 (length rule) table t w t.rows classes x) is values

  read : ResultsRead rule place (length rule) count results.type kinds payloads
  read = subst (λ (n : ℕ). ResultsRead rule place (length rule) n results.type kinds payloads) (sym counted) results.read

  pub thens_ask : ThensAsk code count w t.rows classes kinds payloads
  thens_ask = record {
    few = small;
    each = λ q l. let x = given_values.each q l in (x.some, (let f = x.few in omega arith));
    else_kind = subst (λ (n : ℕ). get_or kinds (n + 1) 0 ≡ code) (sym counted) results.else_kind;
  }

  pub classes_give : {result : DataType} {given : Bool} {w' classes' : List ℕ} {rs : Results} → length classes' ≡ 512 → RootAsks t w table → code ≡ type_number result → 2 ≤ code → code ≤ 4 → given ≡ true
      → ThensClassed rule place table t code count w t.rows classes kinds payloads given w' classes' rs.kinds rs.payloads → ClassesGive rule table t result w (Some rs) w' classes'
  classes_give {result} {classes' = classes'} {rs} long asks code_is low high is_given thens = record {
    long = thens.long;
    low = thens.low;
    asks = λ full. record {
      number = (omega arith, omega arith);
      inside = record {
        few = asks.few;
        classes_full = long;
        payloads_long = full;
        below = λ i l. (thens.here is_given i (root_listed asks i l)).below;
      };
    };
    right = record { right = λ e node i l. means e i l ((given_values.each i (root_listed asks i l)).is e 7 node) };
  }
    where
      means : (e : Expr) (i : ℕ) → i < t.rows → CaseTree rule 0 (length rule) table t place 7 i (get_or classes i 0) e
          → meaning rule table (class_value result classes' rs.payloads i) ≡ eval e (row_in table t i)
      means e i l tree =
          let row = row_in table t i in
          let trees = tree.trees in
          let many = tree.counted ∙ sym counted in
          ap (λ (k : ℕ). meaning rule table (value_of k (get_or rs.payloads (get_or classes' i 0) 0))) (sym ((thens.here is_given i (root_listed asks i l)).kind_is ∙ code_is))
          ∙ (thens.here is_given i (root_listed asks i l)).means tree.bs (optional_trees tree.els) (length rule) (eval_else tree.els row results.type) trees many
          (λ j b k. read.held tree.bs tree.els 7 row table trees many j b (inr (λ z. omega arith)))
          ∙ sym (tree.outcome results.type results.type_is)

-- whether there are classes, by a Boolean
pub classes_if : {rule table w w' classes : List ℕ} {t : Table} {result : DataType} {rs : Results} (found : Bool) → (found ≡ true → ClassesGive rule table t result w (Some rs) w' classes)
    → ClassesGive rule table t result w None w' classes → ClassesGive rule table t result w (if found then Some rs else None) w' classes
classes_if true some none = some refl
classes_if false some none = none

-- where there are, those of the literals
pub classes_found : {rule table w w' classes : List ℕ} {t : Table} {result : DataType} {rs : Results} {found : Bool} → found ≡ true
    → ClassesGive rule table t result w (if found then Some rs else None) w' classes → ClassesGive rule table t result w (Some rs) w' classes
classes_found {rule} {table} {w} {w'} {classes} {t} {result} {rs} is give = subst (λ (b : Bool). ClassesGive rule table t result w (if b then Some rs else None) w' classes) is give
