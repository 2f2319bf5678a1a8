-- An accepted rule is well-formed, so it has its type at every row whose columns have theirs. Assumes nothing.
use mathlib.Core.Bool.{Bool, true, false, ◌&&◌}
use mathlib.Core.Path.{◌≡◌, refl, ap, sym, subst, ◌∙◌}
use mathlib.Core.List.{List, []}
use Prim.Native.Nat.{ℕ, zero, suc, ◌^◌, ◌<◌, ◌≤◌}
use native.Mathlib.Omega.{arith}
use lib.Dec.{eqb}
use lib.ListN.{length, get_or, drop}
use borrow.Author.Tests.{eqb-true, lt-ltb, le-leb}
use Rattle.layout.specs.Result.{ok}
use Rattle.layout.specs.Bytes.{Bytes, byte, number}
use Rattle.layout.specs.Field.{Field}
use Rattle.layout.proofs.ResultLaws.{ok_injective, bind_ok, require_then}
use Rattle.layout.proofs.BytesLaws.{number_below, bytes_drop}
use Rattle.layout.proofs.FieldLaws.{header_bytes_parts}
use Rattle.scalar.specs.declared.types.DataType.{DataType}
use Rattle.scalar.specs.declared.types.DataType.TheVariants.{Boolean, Int32, Int64, Float64, Utf8}
use Rattle.scalar.specs.Types.{mark_numbered}
use Rattle.scalar.specs.Entry.{Entry, int32, int64, float64, of_type, outcome_of_type}
use Rattle.rule.specs.Tree.{Column, Expr, negation, negative, is_not_null, cast, try_cast, equal, less, branch_count}
use Rattle.rule.specs.Typing.{type_of, node_typed}
use Rattle.rule.specs.Row.{Row, eval}
use Rattle.rule.specs.Constant.{is_empty}
use Rattle.rule.specs.Reading.{Read, Reader, Kind, a_column, a_literal, a_not, a_negative, an_is_not_null, a_cast, a_try_cast, an_equal, a_less, a_case, number_of, literal_value, marked_value, read_column, read_literal, read_unary, read_cast, read_binary, read_case, read_branches, read_optional, has_base, has_else, read_parts, read_kind, read_field, depth_most, cases_most, read_rule}
use Rattle.rule.proofs.ReadInversions.{column_inv, literal_inv, unary_inv, cast_inv, binary_inv, branches_inv, branches_count, optional_inv, parts_inv, case_inv, limited_case_inv, field_inv, root_inv, rule_inv}
use Rattle.rule.specs.WellFormed.{well_formed, well_formed_branches, well_formed_optional}
use Rattle.rule.proofs.Sound.{RowTyped, tree_sound}

-- two tests that hold, hold together
both : (a b : Bool) → a ≡ true → b ≡ true → (a && b) ≡ true
both a b p q = rw (p, q) refl

-- a number of k bytes is of a type that has room for it
number_typed : (make : ℕ → Entry) (k : ℕ) (t : DataType) → ((n : ℕ) → n < 256 ^ k → of_type t (make n) ≡ true)
    → (value : List ℕ) (v : Entry) → Bytes value → number_of make k value ≡ ok v → of_type t v ≡ true
number_typed make k t fits value v h p =
    let i = require_then (eqb (length value) k) 3 _ v p in
    let k : number value < 256 ^ k = rw (eqb-true (length value) k i.0) at (number_below value h) in
    subst (λ (x : Entry). of_type t x ≡ true) (ok_injective i.1) (fits (number value) k)

-- a literal's value is of its type
value_typed : (t : DataType) (value : List ℕ) (v : Entry) → Bytes value → literal_value t value ≡ ok v → of_type t v ≡ true
unfolding literal_value of_type
value_typed Boolean value v h p =
    let i = require_then (eqb (length value) 1) 3 _ v p in
    let b = bind_ok (mark_numbered 3 (byte value 0)) _ v i.1 in
    subst (λ (x : Entry). of_type Boolean x ≡ true) (ok_injective b.2) refl
value_typed Int32 value v h p = number_typed int32 4 Int32 (λ n l. lt-ltb _ _ l) value v h p
value_typed Int64 value v h p = number_typed int64 8 Int64 (λ n l. lt-ltb _ _ l) value v h p
value_typed Float64 value v h p = number_typed float64 8 Float64 (λ n l. lt-ltb _ _ l) value v h p
value_typed Utf8 value v h p = subst (λ (x : Entry). of_type Utf8 x ≡ true) (ok_injective p) refl

-- and so it is under a null mark
marked_typed : (m : Bool) (t : DataType) (value : List ℕ) (v : Entry) → Bytes value → marked_value m t value ≡ ok v → of_type t v ≡ true
unfolding marked_value of_type
marked_typed true t value v h p = subst (λ (x : Entry). of_type t x ≡ true) (ok_injective (require_then (is_empty value) 3 _ v p).1) refl
marked_typed false t value v h p = value_typed t value v h p

-- what is read is well-typed, and behind it are bytes
abbrev pub Good : {A : Type 0} → (A → Bool) → Read A → Type 0
Good typed r = (typed r.tree ≡ true) × Bytes r.rest

-- a reader that reads well-typed trees out of bytes
abbrev pub Typed : {A : Type 0} → (A → Bool) → Reader A → Type 0
Typed typed read = (bytes : List ℕ) (seen : List Column) (r : Read _) → Bytes bytes → read bytes seen ≡ ok r → Good typed r

-- a column or a literal
column_good : (f : Field) (seen : List Column) (r : Read Expr) → Bytes f.content → Bytes f.rest → read_column f seen ≡ ok r → Good well_formed r
unfolding well_formed
column_good f seen r b h p =
    let (c, content, like, is) = column_inv f seen r p in
    let small : c.index < 256 = subst (λ (l : List ℕ). get_or l 0 0 < 256) content (b 0) in
    subst (Good well_formed) (sym is) (lt-ltb c.index 256 small, h)

literal_good : (f : Field) (seen : List Column) (r : Read Expr) → Bytes f.content → Bytes f.rest → read_literal f seen ≡ ok r → Good well_formed r
unfolding well_formed
literal_good f seen r c h p =
    let i = literal_inv f seen r p in
    subst (Good well_formed) (sym i.5) (marked_typed i.1 i.0 (drop 2 f.content) i.2 (bytes_drop 2 f.content c) i.4, h)

-- branches and parts that may be absent
module _ (child : Reader Expr) (ih : Typed well_formed child) where
  branches_good : (n : ℕ) → Typed well_formed_branches (read_branches child n)
  unfolding read_branches well_formed
  branches_good zero bytes seen r h p = subst (Good well_formed_branches) (ok_injective p) (refl, h)
  branches_good (suc n) bytes seen r h p =
      let i = branches_inv child n bytes seen r p in
      let w = ih bytes seen i.0 h i.3 in
      let t = ih i.0.rest i.0.seen i.1 w.1 i.4 in
      let bs = branches_good n i.1.rest i.1.seen i.2 t.1 i.5 in
      subst (Good well_formed_branches) (sym i.6) (both _ _ w.0 (both _ _ t.0 bs.0), bs.1)

  optional_good : (there : Bool) → Typed well_formed_optional (read_optional there child)
  unfolding read_optional well_formed
  optional_good false bytes seen r h p = subst (Good well_formed_optional) (ok_injective p) (refl, h)
  optional_good true bytes seen r h p =
      let i = optional_inv child bytes seen r p in
      subst (Good well_formed_optional) (sym i.2) (ih bytes seen i.0 h i.1)

-- a node that keeps its children well-typed, if their types fit it
abbrev Keeps : (Expr → Expr) → Type 0
Keeps node = (e : Expr) → node_typed (node e) ≡ true → well_formed e ≡ true → well_formed (node e) ≡ true

abbrev KeepsBoth : (Expr → Expr → Expr) → Type 0
KeepsBoth node = (a b : Expr) → node_typed (node a b) ≡ true → well_formed a ≡ true → well_formed b ≡ true → well_formed (node a b) ≡ true

-- nodes whose children are read so
module _ (child : Reader Expr) (ih : Typed well_formed child) (content : List ℕ) (inside : Bytes content) (seen : List Column) (rest : List ℕ) (behind : Bytes rest) (r : Read Expr) where
  unary_good : (node : Expr → Expr) → Keeps node → read_unary node child content seen rest ≡ ok r → Good well_formed r
  unary_good node keeps p =
      let i = unary_inv node child content seen rest r p in
      subst (Good well_formed) (sym i.4) (keeps i.0.tree i.3 (ih content seen i.0 inside i.1).0, behind)

  binary_good : (node : Expr → Expr → Expr) → KeepsBoth node → read_binary node child content seen rest ≡ ok r → Good well_formed r
  binary_good node keeps p =
      let i = binary_inv node child content seen rest r p in
      let a = ih content seen i.0 inside i.2 in
      let b = ih i.0.rest i.0.seen i.1 a.1 i.3 in
      subst (Good well_formed) (sym i.6) (keeps i.0.tree i.1.tree i.5 a.0 b.0, behind)

  parts_good : (flags count : ℕ) → 0 < count → count ≤ 32 → read_parts child flags count content seen rest ≡ ok r → Good well_formed r
  unfolding well_formed
  parts_good flags count some few p =
      let i = parts_inv child flags count content seen rest r p in
      let b = optional_good child ih (has_base flags) content seen i.0 inside i.3 in
      let bs = branches_good child ih count i.0.rest i.0.seen i.1 b.1 i.4 in
      let e = optional_good child ih (has_else flags) i.1.rest i.1.seen i.2 bs.1 i.5 in
      let n : branch_count i.1.tree ≡ count = branches_count child count i.0.rest i.0.seen i.1 i.4 in
      let count_fits = both _ _ (lt-ltb 0 (branch_count i.1.tree) (omega arith)) (le-leb (branch_count i.1.tree) 32 (omega arith)) in
      subst (Good well_formed) (sym i.8) (both _ _ count_fits (both _ _ i.7 (both _ _ b.0 (both _ _ bs.0 e.0))), behind)

module _ (child : Reader Expr) (ih : Typed well_formed child) (content : List ℕ) (inside : Bytes content) (seen : List Column) (rest : List ℕ) (behind : Bytes rest) (r : Read Expr) where
  cast_good : (node : DataType → Expr → Expr) → ((t : DataType) → Keeps (node t)) → read_cast node child content seen rest ≡ ok r → Good well_formed r
  cast_good node keeps p =
      let i = cast_inv node child content seen rest r p in
      unary_good child ih (drop 1 content) (bytes_drop 1 content inside) seen rest behind r (node i.0) (keeps i.0) i.2

  case_good : read_case child content seen rest ≡ ok r → Good well_formed r
  case_good p =
      let i = case_inv child content seen rest r p in
      parts_good child ih (drop 2 content) (bytes_drop 2 content inside) seen rest behind r i.0 i.1 i.4 i.5 i.6

-- a field by its kind
kind_good : (child : ℕ → Reader Expr) → ((n : ℕ) → Typed well_formed (child n)) → (cases : ℕ) (k : Kind) (f : Field) (seen : List Column) (r : Read Expr)
    → Bytes f.content → Bytes f.rest → read_kind child cases k f seen ≡ ok r → Good well_formed r
unfolding read_kind well_formed
kind_good child ih cases a_column f seen r c h p = column_good f seen r c h p
kind_good child ih cases a_literal f seen r c h p = literal_good f seen r c h p
kind_good child ih cases a_not f seen r c h p = unary_good (child cases) (ih cases) f.content c seen f.rest h r negation (λ e. both _ _) p
kind_good child ih cases a_negative f seen r c h p = unary_good (child cases) (ih cases) f.content c seen f.rest h r negative (λ e. both _ _) p
kind_good child ih cases an_is_not_null f seen r c h p = unary_good (child cases) (ih cases) f.content c seen f.rest h r is_not_null (λ e. both _ _) p
kind_good child ih cases a_cast f seen r c h p = cast_good (child cases) (ih cases) f.content c seen f.rest h r cast (λ t e. both _ _) p
kind_good child ih cases a_try_cast f seen r c h p = cast_good (child cases) (ih cases) f.content c seen f.rest h r try_cast (λ t e. both _ _) p
kind_good child ih cases an_equal f seen r c h p = binary_good (child cases) (ih cases) f.content c seen f.rest h r equal (λ a b n x y. both _ _ n (both _ _ x y)) p
kind_good child ih cases a_less f seen r c h p = binary_good (child cases) (ih cases) f.content c seen f.rest h r less (λ a b n x y. both _ _ n (both _ _ x y)) p
kind_good child ih cases a_case f seen r c h p =
    let i = limited_case_inv child cases f.content seen f.rest r p in
    case_good (child i.0) (ih i.0) f.content c seen f.rest h r i.2

-- a field
pub field_good : (depth cases : ℕ) → Typed well_formed (read_field depth cases)
field_good zero cases bytes seen r h p = let i = field_inv zero cases bytes seen r p in absurd (omega arith)
field_good (suc depth) cases bytes seen r h p =
    let i = field_inv (suc depth) cases bytes seen r p in
    let e : i.0 ≡ depth = omega arith in
    let parts = header_bytes_parts 2 bytes i.1 h i.4 in
    kind_good (read_field depth) (field_good depth) cases i.2 i.1 seen r parts.0 parts.1
    (subst (λ (d : ℕ). read_kind (read_field d) cases i.2 i.1 seen ≡ ok r) e i.6)

-- every node of an accepted rule passed its test, and its literals are of their types
pub read_typed : (rule : List ℕ) (e : Expr) → Bytes rule → read_rule rule ≡ ok e → well_formed e ≡ true
read_typed rule e h p =
    let i = rule_inv rule e p in
    let j = root_inv rule i.0 i.3 in
    ap well_formed i.6 ∙ (field_good depth_most cases_most rule [] i.0 h j.3).0

-- an accepted rule has its type at every row whose columns have theirs
pub rule_sound : (rule : List ℕ) (e : Expr) (row : Row) → Bytes rule → read_rule rule ≡ ok e → RowTyped e row → outcome_of_type (type_of e) (eval e row) ≡ true
rule_sound rule e row h p t = tree_sound e row (read_typed rule e h p) t
