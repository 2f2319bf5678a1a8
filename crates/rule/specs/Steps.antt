-- What the steps of the reading promise beside their definitions.
use Rattle.std.specs.Prelude.{◌≡◌, Bool, true, false, cond, not, ◌&&◌, ◌||◌, List, [], ◌∷◌, reverse, ℕ, eqb, ltb, drop, Option, unwrap_or, Result as RustResult, Ok, Err}
use Rattle.layout.specs.declared.refusal.Refusal.{Refusal}
use Rattle.layout.specs.declared.refusal.Refusal.TheVariants.{RuleContent, RuleTypes}
use Rattle.layout.specs.Refusals.{refusal_numbered}
use Rattle.layout.specs.Result.{Result, refused, ok, require, ◌>>=◌}
use Rattle.layout.specs.Field.{Field}
use Rattle.scalar.specs.declared.types.DataType.{DataType}
use Rattle.scalar.specs.Types.{same_type, mark_numbered}
use Rattle.scalar.specs.Entry.{Entry, is_null}
use Rattle.scalar.specs.Cast.{listed}
use Rattle.rule.specs.declared.node.RuleFound.{RuleFound}
use Rattle.rule.specs.declared.read.RuleReading.{RuleReading}
use Rattle.rule.specs.declared.node.FieldFound.{FieldFound}
use Rattle.rule.specs.declared.node.BranchesRead.{BranchesRead}
use Rattle.rule.specs.Tree.{Column, Expr, column, negation, negative, is_not_null, cast, try_cast, equal, less, Branches, branch, Optional, is_null_literal}
use Rattle.rule.specs.Typing.{type_of, result_type, when_type, branches_typed, else_typed}
use Rattle.rule.specs.Constant.{columns_of}
use Rattle.rule.specs.Nullable.{nullable}
use Rattle.rule.specs.Reading.{Read, Reader, unlike_earlier, marked_value, read_column, read_literal, read_unary, read_cast, read_binary, read_branches, read_limited_case}
use Rattle.rule.specs.declared.seen.Seen.{Seen}
use Rattle.rule.specs.Seen.{SeenIs, Marked}

-- a node whose last child ends at `next` of so many bytes of content: bytes left over, then types that don't fit
abbrev pub closed : ℕ → ℕ → Bool → DataType → ℕ → RustResult FieldFound Refusal
closed next size fits t end = cond (ltb next size) (Err RuleContent) (cond fits (Ok (record { result = t; null = false; next = end })) (Err RuleTypes))

-- a branch before later ones
abbrev pub branched : DataType → DataType → DataType → BranchesRead → BranchesRead
branched w when t later = record { result = later.result; fits = same_type w when && same_type t later.result && later.fits; next = later.next }

-- where the definition refuses, the code does so with that number's refusal; where it reads, the code's result is good for what was read
pub record Gives {A B : Type 0} (good : B → A → Type 0) (definition : Result A) (code : RustResult B Refusal) : Type 0 where
  pub refuses : (n : ℕ) → definition ≡ refused n → code ≡ Err (refusal_numbered n)
  pub reads : (x : A) → definition ≡ ok x → (y : B) × (code ≡ Ok y) × good y x

-- where it ends, and the marks behind it
pub record Behind {A : Type 0} (bytes : List ℕ) (next : ℕ) (after : List ℕ) (x : Read A) : Type 0 where
  pub rest_is : x.rest ≡ drop next bytes
  pub seen_are : Marked x.seen after

-- a field: its type, and whether it is a null literal
pub record FieldRead (bytes after : List ℕ) (r : FieldFound) (x : Read Expr) : Type 0 where
  pub type_is : r.result ≡ type_of x.tree
  pub null_is : r.null ≡ is_null_literal x.tree
  pub behind : Behind bytes r.next after x

-- a field, or its refusal
abbrev pub ReadGives : List ℕ → Result (Read Expr) → RustResult FieldFound Refusal → List ℕ → Type 0
ReadGives bytes definition r after = Gives (FieldRead bytes after) definition r

-- the tree of a rule: its type, and the columns met
pub record TreeRead (r : RuleFound) (x : Read Expr) : Type 0 where
  pub type_is : r.result ≡ type_of x.tree
  pub seen_are : SeenIs x.seen r.seen

-- the tree, or its refusal
abbrev pub TreeGives : Result (Read Expr) → RustResult RuleFound Refusal → Type 0
TreeGives = Gives TreeRead

-- the columns met are those that a rule names, the last first
abbrev pub ColumnsMet : Seen → Expr → Type 0
ColumnsMet seen e = SeenIs (reverse (columns_of e)) seen

-- a rule: its type, and the columns met
pub record RuleRead (r : RuleFound) (e : Expr) : Type 0 where
  pub type_is : r.result ≡ type_of e
  pub seen_are : ColumnsMet r.seen e

-- the rule, or its refusal
abbrev pub RuleGives : Result Expr → RustResult RuleFound Refusal → Type 0
RuleGives = Gives RuleRead

-- a rule's reading for an evaluation is of its tree: the result's type, the nullability answer, the columns met
pub record ReadingIs (r : RuleReading) (e : Expr) : Type 0 where
  pub type_is : r.result ≡ type_of e
  pub nullable_is : r.nullable ≡ nullable e
  pub seen_are : ColumnsMet r.seen e

-- a part that may be absent: a WHEN's type if it is a base, and whether it fits as an ELSE
pub record OptionalRead (bytes after : List ℕ) (r : FieldFound) (x : Read Optional) : Type 0 where
  pub when_is : r.result ≡ when_type x.tree
  pub else_is : (t : DataType) → (r.null || listed r.result t) ≡ else_typed t x.tree
  pub behind : Behind bytes r.next after x

-- branches: the type of their THENs, which may be known from earlier ones, and whether all types fit
pub record BranchesAre (bytes : List ℕ) (when : DataType) (earlier : Option DataType) (after : List ℕ) (r : BranchesRead) (x : Read Branches) : Type 0 where
  pub result_is : r.result ≡ unwrap_or earlier (result_type x.tree)
  pub fits_is : r.fits ≡ branches_typed when r.result x.tree
  pub behind : Behind bytes r.next after x

-- a step that reads a field promises this whatever columns the marks before it are of, and of the marks after a refusal nothing
abbrev pub FieldGives : List ℕ → List ℕ → (List Column → Result (Read Expr)) → RustResult FieldFound Refusal → List ℕ → Type 0
FieldGives bytes before definition r after = (cols : List Column) → Marked cols before → ReadGives bytes (definition cols) r after

-- the same of a part that may be absent
abbrev pub OptionalGives : List ℕ → List ℕ → (List Column → Result (Read Optional)) → RustResult FieldFound Refusal → List ℕ → Type 0
OptionalGives bytes before definition r after = (cols : List Column) → Marked cols before → Gives (OptionalRead bytes after) (definition cols) r

-- the same of branches
abbrev pub BranchesGive : List ℕ → List ℕ → DataType → Option DataType → (List Column → Result (Read Branches)) → RustResult BranchesRead Refusal → List ℕ → Type 0
BranchesGive bytes before when earlier definition r after = (cols : List Column) → Marked cols before → Gives (BranchesAre bytes when earlier after) (definition cols) r

-- the same of a field's content, which ends at a place of whatever its parent's bytes are
abbrev pub NodeGives : ℕ → List ℕ → (List Column → List ℕ → Result (Read Expr)) → RustResult FieldFound Refusal → List ℕ → Type 0
NodeGives end before definition r after = (cols : List Column) (outer : List ℕ) → Marked cols before → ReadGives outer (definition cols (drop end outer)) r after

-- the same of a branch behind a WHEN that was read
abbrev pub BranchGives : List ℕ → FieldFound → List ℕ → DataType → Option DataType → (Read Expr → Result (Read Branches)) → RustResult BranchesRead Refusal → List ℕ → Type 0
BranchGives bytes w before when earlier definition r after = (x : Read Expr) → FieldRead bytes before w x → Gives (BranchesAre bytes when earlier after) (definition x) r

-- the same of the root, where no column was met
abbrev pub RootGives : List ℕ → List ℕ → Result (Read Expr) → RustResult FieldFound Refusal → List ℕ → Type 0
RootGives bytes before definition r after = Marked [] before → ReadGives bytes definition r after

-- a column behind its type: nullable, and that it is like the earlier ones
unfoldable pub meet_column : ℕ → DataType → ℕ → List Column → List ℕ → Result (Read Expr)
meet_column index t mark seen rest = do
  n ← mark_numbered 3 mark
  let c : Column = record { index = index; type = t; nullable = n }
  _ ← require (not (unlike_earlier c seen)) 7
  ok (record { tree = column c; seen = c ∷ seen; rest = rest })

-- a literal's value behind its type, by its null mark
unfoldable pub value_of : DataType → ℕ → List ℕ → Result Entry
value_of t mark value = do
  m ← mark_numbered 3 mark
  marked_value m t value

-- whether the value is as it has to be; a null mark makes it null
pub record ValueGives (mark : ℕ) (definition : Result Entry) (r : Bool) : Type 0 where
  pub fitting : r ≡ true → (v : Entry) × (definition ≡ ok v) × (eqb mark 1 ≡ is_null v)
  pub unfitting : r ≡ false → definition ≡ refused 3

-- a branch behind its WHEN, and the later ones
unfoldable pub read_then : Reader Expr → Expr → ℕ → Reader Branches
read_then child w n bytes seen = do
  t ← child bytes seen
  bs ← read_branches child n t.rest t.seen
  ok (record { tree = branch w t.tree bs.tree; seen = bs.seen; rest = bs.rest })

-- 18 NOT, 19 negative, 20 IS NOT NULL
abbrev pub unary_of : ℕ → Expr → Expr
unary_of tag e = cond (eqb tag 18) (negation e) (cond (eqb tag 19) (negative e) (is_not_null e))

-- 21 cast, 22 try-cast
abbrev pub cast_of : ℕ → DataType → Expr → Expr
cast_of tag t e = cond (eqb tag 21) (cast t e) (try_cast t e)

-- 23 equal, 24 less
abbrev pub binary_of : ℕ → Expr → Expr → Expr
binary_of tag a b = cond (eqb tag 23) (equal a b) (less a b)

-- a field by its tag: 16, 17, 18 to 20, 21 or 22, 23 or 24, and a CASE for any other
unfoldable pub read_tagged : (ℕ → Reader Expr) → ℕ → Field → List Column → Result (Read Expr)
read_tagged child cases f seen =
    cond (eqb f.tag 16) (read_column f seen)
    (cond (eqb f.tag 17) (read_literal f seen)
    (cond (ltb 17 f.tag && ltb f.tag 21) (read_unary (unary_of f.tag) (child cases) f.content seen f.rest)
    (cond (ltb 20 f.tag && ltb f.tag 23) (read_cast (cast_of f.tag) (child cases) f.content seen f.rest)
    (cond (ltb 22 f.tag && ltb f.tag 25) (read_binary (binary_of f.tag) (child cases) f.content seen f.rest)
    (read_limited_case child cases f.content seen f.rest)))))
