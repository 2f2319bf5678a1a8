-- The columns met while a rule is read are those of its tree. Assumes nothing.
use mathlib.Core.Path.{◌≡◌, refl, ap, sym, subst, ◌∙◌}
use mathlib.Core.Bool.{Bool, true, false, ◌||◌, or-false}
use mathlib.Core.List.{List, [], ◌∷◌, ◌++◌, reverse, reverse_aux, reverse_aux-append}
use Prim.Native.Nat.{ℕ, zero, suc}
use native.Mathlib.Omega.{arith}
use lib.Dec.{eqb}
use lib.ListN.{drop}
use Rattle.layout.specs.Result.{ok}
use Rattle.layout.specs.Field.{Field}
use Rattle.layout.proofs.ResultLaws.{ok_injective}
use Rattle.scalar.specs.declared.types.DataType.{DataType}
use Rattle.rule.specs.declared.seen.Seen.{Seen}
use Rattle.rule.specs.Tree.{Column, Expr, negation, negative, is_not_null, cast, try_cast, equal, less}
use Rattle.rule.specs.Constant.{columns_of, branches_columns, optional_columns}
use Rattle.rule.specs.Projection.{indexes, projection}
use Rattle.rule.specs.Reading.{Read, Reader, Kind, a_column, a_literal, a_not, a_negative, an_is_not_null, a_cast, a_try_cast, an_equal, a_less, a_case, read_column, read_literal, read_unary, read_cast, read_binary, read_case, read_branches, read_optional, has_base, has_else, read_parts, read_kind, read_field, depth_most, cases_most, read_tree, read_rule}
use Rattle.rule.specs.Seen.{alike}
use Rattle.rule.specs.Steps.{ColumnsMet}
use Rattle.rule.proofs.ReadInversions.{column_inv, literal_inv, unary_inv, cast_inv, binary_inv, branches_inv, optional_inv, parts_inv, case_inv, limited_case_inv, field_inv, root_inv, tree_inv, rule_inv}
use Rattle.rule.proofs.ProjectionLaws.{named, risen_same, indexes_risen, seen_bound}

-- columns that were met, and more, the last first; none is unlike an earlier one of its index
abbrev Added : List Column → List Column → List Column → Type 0
Added cols new seen = (seen ≡ reverse_aux new cols) × (alike cols ≡ true → alike seen ≡ true)

nothing_added : (cols : List Column) → Added cols [] cols
nothing_added cols = (refl, λ h. h)

-- first some, then others
both_added : (a b cols mid last : List Column) → Added cols a mid → Added mid b last → Added cols (a ++ b) last
both_added a b cols mid last p q = (q.0 ∙ ap (reverse_aux b) p.0 ∙ sym (reverse_aux-append a b cols), λ h. q.1 (p.1 h))

-- a reader that adds the columns of what it reads
abbrev Met : {A : Type 0} → (A → List Column) → List Column → Read A → Type 0
Met columns cols r = Added cols (columns r.tree) r.seen

abbrev Meets : {A : Type 0} → (A → List Column) → Reader A → Type 0
Meets columns read = (bytes : List ℕ) (cols : List Column) (r : Read _) → read bytes cols ≡ ok r → Met columns cols r

-- a column or a literal
column_met : (f : Field) (cols : List Column) (r : Read Expr) → read_column f cols ≡ ok r → Met columns_of cols r
unfolding columns_of alike
column_met f cols r p =
    let (c, content, like, is) = column_inv f cols r p in
    subst (Met columns_of cols) (sym is) (refl, λ h. rw like h)

literal_met : (f : Field) (cols : List Column) (r : Read Expr) → read_literal f cols ≡ ok r → Met columns_of cols r
unfolding columns_of
literal_met f cols r p = let (t, m, v, content, value, is) = literal_inv f cols r p in subst (Met columns_of cols) (sym is) (nothing_added cols)

-- branches and parts that may be absent
module _ (child : Reader Expr) (ih : Meets columns_of child) where
  branches_met : (n : ℕ) → Meets branches_columns (read_branches child n)
  unfolding read_branches columns_of
  branches_met zero bytes cols r p = subst (Met branches_columns cols) (ok_injective p) (nothing_added cols)
  branches_met (suc n) bytes cols r p =
      let (w, t, bs, first, second, rest, is) = branches_inv child n bytes cols r p in
      subst (Met branches_columns cols) (sym is)
      (both_added (columns_of w.tree) (columns_of t.tree ++ branches_columns bs.tree) cols w.seen bs.seen (ih bytes cols w first)
      (both_added (columns_of t.tree) (branches_columns bs.tree) w.seen t.seen bs.seen (ih w.rest w.seen t second)
      (branches_met n t.rest t.seen bs rest)))

  optional_met : (there : Bool) → Meets optional_columns (read_optional there child)
  unfolding read_optional columns_of
  optional_met false bytes cols r p = subst (Met optional_columns cols) (ok_injective p) (nothing_added cols)
  optional_met true bytes cols r p =
      let (e, got, is) = optional_inv child bytes cols r p in
      subst (Met optional_columns cols) (sym is) (ih bytes cols e got)

  -- nodes whose children are read so
  module _ (content : List ℕ) (cols : List Column) (rest : List ℕ) (r : Read Expr) where
    unary_met : (node : Expr → Expr) → ((e : Expr) → columns_of (node e) ≡ columns_of e) → read_unary node child content cols rest ≡ ok r → Met columns_of cols r
    unary_met node keeps p =
        let (a, got, none, typed, is) = unary_inv node child content cols rest r p in
        subst (Met columns_of cols) (sym is) (subst (λ (l : List Column). Added cols l a.seen) (sym (keeps a.tree)) (ih content cols a got))

    binary_met : (node : Expr → Expr → Expr) → ((a b : Expr) → columns_of (node a b) ≡ columns_of a ++ columns_of b) → read_binary node child content cols rest ≡ ok r → Met columns_of cols r
    binary_met node keeps p =
        let (a, b, first, second, none, typed, is) = binary_inv node child content cols rest r p in
        subst (Met columns_of cols) (sym is)
        (subst (λ (l : List Column). Added cols l b.seen) (sym (keeps a.tree b.tree))
        (both_added (columns_of a.tree) (columns_of b.tree) cols a.seen b.seen (ih content cols a first) (ih a.rest a.seen b second)))

    parts_met : (flags count : ℕ) → read_parts child flags count content cols rest ≡ ok r → Met columns_of cols r
    unfolding columns_of
    parts_met flags count p =
        let (b, bs, e, base, branches, last, none, typed, is) = parts_inv child flags count content cols rest r p in
        subst (Met columns_of cols) (sym is)
        (both_added (optional_columns b.tree) (branches_columns bs.tree ++ optional_columns e.tree) cols b.seen e.seen
        (optional_met (has_base flags) content cols b base)
        (both_added (branches_columns bs.tree) (optional_columns e.tree) b.seen bs.seen e.seen (branches_met count b.rest b.seen bs branches)
        (optional_met (has_else flags) bs.rest bs.seen e last)))

  module _ (content : List ℕ) (cols : List Column) (rest : List ℕ) (r : Read Expr) where
    cast_met : (node : DataType → Expr → Expr) → ((t : DataType) (e : Expr) → columns_of (node t e) ≡ columns_of e) → read_cast node child content cols rest ≡ ok r → Met columns_of cols r
    cast_met node keeps p =
        let (t, is, got) = cast_inv node child content cols rest r p in
        unary_met (drop 1 content) cols rest r (node t) (keeps t) got

    case_met : read_case child content cols rest ≡ ok r → Met columns_of cols r
    case_met p =
        let (flags, count, is, low, some, few, got) = case_inv child content cols rest r p in
        parts_met (drop 2 content) cols rest r flags count got

-- a field by its kind
kind_met : (child : ℕ → Reader Expr) → ((n : ℕ) → Meets columns_of (child n)) → (cases : ℕ) (k : Kind) (f : Field) (cols : List Column) (r : Read Expr)
    → read_kind child cases k f cols ≡ ok r → Met columns_of cols r
unfolding read_kind columns_of
kind_met child ih cases a_column f cols r p = column_met f cols r p
kind_met child ih cases a_literal f cols r p = literal_met f cols r p
kind_met child ih cases a_not f cols r p = unary_met (child cases) (ih cases) f.content cols f.rest r negation (λ e. refl) p
kind_met child ih cases a_negative f cols r p = unary_met (child cases) (ih cases) f.content cols f.rest r negative (λ e. refl) p
kind_met child ih cases an_is_not_null f cols r p = unary_met (child cases) (ih cases) f.content cols f.rest r is_not_null (λ e. refl) p
kind_met child ih cases a_cast f cols r p = cast_met (child cases) (ih cases) f.content cols f.rest r cast (λ t e. refl) p
kind_met child ih cases a_try_cast f cols r p = cast_met (child cases) (ih cases) f.content cols f.rest r try_cast (λ t e. refl) p
kind_met child ih cases an_equal f cols r p = binary_met (child cases) (ih cases) f.content cols f.rest r equal (λ a b. refl) p
kind_met child ih cases a_less f cols r p = binary_met (child cases) (ih cases) f.content cols f.rest r less (λ a b. refl) p
kind_met child ih cases a_case f cols r p =
    let (n, is, got) = limited_case_inv child cases f.content cols f.rest r p in
    case_met (child n) (ih n) f.content cols f.rest r got

-- a field
field_met : (depth cases : ℕ) → Meets columns_of (read_field depth cases)
field_met zero cases bytes cols r p = let (d, f, k, deep, head, tag, got) = field_inv zero cases bytes cols r p in absurd (omega arith)
field_met (suc depth) cases bytes cols r p =
    let (d, f, k, deep, head, tag, got) = field_inv (suc depth) cases bytes cols r p in
    let is : d ≡ depth = omega arith in
    kind_met (read_field depth) (field_met depth) cases k f cols r (subst (λ (n : ℕ). read_kind (read_field n) cases k f cols ≡ ok r) is got)

-- the columns met while a rule is read are those of its tree, and none is unlike an earlier one
pub tree_columns : (rule : List ℕ) (x : Read Expr) → read_tree rule ≡ ok x → Added [] (columns_of x.tree) x.seen
tree_columns rule x p =
    let (some, most, root, end) = tree_inv rule x p in
    let (f, head, tag, got) = root_inv rule x root in
    field_met depth_most cases_most rule [] x got

-- no column of an accepted rule is unlike an earlier one
pub rule_alike : (rule : List ℕ) (e : Expr) → read_rule rule ≡ ok e → alike (reverse (columns_of e)) ≡ true
unfolding alike
rule_alike rule e p =
    let (x, some, most, root, end, fine, is) = rule_inv rule e p in
    let (f, head, tag, got) = root_inv rule x root in
    let (met, like) = field_met depth_most cases_most rule [] x got in
    ap (λ (t : Expr). alike (reverse (columns_of t))) is ∙ ap alike (sym met) ∙ like refl

-- an index is named by columns and by others behind them
named_reversed : (a b : List Column) (i : ℕ) → named (reverse_aux a b) i ≡ (named a i || named b i)
unfolding named
named_reversed [] b i = refl
named_reversed (c ∷ a) b i = named_reversed a (c ∷ b) i ∙ go (named a i) (eqb i c.index)
  where
    go : (x t : Bool) → (x || (t || named b i)) ≡ ((t || x) || named b i)
    go true true = refl
    go true false = refl
    go false true = refl
    go false false = refl

-- the indexes met are the tree's projection
pub met_projection : (e : Expr) (seen : Seen) → ColumnsMet seen e → indexes (reverse (columns_of e)) ≡ projection e
unfolding named
met_projection e seen s =
    let met = reverse (columns_of e) in
    let same : (i : ℕ) → named met i ≡ named (columns_of e) i = λ i. named_reversed (columns_of e) [] i ∙ or-false (named (columns_of e) i) in
    let bound = seen_bound met seen s in
    indexes_risen met bound ∙ risen_same (named met) (named (columns_of e)) 256 (λ i h. same i)
    ∙ sym (indexes_risen (columns_of e) (λ i h. bound i (same i ∙ h)))
