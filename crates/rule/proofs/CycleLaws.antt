-- The steps that read children, beside their definitions. Assumes nothing.
use Rattle.std.specs.Prelude.{Option, Some, None, unwrap_or, Result as RustResult, Ok, Err}
use mathlib.Core.Path.{◌≡◌, refl, ap, ap₂, sym, subst, ◌∙◌}
use mathlib.Core.Bool.{Bool, true, false, cond, ◌&&◌, ◌||◌}
use mathlib.Core.List.{List, [], ◌∷◌}
use mathlib.Core.Logic.{◌⊎◌, inl, inr}
use Prim.Native.Nat.{ℕ, zero, suc, ◌+◌, ◌-◌, ◌<◌, ◌≤◌}
use native.Mathlib.Omega.{arith}
use lib.Dec.{eqb, leb, ltb}
use lib.ListN.{length, drop}
use borrow.Author.Tests.{lt-ltb, le-ltb, le-leb, lt-leb, eq-eqb, ne_eqb}
use Rattle.layout.specs.declared.field.FieldPlace.{FieldPlace}
use Rattle.layout.specs.declared.refusal.Refusal.{Refusal}
use Rattle.layout.specs.declared.refusal.Refusal.TheVariants.{RuleSize, RuleCut, RuleContent, RuleDepth, CaseEmpty, CaseBranches}
use Rattle.layout.specs.Result.{Result, refused, ok, require}
use Rattle.layout.specs.Bytes.{byte, part}
use Rattle.layout.specs.Field.{Field, header}
use Rattle.layout.specs.Place.{header_at}
use Rattle.layout.proofs.PlaceLaws.{place_cut, place_found}
use Rattle.scalar.specs.declared.types.DataType.{DataType}
use Rattle.scalar.specs.declared.types.DataType.TheVariants.{Boolean}
use Rattle.scalar.specs.Types.{same_type, type_numbered}
use Rattle.scalar.specs.Cast.{listed}
use Rattle.rule.specs.declared.node.FieldFound.{FieldFound}
use Rattle.rule.specs.declared.node.BranchesRead.{BranchesRead}
use Rattle.rule.specs.Tree.{Column, Expr, negation, negative, is_not_null, cast, try_cast, equal, less, case_when, Branches, no_more, branch, Optional, absent, present, is_null_literal}
use Rattle.rule.specs.Typing.{type_of, result_type, node_typed, when_type, branches_typed, else_typed}
use Rattle.rule.specs.Constant.{is_empty}
use Rattle.rule.specs.Reading.{Read, Reader, Kind, a_column, a_literal, a_not, a_negative, an_is_not_null, a_cast, a_try_cast, an_equal, a_less, a_case, tag_of, kinds, kind_among, kind_of, read_column, read_literal, read_unary, read_cast, read_binary, read_branches, read_optional, has_base, has_else, read_parts, read_case, read_limited_case, read_kind, read_field, read_root, read_tree}
use Rattle.rule.specs.Seen.{Marked}
use Rattle.rule.specs.Steps.{closed, branched, Gives, FieldRead, ReadGives, TreeGives, OptionalRead, BranchesAre, read_then, unary_of, cast_of, binary_of, read_tagged}
use Rattle.rule.proofs.StepLaws.{gives_refusal, gives_read, on_ok, on_refused, behind_read, behind_refused, gives_map, empty_drop, some_drop, close_gives}

-- no node with children is a null literal
unary_plain : (tag : ℕ) (e : Expr) → false ≡ is_null_literal (unary_of tag e)
unary_plain tag e = go (eqb tag 18) (eqb tag 19)
  where
    go : (a b : Bool) → false ≡ is_null_literal (cond a (negation e) (cond b (negative e) (is_not_null e)))
    go true b = refl
    go false true = refl
    go false false = refl

cast_plain : (tag : ℕ) (t : DataType) (e : Expr) → (listed (type_of e) t ≡ node_typed (cast_of tag t e)) × (t ≡ type_of (cast_of tag t e)) × (false ≡ is_null_literal (cast_of tag t e))
unfolding type_of node_typed
cast_plain tag t e = go (eqb tag 21)
  where
    go : (b : Bool) → (listed (type_of e) t ≡ node_typed (cond b (cast t e) (try_cast t e))) × (t ≡ type_of (cond b (cast t e) (try_cast t e)))
        × (false ≡ is_null_literal (cond b (cast t e) (try_cast t e)))
    go true = (refl, refl, refl)
    go false = (refl, refl, refl)

binary_plain : (tag : ℕ) (a b : Expr)
    → (same_type (type_of a) (type_of b) ≡ node_typed (binary_of tag a b)) × (Boolean ≡ type_of (binary_of tag a b)) × (false ≡ is_null_literal (binary_of tag a b))
unfolding type_of node_typed
binary_plain tag a b = go (eqb tag 23)
  where
    go : (x : Bool) → (same_type (type_of a) (type_of b) ≡ node_typed (cond x (equal a b) (less a b))) × (Boolean ≡ type_of (cond x (equal a b) (less a b)))
        × (false ≡ is_null_literal (cond x (equal a b) (less a b)))
    go true = (refl, refl, refl)
    go false = (refl, refl, refl)

-- nodes whose children `child` reads; the marks behind a node are `after`, and those between its parts `middle` and `late`
module _ (child : Reader Expr) (content : List ℕ) (cols : List Column) (outer : List ℕ) (end : ℕ) {after : List ℕ} where
  -- one child
  pub unary_refused : (tag : ℕ) {a : RustResult FieldFound Refusal} {e : Refusal} → ReadGives content (child content cols) a after → a ≡ Err e
      → ReadGives outer (read_unary (unary_of tag) child content cols (drop end outer)) (Err e) after
  unfolding read_unary
  unary_refused tag h is = behind_refused (child content cols) _ h is refl

  pub unary_gives : (tag : ℕ) {a : RustResult FieldFound Refusal} (y : FieldFound) (fits : Bool) (t : DataType) {r : RustResult FieldFound Refusal} → ReadGives content (child content cols) a after → a ≡ Ok y
      → ((e : Expr) → y.result ≡ type_of e → fits ≡ node_typed (unary_of tag e)) → ((e : Expr) → y.result ≡ type_of e → t ≡ type_of (unary_of tag e))
      → r ≡ closed y.next (length content) fits t end → ReadGives outer (read_unary (unary_of tag) child content cols (drop end outer)) r after
  unfolding read_unary
  unary_gives tag y fits t h is fits_is type_is q =
      behind_read (child content cols) _ h is
      (λ x g. rw q (close_gives (unary_of tag) content outer after y.next (length content) fits t end refl x
      g.behind (fits_is x.tree g.type_is) (type_is x.tree g.type_is) (unary_plain tag x.tree)))

  -- two children
  pub binary_refused : (tag : ℕ) {a : RustResult FieldFound Refusal} {e : Refusal} {middle : List ℕ} → ReadGives content (child content cols) a middle → a ≡ Err e
      → ReadGives outer (read_binary (binary_of tag) child content cols (drop end outer)) (Err e) after
  unfolding read_binary
  binary_refused tag h is = behind_refused (child content cols) _ h is refl

  module _ (tag : ℕ) {a : RustResult FieldFound Refusal} (y : FieldFound) {middle : List ℕ} (h : ReadGives content (child content cols) a middle) (is : a ≡ Ok y) {b : RustResult FieldFound Refusal}
      (second : (met : List Column) → Marked met middle → ReadGives content (child (drop y.next content) met) b after) where
    second_read : (x : Read Expr) → FieldRead content middle y x → ReadGives content (child x.rest x.seen) b after
    second_read x g = subst (λ (l : List ℕ). ReadGives content (child l x.seen) b after) (sym g.behind.rest_is) (second x.seen g.behind.seen_are)

    pub second_refused : {e : Refusal} → b ≡ Err e → ReadGives outer (read_binary (binary_of tag) child content cols (drop end outer)) (Err e) after
    unfolding read_binary
    second_refused q = behind_read (child content cols) _ h is (λ x g. behind_refused (child x.rest x.seen) _ (second_read x g) q refl)

    pub binary_gives : (z : FieldFound) (fits : Bool) {r : RustResult FieldFound Refusal} → b ≡ Ok z → fits ≡ same_type y.result z.result → r ≡ closed z.next (length content) fits Boolean end
        → ReadGives outer (read_binary (binary_of tag) child content cols (drop end outer)) r after
    unfolding read_binary
    binary_gives z fits there fits_is q =
        behind_read (child content cols) _ h is
        (λ x g. behind_read (child x.rest x.seen) _ (second_read x g) there
        (λ w k. let (typed, type_is, null_is) = binary_plain tag x.tree w.tree in
        rw q (close_gives (binary_of tag x.tree) content outer after z.next (length content) fits Boolean end refl w
        k.behind (fits_is ∙ ap₂ same_type g.type_is k.type_is ∙ typed) type_is null_is)))

-- a target's type byte and one child
module _ (child : Reader Expr) (cols : List Column) (outer : List ℕ) (end : ℕ) (tag : ℕ) (after : List ℕ) where
  abbrev CastGives : List ℕ → RustResult FieldFound Refusal → Type 0
  CastGives content r = ReadGives outer (read_cast (cast_of tag) child content cols (drop end outer)) r after

  pub cast_short : (content : List ℕ) → length content ≡ 0 → CastGives content (Err RuleContent)
  unfolding read_cast
  cast_short [] h = gives_refusal 3 refl refl
  cast_short (b ∷ l) h = absurd (omega arith)

  pub cast_untyped : (content : List ℕ) → (length content ≡ 0 → ⊥) → type_numbered 3 (byte content 0) ≡ refused 3 → CastGives content (Err RuleContent)
  unfolding read_cast
  cast_untyped [] h p = absurd (h refl)
  cast_untyped (b ∷ l) h p = on_refused (type_numbered 3 b) _ 3 p refl

  pub cast_refused : (content : List ℕ) (t : DataType) {a : RustResult FieldFound Refusal} {e : Refusal} → (length content ≡ 0 → ⊥) → type_numbered 3 (byte content 0) ≡ ok t
      → ReadGives content (child (drop 1 content) cols) a after → a ≡ Err e → CastGives content (Err e)
  unfolding read_cast read_unary
  cast_refused [] t h p g is = absurd (h refl)
  cast_refused (b ∷ l) t h p g is = on_ok (type_numbered 3 b) _ t p (behind_refused (child l cols) _ g is refl)

  pub cast_gives : (content : List ℕ) (t : DataType) {a : RustResult FieldFound Refusal} (y : FieldFound) (fits : Bool) {r : RustResult FieldFound Refusal} → (length content ≡ 0 → ⊥)
      → type_numbered 3 (byte content 0) ≡ ok t → ReadGives content (child (drop 1 content) cols) a after → a ≡ Ok y → fits ≡ listed y.result t → r ≡ closed y.next (length content) fits t end
      → CastGives content r
  unfolding read_cast read_unary
  cast_gives [] t y fits h p g is fits_is q = absurd (h refl)
  cast_gives (b ∷ l) t y fits h p g is fits_is q =
      on_ok (type_numbered 3 b) _ t p
      (behind_read (child l cols) _ g is
      (λ x k. let (typed, type_is, null_is) = cast_plain tag t x.tree in
      rw q (close_gives (cast_of tag t) (b ∷ l) outer after y.next (length (b ∷ l)) fits t end refl x
      k.behind (fits_is ∙ ap (λ (from : DataType). listed from t) k.type_is ∙ typed) type_is null_is)))

-- a part that may be absent
module _ (child : Reader Expr) (bytes : List ℕ) (at : ℕ) (cols : List Column) {after : List ℕ} where
  pub optional_there : {r : RustResult FieldFound Refusal} (there : Bool) → there ≡ true → ReadGives bytes (child (drop at bytes) cols) r after
      → Gives (OptionalRead bytes after) (read_optional there child (drop at bytes) cols) r
  unfolding read_optional
  optional_there there e h =
      rw e (gives_map (child (drop at bytes) cols) (λ x. record { tree = present x.tree; seen = x.seen; rest = x.rest }) h
      (λ y x g. record {
        when_is = g.type_is;
        else_is = λ t. ap₂ (λ (n : Bool) (from : DataType). n || listed from t) g.null_is g.type_is;
        behind = record { rest_is = g.behind.rest_is; seen_are = g.behind.seen_are };
      }))

  pub optional_absent : (there : Bool) → there ≡ false → Marked cols after
      → Gives (OptionalRead bytes after) (read_optional there child (drop at bytes) cols) (Ok (record { result = Boolean; null = true; next = at }))
  unfolding read_optional
  optional_absent there e s =
      rw e (gives_read (record { tree = absent; seen = cols; rest = drop at bytes }) _ refl refl
      (record { when_is = refl; else_is = λ t. refl; behind = record { rest_is = refl; seen_are = s } }))

-- branches
module _ (child : Reader Expr) (bytes : List ℕ) (when : DataType) (earlier : Option DataType) where
  pub branches_none : (at count : ℕ) (cols : List Column) {after : List ℕ} {t : DataType} → count ≡ 0 → Marked cols after → t ≡ unwrap_or earlier Boolean
      → Gives (BranchesAre bytes when earlier after) (read_branches child count (drop at bytes) cols) (Ok (record { result = t; fits = true; next = at }))
  unfolding read_branches branches_typed type_of
  branches_none at count cols z s is =
      rw (z, is) (gives_read (record { tree = no_more; seen = cols; rest = drop at bytes }) _ refl refl
      (record { result_is = refl; fits_is = refl; behind = record { rest_is = refl; seen_are = s } }))

  pub branches_refused : (at count : ℕ) (cols : List Column) {w : RustResult FieldFound Refusal} {e : Refusal} {middle after : List ℕ} → (count ≡ 0 → ⊥)
      → ReadGives bytes (child (drop at bytes) cols) w middle → w ≡ Err e → Gives (BranchesAre bytes when earlier after) (read_branches child count (drop at bytes) cols) (Err e)
  unfolding read_branches
  branches_refused at zero cols z h is = absurd (z refl)
  branches_refused at (suc k) cols z h is = behind_refused (child (drop at bytes) cols) _ h is refl

  pub branches_give : (at count : ℕ) (cols : List Column) {w : RustResult FieldFound Refusal} (y : FieldFound) {middle : List ℕ} (r : RustResult BranchesRead Refusal) {after : List ℕ}
      → (count ≡ 0 → ⊥) → ReadGives bytes (child (drop at bytes) cols) w middle → w ≡ Ok y
      → ((x : Read Expr) → FieldRead bytes middle y x → Gives (BranchesAre bytes when earlier after) (read_then child x.tree (count - 1) x.rest x.seen) r)
      → Gives (BranchesAre bytes when earlier after) (read_branches child count (drop at bytes) cols) r
  unfolding read_branches read_then
  branches_give at zero cols y r z h is e = absurd (z refl)
  branches_give at (suc k) cols y {middle} r {after} z h is e =
      let back : suc k - 1 ≡ k = omega arith in
      behind_read (child (drop at bytes) cols) _ h is
      (subst (λ (c : ℕ). (x : Read Expr) → FieldRead bytes middle y x → Gives (BranchesAre bytes when earlier after) (read_then child x.tree c x.rest x.seen) r) back e)

  -- behind a WHEN that was read
  module _ (w : FieldFound) {middle : List ℕ} (x : Read Expr) (g : FieldRead bytes middle w x) (count : ℕ) {t : RustResult FieldFound Refusal} {late : List ℕ}
      (then_is : (met : List Column) → Marked met middle → ReadGives bytes (child (drop w.next bytes) met) t late) where
    then_read : ReadGives bytes (child x.rest x.seen) t late
    then_read = subst (λ (l : List ℕ). ReadGives bytes (child l x.seen) t late) (sym g.behind.rest_is) (then_is x.seen g.behind.seen_are)

    pub then_refused : {e : Refusal} {after : List ℕ} → t ≡ Err e → Gives (BranchesAre bytes when earlier after) (read_then child x.tree count x.rest x.seen) (Err e)
    unfolding read_then
    then_refused is = behind_refused (child x.rest x.seen) _ then_read is refl

    module _ (y : FieldFound) (is : t ≡ Ok y) (result : DataType) (result_is : result ≡ unwrap_or earlier y.result) {later : RustResult BranchesRead Refusal} {after : List ℕ}
        (rest : (met : List Column) → Marked met late → Gives (BranchesAre bytes when (Some result) after) (read_branches child count (drop y.next bytes) met) later) where
      later_read : (v : Read Expr) → FieldRead bytes late y v → Gives (BranchesAre bytes when (Some result) after) (read_branches child count v.rest v.seen) later
      later_read v k = subst (λ (l : List ℕ). Gives (BranchesAre bytes when (Some result) after) (read_branches child count l v.seen) later) (sym k.behind.rest_is) (rest v.seen k.behind.seen_are)

      pub later_refused : {e : Refusal} → later ≡ Err e → Gives (BranchesAre bytes when earlier after) (read_then child x.tree count x.rest x.seen) (Err e)
      unfolding read_then
      later_refused q = behind_read (child x.rest x.seen) _ then_read is (λ v k. behind_refused (read_branches child count v.rest v.seen) _ (later_read v k) q refl)

      pub then_gives : (z r : BranchesRead) → later ≡ Ok z → r ≡ branched w.result when y.result z
          → Gives (BranchesAre bytes when earlier after) (read_then child x.tree count x.rest x.seen) (Ok r)
      unfolding read_then branches_typed type_of
      then_gives z r there e =
          behind_read (child x.rest x.seen) _ then_read is
          (λ v k. behind_read (read_branches child count v.rest v.seen) _ (later_read v k) there
          (λ bs b. rw e (gives_read (record { tree = branch x.tree v.tree bs.tree; seen = bs.seen; rest = bs.rest }) _ refl refl
          (record {
            result_is = b.result_is ∙ result_is ∙ ap (unwrap_or earlier) k.type_is;
            fits_is = λ i. same_type (g.type_is i) when && same_type (k.type_is i) z.result && b.fits_is i;
            behind = record { rest_is = b.behind.rest_is; seen_are = b.behind.seen_are };
          }))))

-- base, branches and ELSE
module _ (child : Reader Expr) (bytes : List ℕ) (cols : List Column) (outer : List ℕ) (end flags count : ℕ) {base : RustResult FieldFound Refusal} {middle : List ℕ}
    (base_is : Gives (OptionalRead bytes middle) (read_optional (has_base flags) child (drop 2 bytes) cols) base) where
  abbrev PartsGive : RustResult FieldFound Refusal → List ℕ → Type 0
  PartsGive r after = ReadGives outer (read_parts child flags count (drop 2 bytes) cols (drop end outer)) r after

  pub parts_unbased : {e : Refusal} {after : List ℕ} → base ≡ Err e → PartsGive (Err e) after
  unfolding read_parts
  parts_unbased is = behind_refused (read_optional (has_base flags) child (drop 2 bytes) cols) _ base_is is refl

  module _ (b : FieldFound) (is : base ≡ Ok b) {branches : RustResult BranchesRead Refusal} {late : List ℕ}
      (branches_are : (met : List Column) → Marked met middle → Gives (BranchesAre bytes b.result None late) (read_branches child count (drop b.next bytes) met) branches) where
    branches_read : (x : Read Optional) → OptionalRead bytes middle b x → Gives (BranchesAre bytes b.result None late) (read_branches child count x.rest x.seen) branches
    branches_read x g =
        subst (λ (l : List ℕ). Gives (BranchesAre bytes b.result None late) (read_branches child count l x.seen) branches)
        (sym g.behind.rest_is) (branches_are x.seen g.behind.seen_are)

    pub parts_unbranched : {e : Refusal} {after : List ℕ} → branches ≡ Err e → PartsGive (Err e) after
    unfolding read_parts
    parts_unbranched q =
        behind_read (read_optional (has_base flags) child (drop 2 bytes) cols) _ base_is is
        (λ x g. behind_refused (read_branches child count x.rest x.seen) _ (branches_read x g) q refl)

    module _ (bs : BranchesRead) (there : branches ≡ Ok bs) {last : RustResult FieldFound Refusal} {after : List ℕ}
        (last_is : (met : List Column) → Marked met late → Gives (OptionalRead bytes after) (read_optional (has_else flags) child (drop bs.next bytes) met) last) where
      last_read : (y : Read Branches) → BranchesAre bytes b.result None late bs y → Gives (OptionalRead bytes after) (read_optional (has_else flags) child y.rest y.seen) last
      last_read y k =
          subst (λ (l : List ℕ). Gives (OptionalRead bytes after) (read_optional (has_else flags) child l y.seen) last)
          (sym k.behind.rest_is) (last_is y.seen k.behind.seen_are)

      pub parts_unended : {e : Refusal} → last ≡ Err e → PartsGive (Err e) after
      unfolding read_parts
      parts_unended q =
          behind_read (read_optional (has_base flags) child (drop 2 bytes) cols) _ base_is is
          (λ x g. behind_read (read_branches child count x.rest x.seen) _ (branches_read x g) there
          (λ y k. behind_refused (read_optional (has_else flags) child y.rest y.seen) _ (last_read y k) q refl))

      pub parts_give : (e : FieldFound) (fits : Bool) {r : RustResult FieldFound Refusal} → last ≡ Ok e → fits ≡ (bs.fits && (e.null || listed e.result bs.result))
          → r ≡ closed e.next (length bytes) fits bs.result end → PartsGive r after
      unfolding read_parts node_typed type_of
      parts_give e fits ended fits_is q =
          behind_read (read_optional (has_base flags) child (drop 2 bytes) cols) _ base_is is
          (λ x g. behind_read (read_branches child count x.rest x.seen) _ (branches_read x g) there
          (λ y k. behind_read (read_optional (has_else flags) child y.rest y.seen) _ (last_read y k) ended
          (λ u m. rw q (close_gives (case_when x.tree y.tree) bytes outer after e.next (length bytes) fits bs.result end refl u
          m.behind (fits_is ∙ case_typed x g y k u m) k.result_is refl))))
        where
          case_typed : (x : Read Optional) → OptionalRead bytes middle b x → (y : Read Branches) → BranchesAre bytes b.result None late bs y → (u : Read Optional) → OptionalRead bytes after e u
              → (bs.fits && (e.null || listed e.result bs.result)) ≡ (branches_typed (when_type x.tree) (result_type y.tree) y.tree && else_typed (result_type y.tree) u.tree)
          case_typed x g y k u m =
              ap₂ (λ (p q : Bool). p && q)
              (k.fits_is ∙ ap₂ (λ (w t : DataType). branches_typed w t y.tree) g.when_is k.result_is)
              (m.else_is bs.result ∙ ap (λ (t : DataType). else_typed t u.tree) k.result_is)

-- a CASE
module _ (child : ℕ → Reader Expr) (cols : List Column) (outer : List ℕ) (end : ℕ) (after : List ℕ) where
  abbrev CaseGives : ℕ → List ℕ → RustResult FieldFound Refusal → Type 0
  CaseGives cases content r = ReadGives outer (read_limited_case child cases content cols (drop end outer)) r after

  pub case_none : (cases : ℕ) (content : List ℕ) → cases ≡ 0 → CaseGives cases content (Err RuleDepth)
  unfolding read_limited_case
  case_none zero content z = gives_refusal 4 refl refl
  case_none (suc k) content z = absurd (omega arith)

  -- with a CASE left
  left : (cases : ℕ) (content : List ℕ) (r : RustResult FieldFound Refusal) → (cases ≡ 0 → ⊥) → ReadGives outer (read_case (child (cases - 1)) content cols (drop end outer)) r after → CaseGives cases content r
  unfolding read_limited_case
  left zero content r z g = absurd (z refl)
  left (suc k) content r z g =
      let back : suc k - 1 ≡ k = omega arith in
      subst (λ (n : ℕ). ReadGives outer (read_case (child n) content cols (drop end outer)) r after) back g

  module _ (cases : ℕ) (some : cases ≡ 0 → ⊥) where
    pub case_short : (content : List ℕ) → length content < 2 → CaseGives cases content (Err RuleContent)
    unfolding read_case
    case_short [] h = left cases [] _ some (gives_refusal 3 refl refl)
    case_short (a ∷ []) h = left cases (a ∷ []) _ some (gives_refusal 3 refl refl)
    case_short (a ∷ b ∷ l) h = absurd (omega arith)

    pub case_flags : (content : List ℕ) → 2 ≤ length content → 3 < byte content 0 → CaseGives cases content (Err RuleContent)
    unfolding read_case
    case_flags [] h p = absurd (omega arith)
    case_flags (a ∷ []) h p = absurd (omega arith)
    case_flags (a ∷ b ∷ l) h p = left cases (a ∷ b ∷ l) _ some (on_refused (require (leb a 3) 3) _ 3 (ap (λ (x : Bool). require x 3) (lt-leb _ _ p)) refl)

    pub case_unbranched : (content : List ℕ) → 2 ≤ length content → byte content 0 ≤ 3 → byte content 1 ≡ 0 → CaseGives cases content (Err CaseEmpty)
    unfolding read_case
    case_unbranched [] h p q = absurd (omega arith)
    case_unbranched (a ∷ []) h p q = absurd (omega arith)
    case_unbranched (a ∷ b ∷ l) h p q =
        let few : b ≤ 0 = omega arith in
        left cases (a ∷ b ∷ l) _ some
        (on_ok (require (leb a 3) 3) _ tt (ap (λ (x : Bool). require x 3) (le-leb _ _ p))
        (on_refused (require (ltb 0 b) 5) _ 5 (ap (λ (x : Bool). require x 5) (le-ltb _ _ few)) refl))

    pub case_many : (content : List ℕ) → 2 ≤ length content → byte content 0 ≤ 3 → (byte content 1 ≡ 0 → ⊥) → 32 < byte content 1 → CaseGives cases content (Err CaseBranches)
    unfolding read_case
    case_many [] h p n q = absurd (omega arith)
    case_many (a ∷ []) h p n q = absurd (omega arith)
    case_many (a ∷ b ∷ l) h p n q =
        let more : 0 < b = omega arith in
        left cases (a ∷ b ∷ l) _ some
        (on_ok (require (leb a 3) 3) _ tt (ap (λ (x : Bool). require x 3) (le-leb _ _ p))
        (on_ok (require (ltb 0 b) 5) _ tt (ap (λ (x : Bool). require x 5) (lt-ltb _ _ more))
        (on_refused (require (leb b 32) 6) _ 6 (ap (λ (x : Bool). require x 6) (lt-leb _ _ q)) refl)))

    pub case_gives : (content : List ℕ) {r : RustResult FieldFound Refusal} → 2 ≤ length content → byte content 0 ≤ 3 → (byte content 1 ≡ 0 → ⊥) → byte content 1 ≤ 32
        → ReadGives outer (read_parts (child (cases - 1)) (byte content 0) (byte content 1) (drop 2 content) cols (drop end outer)) r after → CaseGives cases content r
    unfolding read_case
    case_gives [] h p n q g = absurd (omega arith)
    case_gives (a ∷ []) h p n q g = absurd (omega arith)
    case_gives (a ∷ b ∷ l) h p n q g =
        let more : 0 < b = omega arith in
        left cases (a ∷ b ∷ l) _ some
        (on_ok (require (leb a 3) 3) _ tt (ap (λ (x : Bool). require x 3) (le-leb _ _ p))
        (on_ok (require (ltb 0 b) 5) _ tt (ap (λ (x : Bool). require x 5) (lt-ltb _ _ more))
        (on_ok (require (leb b 32) 6) _ tt (ap (λ (x : Bool). require x 6) (le-leb _ _ q)) g)))

-- a field by its tag
tagged_kind : (child : ℕ → Reader Expr) (cases : ℕ) (k : Kind) (f : Field) (cols : List Column) → f.tag ≡ tag_of k → read_tagged child cases f cols ≡ read_kind child cases k f cols
unfolding read_tagged read_kind
tagged_kind child cases a_column f cols e = rw e refl
tagged_kind child cases a_literal f cols e = rw e refl
tagged_kind child cases a_not f cols e = rw e refl
tagged_kind child cases a_negative f cols e = rw e refl
tagged_kind child cases an_is_not_null f cols e = rw e refl
tagged_kind child cases a_cast f cols e = rw e refl
tagged_kind child cases a_try_cast f cols e = rw e refl
tagged_kind child cases an_equal f cols e = rw e refl
tagged_kind child cases a_less f cols e = rw e refl
tagged_kind child cases a_case f cols e = rw e refl

-- tags from 16 to 25 are known, and no others
kind_at : (d : ℕ) → d < 10 → (k : Kind) × (kind_of (16 + d) ≡ ok k) × (16 + d ≡ tag_of k)
unfolding kind_among
kind_at zero h = (a_column, refl, refl)
kind_at (suc zero) h = (a_literal, refl, refl)
kind_at (suc (suc zero)) h = (a_not, refl, refl)
kind_at (suc (suc (suc zero))) h = (a_negative, refl, refl)
kind_at (suc (suc (suc (suc zero)))) h = (an_is_not_null, refl, refl)
kind_at (suc (suc (suc (suc (suc zero))))) h = (a_cast, refl, refl)
kind_at (suc (suc (suc (suc (suc (suc zero)))))) h = (a_try_cast, refl, refl)
kind_at (suc (suc (suc (suc (suc (suc (suc zero))))))) h = (an_equal, refl, refl)
kind_at (suc (suc (suc (suc (suc (suc (suc (suc zero)))))))) h = (a_less, refl, refl)
kind_at (suc (suc (suc (suc (suc (suc (suc (suc (suc zero))))))))) h = (a_case, refl, refl)
kind_at (suc (suc (suc (suc (suc (suc (suc (suc (suc (suc d)))))))))) h = absurd (omega arith)

known_tag : (tag : ℕ) → 16 ≤ tag → tag ≤ 25 → (k : Kind) × (kind_of tag ≡ ok k) × (tag ≡ tag_of k)
known_tag tag low high =
    let is : 16 + (tag - 16) ≡ tag = omega arith in
    subst (λ (n : ℕ). (k : Kind) × (kind_of n ≡ ok k) × (n ≡ tag_of k)) is (kind_at (tag - 16) (omega arith))

tag_range : (k : Kind) → (16 ≤ tag_of k) × (tag_of k ≤ 25)
tag_range a_column = (omega arith, omega arith)
tag_range a_literal = (omega arith, omega arith)
tag_range a_not = (omega arith, omega arith)
tag_range a_negative = (omega arith, omega arith)
tag_range an_is_not_null = (omega arith, omega arith)
tag_range a_cast = (omega arith, omega arith)
tag_range a_try_cast = (omega arith, omega arith)
tag_range an_equal = (omega arith, omega arith)
tag_range a_less = (omega arith, omega arith)
tag_range a_case = (omega arith, omega arith)

none_among : (ks : List Kind) (tag : ℕ) → ((k : Kind) → tag ≡ tag_of k → ⊥) → kind_among ks tag ≡ refused 3
unfolding kind_among
none_among [] tag h = refl
none_among (k ∷ ks) tag h = rw (ne_eqb tag (tag_of k) (h k)) (none_among ks tag h)

module _ (child : ℕ → Reader Expr) (cases tag : ℕ) (content : List ℕ) (end : ℕ) (cols : List Column) (outer : List ℕ) (r : RustResult FieldFound Refusal) (after : List ℕ) where
  abbrev KindGives : Type 0
  KindGives = ReadGives outer (read_tagged child cases (record { tag = tag; content = content; rest = drop end outer }) cols) r after

  pub kind_column : tag ≡ 16 → ReadGives outer (read_column (record { tag = 16; content = content; rest = drop end outer }) cols) r after → KindGives
  unfolding read_tagged
  kind_column e g = rw e g

  pub kind_literal : tag ≡ 17 → ReadGives outer (read_literal (record { tag = 17; content = content; rest = drop end outer }) cols) r after → KindGives
  unfolding read_tagged
  kind_literal e g = rw e g

  pub kind_unary : 17 < tag → tag < 21 → ReadGives outer (read_unary (unary_of tag) (child cases) content cols (drop end outer)) r after → KindGives
  unfolding read_tagged
  kind_unary l h g = rw (ne_eqb tag 16 (λ e. omega arith), ne_eqb tag 17 (λ e. omega arith), lt-ltb _ _ l, lt-ltb _ _ h) g

  pub kind_cast : 20 < tag → tag < 23 → ReadGives outer (read_cast (cast_of tag) (child cases) content cols (drop end outer)) r after → KindGives
  unfolding read_tagged
  kind_cast l h g =
      let low : 17 < tag = omega arith in
      rw (ne_eqb tag 16 (λ e. omega arith), ne_eqb tag 17 (λ e. omega arith), lt-ltb _ _ low, le-ltb tag 21 (omega arith), lt-ltb _ _ l, lt-ltb _ _ h) g

  pub kind_binary : 22 < tag → tag < 25 → ReadGives outer (read_binary (binary_of tag) (child cases) content cols (drop end outer)) r after → KindGives
  unfolding read_tagged
  kind_binary l h g =
      let low : 17 < tag = omega arith in
      let mid : 20 < tag = omega arith in
      rw (ne_eqb tag 16 (λ e. omega arith), ne_eqb tag 17 (λ e. omega arith), lt-ltb _ _ low, le-ltb tag 21 (omega arith), lt-ltb _ _ mid, le-ltb tag 23 (omega arith), lt-ltb _ _ l, lt-ltb _ _ h) g

  pub kind_case : ((tag < 16) ⊎ (24 < tag)) → ReadGives outer (read_limited_case child cases content cols (drop end outer)) r after → KindGives
  unfolding read_tagged
  kind_case (inl l) g = rw (ne_eqb tag 16 (λ e. omega arith), ne_eqb tag 17 (λ e. omega arith), le-ltb 17 tag (omega arith), le-ltb 20 tag (omega arith), le-ltb 22 tag (omega arith)) g
  kind_case (inr h) g =
      let low : 17 < tag = omega arith in
      let mid : 20 < tag = omega arith in
      let high : 22 < tag = omega arith in
      rw (ne_eqb tag 16 (λ e. omega arith), ne_eqb tag 17 (λ e. omega arith), lt-ltb _ _ low, le-ltb tag 21 (omega arith), lt-ltb _ _ mid, le-ltb tag 23 (omega arith), lt-ltb _ _ high, le-ltb tag 25 (omega arith)) g

-- a field
module _ (cases : ℕ) (s : List ℕ) (at : ℕ) (cols : List Column) (after : List ℕ) where
  abbrev FieldGives : ℕ → RustResult FieldFound Refusal → Type 0
  FieldGives depth r = ReadGives s (read_field depth cases (drop at s) cols) r after

  pub field_cut : (depth : ℕ) → header_at s at ≡ None → FieldGives depth (Err RuleCut)
  unfolding read_field
  field_cut zero h = on_refused (header 2 (drop at s)) _ 2 (place_cut s at h 2) refl
  field_cut (suc d) h = on_refused (header 2 (drop at s)) _ 2 (place_cut s at h 2) refl

  module _ (p : FieldPlace) (h : header_at s at ≡ Some p) where
    abbrev field : Field
    field = record { tag = p.tag; content = part s p.start p.end; rest = drop p.end s }

    found : header 2 (drop at s) ≡ ok field
    found = (place_found s at p h).reads 2

    pub field_unknown : (depth : ℕ) → ((k : Kind) → p.tag ≡ tag_of k → ⊥) → FieldGives depth (Err RuleContent)
    unfolding read_field
    field_unknown zero n = on_ok (header 2 (drop at s)) _ field found (on_refused (kind_of p.tag) _ 3 (none_among kinds p.tag n) refl)
    field_unknown (suc d) n = on_ok (header 2 (drop at s)) _ field found (on_refused (kind_of p.tag) _ 3 (none_among kinds p.tag n) refl)

    module _ (low : 16 ≤ p.tag) (high : p.tag ≤ 25) where
      pub field_deep : (depth : ℕ) → depth ≡ 0 → FieldGives depth (Err RuleDepth)
      unfolding read_field
      field_deep zero z =
          let (k, known, is) = known_tag p.tag low high in
          on_ok (header 2 (drop at s)) _ field found (on_ok (kind_of p.tag) _ k known (gives_refusal 4 refl refl))
      field_deep (suc d) z = absurd (omega arith)

      -- its content as the code takes it
      pub field_gives : (depth : ℕ) (content : List ℕ) {r : RustResult FieldFound Refusal} → (depth ≡ 0 → ⊥) → content ≡ part s p.start p.end
          → ReadGives s (read_tagged (read_field (depth - 1)) cases (record { tag = p.tag; content = content; rest = drop p.end s }) cols) r after → FieldGives depth r
      unfolding read_field
      field_gives zero content z q g = absurd (z refl)
      field_gives (suc d) content {r} z q g =
          let (k, known, is) = known_tag p.tag low high in
          let back : suc d - 1 ≡ d = omega arith in
          let same = ap₂ (λ (n : ℕ) (l : List ℕ). read_tagged (read_field n) cases (record { tag = p.tag; content = l; rest = drop p.end s }) cols) back q
          ∙ tagged_kind (read_field d) cases k field cols is in
          on_ok (header 2 (drop at s)) _ field found
          (on_ok (kind_of p.tag) _ k known (subst (λ (m : Result (Read Expr)). ReadGives s m r after) same g))

-- a tag outside of the range is of no kind
pub tag_other : (tag : ℕ) → ((tag < 16) ⊎ (16 ≤ tag × 25 < tag)) → (k : Kind) → tag ≡ tag_of k → ⊥
tag_other tag (inl h) k e = let b = tag_range k in omega (arith, b.0)
tag_other tag (inr h) k e = let b = tag_range k in omega (arith, b.1)

-- the root
module _ (rule : List ℕ) {after : List ℕ} where
  pub root_cut : header_at rule 0 ≡ None → ReadGives rule (read_root rule) (Err RuleCut) after
  unfolding read_root
  root_cut h = on_refused (header 2 rule) _ 2 (place_cut rule 0 h 2) refl

  module _ (p : FieldPlace) (h : header_at rule 0 ≡ Some p) where
    pub root_other : (p.tag ≡ 25 → ⊥) → ReadGives rule (read_root rule) (Err RuleContent) after
    unfolding read_root
    root_other n =
        on_ok (header 2 rule) _ _ ((place_found rule 0 p h).reads 2)
        (on_refused (require (eqb p.tag 25) 3) _ 3 (ap (λ (x : Bool). require x 3) (ne_eqb _ _ n)) refl)

    pub root_gives : {r : RustResult FieldFound Refusal} → p.tag ≡ 25 → ReadGives rule (read_field 8 3 rule []) r after → ReadGives rule (read_root rule) r after
    unfolding read_root
    root_gives n g =
        on_ok (header 2 rule) _ _ ((place_found rule 0 p h).reads 2)
        (on_ok (require (eqb p.tag 25) 3) _ tt (ap (λ (x : Bool). require x 3) (eq-eqb _ _ n)) g)

-- the whole rule
module _ (rule : List ℕ) where
  pub tree_empty : length rule ≡ 0 → TreeGives (read_tree rule) (Err RuleSize)
  unfolding read_tree
  tree_empty h = on_refused (require (ltb 0 (length rule) && leb (length rule) 4096) 1) _ 1 (rw h refl) refl

  module _ (some : length rule ≡ 0 → ⊥) where
    more : ltb 0 (length rule) ≡ true
    more = lt-ltb 0 (length rule) (omega (arith, some))

    pub tree_long : 4096 < length rule → TreeGives (read_tree rule) (Err RuleSize)
    unfolding read_tree
    tree_long h = on_refused (require (ltb 0 (length rule) && leb (length rule) 4096) 1) _ 1 (rw (more, lt-leb _ _ h) refl) refl

    -- its root, and the marks behind it
    module _ (few : length rule ≤ 4096) {root : RustResult FieldFound Refusal} (after : List ℕ) (g : ReadGives rule (read_root rule) root after) where
      sized : require (ltb 0 (length rule) && leb (length rule) 4096) 1 ≡ ok tt
      sized = rw (more, le-leb _ _ few) refl

      pub tree_refused : {e : Refusal} → root ≡ Err e → TreeGives (read_tree rule) (Err e)
      unfolding read_tree
      tree_refused is = on_ok (require (ltb 0 (length rule) && leb (length rule) 4096) 1) _ tt sized (behind_refused (read_root rule) _ g is refl)

      module _ (a : FieldFound) (is : root ≡ Ok a) where
        pub tree_left : a.next < length rule → TreeGives (read_tree rule) (Err RuleContent)
        unfolding read_tree
        tree_left h =
            on_ok (require (ltb 0 (length rule) && leb (length rule) 4096) 1) _ tt sized
            (behind_read (read_root rule) _ g is
            (λ x k. let left : is_empty x.rest ≡ false = ap is_empty k.behind.rest_is ∙ some_drop a.next rule h in
            on_refused (require (is_empty x.rest) 3) _ 3 (ap (λ (b : Bool). require b 3) left) refl))

        pub tree_gives : length rule ≤ a.next → TreeGives (read_tree rule) (Ok (record { result = a.result; seen = record { marks = after } }))
        unfolding read_tree
        tree_gives h =
            on_ok (require (ltb 0 (length rule) && leb (length rule) 4096) 1) _ tt sized
            (behind_read (read_root rule) _ g is
            (λ x k. let none : is_empty x.rest ≡ true = ap is_empty k.behind.rest_is ∙ empty_drop a.next rule h in
            on_ok (require (is_empty x.rest) 3) _ tt (ap (λ (b : Bool). require b 3) none)
            (gives_read x _ refl refl (record { type_is = k.type_is; seen_are = k.behind.seen_are }))))
