-- A rule that is read is a node of its tree. Assumes nothing.
use mathlib.Core.Path.{◌≡◌, refl, sym, subst, ◌∙◌}
use mathlib.Core.Bool.{Bool, true, false, not}
use mathlib.Core.List.{List, []}
use Prim.Native.Nat.{ℕ, zero, suc, ◌-◌, ◌≤◌, max}
use native.Mathlib.Omega.{arith}
use lib.ListN.{length, drop}
use lib.Seq.{take_all}
use Rattle.layout.specs.Result.{ok}
use Rattle.layout.specs.Bytes.{Bytes}
use Rattle.layout.specs.Field.{Field}
use Rattle.layout.proofs.ResultLaws.{ok_injective, bind_ok, require_then}
use Rattle.rule.specs.Tree.{Column, Expr, negation, negative, is_not_null, cast, try_cast, equal, less}
use Rattle.rule.specs.TreeBytes.{bytes_of}
use Rattle.rule.specs.Constant.{constant_fails}
use Rattle.rule.specs.Node.{NodeAt, depth_of, branches_depth, optional_depth}
use Rattle.rule.specs.Allowed.{cases_of, branches_cases, optional_cases}
use Rattle.rule.specs.Reading.{Read, Reader, Kind, a_column, a_literal, a_not, a_negative, an_is_not_null, a_cast, a_try_cast, an_equal, a_less, a_case, read_unary, read_binary, read_case, read_branches, read_optional, has_base, has_else, read_kind, read_field, depth_most, cases_most, read_tree, read_rule}
use Rattle.rule.proofs.ReadBytes.{alone, field_bytes_lem}
use Rattle.rule.proofs.ReadTyped.{field_good}
use Rattle.rule.proofs.ReadInversions.{column_inv, literal_inv, unary_inv, cast_inv, binary_inv, branches_inv, optional_inv, parts_inv, case_inv, limited_case_inv, field_inv, root_inv, tree_inv, rule_inv}

-- a reader that reads trees that nest at most so deep, with at most so many CASEs on a path
abbrev Shallow : {A : Type 0} → (A → ℕ) → (A → ℕ) → ℕ → ℕ → Reader A → Type 0
Shallow depth cases d c read = (bytes : List ℕ) (seen : List Column) (r : Read _) → read bytes seen ≡ ok r → (depth r.tree ≤ d) × (cases r.tree ≤ c)

-- a tree that was read is such
abbrev Within : ℕ → ℕ → Read Expr → Type 0
Within d c x = (depth_of x.tree ≤ d) × (cases_of x.tree ≤ c)

-- branches and parts that may be absent
module _ (d c : ℕ) (child : Reader Expr) (ih : Shallow depth_of cases_of d c child) where
  branches_shallow : (n : ℕ) → Shallow branches_depth branches_cases d c (read_branches child n)
  unfolding read_branches depth_of cases_of
  branches_shallow zero bytes seen r p = subst (λ (x : Read _). (branches_depth x.tree ≤ d) × (branches_cases x.tree ≤ c)) (ok_injective p) (omega arith, omega arith)
  branches_shallow (suc n) bytes seen r p =
      let (w, t, bs, gotW, gotT, gotBs, is) = branches_inv child n bytes seen r p in
      let a = ih bytes seen w gotW in
      let b = ih w.rest w.seen t gotT in
      let l = branches_shallow n t.rest t.seen bs gotBs in
      subst (λ (x : Read _). (branches_depth x.tree ≤ d) × (branches_cases x.tree ≤ c)) (sym is) (omega (arith, a.0, b.0, l.0), omega (arith, a.1, b.1, l.1))

  optional_shallow : (flag : Bool) → Shallow optional_depth optional_cases d c (read_optional flag child)
  unfolding read_optional depth_of cases_of
  optional_shallow false bytes seen r p = subst (λ (x : Read _). (optional_depth x.tree ≤ d) × (optional_cases x.tree ≤ c)) (ok_injective p) (omega arith, omega arith)
  optional_shallow true bytes seen r p =
      let (e, got, is) = optional_inv child bytes seen r p in
      subst (λ (x : Read _). (optional_depth x.tree ≤ d) × (optional_cases x.tree ≤ c)) (sym is) (ih bytes seen e got)

  -- nodes of one child and of two
  unary_shallow : (node : Expr → Expr) → ((e : Expr) → depth_of (node e) ≡ suc (depth_of e)) → ((e : Expr) → cases_of (node e) ≡ cases_of e)
      → (content : List ℕ) (seen : List Column) (rest : List ℕ) (r : Read Expr) → read_unary node child content seen rest ≡ ok r → Within (suc d) c r
  unary_shallow node one same content seen rest r p =
      let (a, got, end, typed, is) = unary_inv node child content seen rest r p in
      let i = ih content seen a got in
      subst (Within (suc d) c) (sym is) (omega (arith, one a.tree, i.0), omega (arith, same a.tree, i.1))

  binary_shallow : (node : Expr → Expr → Expr) → ((a b : Expr) → depth_of (node a b) ≡ suc (max (depth_of a) (depth_of b))) → ((a b : Expr) → cases_of (node a b) ≡ max (cases_of a) (cases_of b))
      → (content : List ℕ) (seen : List Column) (rest : List ℕ) (r : Read Expr) → read_binary node child content seen rest ≡ ok r → Within (suc d) c r
  binary_shallow node two most content seen rest r p =
      let (a, b, gotA, gotB, end, typed, is) = binary_inv node child content seen rest r p in
      let i = ih content seen a gotA in
      let j = ih a.rest a.seen b gotB in
      subst (Within (suc d) c) (sym is) (omega (arith, two a.tree b.tree, i.0, j.0), omega (arith, most a.tree b.tree, i.1, j.1))

  -- a CASE
  case_shallow : (content : List ℕ) (seen : List Column) (rest : List ℕ) (r : Read Expr) → read_case child content seen rest ≡ ok r → Within (suc d) (suc c) r
  unfolding depth_of cases_of
  case_shallow content seen rest r p =
      let (flags, count, same, most, some, few, got) = case_inv child content seen rest r p in
      let (b, bs, e, gotB, gotBs, gotE, end, typed, is) = parts_inv child flags count (drop 2 content) seen rest r got in
      let i = optional_shallow (has_base flags) (drop 2 content) seen b gotB in
      let j = branches_shallow count b.rest b.seen bs gotBs in
      let k = optional_shallow (has_else flags) bs.rest bs.seen e gotE in
      subst (Within (suc d) (suc c)) (sym is) (omega (arith, i.0, j.0, k.0), omega (arith, i.1, j.1, k.1))

-- a field by its kind
kind_shallow : (d : ℕ) (child : ℕ → Reader Expr) → ((n : ℕ) → Shallow depth_of cases_of d n (child n)) → (cases : ℕ) (k : Kind) (f : Field) (seen : List Column) (r : Read Expr)
    → read_kind child cases k f seen ≡ ok r → Within (suc d) cases r
unfolding read_kind depth_of cases_of
kind_shallow d child ih cases a_column f seen r p = let (c, is, unlike, gives) = column_inv f seen r p in subst (Within (suc d) cases) (sym gives) (omega arith, omega arith)
kind_shallow d child ih cases a_literal f seen r p = let (t, m, v, is, got, gives) = literal_inv f seen r p in subst (Within (suc d) cases) (sym gives) (omega arith, omega arith)
kind_shallow d child ih cases a_not f seen r p = unary_shallow d cases (child cases) (ih cases) negation (λ e. refl) (λ e. refl) f.content seen f.rest r p
kind_shallow d child ih cases a_negative f seen r p = unary_shallow d cases (child cases) (ih cases) negative (λ e. refl) (λ e. refl) f.content seen f.rest r p
kind_shallow d child ih cases an_is_not_null f seen r p = unary_shallow d cases (child cases) (ih cases) is_not_null (λ e. refl) (λ e. refl) f.content seen f.rest r p
kind_shallow d child ih cases a_cast f seen r p =
    let (t, is, got) = cast_inv cast (child cases) f.content seen f.rest r p in
    unary_shallow d cases (child cases) (ih cases) (cast t) (λ e. refl) (λ e. refl) (drop 1 f.content) seen f.rest r got
kind_shallow d child ih cases a_try_cast f seen r p =
    let (t, is, got) = cast_inv try_cast (child cases) f.content seen f.rest r p in
    unary_shallow d cases (child cases) (ih cases) (try_cast t) (λ e. refl) (λ e. refl) (drop 1 f.content) seen f.rest r got
kind_shallow d child ih cases an_equal f seen r p = binary_shallow d cases (child cases) (ih cases) equal (λ a b. refl) (λ a b. refl) f.content seen f.rest r p
kind_shallow d child ih cases a_less f seen r p = binary_shallow d cases (child cases) (ih cases) less (λ a b. refl) (λ a b. refl) f.content seen f.rest r p
kind_shallow d child ih cases a_case f seen r p =
    let (n, is, got) = limited_case_inv child cases f.content seen f.rest r p in
    subst (λ (m : ℕ). Within (suc d) m r) (sym is) (case_shallow d n (child n) (ih n) f.content seen f.rest r got)

-- a field nests at most as deep as it may, and has at most as many CASEs on a path
field_shallow : (depth cases : ℕ) → Shallow depth_of cases_of depth cases (read_field depth cases)
field_shallow zero cases bytes seen r p = let (d, f, k, deep, head, tag, got) = field_inv zero cases bytes seen r p in absurd (omega arith)
field_shallow (suc depth) cases bytes seen r p =
    let (d, f, k, deep, head, tag, got) = field_inv (suc depth) cases bytes seen r p in
    let e : d ≡ depth = omega arith in
    kind_shallow depth (read_field depth) (λ n. field_shallow depth n) cases k f seen r (subst (λ (n : ℕ). read_kind (read_field n) cases k f seen ≡ ok r) e got)

-- a rule that is read whole, but for its constant casts, is a node
pub read_node : (rule : List ℕ) (r : Read Expr) → Bytes rule → read_tree rule ≡ ok r → NodeAt rule 0 (length rule) r.tree 8
read_node rule r b p =
    let (some, most, root, end) = tree_inv rule r p in
    let (f, head, tag, got) = root_inv rule r root in
    record {
      all_bytes = b;
      few = most;
      ordered = omega arith;
      inside = omega arith;
      is = take_all (length rule - 0) rule (omega arith) ∙ alone rule (bytes_of r.tree) r.rest (field_bytes_lem depth_most cases_most rule [] r b got).0 end;
      deep = (field_shallow depth_most cases_most rule [] r got).0;
      formed = (field_good depth_most cases_most rule [] r b got).0;
    }

-- an accepted rule is a node
pub accepted_node : (rule : List ℕ) (e : Expr) → Bytes rule → read_rule rule ≡ ok e → NodeAt rule 0 (length rule) e 8
unfolding read_rule
accepted_node rule e b p =
    let r = bind_ok (read_tree rule) _ e p in
    let c = require_then (not (constant_fails r.0.tree)) 8 (λ _. ok r.0.tree) e r.2 in
    subst (λ (x : Expr). NodeAt rule 0 (length rule) x 8) (ok_injective c.1) (read_node rule r.0 b r.1)

-- and has at most so many CASEs on a path
pub accepted_cases : (rule : List ℕ) (e : Expr) → read_rule rule ≡ ok e → cases_of e ≤ cases_most
accepted_cases rule e p =
    let (x, some, most, root, end, fine, is) = rule_inv rule e p in
    let (f, head, tag, got) = root_inv rule x root in
    subst (λ (t : Expr). cases_of t ≤ cases_most) (sym is) (field_shallow depth_most cases_most rule [] x got).1
