-- A rule that is read is the bytes of its tree. Assumes nothing.
use mathlib.Core.Path.{◌≡◌, refl, ap, ap₂, sym, subst, ◌∙◌}
use mathlib.Core.Bool.{Bool, true, false}
use mathlib.Core.List.{List, [], ◌∷◌, ◌++◌, append-nil, append_assoc}
use Prim.Native.Nat.{ℕ, zero, suc, ◌≤◌}
use native.Mathlib.Omega.{arith}
use lib.ListN.{length, drop}
use borrow.Author.Tests.{eqb-true}
use Rattle.layout.specs.Result.{ok}
use Rattle.layout.specs.Bytes.{Bytes, byte, number, number_bytes}
use Rattle.layout.specs.Field.{Field, field_bytes}
use Rattle.layout.proofs.ResultLaws.{ok_injective, bind_ok, require_then}
use Rattle.layout.proofs.BytesLaws.{bytes_drop, number_bytes_number}
use Rattle.layout.proofs.FieldLaws.{header_bytes, header_bytes_parts}
use Rattle.scalar.specs.declared.types.DataType.{DataType}
use Rattle.scalar.specs.declared.types.DataType.TheVariants.{Boolean, Int32, Int64, Float64, Utf8}
use Rattle.scalar.specs.Types.{type_number, mark_number, mark_numbered}
use Rattle.scalar.specs.Entry.{Entry, int32, int64, float64, is_null}
use Rattle.scalar.proofs.TypeLaws.{mark_numbered_ok}
use Rattle.rule.specs.Tree.{Column, Expr, column, literal, negation, negative, is_not_null, cast, try_cast, equal, less, case_when, Branches, Optional, branch_count}
use Rattle.rule.specs.TreeBytes.{value_bytes, is_present, flags_of, bytes_of, branches_bytes, optional_bytes}
use Rattle.rule.specs.Reading.{Read, Reader, Kind, a_column, a_literal, a_not, a_negative, an_is_not_null, a_cast, a_try_cast, an_equal, a_less, a_case, tag_of, read_column, number_of, literal_value, marked_value, read_literal, read_unary, read_cast, read_binary, read_branches, read_optional, has_base, has_else, read_parts, read_case, read_limited_case, read_kind, read_field, depth_most, cases_most, read_rule}
use Rattle.rule.proofs.ReadInversions.{is_empty_true, column_inv, number_of_inv, literal_inv, unary_inv, cast_inv, binary_inv, branches_inv, branches_count, optional_inv, parts_inv, case_inv, limited_case_inv, field_inv, root_inv, rule_inv}

-- what a reader takes from the front of bytes is the bytes of the tree that it gives
abbrev pub Faithful : Reader Expr → Type 0
Faithful child =
    (bytes : List ℕ) (seen : List Column) (r : Read Expr) → Bytes bytes → child bytes seen ≡ ok r
    → (bytes ≡ bytes_of r.tree ++ r.rest) × Bytes r.rest

-- a field's content is all that its tree has behind the header
abbrev Closed : ℕ → List ℕ → List ℕ → Read Expr → Type 0
Closed tag content rest r = (field_bytes tag content ≡ bytes_of r.tree) × (r.rest ≡ rest)

-- a node that closed at its content
closed : (tag : ℕ) (content rest : List ℕ) (seen : List Column) (e : Expr) (r : Read Expr) → field_bytes tag content ≡ bytes_of e
    → r ≡ record { tree = e; seen = seen; rest = rest } → Closed tag content rest r
closed tag content rest seen e r p q = (p ∙ ap (λ (x : Read Expr). bytes_of x.tree) (sym q), ap (λ (x : Read Expr). x.rest) q)

-- with nothing behind it, a part is the whole
pub alone : (bytes part rest : List ℕ) → bytes ≡ part ++ rest → rest ≡ [] → bytes ≡ part
alone bytes part rest p q = p ∙ ap (λ (l : List ℕ). part ++ l) q ∙ append-nil part

-- three parts, one behind the other
joined : (a b c rest : List ℕ) {bytes behindA behindB : List ℕ} → bytes ≡ a ++ behindA → behindA ≡ b ++ behindB → behindB ≡ c ++ rest
    → bytes ≡ (a ++ (b ++ c)) ++ rest
joined a b c rest p q r =
    p ∙ ap (λ (l : List ℕ). a ++ l) (q ∙ ap (λ (l : List ℕ). b ++ l) r ∙ sym (append_assoc b c rest)) ∙ sym (append_assoc a (b ++ c) rest)

-- a column
column_bytes_lem : (f : Field) (seen : List Column) (r : Read Expr) → read_column f seen ≡ ok r → Closed 16 f.content f.rest r
unfolding bytes_of
column_bytes_lem f seen r p = let i = column_inv f seen r p in closed 16 f.content f.rest _ (column i.0) r (ap (field_bytes 16) i.1) i.3

-- a value is the bytes of its entry
abbrev IsValue : Bool → List ℕ → Entry → Type 0
IsValue m value v = (m ≡ is_null v) × (value ≡ value_bytes v)

-- a number
number_bytes_lem : (make : ℕ → Entry) (k : ℕ) (value : List ℕ) (v : Entry) → Bytes value → IsValue false (number_bytes k (number value)) (make (number value))
    → number_of make k value ≡ ok v → IsValue false value v
number_bytes_lem make k value v b h p =
    let i = number_of_inv make k value v p in
    let back = sym (number_bytes_number value b) ∙ ap (λ (n : ℕ). number_bytes n (number value)) i.0 in
    subst (IsValue false value) (sym i.1) (h.0, back ∙ h.1)

-- one byte is the one at 0
one_byte : (l : List ℕ) → length l ≡ 1 → l ≡ byte l 0 ∷ []
one_byte [] e = absurd (omega arith)
one_byte (a ∷ []) e = refl
one_byte (a ∷ b ∷ l) e = absurd (omega arith)

-- a value that isn't null
literal_value_bytes : (t : DataType) (value : List ℕ) (v : Entry) → Bytes value → literal_value t value ≡ ok v → IsValue false value v
unfolding literal_value
literal_value_bytes Boolean value v b p =
    let l = require_then _ _ _ v p in
    let m = bind_ok (mark_numbered 3 (byte value 0)) _ v l.1 in
    let is = one_byte value (eqb-true _ _ l.0) ∙ ap (λ (x : ℕ). x ∷ []) (mark_numbered_ok 3 (byte value 0) m.0 m.1) in
    subst (IsValue false value) (ok_injective m.2) (refl, is)
literal_value_bytes Int32 value v b p = number_bytes_lem int32 4 value v b (refl, refl) p
literal_value_bytes Int64 value v b p = number_bytes_lem int64 8 value v b (refl, refl) p
literal_value_bytes Float64 value v b p = number_bytes_lem float64 8 value v b (refl, refl) p
literal_value_bytes Utf8 value v b p = subst (IsValue false value) (ok_injective p) (refl, refl)

-- a value behind its null mark
marked_value_bytes : (m : Bool) (t : DataType) (value : List ℕ) (v : Entry) → Bytes value → marked_value m t value ≡ ok v → IsValue m value v
unfolding marked_value
marked_value_bytes true t value v b p =
    let i = require_then _ _ _ v p in
    subst (IsValue true value) (ok_injective i.1) (refl, is_empty_true value i.0)
marked_value_bytes false t value v b p = literal_value_bytes t value v b p

-- a literal
literal_bytes : (f : Field) (seen : List Column) (r : Read Expr) → Bytes f.content → read_literal f seen ≡ ok r → Closed 17 f.content f.rest r
unfolding bytes_of
literal_bytes f seen r b p =
    let (t, m, v, is, got, gives) = literal_inv f seen r p in
    let h = marked_value_bytes m t (drop 2 f.content) v (bytes_drop 2 f.content b) got in
    let same = is ∙ ap₂ (λ (x : Bool) (l : List ℕ). type_number t ∷ mark_number x ∷ l) h.0 h.1 in
    closed 17 f.content f.rest seen (literal t v) r (ap (field_bytes 17) same) gives

-- the flags say what is there
flags_are : (flags : ℕ) (base els : Optional) → flags ≤ 3 → is_present base ≡ has_base flags → is_present els ≡ has_else flags → flags ≡ flags_of base els
flags_are zero base els h p q = rw (p, q)
flags_are (suc zero) base els h p q = rw (p, q)
flags_are (suc (suc zero)) base els h p q = rw (p, q)
flags_are (suc (suc (suc zero))) base els h p q = rw (p, q)
flags_are (suc (suc (suc (suc n)))) base els h p q = absurd (omega arith)

-- branches, and their bytes
abbrev pub BranchesAre : List ℕ → Read Branches → Type 0
BranchesAre bytes r = (bytes ≡ branches_bytes r.tree ++ r.rest) × Bytes r.rest

-- a part that is there or not, and its bytes
abbrev pub OptionalIs : Bool → List ℕ → Read Optional → Type 0
OptionalIs flag bytes r = (bytes ≡ optional_bytes r.tree ++ r.rest) × Bytes r.rest × (is_present r.tree ≡ flag)

module _ (child : Reader Expr) (faithful : Faithful child) where
  -- a node of one child, whose bytes stand behind others
  unary_bytes : (node : Expr → Expr) (before : List ℕ) (tag : ℕ) → ((e : Expr) → bytes_of (node e) ≡ field_bytes tag (before ++ bytes_of e))
      → (content : List ℕ) (seen : List Column) (rest : List ℕ) (r : Read Expr) → Bytes content → read_unary node child content seen rest ≡ ok r
      → Closed tag (before ++ content) rest r
  unary_bytes node before tag is content seen rest r b p =
      let (a, got, end, typed, gives) = unary_inv node child content seen rest r p in
      let h = alone content (bytes_of a.tree) a.rest (faithful content seen a b got).0 end in
      closed tag (before ++ content) rest a.seen (node a.tree) r (ap (λ (l : List ℕ). field_bytes tag (before ++ l)) h ∙ sym (is a.tree)) gives

  -- a cast, of either kind
  cast_bytes : (node : DataType → Expr → Expr) (tag : ℕ) → ((t : DataType) (e : Expr) → bytes_of (node t e) ≡ field_bytes tag (type_number t ∷ bytes_of e))
      → (content : List ℕ) (seen : List Column) (rest : List ℕ) (r : Read Expr) → Bytes content → read_cast node child content seen rest ≡ ok r
      → Closed tag content rest r
  cast_bytes node tag is content seen rest r b p =
      let (t, same, got) = cast_inv node child content seen rest r p in
      let h = unary_bytes (node t) (type_number t ∷ []) tag (is t) (drop 1 content) seen rest r (bytes_drop 1 content b) got in
      (ap (field_bytes tag) same ∙ h.0, h.1)

  -- a node of two children
  binary_bytes : (node : Expr → Expr → Expr) (tag : ℕ) → ((x y : Expr) → bytes_of (node x y) ≡ field_bytes tag (bytes_of x ++ bytes_of y))
      → (content : List ℕ) (seen : List Column) (rest : List ℕ) (r : Read Expr) → Bytes content → read_binary node child content seen rest ≡ ok r
      → Closed tag content rest r
  binary_bytes node tag is content seen rest r b p =
      let (x, y, gotX, gotY, end, typed, gives) = binary_inv node child content seen rest r p in
      let h = faithful content seen x b gotX in
      let k = faithful x.rest x.seen y h.1 gotY in
      let both = h.0 ∙ ap (λ (l : List ℕ). bytes_of x.tree ++ l) (alone x.rest (bytes_of y.tree) y.rest k.0 end) in
      closed tag content rest y.seen (node x.tree y.tree) r (ap (field_bytes tag) both ∙ sym (is x.tree y.tree)) gives

  -- branches, as many as asked for
  pub branches_bytes_lem : (n : ℕ) (bytes : List ℕ) (seen : List Column) (r : Read Branches) → Bytes bytes → read_branches child n bytes seen ≡ ok r → BranchesAre bytes r
  unfolding read_branches bytes_of
  branches_bytes_lem zero bytes seen r b p = subst (BranchesAre bytes) (ok_injective p) (refl, b)
  branches_bytes_lem (suc n) bytes seen r b p =
      let (w, t, bs, gotW, gotT, later, gives) = branches_inv child n bytes seen r p in
      let h = faithful bytes seen w b gotW in
      let k = faithful w.rest w.seen t h.1 gotT in
      let l = branches_bytes_lem n t.rest t.seen bs k.1 later in
      let all = joined (bytes_of w.tree) (bytes_of t.tree) (branches_bytes bs.tree) bs.rest h.0 k.0 l.0 in
      subst (BranchesAre bytes) (sym gives) (all, l.1)

  -- a part by its flag
  pub optional_bytes_lem : (flag : Bool) (bytes : List ℕ) (seen : List Column) (r : Read Optional) → Bytes bytes → read_optional flag child bytes seen ≡ ok r
      → OptionalIs flag bytes r
  unfolding read_optional bytes_of
  optional_bytes_lem false bytes seen r b p = subst (OptionalIs false bytes) (ok_injective p) (refl, b, refl)
  optional_bytes_lem true bytes seen r b p =
      let (e, got, gives) = optional_inv child bytes seen r p in
      let h = faithful bytes seen e b got in
      subst (OptionalIs true bytes) (sym gives) (h.0, h.1, refl)

  -- base, branches and ELSE, behind the flags and the branch count that they have
  parts_bytes_lem : (flags count : ℕ) (bytes : List ℕ) (seen : List Column) (rest : List ℕ) (r : Read Expr) → flags ≤ 3 → Bytes bytes
      → read_parts child flags count bytes seen rest ≡ ok r → Closed 25 (flags ∷ count ∷ bytes) rest r
  unfolding bytes_of
  parts_bytes_lem flags count bytes seen rest r most b p =
      let (base, bs, els, gotB, gotBs, gotE, end, typed, gives) = parts_inv child flags count bytes seen rest r p in
      let h = optional_bytes_lem (has_base flags) bytes seen base b gotB in
      let k = branches_bytes_lem count base.rest base.seen bs h.1 gotBs in
      let l = optional_bytes_lem (has_else flags) bs.rest bs.seen els k.1 gotE in
      let parts = joined (optional_bytes base.tree) (branches_bytes bs.tree) (optional_bytes els.tree) els.rest h.0 k.0 l.0 in
      let all = alone bytes (optional_bytes base.tree ++ (branches_bytes bs.tree ++ optional_bytes els.tree)) els.rest parts end in
      let flag = flags_are flags base.tree els.tree most h.2 l.2 in
      let head = ap₂ (λ (x y : ℕ). x ∷ y ∷ bytes) flag (sym (branches_count child count base.rest base.seen bs gotBs)) in
      let same = head ∙ ap (λ (x : List ℕ). flags_of base.tree els.tree ∷ branch_count bs.tree ∷ x) all in
      closed 25 (flags ∷ count ∷ bytes) rest els.seen (case_when base.tree bs.tree els.tree) r (ap (field_bytes 25) same) gives

  -- a CASE
  case_bytes : (content : List ℕ) (seen : List Column) (rest : List ℕ) (r : Read Expr) → Bytes content → read_case child content seen rest ≡ ok r
      → Closed 25 content rest r
  case_bytes content seen rest r b p =
      let (flags, count, same, most, some, limit, got) = case_inv child content seen rest r p in
      let h = parts_bytes_lem flags count (drop 2 content) seen rest r most (bytes_drop 2 content b) got in
      (ap (field_bytes 25) same ∙ h.0, h.1)

module _ (child : ℕ → Reader Expr) (faithful : (n : ℕ) → Faithful (child n)) where
  -- a CASE that may still stand on the path
  limited_case_bytes : (cases : ℕ) (content : List ℕ) (seen : List Column) (rest : List ℕ) (r : Read Expr) → Bytes content
      → read_limited_case child cases content seen rest ≡ ok r → Closed 25 content rest r
  limited_case_bytes cases content seen rest r b p =
      let (n, is, got) = limited_case_inv child cases content seen rest r p in
      case_bytes (child n) (faithful n) content seen rest r b got

  -- the content of a field of each kind
  kind_bytes : (cases : ℕ) (k : Kind) (f : Field) (seen : List Column) (r : Read Expr) → Bytes f.content → read_kind child cases k f seen ≡ ok r
      → Closed (tag_of k) f.content f.rest r
  unfolding read_kind bytes_of
  kind_bytes cases a_column f seen r b p = column_bytes_lem f seen r p
  kind_bytes cases a_literal f seen r b p = literal_bytes f seen r b p
  kind_bytes cases a_not f seen r b p = unary_bytes (child cases) (faithful cases) negation [] 18 (λ e. refl) f.content seen f.rest r b p
  kind_bytes cases a_negative f seen r b p = unary_bytes (child cases) (faithful cases) negative [] 19 (λ e. refl) f.content seen f.rest r b p
  kind_bytes cases an_is_not_null f seen r b p = unary_bytes (child cases) (faithful cases) is_not_null [] 20 (λ e. refl) f.content seen f.rest r b p
  kind_bytes cases a_cast f seen r b p = cast_bytes (child cases) (faithful cases) cast 21 (λ t e. refl) f.content seen f.rest r b p
  kind_bytes cases a_try_cast f seen r b p = cast_bytes (child cases) (faithful cases) try_cast 22 (λ t e. refl) f.content seen f.rest r b p
  kind_bytes cases an_equal f seen r b p = binary_bytes (child cases) (faithful cases) equal 23 (λ x y. refl) f.content seen f.rest r b p
  kind_bytes cases a_less f seen r b p = binary_bytes (child cases) (faithful cases) less 24 (λ x y. refl) f.content seen f.rest r b p
  kind_bytes cases a_case f seen r b p = limited_case_bytes cases f.content seen f.rest r b p

-- a field that is read is the bytes of its tree, at every depth and number of CASEs left
pub field_bytes_lem : (depth cases : ℕ) → Faithful (read_field depth cases)
field_bytes_lem zero cases bytes seen r b p =
    let (d, f, k, deep, head, tag, got) = field_inv zero cases bytes seen r p in
    absurd (omega arith)
field_bytes_lem (suc depth) cases bytes seen r b p =
    let (d, f, k, deep, head, tag, got) = field_inv (suc depth) cases bytes seen r p in
    let is : depth ≡ d = omega arith in
    let below = subst (λ (n : ℕ). (m : ℕ) → Faithful (read_field n m)) is (field_bytes_lem depth) in
    let parts = header_bytes_parts 2 bytes f b head in
    let h = kind_bytes (read_field d) below cases k f seen r parts.0 got in
    let whole = header_bytes 2 bytes f b head ∙ ap (λ (t : ℕ). field_bytes t f.content ++ f.rest) tag in
    (whole ∙ ap₂ (λ (x y : List ℕ). x ++ y) h.0 (sym h.1), subst Bytes (sym h.1) parts.1)

-- a rule that is read is the bytes of its tree
pub rule_bytes : (rule : List ℕ) (e : Expr) → Bytes rule → read_rule rule ≡ ok e → rule ≡ bytes_of e
rule_bytes rule e b p =
    let (r, some, most, root, end, fits, is) = rule_inv rule e p in
    let (f, head, tag, got) = root_inv rule r root in
    alone rule (bytes_of r.tree) r.rest (field_bytes_lem depth_most cases_most rule [] r b got).0 end ∙ ap bytes_of (sym is)
