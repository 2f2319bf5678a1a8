-- A tree that document 01 allows is read back from its bytes. Assumes nothing.
use mathlib.Core.Path.{◌≡◌, refl, ap, sym, subst, ◌∙◌}
use mathlib.Core.Bool.{Bool, true, not, ◌&&◌, false≢true}
use mathlib.Core.List.{List, [], ◌∷◌, ◌++◌, append-nil, append_assoc, reverse, reverse_aux, reverse_aux-append}
use Prim.Native.Nat.{ℕ, zero, suc, ◌^◌, ◌<◌, ◌≤◌, max, ◌-◌}
use native.Mathlib.Omega.{arith}
use lib.Dec.{leb, ltb}
use lib.ListN.{length, length-append}
use borrow.Author.Tests.{ltb-true, lt-ltb, le-leb, eq-eqb}
use Rattle.layout.specs.Result.{Result, ok}
use Rattle.layout.specs.Bytes.{byte, number_bytes}
use Rattle.layout.specs.Field.{Field, header, field_bytes}
use Rattle.layout.proofs.TestLaws.{both_hold}
use Rattle.layout.proofs.BytesLaws.{length_number_bytes, number_number_bytes}
use Rattle.layout.proofs.FieldLaws.{header_ok, header_field, length_field}
use Rattle.scalar.specs.declared.types.DataType.{DataType}
use Rattle.scalar.specs.declared.types.DataType.TheVariants.{Boolean, Int32, Int64, Float64, Utf8}
use Rattle.scalar.specs.Types.{type_number, mark_number}
use Rattle.scalar.specs.Entry.{Entry, null, boolean, int32, int64, float64, utf8, is_null, of_type}
use Rattle.scalar.proofs.TypeLaws.{type_numbered_back, mark_numbered_back}
use Rattle.rule.specs.Tree.{Column, Expr, column, literal, negation, negative, is_not_null, cast, try_cast, equal, less, case_when, Branches, no_more, branch, Optional, absent, present, branch_count}
use Rattle.rule.specs.TreeBytes.{value_bytes, is_present, flags_of, bytes_of, branches_bytes, optional_bytes}
use Rattle.rule.specs.Typing.{node_typed}
use Rattle.rule.specs.WellFormed.{count_fits, well_formed, well_formed_branches, well_formed_optional}
use Rattle.rule.specs.Node.{depth_of, branches_depth, optional_depth}
use Rattle.rule.specs.Constant.{columns_of, branches_columns, optional_columns, constant_fails}
use Rattle.rule.specs.Reading.{Read, Reader, Kind, a_column, a_literal, a_not, a_negative, an_is_not_null, a_cast, a_try_cast, an_equal, a_less, a_case, tag_of, kind_among, kind_of, unlike_earlier, read_column, number_of, literal_value, marked_value, read_literal, close_node, read_unary, read_cast, read_binary, read_branches, read_optional, has_base, has_else, read_parts, read_case, read_limited_case, read_kind, read_field, depth_most, cases_most, read_root, read_tree, read_rule}
use Rattle.rule.specs.Seen.{alike}
use Rattle.rule.specs.Allowed.{cases_of, branches_cases, optional_cases, is_case, RuleReadsBack, RuleIsAllowed}
use Rattle.rule.specs.Walks.{node_tag}
use Rattle.rule.proofs.ReadInversions.{root_inv, rule_inv}
use Rattle.rule.proofs.ReadBytes.{rule_bytes}
use Rattle.rule.proofs.ReadColumns.{rule_alike}
use Rattle.rule.proofs.NodeLaws.{node_tag_lem}
use Rattle.rule.proofs.ReadNode.{accepted_node, accepted_cases}

-- ---- what reading asks of a part

-- how deep it nests, how many CASEs it has on a path, whether it is well-formed, its bytes and its columns
record Shape : Type 0 where
  depth : ℕ
  cases : ℕ
  formed : Bool
  bytes : List ℕ
  columns : List Column

abbrev expr_shape : Expr → Shape
expr_shape e = record { depth = depth_of e; cases = cases_of e; formed = well_formed e; bytes = bytes_of e; columns = columns_of e }

abbrev branches_shape : Branches → Shape
branches_shape bs = record { depth = branches_depth bs; cases = branches_cases bs; formed = well_formed_branches bs; bytes = branches_bytes bs; columns = branches_columns bs }

abbrev optional_shape : Optional → Shape
optional_shape o = record { depth = optional_depth o; cases = optional_cases o; formed = well_formed_optional o; bytes = optional_bytes o; columns = optional_columns o }

-- one part behind another
abbrev both_shape : Shape → Shape → Shape
both_shape a b = record {
  depth = max a.depth b.depth;
  cases = max a.cases b.cases;
  formed = a.formed && b.formed;
  bytes = a.bytes ++ b.bytes;
  columns = a.columns ++ b.columns;
}

-- a node of a tag around a part, behind some bytes, where a test holds
abbrev node_shape : ℕ → Bool → List ℕ → Shape → Shape
node_shape tag test head a = record {
  depth = suc a.depth;
  cases = a.cases;
  formed = test && a.formed;
  bytes = field_bytes tag (head ++ a.bytes);
  columns = a.columns;
}

-- the parts of a CASE, where a test holds
abbrev case_shape : Bool → Shape → Shape
case_shape test a = record { depth = a.depth; cases = suc a.cases; formed = test && a.formed; bytes = a.bytes; columns = a.columns }

-- so much depth and so many CASEs are left, and these columns were met before
record Fits (a : Shape) (d c : ℕ) (seen : List Column) : Type 0 where
  deep : a.depth ≤ d
  few : a.cases ≤ c
  good : a.formed ≡ true
  short : length a.bytes < 65536
  like : alike (reverse_aux a.columns seen) ≡ true

-- columns that are alike were so before the last ones came
alike_before : (l seen : List Column) → alike (reverse_aux l seen) ≡ true → alike seen ≡ true
unfolding alike
alike_before [] seen h = h
alike_before (c ∷ l) seen h = (both_hold (not (unlike_earlier c seen)) (alike seen) (alike_before l (c ∷ seen) h)).1

-- the first of two parts, and the second behind it
module _ (a b : Shape) {d c : ℕ} {seen : List Column} (f : Fits (both_shape a b) d c seen) where
  later_alike : alike (reverse_aux b.columns (reverse_aux a.columns seen)) ≡ true
  later_alike = ap alike (sym (reverse_aux-append a.columns b.columns seen)) ∙ f.like

  fits_first : Fits a d c seen
  fits_first = record {
    deep = (let h = f.deep in omega arith);
    few = (let h = f.few in omega arith);
    good = (both_hold a.formed b.formed f.good).0;
    short = (let h = f.short in let s = length-append a.bytes b.bytes in omega arith);
    like = alike_before b.columns (reverse_aux a.columns seen) later_alike;
  }

  fits_second : Fits b d c (reverse_aux a.columns seen)
  fits_second = record {
    deep = (let h = f.deep in omega arith);
    few = (let h = f.few in omega arith);
    good = (both_hold a.formed b.formed f.good).1;
    short = (let h = f.short in let s = length-append a.bytes b.bytes in omega arith);
    like = later_alike;
  }

-- what is inside of a node
module _ (tag : ℕ) (test : Bool) (head : List ℕ) (a : Shape) {d c : ℕ} {seen : List Column} (f : Fits (node_shape tag test head a) d c seen) where
  some_depth : 0 < d
  some_depth = let h = f.deep in omega arith

  node_typed_lem : test ≡ true
  node_typed_lem = (both_hold test a.formed f.good).0

  content_short : length (head ++ a.bytes) < 65536
  content_short = let h = f.short in let s = length_field tag (head ++ a.bytes) in omega arith

  fits_inside : Fits a (d - 1) c seen
  fits_inside = record {
    deep = (let h = f.deep in omega arith);
    few = f.few;
    good = (both_hold test a.formed f.good).1;
    short = (let h = content_short in let s = length-append head a.bytes in omega arith);
    like = f.like;
  }

-- what is inside of a CASE, whose types fit
module _ (test : Bool) (a : Shape) {d c : ℕ} {seen : List Column} (f : Fits (case_shape test a) d c seen) where
  some_case : 0 < c
  some_case = let h = f.few in omega arith

  case_typed : test ≡ true
  case_typed = (both_hold test a.formed f.good).0

  fits_case : Fits a d (c - 1) seen
  fits_case = record { deep = f.deep; few = (let h = f.few in omega arith); good = (both_hold test a.formed f.good).1; short = f.short; like = f.like }

-- ---- fields

kind_back : (k : Kind) → kind_of (tag_of k) ≡ ok k
unfolding kind_among
kind_back a_column = refl
kind_back a_literal = refl
kind_back a_not = refl
kind_back a_negative = refl
kind_back an_is_not_null = refl
kind_back a_cast = refl
kind_back a_try_cast = refl
kind_back an_equal = refl
kind_back a_less = refl
kind_back a_case = refl

-- a field's bytes are read by its kind
field_step : (k : Kind) (d c : ℕ) (content rest : List ℕ) (seen : List Column) → 0 < d → length content < 65536
    → read_field d c (field_bytes (tag_of k) content ++ rest) seen ≡ read_kind (read_field (d - 1)) c k (record { tag = tag_of k; content = content; rest = rest }) seen
unfolding read_field
field_step k zero c content rest seen p h = absurd (omega arith)
field_step k (suc d) c content rest seen p h =
    let less : d ≡ suc d - 1 = omega arith in
    rw (header_field 2 (tag_of k) content rest h, kind_back k) (ap (λ (n : ℕ). read_kind (read_field n) c k (record { tag = tag_of k; content = content; rest = rest }) seen) less)

-- ---- leaves

number_back : (make : ℕ → Entry) (k n : ℕ) → n < 256 ^ k → number_of make k (number_bytes k n) ≡ ok (make n)
number_back make k n h = rw (eq-eqb _ _ (length_number_bytes k n)) (ap (λ (x : ℕ). ok (make x)) (number_number_bytes k n h))

value_back : (t : DataType) (v : Entry) → of_type t v ≡ true → marked_value (is_null v) t (value_bytes v) ≡ ok v
unfolding of_type marked_value literal_value
value_back t null h = refl
value_back Boolean (boolean b) h = rw (mark_numbered_back 3 b) refl
value_back Int32 (boolean b) h = absurd (false≢true h)
value_back Int64 (boolean b) h = absurd (false≢true h)
value_back Float64 (boolean b) h = absurd (false≢true h)
value_back Utf8 (boolean b) h = absurd (false≢true h)
value_back Boolean (int32 n) h = absurd (false≢true h)
value_back Int32 (int32 n) h = number_back int32 4 n (ltb-true n (2 ^ 32) h)
value_back Int64 (int32 n) h = absurd (false≢true h)
value_back Float64 (int32 n) h = absurd (false≢true h)
value_back Utf8 (int32 n) h = absurd (false≢true h)
value_back Boolean (int64 n) h = absurd (false≢true h)
value_back Int32 (int64 n) h = absurd (false≢true h)
value_back Int64 (int64 n) h = number_back int64 8 n (ltb-true n (2 ^ 64) h)
value_back Float64 (int64 n) h = absurd (false≢true h)
value_back Utf8 (int64 n) h = absurd (false≢true h)
value_back Boolean (float64 n) h = absurd (false≢true h)
value_back Int32 (float64 n) h = absurd (false≢true h)
value_back Int64 (float64 n) h = absurd (false≢true h)
value_back Float64 (float64 n) h = number_back float64 8 n (ltb-true n (2 ^ 64) h)
value_back Utf8 (float64 n) h = absurd (false≢true h)
value_back Boolean (utf8 t) h = absurd (false≢true h)
value_back Int32 (utf8 t) h = absurd (false≢true h)
value_back Int64 (utf8 t) h = absurd (false≢true h)
value_back Float64 (utf8 t) h = absurd (false≢true h)
value_back Utf8 (utf8 t) h = refl

literal_back : (t : DataType) (v : Entry) (rest : List ℕ) (seen : List Column) → of_type t v ≡ true
    → read_literal (record { tag = 17; content = type_number t ∷ mark_number (is_null v) ∷ value_bytes v; rest = rest }) seen ≡ ok (record { tree = literal t v; seen = seen; rest = rest })
unfolding read_literal
literal_back t v rest seen h = rw (type_numbered_back 3 t, mark_numbered_back 3 (is_null v), value_back t v h) refl

column_back : (c : Column) (rest : List ℕ) (seen : List Column) → alike (c ∷ seen) ≡ true
    → read_column (record { tag = 16; content = c.index ∷ type_number c.type ∷ mark_number c.nullable ∷ []; rest = rest }) seen ≡ ok (record { tree = column c; seen = c ∷ seen; rest = rest })
unfolding read_column alike
column_back c rest seen h =
    rw (type_numbered_back 3 c.type, mark_numbered_back 3 c.nullable, (both_hold (not (unlike_earlier c seen)) (alike seen) h).0) refl

-- ---- nodes whose children are read back

-- what was read of a tree, with nothing behind it or with more
abbrev got : {A : Type 0} → A → List Column → List ℕ → Result (Read A)
got e seen rest = ok (record { tree = e; seen = seen; rest = rest })

module _ (child : Reader Expr) (seen : List Column) (rest : List ℕ) where
  unary_back : (node : Expr → Expr) (e : Expr) (after : List Column) → child (bytes_of e ++ []) seen ≡ got e after [] → node_typed (node e) ≡ true
      → read_unary node child (bytes_of e) seen rest ≡ got (node e) after rest
  unfolding read_unary close_node
  unary_back node e after p typed =
      let here : child (bytes_of e) seen ≡ got e after [] = ap (λ (l : List ℕ). child l seen) (sym (append-nil (bytes_of e))) ∙ p in
      rw (here, typed) refl

  cast_back : (node : DataType → Expr → Expr) (t : DataType) (e : Expr) (after : List Column) → child (bytes_of e ++ []) seen ≡ got e after [] → node_typed (node t e) ≡ true
      → read_cast node child (type_number t ∷ bytes_of e) seen rest ≡ got (node t e) after rest
  unfolding read_cast
  cast_back node t e after p typed = rw (type_numbered_back 3 t) (unary_back (node t) e after p typed)

  binary_back : (node : Expr → Expr → Expr) (a b : Expr) (mid after : List Column) → child (bytes_of a ++ bytes_of b) seen ≡ got a mid (bytes_of b) → child (bytes_of b ++ []) mid ≡ got b after []
      → node_typed (node a b) ≡ true → read_binary node child (bytes_of a ++ bytes_of b) seen rest ≡ got (node a b) after rest
  unfolding read_binary close_node
  binary_back node a b mid after p q typed =
      let last : child (bytes_of b) mid ≡ got b after [] = ap (λ (l : List ℕ). child l mid) (sym (append-nil (bytes_of b))) ∙ q in
      rw (p, last, typed) refl

-- the flags say which parts are there
base_flag : (b e : Optional) → has_base (flags_of b e) ≡ is_present b
base_flag absent absent = refl
base_flag absent (present e) = refl
base_flag (present b) absent = refl
base_flag (present b) (present e) = refl

else_flag : (b e : Optional) → has_else (flags_of b e) ≡ is_present e
else_flag absent absent = refl
else_flag absent (present e) = refl
else_flag (present b) absent = refl
else_flag (present b) (present e) = refl

few_flags : (b e : Optional) → leb (flags_of b e) 3 ≡ true
few_flags absent absent = refl
few_flags absent (present e) = refl
few_flags (present b) absent = refl
few_flags (present b) (present e) = refl

-- the bytes of a CASE's parts
abbrev parts_bytes : Optional → Branches → Optional → List ℕ
parts_bytes b bs e = optional_bytes b ++ (branches_bytes bs ++ optional_bytes e)

module _ (child : Reader Expr) (seen : List Column) (rest : List ℕ) (b : Optional) (bs : Branches) (e : Optional) where
  parts_back : (second third after : List Column) → read_optional (is_present b) child (parts_bytes b bs e) seen ≡ got b second (branches_bytes bs ++ optional_bytes e)
      → read_branches child (branch_count bs) (branches_bytes bs ++ optional_bytes e) second ≡ got bs third (optional_bytes e)
      → read_optional (is_present e) child (optional_bytes e ++ []) third ≡ got e after [] → node_typed (case_when b bs e) ≡ true
      → read_parts child (flags_of b e) (branch_count bs) (parts_bytes b bs e) seen rest ≡ got (case_when b bs e) after rest
  unfolding read_parts close_node
  parts_back second third after p q r typed =
      let last : read_optional (is_present e) child (optional_bytes e) third ≡ got e after [] =
      ap (λ (l : List ℕ). read_optional (is_present e) child l third) (sym (append-nil (optional_bytes e))) ∙ r in
      rw (base_flag b e, p, q, else_flag b e, last, typed) refl

  case_back : (second third after : List Column) → count_fits bs ≡ true → read_optional (is_present b) child (parts_bytes b bs e) seen ≡ got b second (branches_bytes bs ++ optional_bytes e)
      → read_branches child (branch_count bs) (branches_bytes bs ++ optional_bytes e) second ≡ got bs third (optional_bytes e)
      → read_optional (is_present e) child (optional_bytes e ++ []) third ≡ got e after [] → node_typed (case_when b bs e) ≡ true
      → read_case child (flags_of b e ∷ branch_count bs ∷ parts_bytes b bs e) seen rest ≡ got (case_when b bs e) after rest
  unfolding read_case
  case_back second third after counted p q r typed =
      let (some, few) = both_hold (ltb 0 (branch_count bs)) (leb (branch_count bs) 32) counted in
      rw (few_flags b e, some, few) (parts_back second third after p q r typed)

-- so many CASEs are left, and one is read
limited_back : (child : ℕ → Reader Expr) (c : ℕ) (content : List ℕ) (seen : List Column) (rest : List ℕ) → 0 < c
    → read_limited_case child c content seen rest ≡ read_case (child (c - 1)) content seen rest
unfolding read_limited_case
limited_back child zero content seen rest h = absurd (omega arith)
limited_back child (suc c) content seen rest h = let less : c ≡ suc c - 1 = omega arith in ap (λ (n : ℕ). read_case (child n) content seen rest) less

-- ---- trees

mutual
  unfolding depth_of cases_of well_formed bytes_of columns_of read_kind read_branches read_optional branch_count

  field_back : (e : Expr) (d c : ℕ) (seen : List Column) (rest : List ℕ) → Fits (expr_shape e) d c seen → read_field d c (bytes_of e ++ rest) seen ≡ got e (reverse_aux (columns_of e) seen) rest
  field_back (column x) d c seen rest f =
      field_step a_column d c (x.index ∷ type_number x.type ∷ mark_number x.nullable ∷ []) rest seen (let h = f.deep in omega arith) (omega arith) ∙ column_back x rest seen f.like
  field_back (literal t v) d c seen rest f =
      field_step a_literal d c (type_number t ∷ mark_number (is_null v) ∷ value_bytes v) rest seen (let h = f.deep in omega arith)
      (let h = f.short in let s = length_field 17 (type_number t ∷ mark_number (is_null v) ∷ value_bytes v) in omega arith)
      ∙ literal_back t v rest seen f.good
  field_back (negation e) d c seen rest f =
      let typed = node_typed (negation e) in
      field_step a_not d c (bytes_of e) rest seen (some_depth 18 typed [] (expr_shape e) f) (content_short 18 typed [] (expr_shape e) f)
      ∙ unary_back (read_field (d - 1) c) seen rest negation e (reverse_aux (columns_of e) seen) (field_back e (d - 1) c seen [] (fits_inside 18 typed [] (expr_shape e) f))
      (node_typed_lem 18 typed [] (expr_shape e) f)
  field_back (negative e) d c seen rest f =
      let typed = node_typed (negative e) in
      field_step a_negative d c (bytes_of e) rest seen (some_depth 19 typed [] (expr_shape e) f) (content_short 19 typed [] (expr_shape e) f)
      ∙ unary_back (read_field (d - 1) c) seen rest negative e (reverse_aux (columns_of e) seen) (field_back e (d - 1) c seen [] (fits_inside 19 typed [] (expr_shape e) f))
      (node_typed_lem 19 typed [] (expr_shape e) f)
  field_back (is_not_null e) d c seen rest f =
      let typed = node_typed (is_not_null e) in
      field_step an_is_not_null d c (bytes_of e) rest seen (some_depth 20 typed [] (expr_shape e) f) (content_short 20 typed [] (expr_shape e) f)
      ∙ unary_back (read_field (d - 1) c) seen rest is_not_null e (reverse_aux (columns_of e) seen) (field_back e (d - 1) c seen [] (fits_inside 20 typed [] (expr_shape e) f))
      (node_typed_lem 20 typed [] (expr_shape e) f)
  field_back (cast t e) d c seen rest f =
      let typed = node_typed (cast t e) in
      let head = type_number t ∷ [] in
      field_step a_cast d c (type_number t ∷ bytes_of e) rest seen (some_depth 21 typed head (expr_shape e) f) (content_short 21 typed head (expr_shape e) f)
      ∙ cast_back (read_field (d - 1) c) seen rest cast t e (reverse_aux (columns_of e) seen) (field_back e (d - 1) c seen [] (fits_inside 21 typed head (expr_shape e) f))
      (node_typed_lem 21 typed head (expr_shape e) f)
  field_back (try_cast t e) d c seen rest f =
      let typed = node_typed (try_cast t e) in
      let head = type_number t ∷ [] in
      field_step a_try_cast d c (type_number t ∷ bytes_of e) rest seen (some_depth 22 typed head (expr_shape e) f) (content_short 22 typed head (expr_shape e) f)
      ∙ cast_back (read_field (d - 1) c) seen rest try_cast t e (reverse_aux (columns_of e) seen) (field_back e (d - 1) c seen [] (fits_inside 22 typed head (expr_shape e) f))
      (node_typed_lem 22 typed head (expr_shape e) f)
  field_back (equal a b) d c seen rest f =
      let typed = node_typed (equal a b) in
      let both = both_shape (expr_shape a) (expr_shape b) in
      let parts = fits_inside 23 typed [] both f in
      field_step an_equal d c (bytes_of a ++ bytes_of b) rest seen (some_depth 23 typed [] both f) (content_short 23 typed [] both f)
      ∙ binary_back (read_field (d - 1) c) seen rest equal a b (reverse_aux (columns_of a) seen) (reverse_aux (columns_of b) (reverse_aux (columns_of a) seen))
      (field_back a (d - 1) c seen (bytes_of b) (fits_first (expr_shape a) (expr_shape b) parts))
      (field_back b (d - 1) c (reverse_aux (columns_of a) seen) [] (fits_second (expr_shape a) (expr_shape b) parts)) (node_typed_lem 23 typed [] both f)
      ∙ ap (λ (l : List Column). got (equal a b) l rest) (sym (reverse_aux-append (columns_of a) (columns_of b) seen))
  field_back (less a b) d c seen rest f =
      let typed = node_typed (less a b) in
      let both = both_shape (expr_shape a) (expr_shape b) in
      let parts = fits_inside 24 typed [] both f in
      field_step a_less d c (bytes_of a ++ bytes_of b) rest seen (some_depth 24 typed [] both f) (content_short 24 typed [] both f)
      ∙ binary_back (read_field (d - 1) c) seen rest less a b (reverse_aux (columns_of a) seen) (reverse_aux (columns_of b) (reverse_aux (columns_of a) seen))
      (field_back a (d - 1) c seen (bytes_of b) (fits_first (expr_shape a) (expr_shape b) parts))
      (field_back b (d - 1) c (reverse_aux (columns_of a) seen) [] (fits_second (expr_shape a) (expr_shape b) parts)) (node_typed_lem 24 typed [] both f)
      ∙ ap (λ (l : List Column). got (less a b) l rest) (sym (reverse_aux-append (columns_of a) (columns_of b) seen))
  field_back (case_when b bs e) d c seen rest f =
      let typed = node_typed (case_when b bs e) in
      let head = flags_of b e ∷ branch_count bs ∷ [] in
      let last = both_shape (branches_shape bs) (optional_shape e) in
      let all = both_shape (optional_shape b) last in
      let inside = fits_inside 25 (count_fits bs) head (case_shape typed all) f in
      let parts = fits_case typed all inside in
      let later = fits_second (optional_shape b) last parts in
      let second = reverse_aux (optional_columns b) seen in
      let third = reverse_aux (branches_columns bs) second in
      field_step a_case d c (flags_of b e ∷ branch_count bs ∷ parts_bytes b bs e) rest seen
      (some_depth 25 (count_fits bs) head (case_shape typed all) f) (content_short 25 (count_fits bs) head (case_shape typed all) f)
      ∙ limited_back (read_field (d - 1)) c (flags_of b e ∷ branch_count bs ∷ parts_bytes b bs e) seen rest (some_case typed all inside)
      ∙ case_back (read_field (d - 1) (c - 1)) seen rest b bs e second third (reverse_aux (optional_columns e) third) (node_typed_lem 25 (count_fits bs) head (case_shape typed all) f)
      (optional_back b (d - 1) (c - 1) seen (branches_bytes bs ++ optional_bytes e) (fits_first (optional_shape b) last parts))
      (branches_back bs (d - 1) (c - 1) second (optional_bytes e) (fits_first (branches_shape bs) (optional_shape e) later))
      (optional_back e (d - 1) (c - 1) third [] (fits_second (branches_shape bs) (optional_shape e) later)) (case_typed typed all inside)
      ∙ ap (λ (l : List Column). got (case_when b bs e) l rest)
      (sym (reverse_aux-append (optional_columns b) (branches_columns bs ++ optional_columns e) seen ∙ reverse_aux-append (branches_columns bs) (optional_columns e) second))

  branches_back : (bs : Branches) (d c : ℕ) (seen : List Column) (rest : List ℕ) → Fits (branches_shape bs) d c seen
      → read_branches (read_field d c) (branch_count bs) (branches_bytes bs ++ rest) seen ≡ got bs (reverse_aux (branches_columns bs) seen) rest
  branches_back no_more d c seen rest f = refl
  branches_back (branch w t bs) d c seen rest f =
      let rest-shape = both_shape (expr_shape t) (branches_shape bs) in
      let later = fits_second (expr_shape w) rest-shape f in
      let second = reverse_aux (columns_of w) seen in
      let third = reverse_aux (columns_of t) second in
      let when : read_field d c ((bytes_of w ++ (bytes_of t ++ branches_bytes bs)) ++ rest) seen ≡ got w second ((bytes_of t ++ branches_bytes bs) ++ rest) =
      ap (λ (l : List ℕ). read_field d c l seen) (append_assoc (bytes_of w) (bytes_of t ++ branches_bytes bs) rest) ∙ field_back w d c seen ((bytes_of t ++ branches_bytes bs) ++ rest) (fits_first (expr_shape w) rest-shape f) in
      let then : read_field d c ((bytes_of t ++ branches_bytes bs) ++ rest) second ≡ got t third (branches_bytes bs ++ rest) =
      ap (λ (l : List ℕ). read_field d c l second) (append_assoc (bytes_of t) (branches_bytes bs) rest) ∙ field_back t d c second (branches_bytes bs ++ rest) (fits_first (expr_shape t) (branches_shape bs) later) in
      rw (when, then, branches_back bs d c third rest (fits_second (expr_shape t) (branches_shape bs) later))
      (ap (λ (l : List Column). got (branch w t bs) l rest)
      (sym (reverse_aux-append (columns_of w) (columns_of t ++ branches_columns bs) seen ∙ reverse_aux-append (columns_of t) (branches_columns bs) second)))

  optional_back : (o : Optional) (d c : ℕ) (seen : List Column) (rest : List ℕ) → Fits (optional_shape o) d c seen
      → read_optional (is_present o) (read_field d c) (optional_bytes o ++ rest) seen ≡ got o (reverse_aux (optional_columns o) seen) rest
  optional_back absent d c seen rest f = refl
  optional_back (present e) d c seen rest f = rw (field_back e d c seen rest f) refl

-- ---- rules

-- the root of a tree that is a CASE is a CASE field
root_back : (e : Expr) → is_case e ≡ true → length (bytes_of e) ≤ 4096 → read_field depth_most cases_most (bytes_of e) [] ≡ got e (reverse (columns_of e)) [] → read_root (bytes_of e) ≡ got e (reverse (columns_of e)) []
unfolding read_root bytes_of
root_back (column c) h s p = absurd (false≢true h)
root_back (literal t v) h s p = absurd (false≢true h)
root_back (negation e) h s p = absurd (false≢true h)
root_back (negative e) h s p = absurd (false≢true h)
root_back (is_not_null e) h s p = absurd (false≢true h)
root_back (cast t e) h s p = absurd (false≢true h)
root_back (try_cast t e) h s p = absurd (false≢true h)
root_back (equal a b) h s p = absurd (false≢true h)
root_back (less a b) h s p = absurd (false≢true h)
root_back (case_when b bs e) h s p =
    let content = flags_of b e ∷ branch_count bs ∷ parts_bytes b bs e in
    let found : header 2 (field_bytes 25 content) ≡ ok (record { tag = 25; content = content; rest = [] }) =
    ap (header 2) (sym (append-nil (field_bytes 25 content))) ∙ header_field 2 25 content [] (let l = length_field 25 content in omega arith) in
    rw found p

-- every field takes a byte
some_bytes : (e : Expr) → is_case e ≡ true → 0 < length (bytes_of e)
unfolding bytes_of field_bytes
some_bytes (column c) h = absurd (false≢true h)
some_bytes (literal t v) h = absurd (false≢true h)
some_bytes (negation e) h = absurd (false≢true h)
some_bytes (negative e) h = absurd (false≢true h)
some_bytes (is_not_null e) h = absurd (false≢true h)
some_bytes (cast t e) h = absurd (false≢true h)
some_bytes (try_cast t e) h = absurd (false≢true h)
some_bytes (equal a b) h = absurd (false≢true h)
some_bytes (less a b) h = absurd (false≢true h)
some_bytes (case_when b bs e) h = omega arith

-- a rule that document 01 allows is accepted, and read as its tree
pub rule_reads_back : RuleReadsBack
unfolding read_tree read_rule
rule_reads_back e a =
    let few = a.few_bytes in
    let fits : Fits (expr_shape e) depth_most cases_most [] = record { deep = a.depth; few = a.cases; good = a.formed; short = (omega arith); like = a.columns_alike } in
    let field : read_field depth_most cases_most (bytes_of e) [] ≡ got e (reverse (columns_of e)) [] =
    ap (λ (l : List ℕ). read_field depth_most cases_most l []) (sym (append-nil (bytes_of e))) ∙ field_back e depth_most cases_most [] [] fits in
    let root = root_back e a.root few field in
    rw (lt-ltb 0 (length (bytes_of e)) (some_bytes e a.root), le-leb (length (bytes_of e)) 4096 few, root, a.casts_fit) refl

-- ---- and an accepted rule is one that document 01 allows

-- a field of tag 25 is a CASE
tag_case : (e : Expr) → node_tag e ≡ 25 → is_case e ≡ true
tag_case (column c) h = absurd (omega arith)
tag_case (literal t v) h = absurd (omega arith)
tag_case (negation e) h = absurd (omega arith)
tag_case (negative e) h = absurd (omega arith)
tag_case (is_not_null e) h = absurd (omega arith)
tag_case (cast t e) h = absurd (omega arith)
tag_case (try_cast t e) h = absurd (omega arith)
tag_case (equal a b) h = absurd (omega arith)
tag_case (less a b) h = absurd (omega arith)
tag_case (case_when b bs e) h = refl

pub rule_is_allowed : RuleIsAllowed
rule_is_allowed rule e b p =
    let (x, some, most, root, end, fine, is) = rule_inv rule e p in
    let (f, head, tag, got) = root_inv rule x root in
    let node = accepted_node rule e b p in
    let first : byte rule 0 ≡ 25 = ap (λ (g : Field). g.tag) (sym (header_ok 2 rule f head).2) ∙ tag in
    record {
      root = tag_case e (sym (node_tag_lem node) ∙ first);
      few_bytes = subst (λ (l : List ℕ). length l ≤ 4096) (rule_bytes rule e b p) most;
      depth = node.deep;
      cases = accepted_cases rule e p;
      formed = node.formed;
      columns_alike = rule_alike rule e p;
      casts_fit = ap constant_fails is ∙ fine;
    }
