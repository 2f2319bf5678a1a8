-- Columns, literals and the types of nodes, beside their definitions. Assumes nothing.
use mathlib.Core.Path.{◌≡◌, refl, ap, ap₂, sym, subst, ◌∙◌}
use mathlib.Core.Bool.{Bool, true, false, not, ◌&&◌, false≢true, true≢false}
use mathlib.Core.List.{List, [], ◌∷◌}
use Prim.Native.Nat.{ℕ, zero, suc, ◌+◌, ◌*◌, ◌<◌, ◌≤◌}
use native.Mathlib.Omega.{arith}
use lib.Dec.{eqb, leb, ltb}
use lib.ListN.{length, get_or, drop, set, length-drop}
use lib.Seq.{get_or-drop}
use borrow.Author.Tests.{eqb-true, eqb-false, ltb-true, ltb-false, leb-true, leb-false, eq-eqb, ne_eqb}
use Rattle.layout.specs.Result.{Result, refused, ok, ◌>>=◌, require}
use Rattle.layout.specs.Bytes.{byte, number}
use Rattle.scalar.specs.declared.types.DataType.{DataType}
use Rattle.scalar.specs.declared.types.DataType.TheVariants.{Boolean, Utf8}
use Rattle.scalar.specs.Types.{type_number, type_numbered, mark_number, mark_numbered}
use Rattle.scalar.specs.Entry.{Entry, null, boolean, utf8, is_null}
use Rattle.std.specs.Prelude.{Result as RustResult, Ok, Err}
use Rattle.layout.specs.declared.refusal.Refusal.{Refusal}
use Rattle.layout.specs.declared.refusal.Refusal.TheVariants.{RuleContent, RuleTypes}
use Rattle.rule.specs.declared.node.FieldFound.{FieldFound}
use Rattle.rule.specs.Tree.{Column, Expr, column, literal}
use Rattle.rule.specs.Typing.{type_of}
use Rattle.rule.specs.Reading.{Read, unlike_earlier, read_column, number_of, literal_value, marked_value, read_literal}
use Rattle.rule.specs.Seen.{mark_of, Marked}
use Rattle.rule.specs.Steps.{ReadGives, meet_column, value_of, ValueGives}
use Rattle.rule.proofs.SeenLaws.{unlike_marks, seen_met}
use Rattle.rule.proofs.StepLaws.{gives_refusal, gives_read, on_ok, on_refused, empty_drop, some_drop}

-- a mark is 0 or 1
mark_of_lem : (mark : ℕ) → mark ≤ 1 → (n : Bool) × (mark_numbered 3 mark ≡ ok n) × (mark ≡ mark_number n)
unfolding mark_numbered
mark_of_lem zero h = (false, refl, refl)
mark_of_lem (suc zero) h = (true, refl, refl)
mark_of_lem (suc (suc k)) h = absurd (omega arith)

no_mark : (mark : ℕ) → 1 < mark → mark_numbered 3 mark ≡ refused 3
unfolding mark_numbered
no_mark zero h = absurd (omega arith)
no_mark (suc zero) h = absurd (omega arith)
no_mark (suc (suc k)) h = refl

-- a column behind its type
module _ (index : ℕ) (t : DataType) (mark : ℕ) (cols : List Column) (outer : List ℕ) (end : ℕ) where
  pub meet_unmarked : {after : List ℕ} → 1 < mark → ReadGives outer (meet_column index t mark cols (drop end outer)) (Err RuleContent) after
  unfolding meet_column
  meet_unmarked h = on_refused (mark_numbered 3 mark) _ 3 (no_mark mark h) refl

  -- k is the type's number
  module _ (before : List ℕ) (s : Marked cols before) (low : mark ≤ 1) (k : ℕ) (k-is : k ≡ type_number t) where
    abbrev named : Column
    named = record { index = index; type = t; nullable = (mark_of_lem mark low).0 }

    abbrev old : ℕ
    old = get_or before index 0

    named_mark : k + 8 * mark ≡ mark_of named
    named_mark = ap₂ (λ (x y : ℕ). x + 8 * y) k-is (mark_of_lem mark low).2

    unlike_is : unlike_earlier named cols ≡ (not (eqb old 0) && not (eqb old (k + 8 * mark)))
    unlike_is = unlike_marks cols named s.all_alike ∙ ap₂ (λ (x y : ℕ). not (eqb x 0) && not (eqb x y)) (sym (s.marked index)) (sym named_mark)

    pub meet_unlike : {after : List ℕ} → (old ≡ 0 → ⊥) → (old ≡ k + 8 * mark → ⊥) → ReadGives outer (meet_column index t mark cols (drop end outer)) (Err RuleTypes) after
    unfolding meet_column
    meet_unlike p q =
        let u : unlike_earlier named cols ≡ true = unlike_is ∙ ap₂ (λ (x y : Bool). not x && not y) (ne_eqb _ _ p) (ne_eqb _ _ q) in
        on_ok (mark_numbered 3 mark) _ (mark_of_lem mark low).0 (mark_of_lem mark low).1
        (on_refused (require (not (unlike_earlier named cols)) 7) _ 7 (ap (λ (x : Bool). require (not x) 7) u) refl)

    like_is : ((old ≡ 0 → ⊥) → old ≡ k + 8 * mark) → unlike_earlier named cols ≡ false
    like_is h = unlike_is ∙ go (eqb old 0) refl
      where
        go : (b : Bool) → eqb old 0 ≡ b → (not b && not (eqb old (k + 8 * mark))) ≡ false
        go true e = refl
        go false e = ap not (eq-eqb old (k + 8 * mark) (h (eqb-false old 0 e)))

    pub meet_like : {after : List ℕ} → index < 256 → ((old ≡ 0 → ⊥) → old ≡ k + 8 * mark) → after ≡ set before index (k + 8 * mark)
        → ReadGives outer (meet_column index t mark cols (drop end outer)) (Ok (record { result = t; null = false; next = end })) after
    unfolding meet_column type_of
    meet_like few h after_is =
        let u = like_is h in
        let met = subst (λ (x : ℕ). Marked (named ∷ cols) (set before index x)) (sym named_mark) (seen_met cols before named s few u) in
        on_ok (mark_numbered 3 mark) _ (mark_of_lem mark low).0 (mark_of_lem mark low).1
        (on_ok (require (not (unlike_earlier named cols)) 7) _ tt (ap (λ (x : Bool). require (not x) 7) u)
        (rw after_is (gives_read (record { tree = column named; seen = named ∷ cols; rest = drop end outer }) _ refl refl
        (record { type_is = refl; null_is = refl; behind = record { rest_is = refl; seen_are = met } }))))

-- a column
module _ (content : List ℕ) (cols : List Column) (outer : List ℕ) (end : ℕ) {after : List ℕ} where
  pub column_sized : (length content ≡ 3 → ⊥) → ReadGives outer (read_column (record { tag = 16; content = content; rest = drop end outer }) cols) (Err RuleContent) after
  unfolding read_column
  column_sized h = on_refused (require (eqb (length content) 3) 3) _ 3 (ap (λ (x : Bool). require x 3) (ne_eqb _ _ h)) refl

  pub column_typed : length content ≡ 3 → type_numbered 3 (byte content 1) ≡ refused 3
      → ReadGives outer (read_column (record { tag = 16; content = content; rest = drop end outer }) cols) (Err RuleContent) after
  unfolding read_column
  column_typed h p =
      on_ok (require (eqb (length content) 3) 3) _ tt (ap (λ (x : Bool). require x 3) (eq-eqb _ _ h)) (on_refused (type_numbered 3 (byte content 1)) _ 3 p refl)

  pub column_met : {r : RustResult FieldFound Refusal} (t : DataType) → length content ≡ 3 → type_numbered 3 (byte content 1) ≡ ok t
      → ReadGives outer (meet_column (byte content 0) t (byte content 2) cols (drop end outer)) r after
      → ReadGives outer (read_column (record { tag = 16; content = content; rest = drop end outer }) cols) r after
  unfolding read_column meet_column
  column_met t h p g = on_ok (require (eqb (length content) 3) 3) _ tt (ap (λ (x : Bool). require x 3) (eq-eqb _ _ h)) (on_ok (type_numbered 3 (byte content 1)) _ t p g)

-- a value behind its null mark
module _ (t : DataType) (mark : ℕ) (content : List ℕ) where
  pub value_unmarked : 1 < mark → ValueGives mark (value_of t mark (drop 2 content)) false
  unfolding value_of
  value_unmarked h = record {
    fitting = λ e. absurd (false≢true e);
    unfitting = λ e. ap (λ (x : Result Bool). x >>= λ m. marked_value m t (drop 2 content)) (no_mark mark h);
  }

  pub value_null : mark ≡ 1 → ValueGives mark (value_of t mark (drop 2 content)) (leb (length content) 2)
  unfolding value_of mark_numbered marked_value
  value_null h = rw h (record {
    fitting = λ e. (null, ap (λ (x : Bool). require x 3 >>= λ _. ok null) (empty_drop 2 content (leb-true _ _ e)), refl);
    unfitting = λ e. ap (λ (x : Bool). require x 3 >>= λ _. ok null) (some_drop 2 content (leb-false _ _ e));
  })

  -- without one, it goes by the type
  pub value_plain : mark ≤ 1 → (mark ≡ 1 → ⊥) → (r : Bool) → ValueGives 0 (literal_value t (drop 2 content)) r → ValueGives mark (value_of t mark (drop 2 content)) r
  unfolding value_of mark_numbered marked_value
  value_plain h n r g = let z : mark ≡ 0 = omega arith in rw z g

-- a number
pub number_fits : (make : ℕ → Entry) (k : ℕ) (content : List ℕ) → 0 < k → ((n : ℕ) → is_null (make n) ≡ false)
    → ValueGives 0 (number_of make k (drop 2 content)) (eqb (length content) (2 + k))
number_fits make k content more some =
    let value = drop 2 content in
    let size = length-drop 2 content in
    record {
      fitting = λ e. let h : length content ≡ 2 + k = eqb-true _ _ e in
          let is : length value ≡ k = omega arith in
          (make (number value), ap (λ (x : Bool). require x 3 >>= λ _. ok (make (number value))) (eq-eqb _ _ is), sym (some (number value)));
      unfitting = λ e. let h = eqb-false (length content) (2 + k) e in
          ap (λ (x : Bool). require x 3 >>= λ _. ok (make (number value))) (ne_eqb (length value) k (λ q. h (omega arith)));
    }

-- a Boolean
pub boolean_sized : (content : List ℕ) → (length content ≡ 3 → ⊥) → ValueGives 0 (literal_value Boolean (drop 2 content)) false
unfolding literal_value
boolean_sized content h = record {
  fitting = λ e. absurd (false≢true e);
  unfitting = λ e. let size = length-drop 2 content in
      ap (λ (x : Bool). require x 3 >>= λ _. mark_numbered 3 (byte (drop 2 content) 0) >>= λ b. ok (boolean b)) (ne_eqb (length (drop 2 content)) 1 (λ q. h (omega arith)));
}

pub boolean_fits : (content : List ℕ) (b : ℕ) → length content ≡ 3 → b ≡ byte content 2 → ValueGives 0 (literal_value Boolean (drop 2 content)) (ltb b 2)
unfolding literal_value
boolean_fits content b h is =
    let size = length-drop 2 content in
    let one : length (drop 2 content) ≡ 1 = omega arith in
    let same : byte (drop 2 content) 0 ≡ b = get_or-drop 2 content 0 0 ∙ sym is in
    rw (eq-eqb _ _ one, same) (record {
      fitting = λ e. let low : b < 2 = ltb-true _ _ e in
          let (n, gives, m) = mark_of_lem b (omega arith) in
          (boolean n, ap (λ (x : Result Bool). x >>= λ y. ok (boolean y)) gives, refl);
      unfitting = λ e. let high : 2 ≤ b = ltb-false _ _ e in
          ap (λ (x : Result Bool). x >>= λ y. ok (boolean y)) (no_mark b (omega arith));
    })

-- a text
pub text_fits : (content : List ℕ) → ValueGives 0 (literal_value Utf8 (drop 2 content)) true
unfolding literal_value
text_fits content = record { fitting = λ e. (utf8 (drop 2 content), refl, refl); unfitting = λ e. absurd (true≢false e) }

-- two steps in turn
in_turn : {A B C : Type 0} (m : Result A) (f : A → Result B) (g : B → Result C) → ((m >>= f) >>= g) ≡ (m >>= λ a. f a >>= g)
in_turn (refused n) f g = refl
in_turn (ok a) f g = refl

-- a literal; any type byte alone is refused with 3
one_byte : (a : ℕ) → ◌≡◌ {A = Result (Read Expr)} (type_numbered 3 a >>= λ _. refused 3) (refused 3)
unfolding type_numbered
one_byte zero = refl
one_byte (suc zero) = refl
one_byte (suc (suc zero)) = refl
one_byte (suc (suc (suc zero))) = refl
one_byte (suc (suc (suc (suc zero)))) = refl
one_byte (suc (suc (suc (suc (suc zero))))) = refl
one_byte (suc (suc (suc (suc (suc (suc k)))))) = refl

module _ (cols : List Column) (outer : List ℕ) (end : ℕ) {after : List ℕ} where
  pub literal_sized : (content : List ℕ) → length content < 2 → ReadGives outer (read_literal (record { tag = 17; content = content; rest = drop end outer }) cols) (Err RuleContent) after
  unfolding read_literal
  literal_sized [] h = gives_refusal 3 refl refl
  literal_sized (a ∷ []) h = gives_refusal 3 (one_byte a) refl
  literal_sized (a ∷ b ∷ l) h = absurd (omega arith)

  pub literal_typed : (content : List ℕ) → 2 ≤ length content → type_numbered 3 (byte content 0) ≡ refused 3
      → ReadGives outer (read_literal (record { tag = 17; content = content; rest = drop end outer }) cols) (Err RuleContent) after
  unfolding read_literal
  literal_typed [] h p = absurd (omega arith)
  literal_typed (a ∷ l) h p = on_refused (type_numbered 3 a) _ 3 p refl

  module _ (t : DataType) where
    pub literal_unfit : (content : List ℕ) → 2 ≤ length content → type_numbered 3 (byte content 0) ≡ ok t
        → (fits : Bool) → ValueGives (byte content 1) (value_of t (byte content 1) (drop 2 content)) fits → fits ≡ false
        → ReadGives outer (read_literal (record { tag = 17; content = content; rest = drop end outer }) cols) (Err RuleContent) after
    unfolding read_literal value_of
    literal_unfit [] h p fits v f = absurd (omega arith)
    literal_unfit (a ∷ []) h p fits v f = absurd (omega arith)
    literal_unfit (a ∷ b ∷ l) h p fits v f =
        on_ok (type_numbered 3 a) _ t p
        (subst (λ (d : Result (Read Expr)). ReadGives outer d (Err RuleContent) after) (in_turn (mark_numbered 3 b) (λ m. marked_value m t l) _)
        (on_refused (value_of t b l) (λ x. ok (record { tree = literal t x; seen = cols; rest = drop end outer })) 3 (v.unfitting f) refl))

    pub literal_read : (content : List ℕ) → 2 ≤ length content → type_numbered 3 (byte content 0) ≡ ok t
        → (fits : Bool) → ValueGives (byte content 1) (value_of t (byte content 1) (drop 2 content)) fits → fits ≡ true
        → Marked cols after
        → ReadGives outer (read_literal (record { tag = 17; content = content; rest = drop end outer }) cols) (Ok (record { result = t; null = eqb (byte content 1) 1; next = end })) after
    unfolding read_literal value_of type_of
    literal_read [] h p fits v f s = absurd (omega arith)
    literal_read (a ∷ []) h p fits v f s = absurd (omega arith)
    literal_read (a ∷ b ∷ l) h p fits v f s =
        let (x, gives, is) = v.fitting f in
        on_ok (type_numbered 3 a) _ t p
        (subst (λ (d : Result (Read Expr)). ReadGives outer d (Ok (record { result = t; null = eqb b 1; next = end })) after) (in_turn (mark_numbered 3 b) (λ m. marked_value m t l) _)
        (on_ok (value_of t b l) (λ x. ok (record { tree = literal t x; seen = cols; rest = drop end outer })) x gives
        (gives_read (record { tree = literal t x; seen = cols; rest = drop end outer }) _ refl refl
        (record { type_is = refl; null_is = is; behind = record { rest_is = refl; seen_are = s } }))))
