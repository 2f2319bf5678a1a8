-- The type of a node out of its bytes. Assumes nothing.
use mathlib.Core.Path.{◌≡◌, refl, ap, sym, subst, ◌∙◌}
use mathlib.Core.Bool.{Bool, true, false, cond, ◌||◌}
use mathlib.Core.List.{List, [], ◌∷◌, ◌++◌, append_assoc}
use Prim.Native.Nat.{ℕ, zero, suc, ◌+◌, ◌-◌, ◌%◌, ◌<◌, ◌≤◌}
use native.Mathlib.Omega.{arith}
use lib.Dec.{eqb, leb}
use lib.ListN.{length, length-append, get_or-eq_default}
use borrow.Author.Tests.{leb-true, leb-false, lt-leb, ne_eqb}
use Rattle.layout.specs.Bytes.{byte}
use Rattle.scalar.specs.declared.types.DataType.{DataType}
use Rattle.scalar.specs.declared.types.DataType.TheVariants.{Boolean}
use Rattle.rule.specs.Tree.{Expr, column, literal, negation, negative, is_not_null, cast, try_cast, equal, less, case_when, Branches, no_more, branch, Optional, branch_count}
use Rattle.rule.specs.Typing.{type_of, result_type}
use Rattle.rule.specs.Node.{NodeAt}
use Rattle.rule.specs.Walks.{branch_trees, optional_trees, TypeGives}
use Rattle.rule.specs.Walked.{behind_fields, type_from, first_then, TypeSource, itself, another, source_by, type_by, type_within, type_at}
use Rattle.rule.proofs.NodeLaws.{node_byte, node_tag_lem, node_children, trees_split, trees_one, case_counted}
use Rattle.rule.proofs.WalkLaws.{nothing_behind, behind_gives, base_flag}
use Rattle.rule.proofs.LiteralLaws.{type_from_lem}

-- where the first THEN stands, by the flags
then_told : (rule : List ℕ) (at : ℕ) {flags r : ℕ} → at < length rule → flags ≡ byte rule (at + 3) → r ≡ behind_fields rule (at + 5) (flags % 2 + 1) → r ≡ first_then rule at
unfolding first_then
then_told rule at room is told =
    told
    ∙ sym (ap (λ (b : Bool). cond b at (behind_fields rule (at + 5) (byte rule (at + 3) % 2 + 1))) (lt-leb (length rule) at room)
    ∙ ap (λ (n : ℕ). behind_fields rule (at + 5) (n % 2 + 1)) (sym is))

-- it is onward
pub then_onward : (rule : List ℕ) {at r : ℕ} → at < length rule → r ≡ first_then rule at → at < r
then_onward rule {at} room is =
    let told : behind_fields rule (at + 5) (byte rule (at + 3) % 2 + 1) ≡ first_then rule at = then_told rule at room refl refl in
    omega (arith, (behind_gives {rule = rule} {at = at + 5} {count = byte rule (at + 3) % 2 + 1} refl).onward)

-- at a CASE it is where its first THEN stands
then_stands : {rule : List ℕ} {at end depth : ℕ} {b : Optional} {w t : Expr} {bs : Branches} {els : Optional} → NodeAt rule at end (case_when b (branch w t bs) els) depth
    → (m : ℕ) × NodeAt rule (first_then rule at) m t (depth - 1)
then_stands {rule} {at} {end} {depth} {b} {w} {t} {bs} {els} n =
    let flag = node_byte 0 (at + 3) n (omega arith) (omega arith) in
    let base = base_flag b els in
    let trees = node_children (at + 5) n (omega arith) in
    let (m, first, later) = trees_split ((behind_gives (sym (then_told rule at (nothing_behind n) refl refl))).stand end (optional_trees b ++ (w ∷ [])) (t ∷ (branch_trees bs ++ optional_trees els))
    (depth - 1) (omega (arith, length-append (optional_trees b) (w ∷ []))) (rw append_assoc trees)) in
    (m, first)

-- a node has its type from a place that is onward
abbrev Onward : ℕ → TypeSource → Type 0
Onward at (itself t) = Unit {0}
Onward at (another p) = at < p

source_onward : (rule : List ℕ) (at : ℕ) → Onward at (source_by (byte rule at) rule at)
source_onward rule at = go (leb (length rule) at) refl
  where
    either : (b : Bool) (s s' : TypeSource) → Onward at s → Onward at s' → Onward at (cond b s s')
    either true s s' p q = p
    either false s s' p q = q

    go : (b : Bool) → leb (length rule) at ≡ b → Onward at (source_by (byte rule at) rule at)
    go true p = subst (λ (tag : ℕ). Onward at (source_by tag rule at)) (sym (get_or-eq_default rule 0 (leb-true _ _ p))) tt
    go false p =
        let room : at < length rule = leb-false _ _ p in
        let three : at < at + 3 = omega arith in
        either (eqb (byte rule at) 16) _ _ tt
        (either (eqb (byte rule at) 17 || eqb (byte rule at) 21 || eqb (byte rule at) 22) _ _ tt
        (either (eqb (byte rule at) 19) _ _ three (either (eqb (byte rule at) 25) _ _ (then_onward rule room refl) tt)))

-- behind the rule's end it is Boolean
within_behind : (n : ℕ) (rule : List ℕ) (at : ℕ) → length rule ≤ at → type_within n rule at ≡ Boolean
unfolding type_within
within_behind zero rule at none = refl
within_behind (suc n) rule at none = ap (λ (tag : ℕ). type_by (type_within n rule) (source_by tag rule at)) (get_or-eq_default rule 0 none)

-- two ways to give types that agree onward give one type
type_same : {at : ℕ} (f g : ℕ → DataType) (s : TypeSource) → Onward at s → ((next : ℕ) → at < next → f next ≡ g next) → type_by f s ≡ type_by g s
type_same f g (itself t) onward same = refl
type_same f g (another next) onward same = same next onward

-- as many steps as there are bytes left give what more give
within_more : (n m : ℕ) (rule : List ℕ) (at : ℕ) → length rule ≤ at + n → length rule ≤ at + m → type_within n rule at ≡ type_within m rule at
unfolding type_within
within_more zero m rule at p q = sym (within_behind m rule at (omega arith))
within_more (suc n) zero rule at p q = within_behind (suc n) rule at (omega arith)
within_more (suc n) (suc m) rule at p q =
    type_same (type_within n rule) (type_within m rule) (source_by (byte rule at) rule at) (source_onward rule at) (λ next k. within_more n m rule next (omega arith) (omega arith))

-- so a node's type is its source's
type_steps : (rule : List ℕ) (at : ℕ) → type_at rule at ≡ type_by (type_at rule) (source_by (byte rule at) rule at)
unfolding type_at type_within
type_steps rule at = within_more (length rule) (suc (length rule)) rule at (omega arith) (omega arith)

type_tagged : (rule : List ℕ) (at : ℕ) {tag : ℕ} → byte rule at ≡ tag → type_at rule at ≡ type_by (type_at rule) (source_by tag rule at)
type_tagged rule at is = type_steps rule at ∙ ap (λ (tag : ℕ). type_by (type_at rule) (source_by tag rule at)) is

-- by its tag: a type byte, another node, and Boolean for the rest
pub type_byte : (rule : List ℕ) (at tag : ℕ) {t r : DataType} {number read : ℕ} → type_at rule at ≡ t → byte rule at ≡ tag → source_by tag rule at ≡ itself (type_from read)
    → number ≡ read → r ≡ type_from number → r ≡ t
type_byte rule at tag same is source read told = told ∙ ap type_from read ∙ sym (ap (type_by (type_at rule)) source) ∙ sym (type_tagged rule at is) ∙ same

pub type_another : (rule : List ℕ) (at tag : ℕ) {t : DataType} {next r : ℕ} → type_at rule at ≡ t → byte rule at ≡ tag → source_by tag rule at ≡ another next → r ≡ next
    → type_at rule r ≡ t
type_another rule at tag same is source told = ap (type_at rule) told ∙ sym (ap (type_by (type_at rule)) source) ∙ sym (type_tagged rule at is) ∙ same

pub type_boolean : (rule : List ℕ) (at : ℕ) {t : DataType} → type_at rule at ≡ t → (byte rule at ≡ 16 → ⊥) → (byte rule at ≡ 17 → ⊥) → (byte rule at ≡ 19 → ⊥)
    → (byte rule at ≡ 21 → ⊥) → (byte rule at ≡ 22 → ⊥) → (byte rule at ≡ 25 → ⊥) → Boolean ≡ t
type_boolean rule at {t} same = go (byte rule at) refl
  where
    go : (tag : ℕ) → byte rule at ≡ tag → (tag ≡ 16 → ⊥) → (tag ≡ 17 → ⊥) → (tag ≡ 19 → ⊥) → (tag ≡ 21 → ⊥) → (tag ≡ 22 → ⊥) → (tag ≡ 25 → ⊥) → Boolean ≡ t
    go tag is a b c d e f =
        let none : source_by tag rule at ≡ itself Boolean = rw (ne_eqb tag 16 a, ne_eqb tag 17 b, ne_eqb tag 19 c, ne_eqb tag 21 d, ne_eqb tag 22 e, ne_eqb tag 25 f) in
        sym (type_tagged rule at is ∙ ap (type_by (type_at rule)) none) ∙ same

-- and behind the rule's end
pub type_behind : (rule : List ℕ) {at : ℕ} {t : DataType} → type_at rule at ≡ t → length rule ≤ at → Boolean ≡ t
unfolding type_at
type_behind rule {at} same none = sym (within_behind (length rule) rule at none) ∙ same

-- the type of the node of a tree
mutual
  unfolding type_of branch_count

  type_of_node : {rule : List ℕ} {at end depth : ℕ} (e : Expr) → NodeAt rule at end e depth → type_at rule at ≡ type_of e
  type_of_node {rule} {at} (column c) n = type_tagged rule at (node_tag_lem n) ∙ ap type_from (node_byte 1 (at + 4) n (omega arith) (omega arith)) ∙ type_from_lem c.type
  type_of_node {rule} {at} (literal t v) n = type_tagged rule at (node_tag_lem n) ∙ ap type_from (node_byte 0 (at + 3) n (omega arith) (omega arith)) ∙ type_from_lem t
  type_of_node {rule} {at} (negation e) n = type_tagged rule at (node_tag_lem n)
  type_of_node {rule} {at} (negative e) n = type_tagged rule at (node_tag_lem n) ∙ type_of_node e (trees_one (node_children (at + 3) n (omega arith)))
  type_of_node {rule} {at} (is_not_null e) n = type_tagged rule at (node_tag_lem n)
  type_of_node {rule} {at} (cast t e) n = type_tagged rule at (node_tag_lem n) ∙ ap type_from (node_byte 0 (at + 3) n (omega arith) (omega arith)) ∙ type_from_lem t
  type_of_node {rule} {at} (try_cast t e) n = type_tagged rule at (node_tag_lem n) ∙ ap type_from (node_byte 0 (at + 3) n (omega arith) (omega arith)) ∙ type_from_lem t
  type_of_node {rule} {at} (equal a b) n = type_tagged rule at (node_tag_lem n)
  type_of_node {rule} {at} (less a b) n = type_tagged rule at (node_tag_lem n)
  type_of_node {rule} {at} (case_when b bs els) n = type_tagged rule at (node_tag_lem n) ∙ type_of_first bs b els n

  type_of_first : {rule : List ℕ} {at end depth : ℕ} (bs : Branches) (b els : Optional) → NodeAt rule at end (case_when b bs els) depth → type_at rule (first_then rule at) ≡ result_type bs
  type_of_first no_more b els n = absurd (omega (arith, (case_counted n).0))
  type_of_first (branch w t bs) b els n = type_of_node t (then_stands n).1

-- the type of whatever node stands at a place
pub type_gives : {rule : List ℕ} {start : ℕ} {r : DataType} → r ≡ type_at rule start → TypeGives rule start r
type_gives is end e depth n = is ∙ type_of_node e n
