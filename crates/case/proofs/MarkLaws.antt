-- Marks of texts: a size and a mark tell a text of four to eight bytes. Assumes nothing.
use Rattle.std.proofs.Common.{◌≡◌, ℕ, ◌+◌, ◌-◌, ◌*◌, ◌/◌, ◌%◌, ◌^◌, ◌<◌, ◌≤◌, Bool, true, eqb, List, ◌++◌, length, get_or, take, drop, set, sym, ap, ◌∙◌, subst, ap₂, arith, length-drop, length-set, take-append-drop, take_all, get_or-set_other, get_or-set_same, drop-drop, eqb-true}
use native.Mathlib.Decide.{ℕ_discrete}
use Rattle.layout.specs.Bytes.{Bytes, number_at, part}
use Rattle.layout.proofs.BytesLaws.{bytes_take, bytes_drop}
use Rattle.scalar.specs.Entry.{utf8, entry}
use Rattle.scalar.specs.Text.{same_bytes}
use Rattle.scalar.specs.Pair.{pair_of}
use Rattle.scalar.specs.Value.{meaning}
use Rattle.scalar.proofs.EntryLaws.{agree_refl}
use Rattle.case.specs.LookUpTables.{same_key, value_at}
use Rattle.case.specs.LookUpColumns.{rule_text, text_mark, KeySize, Marked, MarkIs}
use Rattle.case.proofs.LookUpLaws.{text_in_rule}
use Rattle.case.proofs.WordLaws.{four_below, same_four}

-- the text between the offsets of a row and the next
pub row_between : (texts offsets : List ℕ) (row : ℕ) {text : List ℕ} {from to : ℕ} → from ≡ number_at 4 offsets (4 * row) → to ≡ number_at 4 offsets (4 * row + 4) → text ≡ part texts from to
    → text ≡ part texts (number_at 4 offsets (4 * row)) (number_at 4 offsets (4 * (row + 1)))
row_between texts offsets row a b e =
    let next : 4 * row + 4 ≡ 4 * (row + 1) = omega arith in
    e ∙ ap₂ (part texts) a (b ∙ ap (number_at 4 offsets) next)

-- ---- a text by its mark

-- a text of four to eight bytes is its first four, and what its last four have behind them
four_and_four : (t : List ℕ) → 4 ≤ length t → length t ≤ 8 → t ≡ take 4 t ++ drop (8 - length t) (take 4 (drop (length t - 4) t))
four_and_four t p q =
    let place : length t - 4 + (8 - length t) ≡ 4 = omega arith in
    sym (take-append-drop 4 t)
    ∙ ap (λ (k : ℕ). take 4 t ++ drop k t) (sym place)
    ∙ ap (λ (l : List ℕ). take 4 t ++ l) (sym (drop-drop (8 - length t) (length t - 4) t))
    ∙ ap (λ (l : List ℕ). take 4 t ++ drop (8 - length t) l) (sym (take_all 4 (drop (length t - 4) t) (omega (arith, length-drop (length t - 4) t))))

-- two texts of one size and one mark are one
mark_tells : (t u : List ℕ) → Bytes t → Bytes u → length t ≡ length u → 4 ≤ length t → length t ≤ 8 → text_mark t ≡ text_mark u → t ≡ u
mark_tells t u a b n p q e =
    let t₁ = four_below t 0 a (omega arith) in
    let u₁ = four_below u 0 b (omega arith) in
    let front : number_at 4 t 0 ≡ number_at 4 u 0 = omega arith in
    let back : number_at 4 t (length t - 4) ≡ number_at 4 u (length u - 4) = omega arith in
    four_and_four t p q
    ∙ ap₂ ◌++◌ (same_four t u 0 0 a b (omega arith) (omega arith) front)
    (ap₂ (λ (k : ℕ) (l : List ℕ). drop (8 - k) l) n (same_four t u (length t - 4) (length u - 4) a b (omega arith) (omega arith) back))
    ∙ sym (four_and_four u (omega arith) (omega arith))

-- ---- the marks of the keys

-- the size of a key's text
pub size_of : {rule text : List ℕ} {kind p : ℕ} → kind ≡ 5 → text ≡ rule_text rule p → 4 ≤ length text → length text ≤ 8 → KeySize rule kind p (length text)
size_of k e least most = record { most = most; is_text_lem = λ n. k; is_size = λ n. sym (ap length e); least = λ n. least }

-- and its mark
pub no_mark : {t text : List ℕ} {r : ℕ} → text ≡ t → length text < 4 → 4 ≤ length t → r ≡ text_mark t
no_mark e h p = absurd (omega (arith, ap length e))

pub mark_of_lem : {t text : List ℕ} {r : ℕ} → text ≡ t → r ≡ text_mark text → 4 ≤ length t → r ≡ text_mark t
mark_of_lem e is p = is ∙ ap (λ (l : List ℕ). text_mark l) e

pub marks_none : {rule kinds keys sizes marks : List ℕ} → length sizes ≡ 32 → length marks ≡ 32 → ((k : ℕ) → get_or sizes k 0 ≡ 0) → Marked rule kinds keys sizes marks
marks_none a b zeros = record {
  sizes_long = a;
  marks_long = b;
  each_size = λ k. record { most = omega (arith, zeros k); is_text_lem = λ n. absurd (n (zeros k)); is_size = λ n. absurd (n (zeros k)); least = λ n. absurd (n (zeros k)) };
  each_mark = λ k n. absurd (n (zeros k));
}

-- a key more
pub marks_more : {rule kinds keys sizes marks : List ℕ} {k s m : ℕ} → Marked rule kinds keys sizes marks → k < 32 → KeySize rule (get_or kinds k 0) (get_or keys k 0) s
    → (4 ≤ length (rule_text rule (get_or keys k 0)) → m ≡ text_mark (rule_text rule (get_or keys k 0))) → Marked rule kinds keys (set sizes k s) (set marks k m)
marks_more {rule} {kinds} {keys} {sizes} {marks} {k} {s} {m} x h size mark = record {
  sizes_long = length-set sizes k s ∙ x.sizes_long;
  marks_long = length-set marks k m ∙ x.marks_long;
  each_size = λ j. size_at j (ℕ_discrete j k);
  each_mark = λ j. mark_at_lem j (ℕ_discrete j k);
}
  where
    size_here : get_or (set sizes k s) k 0 ≡ s
    size_here = get_or-set_same sizes k s 0 (omega (arith, x.sizes_long))

    mark_here : get_or (set marks k m) k 0 ≡ m
    mark_here = get_or-set_same marks k m 0 (omega (arith, x.marks_long))

    size_at : (j : ℕ) → Dec (j ≡ k) → KeySize rule (get_or kinds j 0) (get_or keys j 0) (get_or (set sizes k s) j 0)
    size_at j (yes e) = subst (λ (i : ℕ). KeySize rule (get_or kinds i 0) (get_or keys i 0) (get_or (set sizes k s) i 0)) (sym e) (subst (λ (y : ℕ). KeySize rule (get_or kinds k 0) (get_or keys k 0) y) (sym size_here) size)
    size_at j (no d) = subst (λ (y : ℕ). KeySize rule (get_or kinds j 0) (get_or keys j 0) y) (sym (get_or-set_other sizes k j s 0 d)) (x.each_size j)

    new_mark : (get_or (set sizes k s) k 0 ≡ 0 → ⊥) → get_or (set marks k m) k 0 ≡ text_mark (rule_text rule (get_or keys k 0))
    new_mark n =
        let some : s ≡ 0 → ⊥ = λ z. n (size_here ∙ z) in
        mark_here ∙ mark (omega (arith, size.is_size some, size.least some))

    mark_at_lem : (j : ℕ) → Dec (j ≡ k) → (get_or (set sizes k s) j 0 ≡ 0 → ⊥) → get_or (set marks k m) j 0 ≡ text_mark (rule_text rule (get_or keys j 0))
    mark_at_lem j (yes e) = subst (λ (i : ℕ). (get_or (set sizes k s) i 0 ≡ 0 → ⊥) → get_or (set marks k m) i 0 ≡ text_mark (rule_text rule (get_or keys i 0))) (sym e) new_mark
    mark_at_lem j (no d) = λ n. get_or-set_other marks k j m 0 d ∙ x.each_mark j (λ z. n (get_or-set_other sizes k j s 0 d ∙ z))

-- a text that has the size and the mark of a key
pub mark_is : {size mark m : ℕ} {text : List ℕ} {r : Bool} → 4 ≤ length text → size ≡ length text → m ≡ text_mark text → r ≡ eqb mark m → r ≡ true → MarkIs size mark text
mark_is {size} {mark} {m} some n e is h = record { some = some; same_size = n; same_mark = eqb-true mark m (sym is ∙ h) ∙ e }

-- is the key
pub marked_same : (table : List ℕ) (k : ℕ) {rule kinds keys sizes marks text : List ℕ} → Bytes rule → Bytes text → Marked rule kinds keys sizes marks → MarkIs (get_or sizes k 0) (get_or marks k 0) text
    → true ≡ same_key (entry (utf8 text)) (meaning rule table (value_at kinds keys k))
unfolding pair_of
marked_same table k {rule} {kinds} {keys} {sizes} {marks} {text} a b x i =
    let some : get_or sizes k 0 ≡ 0 → ⊥ = λ z. omega (arith, i.some, i.same_size) in
    let size = x.each_size k in
    let same : text ≡ rule_text rule (get_or keys k 0) =
    mark_tells text (rule_text rule (get_or keys k 0)) b (bytes_take (get_or keys k 0 / 2 ^ 32) (drop (get_or keys k 0 % 2 ^ 32) rule) (bytes_drop (get_or keys k 0 % 2 ^ 32) rule a)) (sym i.same_size ∙ sym (size.is_size some)) i.some (omega (arith, size.most, i.same_size)) (sym i.same_mark ∙ x.each_mark k some) in
    text_in_rule rule table text (get_or kinds k 0) (get_or keys k 0) (size.is_text_lem some) (sym (ap (same_bytes text) (sym same) ∙ agree_refl (utf8 text)))
