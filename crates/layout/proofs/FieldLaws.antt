-- Fields and their bytes. Assumes nothing.
use mathlib.Core.Path.{◌≡◌, refl, ap, sym, subst, ◌∙◌}
use mathlib.Core.Bool.{Bool, true, false, cond}
use mathlib.Core.List.{List, [], ◌∷◌, ◌++◌}
use Prim.Native.Nat.{ℕ, ◌+◌, ◌<◌, ◌≤◌}
use native.Mathlib.Omega.{arith}
use lib.Dec.{ltb}
use lib.ListN.{length, take, drop, length-append, take-append-drop}
use lib.Seq.{length-take-le, drop-drop, take-append_seam, drop-append_seam}
use borrow.Author.Tests.{ltb-false, le-ltb}
use Rattle.layout.specs.Result.{refused, ok}
use Rattle.layout.specs.Bytes.{Bytes, number, number_bytes}
use Rattle.layout.specs.Field.{Field, content_length, field_at, header, field_bytes}
use Rattle.layout.specs.Refusals.{among}
use Rattle.layout.proofs.ResultLaws.{refused_not_ok, ok_injective, RefusedAmong, ok_among, refused_among, cond_among}
use Rattle.layout.proofs.BytesLaws.{bytes_take, bytes_drop, bytes_tail, number_bytes_number}

-- a field that is there has room for its header and its content
pub header_ok : (n : ℕ) (l : List ℕ) (f : Field) → header n l ≡ ok f → (3 ≤ length l) × (3 + content_length l ≤ length l) × (f ≡ field_at l)
unfolding header
header_ok n l f e = go (ltb (length l) 3) refl (ltb (length l) (3 + content_length l)) refl e
  where
    go : (s : Bool) → ltb (length l) 3 ≡ s → (t : Bool) → ltb (length l) (3 + content_length l) ≡ t
        → cond s (refused n) (cond t (refused n) (ok (field_at l))) ≡ ok f → (3 ≤ length l) × (3 + content_length l ≤ length l) × (f ≡ field_at l)
    go true p t q e = absurd (refused_not_ok n f e)
    go false p true q e = absurd (refused_not_ok n f e)
    go false p false q e = (ltb-false _ _ p, ltb-false _ _ q, sym (ok_injective e))

-- a field that isn't there is refused with the reader's number
pub header_among : (k : List ℕ) (n : ℕ) (l : List ℕ) → among k n ≡ true → RefusedAmong k (header n l)
unfolding header
header_among k n l h =
    let no = refused_among k n h in
    cond_among k (ltb (length l) 3) _ _ no (cond_among k (ltb (length l) (3 + content_length l)) _ _ no (ok_among k (field_at l)))

-- where there is room, it is there
pub header_fits : (n : ℕ) (l : List ℕ) → 3 ≤ length l → 3 + content_length l ≤ length l → header n l ≡ ok (field_at l)
unfolding header
header_fits n l p q = simp (le-ltb _ _ p, le-ltb _ _ q)

-- bytes that hold a field are its bytes, and what is behind it
whole : (l : List ℕ) → Bytes l → 3 ≤ length l → 3 + content_length l ≤ length l → l ≡ field_bytes (field_at l).tag (field_at l).content ++ (field_at l).rest
unfolding field_bytes
whole [] h p q = absurd (omega arith)
whole (a ∷ []) h p q = absurd (omega arith)
whole (a ∷ b ∷ []) h p q = absurd (omega arith)
whole (a ∷ b ∷ c ∷ l) h p q =
    let k = number (b ∷ c ∷ []) in
    let len : length (take k l) ≡ k = length-take-le k l (omega arith) in
    let two : number_bytes 2 k ≡ b ∷ c ∷ [] = number_bytes_number (b ∷ c ∷ []) (bytes_take 2 (b ∷ c ∷ l) (bytes_tail a (b ∷ c ∷ l) h)) in
    let behind : drop k l ≡ drop (3 + k) (a ∷ b ∷ c ∷ l) = drop-drop k 3 (a ∷ b ∷ c ∷ l) in
    rw (len, two, ← behind, take-append-drop k l)

-- a field that is read is its bytes, and what is behind it
pub header_bytes : (n : ℕ) (l : List ℕ) (f : Field) → Bytes l → header n l ≡ ok f → l ≡ field_bytes f.tag f.content ++ f.rest
header_bytes n l f h e =
    let i = header_ok n l f e in
    subst (λ (g : Field). l ≡ field_bytes g.tag g.content ++ g.rest) (sym i.2) (whole l h i.0 i.1)

-- the parts of bytes are bytes
pub header_bytes_parts : (n : ℕ) (l : List ℕ) (f : Field) → Bytes l → header n l ≡ ok f → Bytes f.content × Bytes f.rest
header_bytes_parts n l f h e =
    subst (λ (g : Field). Bytes g.content × Bytes g.rest) (sym (header_ok n l f e).2)
    (bytes_take (content_length l) (drop 3 l) (bytes_drop 3 l h), bytes_drop (3 + content_length l) l h)

-- the bytes of a field are read as that field
pub header_field : (n tag : ℕ) (content rest : List ℕ) → length content < 65536
    → header n (field_bytes tag content ++ rest) ≡ ok (record { tag = tag; content = content; rest = rest })
unfolding field_bytes number_bytes number
header_field n tag content rest h =
    let l = field_bytes tag content ++ rest in
    let k : content_length l ≡ length content = omega arith in
    let s = length-append content rest in
    let inside : take (content_length l) (content ++ rest) ≡ content = rw k (take-append_seam content rest) in
    let behind : drop (content_length l) (content ++ rest) ≡ rest = rw k (drop-append_seam content rest) in
    let after = sym (drop-drop (content_length l) 3 l) ∙ behind in
    let same : field_at l ≡ record { tag = tag; content = content; rest = rest } = λ i. record { tag = tag; content = inside i; rest = after i } in
    header_fits n l (omega arith) (omega arith) ∙ ap ok same

-- a field's bytes are three more than its content's
pub length_field : (tag : ℕ) (content : List ℕ) → length (field_bytes tag content) ≡ 3 + length content
unfolding field_bytes number_bytes
length_field tag content = omega arith
