-- Whether a text in hex fits. Assumes nothing.
use mathlib.Core.Path.{◌≡◌, sym, ◌∙◌}
use mathlib.Core.List.{List}
use Prim.Native.Nat.{ℕ, suc, ◌-◌, ◌/◌, ◌<◌, ◌≤◌}
use native.Mathlib.Decide.{dec_le}
use native.Mathlib.Omega.{arith}
use lib.Dec.{leb}
use lib.ListN.{length}
use borrow.Author.Tests.{le-leb, lt-leb}
use Rattle.listing.specs.Listing.{hex_bytes}
use Rattle.listing.proofs.DigitLaws.{length_hex}

-- two tests that go the same way
pub leb_same : (a b c d : ℕ) → (a ≤ b → c ≤ d) → (c ≤ d → a ≤ b) → leb a b ≡ leb c d
leb_same a b c d f g = go (dec_le a b)
  where
    go : Dec (a ≤ b) → leb a b ≡ leb c d
    go (yes p) = le-leb a b p ∙ sym (le-leb c d (f p))
    go (no p) =
        let over : b < a = omega arith in
        let not : c ≤ d → ⊥ = λ q. p (g q) in
        let above : d < c = omega (arith, not) in
        lt-leb a b over ∙ sym (lt-leb c d above)

-- room for a byte and two digits for each byte of a text
pub hex_fits : (text : List ℕ) (room : ℕ) → (room ≡ 0 → ⊥) → leb (length text) ((room - 1) / 2) ≡ leb (suc (length (hex_bytes text))) room
hex_fits text room h =
    let e = length_hex text in
    let some : 1 ≤ room = omega arith in
    leb_same (length text) ((room - 1) / 2) (suc (length (hex_bytes text))) room
    (λ (p : length text ≤ (room - 1) / 2). omega arith)
    (λ (p : suc (length (hex_bytes text)) ≤ room). omega arith)
