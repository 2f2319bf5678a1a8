-- Encodings by how many bytes they have; and that an encoding at the start of bytes says its code point and where it ends. Assumes nothing.
use mathlib.Core.Path.{◌≡◌, refl, sym, ap, ◌∙◌}
use mathlib.Core.Bool.{Bool, true, false, cond}
use mathlib.Core.List.{List, [], ◌∷◌, ◌++◌, append_cancel_left}
use Prim.Native.Nat.{ℕ, ◌+◌, ◌-◌, ◌*◌, ◌/◌, ◌<◌, ◌≤◌}
use native.Mathlib.Omega.{arith}
use lib.Dec.{ltb}
use lib.ListN.{length, get_or}
use borrow.Author.Tests.{ltb-true, ltb-false, lt-ltb, le-ltb}
use Rattle.utf8.specs.Encoding.{trailing, encoding}

-- how many bytes an encoding has
pub data Width : Type 0 where
  one two three four : Width

-- the code points with so many
abbrev pub OfWidth : Width → ℕ → Type 0
OfWidth one c = c < 0x80
OfWidth two c = (0x80 ≤ c) × (c < 0x800)
OfWidth three c = (0x800 ≤ c) × (c < 0x10000)
OfWidth four c = 0x10000 ≤ c

-- their bytes
abbrev pub bytes_of : Width → ℕ → List ℕ
bytes_of one c = c ∷ []
bytes_of two c = (0xC0 + c / 64) ∷ trailing c ∷ []
bytes_of three c = (0xE0 + c / 4096) ∷ trailing (c / 64) ∷ trailing c ∷ []
bytes_of four c = (0xF0 + c / 262144) ∷ trailing (c / 4096) ∷ trailing (c / 64) ∷ trailing c ∷ []

-- and back: the code point of so many bytes
abbrev pub value_of : Width → List ℕ → ℕ
value_of one bytes = get_or bytes 0 0
value_of two bytes = (get_or bytes 0 0 - 0xC0) * 64 + (get_or bytes 1 0 - 0x80)
value_of three bytes = (get_or bytes 0 0 - 0xE0) * 4096 + (get_or bytes 1 0 - 0x80) * 64 + (get_or bytes 2 0 - 0x80)
value_of four bytes = (get_or bytes 0 0 - 0xF0) * 262144 + (get_or bytes 1 0 - 0x80) * 4096 + (get_or bytes 2 0 - 0x80) * 64 + (get_or bytes 3 0 - 0x80)

-- each code point has a width
width : (c : ℕ) → (w : Width) × OfWidth w c
width c = cases (ltb c 0x80) refl (ltb c 0x800) refl (ltb c 0x10000) refl
  where
    cases : (r : Bool) → ltb c 0x80 ≡ r → (s : Bool) → ltb c 0x800 ≡ s → (t : Bool) → ltb c 0x10000 ≡ t → (w : Width) × OfWidth w c
    cases true p s q t r = (one, ltb-true c 0x80 p)
    cases false p true q t r = (two, (ltb-false c 0x80 p, ltb-true c 0x800 q))
    cases false p false q true r = (three, (ltb-false c 0x800 q, ltb-true c 0x10000 r))
    cases false p false q false r = (four, ltb-false c 0x10000 r)

-- the encoding by the width
pub encoding_of : (w : Width) (c : ℕ) → OfWidth w c → encoding c ≡ bytes_of w c
unfolding encoding
encoding_of one c h = rw (lt-ltb c 0x80 h)
encoding_of two c h = rw (le-ltb c 0x80 h.0, lt-ltb c 0x800 h.1)
encoding_of three c h = let k : 0x80 ≤ c = omega arith in rw (le-ltb c 0x80 k, le-ltb c 0x800 h.0, lt-ltb c 0x10000 h.1)
encoding_of four c h =
    let k : 0x80 ≤ c = omega arith in let m : 0x800 ≤ c = omega arith in
    rw (le-ltb c 0x80 k, le-ltb c 0x800 m, le-ltb c 0x10000 h)

-- an encoding has a byte
pub some_byte : (c : ℕ) → 1 ≤ length (encoding c)
some_byte c = let (w, h) = width c in rw (encoding_of w c h) (by w)
  where
    by : (w : Width) → 1 ≤ length (bytes_of w c)
    by one = omega arith
    by two = omega arith
    by three = omega arith
    by four = omega arith

-- the width by the first byte
abbrev width_at : ℕ → Width
width_at b = cond (ltb b 0x80) one (cond (ltb b 0xE0) two (cond (ltb b 0xF0) three four))

-- the code point at the start of bytes
abbrev first_value : List ℕ → ℕ
first_value bytes = value_of (width_at (get_or bytes 0 0)) bytes

-- it is the one that is encoded there
first_value_lem : (c : ℕ) (rest : List ℕ) → first_value (encoding c ++ rest) ≡ c
first_value_lem c rest = let (w, h) = width c in rw (encoding_of w c h) (by w h)
  where
    by : (w : Width) → OfWidth w c → first_value (bytes_of w c ++ rest) ≡ c
    by one h = rw (lt-ltb c 0x80 h)
    by two h =
        let k : 0x80 ≤ 0xC0 + c / 64 = omega arith in let m : 0xC0 + c / 64 < 0xE0 = omega arith in
        rw (le-ltb (0xC0 + c / 64) 0x80 k, lt-ltb (0xC0 + c / 64) 0xE0 m) (omega arith)
    by three h =
        let b = 0xE0 + c / 4096 in
        let k : 0x80 ≤ b = omega arith in let m : 0xE0 ≤ b = omega arith in let n : b < 0xF0 = omega arith in
        rw (le-ltb b 0x80 k, le-ltb b 0xE0 m, lt-ltb b 0xF0 n) (omega arith)
    by four h =
        let b = 0xF0 + c / 262144 in
        let k : 0x80 ≤ b = omega arith in let m : 0xE0 ≤ b = omega arith in let n : 0xF0 ≤ b = omega arith in
        let f : c / 64 / 64 ≡ c / 4096 = omega arith in let g : c / 4096 / 64 ≡ c / 262144 = omega arith in
        rw (le-ltb b 0x80 k, le-ltb b 0xE0 m, le-ltb b 0xF0 n) (omega arith)

-- of two encodings neither is the start of the other
pub prefix_free : (c d : ℕ) (x y : List ℕ) → encoding c ++ x ≡ encoding d ++ y → (c ≡ d) × (x ≡ y)
prefix_free c d x y e =
    let h : c ≡ d = sym (first_value_lem c x) ∙ ap first_value e ∙ first_value_lem d y in
    (h, append_cancel_left (encoding c) x y (e ∙ ap (λ (k : ℕ). encoding k ++ y) (sym h)))
