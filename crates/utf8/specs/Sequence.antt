-- The bytes behind the first, by the first (the Unicode Standard, Table 3-7): from the second on 80 to BF, but for the second behind E0, ED, F0 and F4.
use Rattle.std.specs.Prelude.{cond, ℕ, eqb}
use Rattle.utf8.specs.WellFormed.{Range, ◌‥◌}

-- a byte behind the second
abbrev pub trailing_range : Range
trailing_range = 0x80 ‥ 0xBF

-- the least second byte: A0 behind E0, 90 behind F0
unfoldable pub second_least : ℕ → ℕ
second_least first = cond (eqb first 0xE0) 0xA0 (cond (eqb first 0xF0) 0x90 0x80)

-- the greatest second byte: 9F behind ED, 8F behind F4
unfoldable pub second_greatest : ℕ → ℕ
second_greatest first = cond (eqb first 0xED) 0x9F (cond (eqb first 0xF4) 0x8F 0xBF)

-- the second byte, by the first
abbrev pub second_range : ℕ → Range
second_range first = second_least first ‥ second_greatest first
