-- `shown_size`, arm by arm.
use mathlib.Core.Path.{sym}
use Rattle.listing.proofs.DigitLaws.{length_digits}
use Rattle.listing.proofs.ShownLaws.{size_at, with_sign, as_decimal, as_text}
use Rattle.listing.proofs.entry.shown_size.Goals as goal

pub returns-in-Number : goal.returns-in-Number
returns-in-Number c = size_at c.args.bytes.now c.in-Number.is (as_decimal _ c.decimal_places.ensures.0)

pub returns-in-Negative : goal.returns-in-Negative
returns-in-Negative c = size_at c.args.bytes.now c.in-Negative.is (with_sign _ c.decimal_places-in-Negative.ensures.0)

pub returns-in-Bits : goal.returns-in-Bits
returns-in-Bits c = size_at c.args.bytes.now c.in-Bits.is (sym (length_digits 16 16 _))

pub returns-in-Text : goal.returns-in-Text
returns-in-Text c = size_at c.args.bytes.now c.in-Text.is (as_text c.place_text-text.ensures)
