-- `shown_fits`, arm by arm.
use mathlib.Core.Path.{refl, sym}
use Prim.Native.Nat.{suc}
use Rattle.listing.proofs.DigitLaws.{length_digits}
use Rattle.listing.proofs.ShownLaws.{fits_at_lem, after_sign, as_decimal}
use Rattle.listing.proofs.entry.shown_fits.Goals as goal

pub returns-in-Number : goal.returns-in-Number
returns-in-Number c = fits_at_lem c.args.bytes.now c.in-Number.is c.args.room c.decimal_places.result (as_decimal _ c.decimal_places.ensures.0) refl

pub returns-in-Negative : goal.returns-in-Negative
returns-in-Negative c = fits_at_lem c.args.bytes.now c.in-Negative.is c.args.room (suc c.decimal_places-in-Negative.result) (after_sign _ c.decimal_places-in-Negative.ensures.0) refl

pub returns-in-Bits : goal.returns-in-Bits
returns-in-Bits c = fits_at_lem c.args.bytes.now c.in-Bits.is c.args.room 16 (sym (length_digits 16 16 _)) refl
