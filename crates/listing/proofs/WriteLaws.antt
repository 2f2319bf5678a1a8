-- Whether bytes fit at a place. Assumes nothing.
use Rattle.std.specs.Prelude.{Some, None}
use mathlib.Core.Path.{◌≡◌, sym, ap, ◌∙◌}
use mathlib.Core.Bool.{Bool, true, false, cond}
use mathlib.Core.List.{List}
use Prim.Native.Nat.{ℕ, ◌+◌, ◌<◌}
use lib.ListN.{length}
use borrow.Author.Tests.{le-leb, lt-leb}
use Rattle.layout.specs.Put.{wrote, Wrote}
use Rattle.listing.specs.Putting.{fits_at, Put}

-- where they fit, what was written is put
pub put_fits : {out : List ℕ} {at : ℕ} {xs : List ℕ} {p : ℕ} {m : List ℕ} → Wrote out at xs p m → Put out at xs (Some p) m
put_fits {out} {at} {xs} {p} {m} w =
    let t : fits_at out at xs ≡ true = le-leb (at + length xs) (length out) w.fits in
    record {
      says = ap Some w.ends ∙ ap (λ (b : Bool). cond b (Some (at + length xs)) None) (sym t);
      holds = w.holds ∙ ap (λ (b : Bool). cond b (wrote out at xs) out) (sym t);
    }

-- where they don't, nothing is
pub put_full : {out : List ℕ} {at : ℕ} (xs : List ℕ) → length out < at + length xs → Put out at xs None out
put_full {out} {at} xs h =
    let t : fits_at out at xs ≡ false = lt-leb (at + length xs) (length out) h in
    record {
      says = ap (λ (b : Bool). cond b (Some (at + length xs)) None) (sym t);
      holds = ap (λ (b : Bool). cond b (wrote out at xs) out) (sym t);
    }
