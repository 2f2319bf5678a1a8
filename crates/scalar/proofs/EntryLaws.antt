-- Two entries agree just where they are one. Assumes nothing.
use Rattle.std.proofs.Common.{◌≡◌, ℕ, Bool, true, false, ◌&&◌, T, eqb, List, [], ◌∷◌, sym, refl, ap, subst, ap₂, eqb→eq, eq-eqb}
use mathlib.Core.Bool.{beq}
use lib.Ieee.Fits.{and_l, and_r}
use Rattle.scalar.specs.Text.{same_bytes}
use Rattle.scalar.specs.Entry.{Entry, null, boolean, int32, int64, float64, utf8}
use Rattle.scalar.specs.Pair.{pair_of, agree}

-- two texts of the same bytes are one
same_bytes_lem : (a b : List ℕ) → T (same_bytes a b) → a ≡ b
unfolding same_bytes
same_bytes_lem [] [] p = refl
same_bytes_lem [] (y ∷ b) p = absurd p
same_bytes_lem (x ∷ a) [] p = absurd p
same_bytes_lem (x ∷ a) (y ∷ b) p = ap₂ ◌∷◌ (eqb→eq x y (and_l (eqb x y) (same_bytes a b) p)) (same_bytes_lem a b (and_r (eqb x y) (same_bytes a b) p))

same_refl : (a : List ℕ) → same_bytes a a ≡ true
unfolding same_bytes
same_refl [] = refl
same_refl (x ∷ a) = ap₂ ◌&&◌ (eq-eqb x x refl) (same_refl a)

same_flag : (a b : Bool) → T (beq a b) → a ≡ b
same_flag true true p = refl
same_flag true false p = absurd p
same_flag false true p = absurd p
same_flag false false p = refl

-- two entries that agree are one
agreeing : (a b : Entry) → T (agree a b) → a ≡ b
unfolding pair_of
agreeing null null = λ p. refl
agreeing null (boolean y) = absurd
agreeing null (int32 y) = absurd
agreeing null (int64 y) = absurd
agreeing null (float64 y) = absurd
agreeing null (utf8 y) = absurd
agreeing (boolean x) null = absurd
agreeing (boolean x) (boolean y) = λ p. ap boolean (same_flag x y p)
agreeing (boolean x) (int32 y) = absurd
agreeing (boolean x) (int64 y) = absurd
agreeing (boolean x) (float64 y) = absurd
agreeing (boolean x) (utf8 y) = absurd
agreeing (int32 x) null = absurd
agreeing (int32 x) (boolean y) = absurd
agreeing (int32 x) (int32 y) = λ p. ap int32 (eqb→eq x y p)
agreeing (int32 x) (int64 y) = absurd
agreeing (int32 x) (float64 y) = absurd
agreeing (int32 x) (utf8 y) = absurd
agreeing (int64 x) null = absurd
agreeing (int64 x) (boolean y) = absurd
agreeing (int64 x) (int32 y) = absurd
agreeing (int64 x) (int64 y) = λ p. ap int64 (eqb→eq x y p)
agreeing (int64 x) (float64 y) = absurd
agreeing (int64 x) (utf8 y) = absurd
agreeing (float64 x) null = absurd
agreeing (float64 x) (boolean y) = absurd
agreeing (float64 x) (int32 y) = absurd
agreeing (float64 x) (int64 y) = absurd
agreeing (float64 x) (float64 y) = λ p. ap float64 (eqb→eq x y p)
agreeing (float64 x) (utf8 y) = absurd
agreeing (utf8 x) null = absurd
agreeing (utf8 x) (boolean y) = absurd
agreeing (utf8 x) (int32 y) = absurd
agreeing (utf8 x) (int64 y) = absurd
agreeing (utf8 x) (float64 y) = absurd
agreeing (utf8 x) (utf8 y) = λ p. ap utf8 (same_bytes_lem x y p)

pub agree_eq : (a b : Entry) → agree a b ≡ true → a ≡ b
agree_eq a b p = agreeing a b (subst T (sym p) tt)

-- an entry agrees with itself
pub agree_refl : (a : Entry) → agree a a ≡ true
unfolding pair_of
agree_refl null = refl
agree_refl (boolean true) = refl
agree_refl (boolean false) = refl
agree_refl (int32 n) = eq-eqb n n refl
agree_refl (int64 n) = eq-eqb n n refl
agree_refl (float64 n) = eq-eqb n n refl
agree_refl (utf8 t) = same_refl t
