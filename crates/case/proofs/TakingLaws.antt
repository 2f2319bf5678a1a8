-- The loop that picks the rows of an index for the next frame's list. Assumes nothing.
use Rattle.std.proofs.Common.{◌≡◌, ℕ, ◌+◌, ◌*◌, ◌<◌, ◌≤◌, List, length, sym, refl, ◌∙◌, subst, subst₂, arith}
use Rattle.layout.specs.Bytes.{byte}
use Rattle.case.specs.Frame.{row_at, Rows}
use Rattle.case.specs.Parting.{RowPut, Sifted}
use Rattle.case.proofs.SlotLaws.{number_same}
use Rattle.case.proofs.SiftLaws.{put_kept, sifted_miss, sifted_hit}

-- where the loop stands: i of the n rows are done, m of them picked
pub record PickedSoFar (wanted : ℕ → Type 0) (w : List ℕ) (n i m : ℕ) (w' : List ℕ) : Type 0 where
  pub upto : i ≤ n
  pub long : length w' ≡ length w
  pub low : (j : ℕ) → j < 6656 → byte w' j ≡ byte w j
  pub sifted : Sifted wanted (row_at w 0) i (row_at w' 6656) m

-- one turn, at the row that is read
module _ {wanted : ℕ → Type 0} {w : List ℕ} {n i m : ℕ} {w' : List ℕ} (s : PickedSoFar wanted w n i m w') (ok : Rows w 0 n 512) (room : 7680 ≤ length w) (more : i < n) where
  module _ {r : ℕ} (e : r ≡ row_at w' 0 i) where
    same_row : r ≡ row_at w 0 i
    same_row = let few = ok.few in e ∙ number_same 2 w' w (0 + 2 * i) (0 + 2 * i) (λ j b. s.low (0 + 2 * i + j) (omega arith))

    pub pick_fits : r < 512
    pick_fits = omega (arith, same_row, ok.below i more)

    -- the place where it goes lies in the buffer
    pub put_in : (6656 + 2 * m + 2 ≤ length w') × (r < 65536)
    put_in = (omega (arith, ok.few, s.long, s.sifted.few), omega (arith, pick_fits))

    -- it is picked
    pub picked_hit : {w'' x : List ℕ} {m' : ℕ} → RowPut w' 6656 m r w'' → wanted r → x ≡ w'' → m' ≡ m + 1 → PickedSoFar wanted w n (i + 1) m' x
    picked_hit {w''} put hit a b = subst₂ (λ (k : ℕ) (l : List ℕ). PickedSoFar wanted w n (i + 1) k l) (sym b) (sym a) (record {
      upto = omega arith;
      long = put.long ∙ s.long;
      low = λ j h. put.before j (omega arith) ∙ s.low j h;
      sifted = sifted_hit s.sifted (put_kept put) (put.here ∙ same_row) (subst wanted same_row hit) (λ k h. ok.rising k i h more);
    })

    -- it is not
    pub picked_miss : {x : List ℕ} {m' : ℕ} → (wanted r → ⊥) → x ≡ w' → m' ≡ m → PickedSoFar wanted w n (i + 1) m' x
    picked_miss miss a b = subst₂ (λ (k : ℕ) (l : List ℕ). PickedSoFar wanted w n (i + 1) k l) (sym b) (sym a) (record {
      upto = omega arith;
      long = s.long;
      low = s.low;
      sifted = sifted_miss s.sifted (λ k h. refl) (λ p. miss (subst wanted (sym same_row) p));
    })
