-- Bytes put at a place of a buffer.
use Rattle.std.specs.Prelude.{◌≡◌, List, ◌++◌, ℕ, ◌+◌, ◌≤◌, length, take, drop}

-- bytes written over those at a place
unfoldable pub wrote : List ℕ → ℕ → List ℕ → List ℕ
wrote out at bytes = take at out ++ bytes ++ drop (at + length bytes) out

-- out is now out': the bytes stand at a place and end at another, and nothing else is changed
pub record Wrote (out : List ℕ) (at : ℕ) (bytes : List ℕ) (end : ℕ) (out' : List ℕ) : Type 0 where
  pub fits : at + length bytes ≤ length out
  pub ends : end ≡ at + length bytes
  pub holds : out' ≡ wrote out at bytes
