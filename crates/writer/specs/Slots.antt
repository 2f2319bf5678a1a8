-- The value of a row in its slot of the work buffer (01, What changes shape).
use Rattle.std.specs.Prelude.{List, ℕ, ◌+◌, ◌*◌}
use Rattle.layout.specs.Bytes.{byte, number_at}
use Rattle.scalar.specs.declared.value.Value.{Value}
use Rattle.scalar.specs.Value.{value_of}

-- the value in the slot of a row
abbrev pub slot_at : List ℕ → ℕ → Value
slot_at w r = value_of (byte w (1024 + 9 * r)) (number_at 8 w (1025 + 9 * r))
