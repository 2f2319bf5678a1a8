-- A stored run by example: a rule of two bytes, a table of one, 7 bytes of work and 9 of output, two bytes wanted, and a byte behind. Assumes nothing.
use Rattle.std.proofs.Common.{◌≡◌, ℕ, List, [], ◌∷◌, refl, drop}
use Rattle.layout.specs.Bytes.{number, number_at, part}
use Rattle.files.specs.Records.{table_start, want_start, record_end}

abbrev example : List ℕ
example = 2 ∷ 0 ∷ 0 ∷ 0 ∷ 1 ∷ 0 ∷ 0 ∷ 0 ∷ 7 ∷ 0 ∷ 0 ∷ 0 ∷ 9 ∷ 0 ∷ 0 ∷ 0 ∷ 2 ∷ 0 ∷ 0 ∷ 0 ∷ 101 ∷ 102 ∷ 103 ∷ 104 ∷ 105 ∷ 106 ∷ []

rule : part example 20 (table_start example) ≡ 101 ∷ 102 ∷ []
unfolding number
rule = refl

table : part example (table_start example) (want_start example) ≡ 103 ∷ []
unfolding number
table = refl

want : part example (want_start example) (record_end example) ≡ 104 ∷ 105 ∷ []
unfolding number
want = refl

work : number_at 4 example 8 ≡ 7
unfolding number
work = refl

output : number_at 4 example 12 ≡ 9
unfolding number
output = refl

behind : drop (record_end example) example ≡ 106 ∷ []
unfolding number
behind = refl
