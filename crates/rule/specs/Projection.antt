-- The projection lists the columns a rule names, each once, rising (01, Strategies).
use Rattle.std.specs.Prelude.{cond, List, [], ◌∷◌, ℕ, eqb, ltb}
use Rattle.rule.specs.Tree.{Column, Expr}
use Rattle.rule.specs.Constant.{columns_of}

-- an index into a rising list, once
unfoldable pub insert_rising : ℕ → List ℕ → List ℕ
insert_rising c [] = c ∷ []
insert_rising c (d ∷ l) = cond (eqb c d) (d ∷ l) (cond (ltb c d) (c ∷ d ∷ l) (d ∷ insert_rising c l))

-- the indexes of columns, each once, rising
unfoldable pub indexes : List Column → List ℕ
indexes [] = []
indexes (c ∷ l) = insert_rising c.index (indexes l)

-- the columns a rule names, each once, rising
abbrev pub projection : Expr → List ℕ
projection e = indexes (columns_of e)
