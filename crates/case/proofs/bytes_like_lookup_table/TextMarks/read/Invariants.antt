-- `read` goes key by key. The loop's invariant: the keys passed have their sizes and marks, and the others the size 0.
use Rattle.case.specs.LookUpColumns.{Marked}
use Rattle.case.proofs.bytes_like_lookup_table.TextMarks.read.Given as goal

abbrev pub invariant-loop-k : goal.invariant-loop-k
invariant-loop-k l = Marked l.rule l.whens.kinds l.whens.keys l.read.sizes l.read.marks
