use Rattle.std.proofs.Common.{arith}
use Rattle.case.proofs.bytes_like_lookup_table.BytesLikeIndexMap.new.Goals as goal

pub invariant_of-result : goal.invariant_of-result
invariant_of-result c = record {
  bytes = λ i. omega (arith, c.type_inv.rule i);
  texts = record { arrays = c.args.whens.now.whens; once = c.requires; hinted = c.read_hints-hints.ensures; small = c.args.whens.now.small };
  marked = c.read-marks.ensures;
}
