-- `list_records`: what is left of the bytes falls.
use Rattle.std.proofs.Common.{length}
use Rattle.caserun.proofs.record.list_records.Given as goal

abbrev pub decreases-loop-record : goal.decreases-loop-record
decreases-loop-record g l = length l.rest
