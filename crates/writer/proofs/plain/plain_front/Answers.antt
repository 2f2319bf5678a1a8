-- `plain_front` puts the type, a count of 0, no validity and the head of tag 4, one behind the other.
use native.Mathlib.Omega.{arith}
use Rattle.layout.proofs.PutLaws.{wrote_long}
use Rattle.writer.proofs.WroteLaws.{header_room}
use Rattle.writer.proofs.ColumnPutLaws.{type_ends, count_ends}
use Rattle.writer.proofs.PlainLaws.{values_small, front_put}
use Rattle.writer.proofs.plain.plain_front.Goals as goal

pub put_count-c-requires : goal.put_count-c-requires
put_count-c-requires c = (omega (arith, c.requires.1, type_ends c.args.t c.args.nullable c.put_type-p.ensures, wrote_long c.put_type-p.ensures), omega arith)

pub returns : goal.returns
returns c = front_put c.args.rows c.args.t c.args.nullable c.values_size-size.ensures c.put_type-p.ensures c.put_count-c.ensures c.put_header-q.ensures c.put_header.ensures

pub put_header-q-requires : goal.put_header-q-requires
put_header-q-requires c = (omega (arith, c.requires.1, type_ends c.args.t c.args.nullable c.put_type-p.ensures, wrote_long c.put_type-p.ensures, count_ends 0 c.put_count-c.ensures, wrote_long c.put_count-c.ensures, (values_small c.args.rows c.args.t c.requires.0).0), omega arith)

pub put_header-requires : goal.put_header-requires
put_header-requires c = (header_room 0 c.put_header-q.ensures 3 (omega (arith, c.requires.1, type_ends c.args.t c.args.nullable c.put_type-p.ensures, wrote_long c.put_type-p.ensures, count_ends 0 c.put_count-c.ensures, wrote_long c.put_count-c.ensures, (values_small c.args.rows c.args.t c.requires.0).0)), omega (arith, c.values_size-size.ensures, (values_small c.args.rows c.args.t c.requires.0).1))
