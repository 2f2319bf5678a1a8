-- The key that left the hint, by its mark, none, or the first of all.
use Rattle.std.proofs.Common.{◌-◌, get_or, refl, arith}
use Rattle.case.proofs.LookUpColumnLaws.{text_found_nowhere, text_found_here}
use Rattle.case.proofs.MarkLaws.{marked_same}
use Rattle.case.proofs.bytes_like_lookup_table.BytesLikeIndexMap.index.Goals as goal

pub returns-then-h-eq0 : goal.returns-then-h-eq0
returns-then-h-eq0 c = text_found_nowhere c.args.text.now c.args.self.now.texts c.text_hint.ensures refl c.if-h-eq0.true

pub returns-then-is_marked : goal.returns-then-is_marked
returns-then-is_marked c = text_found_here c.args.text.now (get_or c.args.self.now.hints c.text_hint.result 0 - 1) c.args.self.now.texts.arrays c.args.self.now.texts.once (omega (arith, c.args.self.now.texts.hinted.few c.text_hint.result, c.args.self.now.texts.arrays.few, c.if-h-eq0.false)) (marked_same c.args.self.now.table.now (get_or c.args.self.now.hints c.text_hint.result 0 - 1) c.args.self.now.bytes (λ i. omega (arith, c.type_inv.text i)) c.args.self.now.marked (c.is_marked.ensures c.if-is_marked.true)) refl
