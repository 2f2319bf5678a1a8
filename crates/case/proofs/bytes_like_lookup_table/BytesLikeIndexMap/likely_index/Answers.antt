-- The key, or the first of all.
use Rattle.case.proofs.LookUpColumnLaws.{text_found_here}
use Rattle.case.proofs.bytes_like_lookup_table.BytesLikeIndexMap.likely_index.Goals as goal

pub returns-then-is_text : goal.returns-then-is_text
returns-then-is_text c = text_found_here c.args.text.now c.args.k c.args.self.now.texts.arrays c.args.self.now.texts.once c.requires c.is_text.ensures c.if-is_text.true
