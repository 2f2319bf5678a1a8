-- Eight bytes and eight more, as long as they are ASCII.
use mathlib.Core.Path.{sym, ◌∙◌}
use Rattle.utf8.proofs.AsciiLaws.{stretch_second, stretch_third, stretch_whole}
use Rattle.utf8.proofs.ascii.ascii_stretch.Goals as goal

pub returns-then-not-ascii_word-2 : goal.returns-then-not-ascii_word-2
returns-then-not-ascii_word-2 c = stretch_second c.args.bytes.now c.args.at (sym c.ascii_word.ensures ∙ c.if-not-ascii_word.false) (sym c.ascii_word-2.ensures ∙ c.if-not-ascii_word-2.true)

pub returns-then-not-ascii_word-3 : goal.returns-then-not-ascii_word-3
returns-then-not-ascii_word-3 c = stretch_third c.args.bytes.now c.args.at (sym c.ascii_word.ensures ∙ c.if-not-ascii_word.false) (sym c.ascii_word-2.ensures ∙ c.if-not-ascii_word-2.false) (sym c.ascii_word-3.ensures ∙ c.if-not-ascii_word-3.true)

pub returns : goal.returns
returns c = c.ascii_word-4.ensures ∙ stretch_whole c.args.bytes.now c.args.at (sym c.ascii_word.ensures ∙ c.if-not-ascii_word.false) (sym c.ascii_word-2.ensures ∙ c.if-not-ascii_word-2.false) (sym c.ascii_word-3.ensures ∙ c.if-not-ascii_word-3.false)
