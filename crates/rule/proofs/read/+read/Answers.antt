-- Each step of the reading gives what its definition does; the depth left falls, or the step's place in the field, or the branches left.
use mathlib.Core.Path.{ap, sym, ◌∙◌}
use mathlib.Core.Logic.{inl, inr}
use native.Mathlib.Omega.{arith}
use borrow.Author.Rules.{rules}
use Rattle.rule.specs.Reading.{read_field}
use Rattle.scalar.specs.Types.{type_means}
use Rattle.scalar.proofs.TypeLaws.{type_means_lem}
use Rattle.rule.proofs.StepLaws.{none_of, none_there, some_there}
use Rattle.layout.proofs.AnswerLaws.{passed_on}
use Rattle.rule.proofs.CycleLaws.{unary_refused, unary_gives, binary_refused, second_refused, binary_gives, cast_short, cast_untyped, cast_refused, cast_gives, optional_there, optional_absent, branches_none, branches_refused, branches_give, then_refused, later_refused, then_gives, parts_unbased, parts_unbranched, parts_unended, parts_give, case_none, case_short, case_flags, case_unbranched, case_many, case_gives, kind_column, kind_literal, kind_unary, kind_cast, kind_binary, kind_case, field_cut, field_unknown, field_deep, field_gives, tag_other}
use Rattle.rule.proofs.read.+read.Goals as goal
use Rattle.rule.proofs.read.+read.Goals.{read_kind-in_default-via-then-node-lt16, read_kind-in_default-via-else-node-lt16+else-node-lt21+else-node-lt23+else-node-lt25}

pub read_binary-returns-in_err-a : goal.read_binary-returns-in_err-a
read_binary-returns-in_err-a t c = λ cols outer s. rw (passed_on c.from_residual.result c.from_residual.ensures.1) (binary_refused (read_field c.args.left.depth c.args.left.cases) c.args.node.content.now cols outer c.args.node.end c.args.node.tag (c.read_field.ensures cols s) c.in_err-a.was)

pub read_binary-returns-in_err-b : goal.read_binary-returns-in_err-b
read_binary-returns-in_err-b t c = λ cols outer s. rw (passed_on c.from_residual-in_err-b.result c.from_residual-in_err-b.ensures.1) (second_refused (read_field c.args.left.depth c.args.left.cases) c.args.node.content.now cols outer c.args.node.end c.args.node.tag c.in_ok-a.a (c.read_field.ensures cols s) c.in_ok-a.was c.read_field-2.ensures c.in_err-b.was)

pub read_binary-returns : goal.read_binary-returns
read_binary-returns t c = λ cols outer s. binary_gives (read_field c.args.left.depth c.args.left.cases) c.args.node.content.now cols outer c.args.node.end c.args.node.tag c.in_ok-a.a (c.read_field.ensures cols s) c.in_ok-a.was c.read_field-2.ensures c.in_ok-b.b _ c.in_ok-b.was (search rules) c.close.ensures

pub read_branches-returns-then-count-eq0 : goal.read_branches-returns-then-count-eq0
read_branches-returns-then-count-eq0 t c = λ cols s. branches_none (read_field c.args.left.depth c.args.left.cases) c.args.s.now c.args.when c.args.earlier c.args.at c.args.count cols c.if-count-eq0.true s c.unwrap_or.ensures

pub read_branches-returns-in_err-w : goal.read_branches-returns-in_err-w
read_branches-returns-in_err-w t c = λ cols s. rw (passed_on c.from_residual.result c.from_residual.ensures.1) (branches_refused (read_field c.args.left.depth c.args.left.cases) c.args.s.now c.args.when c.args.earlier c.args.at c.args.count cols c.if-count-eq0.false (c.read_field.ensures cols s) c.in_err-w.was)

pub read_branches-returns : goal.read_branches-returns
read_branches-returns t c = λ cols s. branches_give (read_field c.args.left.depth c.args.left.cases) c.args.s.now c.args.when c.args.earlier c.args.at c.args.count cols c.in_ok-w.w _ c.if-count-eq0.false (c.read_field.ensures cols s) c.in_ok-w.was c.read_then.ensures

pub read_case-returns-then-left-eq0 : goal.read_case-returns-then-left-eq0
read_case-returns-then-left-eq0 t c = λ cols outer s. case_none (read_field c.args.left.depth) cols outer c.args.node.end _ c.args.left.cases c.args.node.content.now c.if-left-eq0.true

pub read_case-returns-then-node-lt2 : goal.read_case-returns-then-node-lt2
read_case-returns-then-node-lt2 t c = λ cols outer s. case_short (read_field c.args.left.depth) cols outer c.args.node.end _ c.args.left.cases c.if-left-eq0.false c.args.node.content.now c.if-node-lt2.true

pub read_case-returns-then-flags-gt3 : goal.read_case-returns-then-flags-gt3
read_case-returns-then-flags-gt3 t c = λ cols outer s. case_flags (read_field c.args.left.depth) cols outer c.args.node.end _ c.args.left.cases c.if-left-eq0.false c.args.node.content.now c.if-node-lt2.false c.if-flags-gt3.true

pub read_case-returns-then-count-eq0 : goal.read_case-returns-then-count-eq0
read_case-returns-then-count-eq0 t c = λ cols outer s. case_unbranched (read_field c.args.left.depth) cols outer c.args.node.end _ c.args.left.cases c.if-left-eq0.false c.args.node.content.now c.if-node-lt2.false c.if-flags-gt3.false c.if-count-eq0.true

pub read_case-returns-then-count-gt-MOST_BRANCHES : goal.read_case-returns-then-count-gt-MOST_BRANCHES
read_case-returns-then-count-gt-MOST_BRANCHES t c = λ cols outer s. case_many (read_field c.args.left.depth) cols outer c.args.node.end _ c.args.left.cases c.if-left-eq0.false c.args.node.content.now c.if-node-lt2.false c.if-flags-gt3.false c.if-count-eq0.false c.if-count-gt-MOST_BRANCHES.true

pub read_case-returns : goal.read_case-returns
read_case-returns t c = λ cols outer s. case_gives (read_field c.args.left.depth) cols outer c.args.node.end _ c.args.left.cases c.if-left-eq0.false c.args.node.content.now c.if-node-lt2.false c.if-flags-gt3.false c.if-count-eq0.false c.if-count-gt-MOST_BRANCHES.false (c.read_parts.ensures cols outer s)

pub read_cast-returns-then-is_empty : goal.read_cast-returns-then-is_empty
read_cast-returns-then-is_empty t c = λ cols outer s. cast_short (read_field c.args.left.depth c.args.left.cases) cols outer c.args.node.end c.args.node.tag _ c.args.node.content.now (none_there _ c.is_empty.ensures c.if-is_empty.true)

pub read_cast-returns-in_err-to : goal.read_cast-returns-in_err-to
read_cast-returns-in_err-to t c = λ cols outer s. rw (passed_on c.from_residual.result c.from_residual.ensures.1, none_of _ _ c.in_err-to.ensures.ok_part c.in_err-to.ensures.value) (cast_untyped (read_field c.args.left.depth c.args.left.cases) cols outer c.args.node.end c.args.node.tag _ c.args.node.content.now (some_there _ c.is_empty.ensures c.if-is_empty.false) (sym (type_means_lem 3 _ c.numbered.ensures) ∙ ap (type_means 3) c.in_err-to.ensures.ok_part))

pub read_cast-returns-in_err-a : goal.read_cast-returns-in_err-a
read_cast-returns-in_err-a t c = λ cols outer s. rw (passed_on c.from_residual-in_err-a.result c.from_residual-in_err-a.ensures.1) (cast_refused (read_field c.args.left.depth c.args.left.cases) cols outer c.args.node.end c.args.node.tag _ c.args.node.content.now c.in_ok-to.to (some_there _ c.is_empty.ensures c.if-is_empty.false) (sym (type_means_lem 3 _ c.numbered.ensures) ∙ ap (type_means 3) c.in_ok-to.ensures.ok_part) (c.read_field.ensures cols s) c.in_err-a.was)

pub read_cast-returns : goal.read_cast-returns
read_cast-returns t c = λ cols outer s. cast_gives (read_field c.args.left.depth c.args.left.cases) cols outer c.args.node.end c.args.node.tag _ c.args.node.content.now c.in_ok-to.to c.in_ok-a.a _ (some_there _ c.is_empty.ensures c.if-is_empty.false) (sym (type_means_lem 3 _ c.numbered.ensures) ∙ ap (type_means 3) c.in_ok-to.ensures.ok_part) (c.read_field.ensures cols s) c.in_ok-a.was c.is_listed.ensures c.close.ensures

pub read_field-returns-in_err-f : goal.read_field-returns-in_err-f
read_field-returns-in_err-f t c = λ cols s. rw (passed_on c.from_residual.result c.from_residual.ensures.1, none_of _ _ c.in_err-f.ensures.ok_part c.in_err-f.ensures.value) (field_cut c.args.left.cases c.args.s.now c.args.at cols _ c.args.left.depth (sym c.field_at.ensures ∙ c.in_err-f.ensures.ok_part))

pub read_field-returns-then-tag-lt-COLUMN : goal.read_field-returns-then-tag-lt-COLUMN
read_field-returns-then-tag-lt-COLUMN t c = λ cols s. field_unknown c.args.left.cases c.args.s.now c.args.at cols _ c.in_ok-f.f (sym c.field_at.ensures ∙ c.in_ok-f.ensures.ok_part) c.args.left.depth (tag_other _ c.then-tag-lt-COLUMN.either)

pub read_field-returns-then-left-eq0 : goal.read_field-returns-then-left-eq0
read_field-returns-then-left-eq0 t c = λ cols s. field_deep c.args.left.cases c.args.s.now c.args.at cols _ c.in_ok-f.f (sym c.field_at.ensures ∙ c.in_ok-f.ensures.ok_part) c.if-tag-lt-COLUMN.false c.if-tag-gt-CASE.false c.args.left.depth c.if-left-eq0.true

pub read_field-returns : goal.read_field-returns
read_field-returns t c = λ cols s. field_gives c.args.left.cases c.args.s.now c.args.at cols _ c.in_ok-f.f (sym c.field_at.ensures ∙ c.in_ok-f.ensures.ok_part) c.if-tag-lt-COLUMN.false c.if-tag-gt-CASE.false c.args.left.depth _ c.if-left-eq0.false c.part_of.ensures (c.read_kind.ensures cols c.args.s.now s)

pub read_kind-returns-in-16 : goal.read_kind-returns-in-16
read_kind-returns-in-16 t c = λ cols outer s. kind_column (read_field c.args.left.depth) c.args.left.cases c.args.node.tag c.args.node.content.now c.args.node.end cols outer _ _ c.in-16.is (c.read_column.ensures cols outer s)

pub read_kind-returns-in-17 : goal.read_kind-returns-in-17
read_kind-returns-in-17 t c = λ cols outer s. kind_literal (read_field c.args.left.depth) c.args.left.cases c.args.node.tag c.args.node.content.now c.args.node.end cols outer _ _ c.in-17.is (c.read_literal.ensures cols outer s)

pub read_kind-returns-in-18 : goal.read_kind-returns-in-18
read_kind-returns-in-18 t c = λ cols outer s. kind_unary (read_field c.args.left.depth) c.args.left.cases c.args.node.tag c.args.node.content.now c.args.node.end cols outer _ _ (omega arith) (omega arith) (c.read_unary.ensures cols outer s)

pub read_kind-returns-in-21 : goal.read_kind-returns-in-21
read_kind-returns-in-21 t c = λ cols outer s. kind_cast (read_field c.args.left.depth) c.args.left.cases c.args.node.tag c.args.node.content.now c.args.node.end cols outer _ _ (omega arith) (omega arith) (c.read_cast.ensures cols outer s)

pub read_kind-returns-in-23 : goal.read_kind-returns-in-23
read_kind-returns-in-23 t c = λ cols outer s. kind_binary (read_field c.args.left.depth) c.args.left.cases c.args.node.tag c.args.node.content.now c.args.node.end cols outer _ _ (omega arith) (omega arith) (c.read_binary.ensures cols outer s)

pub read_kind-returns-in_default : goal.read_kind-returns-in_default
read_kind-returns-in_default t c = λ cols outer s. kind_case (read_field c.args.left.depth) c.args.left.cases c.args.node.tag c.args.node.content.now c.args.node.end cols outer _ _ (elim c.in_default.branch [ read_kind-in_default-via-then-node-lt16 w ↦ inl (omega arith) | read_kind-in_default-via-else-node-lt16+else-node-lt21+else-node-lt23+else-node-lt25 w ↦ inr (omega arith) ]) (c.read_case.ensures cols outer s)

pub read_optional-returns-then-there : goal.read_optional-returns-then-there
read_optional-returns-then-there t c = λ cols s. optional_there (read_field c.args.left.depth c.args.left.cases) c.args.s.now c.args.at cols _ c.if-there.true (c.read_field.ensures cols s)

pub read_optional-returns : goal.read_optional-returns
read_optional-returns t c = λ cols s. optional_absent (read_field c.args.left.depth c.args.left.cases) c.args.s.now c.args.at cols _ c.if-there.false s

pub read_parts-returns-in_err-b : goal.read_parts-returns-in_err-b
read_parts-returns-in_err-b t c = λ cols outer s. rw (passed_on c.from_residual.result c.from_residual.ensures.1) (parts_unbased (read_field c.args.left.depth c.args.left.cases) c.args.node.content.now cols outer c.args.node.end c.args.flags c.args.count (c.read_optional.ensures cols s) c.in_err-b.was)

pub read_parts-returns-in_err-bs : goal.read_parts-returns-in_err-bs
read_parts-returns-in_err-bs t c = λ cols outer s. rw (passed_on c.from_residual-in_err-bs.result c.from_residual-in_err-bs.ensures.1) (parts_unbranched (read_field c.args.left.depth c.args.left.cases) c.args.node.content.now cols outer c.args.node.end c.args.flags c.args.count (c.read_optional.ensures cols s) c.in_ok-b.b c.in_ok-b.was c.read_branches.ensures c.in_err-bs.was)

pub read_parts-returns-in_err-e : goal.read_parts-returns-in_err-e
read_parts-returns-in_err-e t c = λ cols outer s. rw (passed_on c.from_residual-in_err-e.result c.from_residual-in_err-e.ensures.1) (parts_unended (read_field c.args.left.depth c.args.left.cases) c.args.node.content.now cols outer c.args.node.end c.args.flags c.args.count (c.read_optional.ensures cols s) c.in_ok-b.b c.in_ok-b.was c.read_branches.ensures c.in_ok-bs.bs c.in_ok-bs.was c.read_optional-2.ensures c.in_err-e.was)

pub read_parts-returns : goal.read_parts-returns
read_parts-returns t c = λ cols outer s. parts_give (read_field c.args.left.depth c.args.left.cases) c.args.node.content.now cols outer c.args.node.end c.args.flags c.args.count (c.read_optional.ensures cols s) c.in_ok-b.b c.in_ok-b.was c.read_branches.ensures c.in_ok-bs.bs c.in_ok-bs.was c.read_optional-2.ensures c.in_ok-e.e _ c.in_ok-e.was c.case_fits.ensures c.close.ensures

pub read_then-returns-in_err-t : goal.read_then-returns-in_err-t
read_then-returns-in_err-t t c = λ x g. rw (passed_on c.from_residual.result c.from_residual.ensures.1) (then_refused (read_field c.args.left.depth c.args.left.cases) c.args.s.now c.args.when c.args.earlier c.args.w x g c.args.count c.read_field.ensures c.in_err-t.was)

pub read_then-returns-in_err-later : goal.read_then-returns-in_err-later
read_then-returns-in_err-later t c = λ x g. rw (passed_on c.from_residual-in_err-later.result c.from_residual-in_err-later.ensures.1) (later_refused (read_field c.args.left.depth c.args.left.cases) c.args.s.now c.args.when c.args.earlier c.args.w x g c.args.count c.read_field.ensures c.in_ok-t.t c.in_ok-t.was _ c.unwrap_or-result.ensures c.read_branches.ensures c.in_err-later.was)

pub read_then-returns : goal.read_then-returns
read_then-returns t c = λ x g. then_gives (read_field c.args.left.depth c.args.left.cases) c.args.s.now c.args.when c.args.earlier c.args.w x g c.args.count c.read_field.ensures c.in_ok-t.t c.in_ok-t.was _ c.unwrap_or-result.ensures c.read_branches.ensures c.in_ok-later.later _ c.in_ok-later.was c.add_branch.ensures

pub read_unary-returns-in_err-a : goal.read_unary-returns-in_err-a
read_unary-returns-in_err-a t c = λ cols outer s. rw (passed_on c.from_residual.result c.from_residual.ensures.1) (unary_refused (read_field c.args.left.depth c.args.left.cases) c.args.node.content.now cols outer c.args.node.end c.args.node.tag (c.read_field.ensures cols s) c.in_err-a.was)

pub read_unary-returns : goal.read_unary-returns
read_unary-returns t c = λ cols outer s. unary_gives (read_field c.args.left.depth c.args.left.cases) c.args.node.content.now cols outer c.args.node.end c.args.node.tag c.in_ok-a.a _ _ (c.read_field.ensures cols s) c.in_ok-a.was c.unary_fits.ensures c.unary_type.ensures c.close.ensures
