use Rattle.go_tree_nodes.specs.TypeShapes.{shape_idents}
use Rattle.go_names_core.specs.local_core.Outline.{idents}
use Rattle.go_names_core.specs.Scope.{open_look}
use Rattle.go_typexpr_core.specs.written.Written.{in_file}
use Rattle.go_inline_core.specs.Functions.{inlines_in, scoped_outside}
use Rattle.go_inline_core.proofs.LocalLemmas.{means_by}
use Rattle.go_inline_core.proofs.NoteLemmas.{noted_list, when_ok}
use Rattle.go_inline_core.proofs.checker.InlineCheckerChecker.check_short.Goals as goal

pub returns-clause-notes : goal.returns-clause-notes
returns-clause-notes g c =
    let self = c.args.self.now in
    let noted = inlines_in (g.K.Kinds.kinds self.kinds.now) (in_file self.at.now) (g.N.TypeNames.meaning self.top.now) (open_look scoped_outside c.args.names.now) in
    when_ok c.locals.result (noted_list c.new-list.result c.list_exprs.new.list _ noted _ _ c.new-list.ensures.trees c.list_exprs.ensures c.in_ok-note.ensures.memory c.in_ok-note.ensures.notes)

pub returns-clause-means : goal.returns-clause-means
returns-clause-means g c = means_by c.locals.result c.as_slice.result.now c.in_ok-idents.idents.items (idents (shape_idents c.args.definition.now.names)) c.as_slice.ensures.value c.in_ok-idents.ensures c.locals.ensures
