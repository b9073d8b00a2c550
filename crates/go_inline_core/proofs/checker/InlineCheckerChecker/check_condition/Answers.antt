use Rattle.go_names_core.specs.Scope.{open_look}
use Rattle.go_typexpr_core.specs.written.Written.{in_file}
use Rattle.go_inline_core.specs.Functions.{inlines_in, scoped_outside}
use Rattle.go_inline_core.proofs.NoteLemmas.{noted_all}
use Rattle.go_inline_core.proofs.checker.InlineCheckerChecker.check_condition.Goals as goal

pub returns : goal.returns
returns g c =
    let self = c.args.self.now in
    let noted = inlines_in (g.K.Kinds.kinds self.kinds.now) (in_file self.at.now) (g.N.TypeNames.meaning self.top.now) (open_look scoped_outside c.args.names.now) in
    noted_all c.note.result c.new-list.result c.list_expr.new.list _ noted _ _ c.new-list.ensures.trees c.list_expr.ensures c.note.ensures.memory c.note.ensures.notes
