use Rattle.std.proofs.Common.{ap, ◌∙◌}
use Rattle.go_names_core.specs.Scope.{open_look}
use Rattle.go_inline_core.specs.Functions.{is_local, scoped_outside}
use Rattle.go_inline_core.proofs.scoped.is_hidden.Goals as goal

pub returns : goal.returns
returns c =
    let place = c.args.ident.now.span.start in
    c.is_local.ensures ∙ ap is_local (c.in_ok-found.ensures.meaning place ∙ ap (λ n. open_look scoped_outside c.args.names.now n place) c.as_str.ensures)
