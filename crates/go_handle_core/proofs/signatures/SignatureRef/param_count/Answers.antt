use Rattle.std.proofs.Common.{sym, ap, ◌∙◌}
use Rattle.std.specs.Prelude.{length}
use Rattle.go_term_core.specs.Shapes.{param_shapes as shown}
use Rattle.go_table_core.specs.Entries.{find_entry}
use Rattle.go_handle_core.specs.deciding.Rules.{param_types_of}
use Rattle.go_handle_core.proofs.Listed.{typed_length}
use Rattle.go_handle_core.proofs.signatures.SignatureRef.param_count.Goals as goal

pub returns : goal.returns
returns c =
    let look = find_entry c.args.table.now in
    c.param_count.ensures ∙ (sym (typed_length look (shown c.self.inside.signature.now.params)) ∙ ap (λ s. length (param_types_of look s)) c.self.view_is)
