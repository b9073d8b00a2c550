use Rattle.std.proofs.Common.{sym, ap, ◌∙◌, ◌<◌, subst}
use Rattle.std.specs.Prelude.{length, slice_get, Some}
use Rattle.go_term_core.specs.Shapes.{shape_found, param_shapes as shown}
use Rattle.go_table_core.specs.Entries.{find_entry}
use Rattle.go_handle_core.specs.deciding.Rules.{param_types_of}
use Rattle.go_handle_core.proofs.Listed.{typed_length, typed_at}
use Rattle.go_handle_core.proofs.signatures.SignatureRef.param_at.Goals as goal

pub param_at-requires : goal.param_at-requires
param_at-requires c =
    let look = find_entry c.args.table.now in
    subst (λ n. c.args.at < n) (ap (λ s. length (param_types_of look s)) (sym c.self.view_is) ∙ typed_length look (shown c.self.inside.signature.now.params)) c.requires

pub returns : goal.returns
returns c =
    let look = find_entry c.args.table.now in
    ap (λ s. slice_get (param_types_of look s) c.args.at) (sym c.self.view_is)
    ∙ (typed_at look (shown c.self.inside.signature.now.params) c.args.at (shape_found c.param_at.result) c.param_at.ensures ∙ ap Some (sym c.typed.ensures))
