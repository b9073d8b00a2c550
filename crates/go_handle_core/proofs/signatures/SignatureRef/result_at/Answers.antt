use Rattle.std.proofs.Common.{sym, ap, ◌∙◌, ◌<◌, subst}
use Rattle.std.specs.Prelude.{length, slice_get, Some}
use Rattle.go_term_core.specs.Shapes.{shape_found, param_shapes as shown}
use Rattle.go_table_core.specs.Entries.{find_entry}
use Rattle.go_handle_core.specs.deciding.Rules.{results_of}
use Rattle.go_handle_core.proofs.Listed.{typed_length, typed_at}
use Rattle.go_handle_core.proofs.signatures.SignatureRef.result_at.Goals as goal

pub result_at-requires : goal.result_at-requires
result_at-requires c =
    let look = find_entry c.args.table.now in
    subst (λ n. c.args.at < n) (ap (λ s. length (results_of look s)) (sym c.self.view_is) ∙ typed_length look (shown c.self.inside.signature.now.results)) c.requires

pub returns : goal.returns
returns c =
    let look = find_entry c.args.table.now in
    ap (λ s. slice_get (results_of look s) c.args.at) (sym c.self.view_is)
    ∙ (typed_at look (shown c.self.inside.signature.now.results) c.args.at (shape_found c.result_at.result) c.result_at.ensures ∙ ap Some (sym c.typed.ensures))
