use Rattle.std.proofs.Common.{◌≡◌, ◌∙◌}
use Rattle.std.proofs.lemmas.Result.{IfOk-weaker}
use Rattle.go_term_core.specs.Shapes.{shape}
use Rattle.go_typexpr_core.specs.entry.Meanings.{file_meaning, named_meaning, raw}
use Rattle.go_typexpr_core.proofs.EntryTargeting.{through_itself}
use Rattle.go_typexpr_core.proofs.entry.file_names.DeclaredNamesTypeNames.named.Goals as goal

pub returns : goal.returns
returns g c =
    let n = c.args.self.now in
    let shows = g.P.ImportedNames.shows n.imported.now in
    let meant = named_meaning shows.shown n.path.now n.blocks.now n.file c.args.name.now in
    IfOk-weaker c.declared.result (λ t. shape t ≡ meant) (λ t. shape t ≡ file_meaning (raw shows) n.path.now n.blocks.now n.file c.args.name.now) (λ t h. h ∙ through_itself meant) c.declared.ensures
