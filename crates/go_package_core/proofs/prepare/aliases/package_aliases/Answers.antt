use Rattle.std.proofs.Common.{map, ap, ◌∙◌}
use Rattle.std.proofs.lemmas.Result.{IfOk-weaker}
use Rattle.go_body_core.specs.typexpr_core.EntryOutlines.{outline_shown}
use Rattle.go_body_core.specs.typexpr_core.AliasesAliases.{alias_ends}
use Rattle.go_body_core.specs.typexpr_core.AliasesOutlined.{written_aliases}
use Rattle.go_package_core.specs.prepare.Packages.{package_in_shown}
use Rattle.go_package_core.proofs.PrepareMade.{all_outlines}
use Rattle.go_package_core.proofs.prepare.aliases.package_aliases.Goals as goal

pub written_aliases-requires : goal.written_aliases-requires
written_aliases-requires g c =
    let p = package_in_shown g.P.ImportedNames.shows c.args.at.now in
    all_outlines (map outline_shown c.args.outlines.now) p.trees c.requires

pub returns : goal.returns
returns g c =
    let p = package_in_shown g.P.ImportedNames.shows c.args.at.now in
    let path = c.path-path.ensures in
    let os = c.requires in
    IfOk-weaker c.aliases_of.result _ _
    (λ aliases is. is ∙ (ap (λ xs. alias_ends xs c.path-path.result.now) c.in_ok-written.ensures.aliases ∙ (λ i. alias_ends (written_aliases p.shows (path i) p.blocks (os i)) (path i))))
    c.aliases_of.ensures
