use Rattle.std.proofs.Common.{subst}
use Rattle.std.specs.Prelude.{◌↔◌, IsTrue}
use Rattle.go_handle_core.specs.Declarations.{Declaration, site_shown}
use Rattle.go_reference_core.specs.rename.Moving.{IsMovedDeclaration, moves_of}
use Rattle.go_reference_core.proofs.rename.outcomes.is_moved_site.Goals as goal

pub returns : goal.returns
returns c =
    let m = moves_of c.args.names.now in
    let ps = c.args.packages.now in
    let r = c.is_moved_declaration.result in
    subst (λ (d : Declaration). IsTrue r ↔ IsMovedDeclaration m ps d c.args.new.now) c.site_of-had.ensures
    (subst (λ (e : Declaration). IsTrue r ↔ IsMovedDeclaration m ps (site_shown c.site_of-had.result) e) c.site_of-has.ensures c.is_moved_declaration.ensures)
