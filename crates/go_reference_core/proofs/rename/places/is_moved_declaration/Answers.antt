use Rattle.std.proofs.Common.{ap, subst}
use Rattle.std.specs.Prelude.{◌≡◌, ◌↔◌, IsTrue}
use Rattle.go_handle_core.specs.Declarations.{Declaration, site_shown}
use Rattle.go_reference_core.specs.rename.Moving.{IsMovedDeclaration, moves_of}
use Rattle.go_reference_core.proofs.RenameKept.{at_value}
use Rattle.go_reference_core.proofs.rename.places.is_moved_declaration.Goals as goal

pub returns-in-Universe : goal.returns-in-Universe
returns-in-Universe c =
    let is = ap site_shown c.in-Universe.is in
    at_value c.is_same_declaration.result (λ (d : Declaration). IsMovedDeclaration (moves_of c.args.names.now) c.args.packages.now d (site_shown c.args.new)) (site_shown c.args.old) _ is
    (subst (λ (d : Declaration). IsTrue c.is_same_declaration.result ↔ (site_shown c.args.new ≡ d)) is c.is_same_declaration.ensures)

pub returns-in-ErrorMethod : goal.returns-in-ErrorMethod
returns-in-ErrorMethod c =
    let is = ap site_shown c.in-ErrorMethod.is in
    at_value c.is_same_declaration-in-ErrorMethod.result (λ (d : Declaration). IsMovedDeclaration (moves_of c.args.names.now) c.args.packages.now d (site_shown c.args.new)) (site_shown c.args.old) _ is
    (subst (λ (d : Declaration). IsTrue c.is_same_declaration-in-ErrorMethod.result ↔ (site_shown c.args.new ≡ d)) is c.is_same_declaration-in-ErrorMethod.ensures)

pub returns-in-Package : goal.returns-in-Package
returns-in-Package c =
    let is = ap site_shown c.in-Package.is in
    at_value c.is_same_declaration-in-Package.result (λ (d : Declaration). IsMovedDeclaration (moves_of c.args.names.now) c.args.packages.now d (site_shown c.args.new)) (site_shown c.args.old) _ is
    (subst (λ (d : Declaration). IsTrue c.is_same_declaration-in-Package.result ↔ (site_shown c.args.new ≡ d)) is c.is_same_declaration-in-Package.ensures)

pub returns-in-InFile : goal.returns-in-InFile
returns-in-InFile c =
    at_value c.is_moved_in_file.result (λ (d : Declaration). IsMovedDeclaration (moves_of c.args.names.now) c.args.packages.now d (site_shown c.args.new)) (site_shown c.args.old) _ (ap site_shown c.in-InFile.is) c.is_moved_in_file.ensures
