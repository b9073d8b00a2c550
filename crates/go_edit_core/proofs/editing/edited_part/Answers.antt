use Rattle.std.proofs.Common.{◌≡◌, Ok, Err, refl, sym, subst}
use Rattle.go_graph_core.proofs.AssemblyLaws.{has_no_other_assembly}
use Rattle.go_graph_core.specs.Packages.{IsAssembled, trees_of}
use Rattle.go_graph_core.specs.Workspaces.{PackageModel}
use Rattle.go_edit_core.proofs.editing.edited_part.Goals as goal

pub unreachable-requires : goal.unreachable-requires
unreachable-requires c =
    let files = c.in_ok-share.field-0.1 in
    let assembled : IsAssembled files = subst (λ (p : PackageModel). IsAssembled p.1) (sym c.in_ok-share.ensures) c.requires.assembled in
    let e : Err c.in_default.field-0 ≡ Ok (trees_of files) = has_no_other_assembly files (Err c.in_default.field-0) (Ok (trees_of files)) c.in_default.ensures.assembly (refl, assembled) in
    cc
