use Rattle.std.proofs.Common.{◌≡◌, Some, Ok, Err, refl, sym, ap, subst, ◌∙◌}
use Rattle.std.proofs.lemmas.Option.{get_or_from_slice_get}
use Rattle.go_graph_core.proofs.AssemblyLaws.{has_no_other_assembly}
use Rattle.go_graph_core.specs.Packages.{IsAssembled, trees_of}
use Rattle.go_graph_core.specs.Workspaces.{PackageModel}
use Rattle.go_snap_core.proofs.make.inputs.package_at.Goals as goal

pub unreachable-requires : goal.unreachable-requires
unreachable-requires c =
    let r = c.requires in
    let item : c.in_ok-share.field-0 ≡ (r.0, r.1) = c.in_ok-share.ensures ∙ (c.index-packages-number.is ∙ get_or_from_slice_get c.args.packages.now c.args.number (r.0, r.1) c.index-packages-number.result r.2) in
    let files = c.in_ok-share.field-0.1 in
    let assembled : IsAssembled files = subst (λ (p : PackageModel). IsAssembled p.1) (sym item) r.3 in
    let e : Err c.in-Err.field-0 ≡ Ok (trees_of files) = has_no_other_assembly files (Err c.in-Err.field-0) (Ok (trees_of files)) c.in-Err.ensures.assembly (refl, assembled) in
    cc

pub returns : goal.returns
returns c =
    let r = c.requires in
    let item : c.in_ok-share.field-0 ≡ (r.0, r.1) = c.in_ok-share.ensures ∙ (c.index-packages-number.is ∙ get_or_from_slice_get c.args.packages.now c.args.number (r.0, r.1) c.index-packages-number.result r.2) in
    r.2 ∙ ap Some (sym (c.in-Ok.ensures.source ∙ item))
