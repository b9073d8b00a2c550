use Rattle.std.proofs.Common.{◌≡◌, length, Some, slice_get, refl, sym, ap, subst, ◌∙◌}
use Rattle.std.proofs.lemmas.Option.{same_Some, slice_get_read}
use Rattle.go_graph_core.specs.Workspaces.{PackageModel, files_at}
use Rattle.go_site_core.specs.Sites.{file_in}
use Rattle.go_site_core.proofs.single.file_of.Goals as goal

pub returns : goal.returns
returns c =
    let n = c.in_ok-number.number in
    let p = c.in_ok-source.source.now in
    let packages = c.packages-packages.result.now in
    let path = c.args.path.now in
    let found = c.in_ok-number.ensures in
    let here : slice_get packages n ≡ Some p = slice_get_read packages (length packages) n p refl c.in_ok-source.ensures.lookup.3.0 c.in_ok-source.ensures.lookup.1 in
    let one : p ≡ (path, found.0) = same_Some p (path, found.0) (sym here ∙ found.1) in
    let files : c.files.result.now ≡ found.0 = c.files.ensures.files ∙ ap (λ (q : PackageModel). q.1) one in
    let at : files_at c.args.workspace.now path ≡ Some found.0 = subst (λ ps. files_at ps path ≡ Some found.0) c.packages-packages.ensures.packages found.2 in
    c.file_at.ensures ∙ ap (file_in c.args.place) (ap Some files ∙ sym at)
