use Rattle.std.proofs.Common.{◌≡◌, ap, ◌∙◌, get_or}
use Rattle.go_site_core.specs.graph_core.Sources.{SourceModel}
use Rattle.go_parse_core.specs.tree_core.Occurrences.{file_occs}
use Rattle.go_parse_core.specs.tree_core.Renaming.{occ_start}
use Rattle.go_tree_nodes.specs.Shapes.{file_of}
use Rattle.test_snapshot.proofs.LikeFiles.{stays_alike}
use Rattle.test_snapshot.proofs.respelling.respelled_file.Goals as goal

pub returns-in-Some : goal.returns-in-Some
returns-in-Some c =
    let f = file_of c.tree-tree.result.now in
    let s = c.index-files-file.result in
    let changed = c.in_ok-changed-in-Some.changed in
    let is : s ≡ get_or c.args.package.now.1 c.args.file s = c.index-files-file.is ∙ ap (λ l. get_or l c.args.file s) c.files.ensures.files in
    let named : changed.name ≡ s.name = ap (λ (t : SourceModel). t.name) c.in_ok-changed-in-Some.ensures ∙ (c.in_ok-file_name-in-Some.ensures.ok ∙ c.name.ensures) in
    stays_alike c.args.package.now.1 c.args.file (occ_start (file_occs f) c.args.at.0) c.args.name.now f (file_of c.in_ok-tree-in-Some.tree) s changed c.tree-tree.ensures.content is named
    (ap (λ (t : SourceModel). t.content) c.in_ok-changed-in-Some.ensures) c.in_ok-tree-in-Some.ensures.value
