use Rattle.std.proofs.Common.{◌∙◌, ◌∷◌, [], ◌++◌, ap}
use Rattle.std.specs.Prelude.{string_bytes}
use Rattle.go_graph_core.specs.Workspaces.{given_files}
use Rattle.govisd_disk.specs.Puts.{group_of}
use Rattle.govisd_disk.proofs.FileNames.{distinct_names}
use Rattle.govisd_disk.proofs.GroupLemmas.{folders_more, group_more}
use Rattle.govisd_disk.proofs.groups.Group.add.Goals as goal

pub returns-clause-group : goal.returns-clause-group
returns-clause-group c =
    let files = c.in_ok-files.files in
    group_more c.args.self.now _ c.args.found.folder c.len.result files.items c.requires (c.len.ensures ∙ files.ok.0) (distinct_names files.items c.in_ok-files.ensures.order) c.in_ok-push.ensures.items c.in_ok-append.ensures.items

pub returns-clause-folders : goal.returns-clause-folders
returns-clause-folders c =
    let files = c.in_ok-files.files in
    folders_more c.args.self.now _ _ c.args.found.folder c.len.result files.items c.requires (c.len.ensures ∙ files.ok.0) c.in_ok-push.ensures.items c.in_ok-append.ensures.items
    ∙ ap (λ l. group_of c.args.self.now ++ (string_bytes c.args.found.folder, given_files l) ∷ []) c.in_ok-files.ensures.files
