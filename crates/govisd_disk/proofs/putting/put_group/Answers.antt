use Rattle.std.proofs.Common.{All, refl, sym, ap, subst, rules, ◌∙◌}
use Rattle.std.specs.Prelude.{string_bytes}
use Rattle.std.specs.Vec.Iter.{into_iter_items}
use Rattle.go_graph_core.specs.Sources.{IsRead}
use Rattle.go_graph_core.specs.Workspaces.{texts_of_files}
use Rattle.govisd_disk.specs.Puts.{IsPut, StateModel, group_of}
use Rattle.govisd_disk.proofs.GroupLemmas.{all_put, left_at, next_distinct, next_fit, next_put, next_read, none_put}
use Rattle.govisd_disk.proofs.putting.put_group.Goals as goal

pub loop-folder-init : goal.loop-folder-init
loop-folder-init g c =
    let read = c.into_iter-read.ensures.rest in
    none_put c.args.module_path.now c.args.group (c.args.workspace.now, string_bytes c.args.notes.now) _ _ c.requires c.into_iter-folder-iterator.ensures.into_iter_gives.0
    (ap texts_of_files read ∙ c.in_ok-parse.ensures.texts) (subst (All IsRead) (sym read) c.in_ok-parse.ensures.read)

pub next_files-requires : goal.next_files-requires
next_files-requires g c =
    let at = c.loop-folder in
    let old : StateModel = (c.args.workspace.now, string_bytes c.args.notes.now) in
    let mid : StateModel = (at.workspace, string_bytes at.notes) in
    next_fit c.args.module_path.now (group_of c.args.group) old mid (c.in-Some.folder, c.in-Some.count) _ (into_iter_items at.read)
    (left_at c.args.module_path.now (group_of c.args.group) old mid _ _ _ _ c.in-Some.ensures.steps.0 refl at.invariant)

pub put_folder-requires-clause-names : goal.put_folder-requires-clause-names
put_folder-requires-clause-names g c =
    let at = c.loop-folder in
    let old : StateModel = (c.args.workspace.now, string_bytes c.args.notes.now) in
    let mid : StateModel = (at.workspace, string_bytes at.notes) in
    next_distinct c.args.module_path.now (group_of c.args.group) old mid (c.in-Some.folder, c.in-Some.count) _ c.in_ok-files.files.items _ c.in_ok-files.ensures.count
    (left_at c.args.module_path.now (group_of c.args.group) old mid _ _ _ _ c.in-Some.ensures.steps.0 (sym c.in_ok-files.ensures.items) at.invariant)

pub put_folder-requires-clause-read : goal.put_folder-requires-clause-read
put_folder-requires-clause-read g c =
    let at = c.loop-folder in
    let old : StateModel = (c.args.workspace.now, string_bytes c.args.notes.now) in
    let mid : StateModel = (at.workspace, string_bytes at.notes) in
    next_read c.args.module_path.now (group_of c.args.group) old mid (c.in-Some.folder, c.in-Some.count) _ c.in_ok-files.files.items _ c.in_ok-files.ensures.count
    (left_at c.args.module_path.now (group_of c.args.group) old mid _ _ _ _ c.in-Some.ensures.steps.0 (sym c.in_ok-files.ensures.items) at.invariant)

pub loop-folder-preserved : goal.loop-folder-preserved
loop-folder-preserved g c =
    let at = c.loop-folder in
    let old : StateModel = (c.args.workspace.now, string_bytes c.args.notes.now) in
    let mid : StateModel = (at.workspace, string_bytes at.notes) in
    let new : StateModel = (c.put_folder.new.workspace, string_bytes c.put_folder.new.notes) in
    let files = c.in_ok-files.files.items in
    next_put c.args.module_path.now (group_of c.args.group) old mid (c.in-Some.folder, c.in-Some.count) _ files _ c.in_ok-files.ensures.count
    (left_at c.args.module_path.now (group_of c.args.group) old mid _ _ _ _ c.in-Some.ensures.steps.0 (sym c.in_ok-files.ensures.items) at.invariant)
    new (subst (λ name. IsPut c.args.module_path.now (name, texts_of_files files) mid new) c.as_str.ensures.value c.in_ok-put_folder.ensures)

pub returns : goal.returns
returns g c =
    let at = c.loop-folder in
    all_put c.args.module_path.now (group_of c.args.group) (c.args.workspace.now, string_bytes c.args.notes.now) (at.workspace, string_bytes at.notes) (into_iter_items at.folder-iterator) _ (search rules) at.invariant
