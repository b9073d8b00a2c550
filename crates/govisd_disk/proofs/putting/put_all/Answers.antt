use Rattle.std.proofs.Common.{◌≡◌, ◌∙◌, List, ◌∷◌, [], ◌++◌, map, refl, sym, ap, subst, append_assoc, rules}
use Rattle.std.proofs.lemmas.Result.{on_ok_weaker}
use Rattle.std.specs.Prelude.{string_bytes}
use Rattle.std.specs.Vec.Iter.{into_iter_items}
use Rattle.go_graph_core.proofs.Reading.{drained, map_last}
use Rattle.govisd_disk.specs.Puts.{ArePut, FolderModel, StateModel, folder_of}
use Rattle.govisd_disk.proofs.GroupLemmas.{AreGrouped, grouped_more, grouped_none, grouped_put}
use Rattle.govisd_disk.proofs.putting.put_all.Goals as goal

pub loop-folder-init : goal.loop-folder-init
loop-folder-init g c =
    let old : StateModel = (c.args.workspace.now, string_bytes c.args.notes.now) in
    (grouped_none c.args.module_path.now [] c.empty-group.result old old refl c.empty-group.ensures.group c.empty-group.ensures.folders, c.into_iter-folder-iterator.ensures.into_iter_gives.0)

pub loop-folder-preserved-then-is_full : goal.loop-folder-preserved-then-is_full
loop-folder-preserved-then-is_full g c =
    let at = c.loop-folder in
    let own = c.args.module_path.now in
    let old : StateModel = (c.args.workspace.now, string_bytes c.args.notes.now) in
    let now : StateModel = (at.workspace, string_bytes at.notes) in
    let new : StateModel = (c.put_group.new.workspace, string_bytes c.put_group.new.notes) in
    let all : List FolderModel = map folder_of at.yielded ++ folder_of c.in-Some.folder ∷ [] in
    let more = grouped_more own (map folder_of at.yielded) (folder_of c.in-Some.folder) at.group c.add.new.self old now at.invariant.0 c.in_ok-add.ensures.group c.in_ok-add.ensures.folders in
    let put = grouped_put own all c.add.new.self old now new more c.in_ok-put_group.ensures in (
      subst (λ l. AreGrouped own l c.empty-group-then-is_full.result old new) (sym (map_last folder_of at.yielded c.in-Some.folder)) (grouped_none own all c.empty-group-then-is_full.result old new put c.empty-group-then-is_full.ensures.group c.empty-group-then-is_full.ensures.folders),
      append_assoc at.yielded (c.in-Some.folder ∷ []) _ ∙ (ap (λ l. at.yielded ++ l) (sym c.in-Some.ensures.steps.0) ∙ at.invariant.1),
    )

pub loop-folder-preserved : goal.loop-folder-preserved
loop-folder-preserved g c =
    let at = c.loop-folder in
    let old : StateModel = (c.args.workspace.now, string_bytes c.args.notes.now) in
    let now : StateModel = (at.workspace, string_bytes at.notes) in (
      subst (λ l. AreGrouped c.args.module_path.now l c.add.new.self old now) (sym (map_last folder_of at.yielded c.in-Some.folder)) (grouped_more c.args.module_path.now (map folder_of at.yielded) (folder_of c.in-Some.folder) at.group c.add.new.self old now at.invariant.0 c.in_ok-add.ensures.group c.in_ok-add.ensures.folders),
      append_assoc at.yielded (c.in-Some.folder ∷ []) _ ∙ (ap (λ l. at.yielded ++ l) (sym c.in-Some.ensures.steps.0) ∙ at.invariant.1),
    )

pub returns : goal.returns
returns g c =
    let at = c.loop-folder in
    let old : StateModel = (c.args.workspace.now, string_bytes c.args.notes.now) in
    let now : StateModel = (at.workspace, string_bytes at.notes) in
    let new : StateModel = (c.put_group-2.new.workspace, string_bytes c.put_group-2.new.notes) in
    let all : at.yielded ≡ c.args.found.items = drained at.yielded (into_iter_items at.folder-iterator) c.args.found.items (search rules) at.invariant.1 in
    on_ok_weaker c.put_group-2.result (λ put. subst (λ l. ArePut c.args.module_path.now (map folder_of l) old new) all (grouped_put c.args.module_path.now (map folder_of at.yielded) at.group old now new at.invariant.0 put)) c.put_group-2.ensures
