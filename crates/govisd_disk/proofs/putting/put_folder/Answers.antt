use Rattle.std.proofs.Common.{◌∙◌, subst}
use Rattle.std.specs.Prelude.{string_bytes}
use Rattle.go_graph_core.specs.Workspaces.{texts_of_files}
use Rattle.govisd_disk.specs.Puts.{IsPathOf}
use Rattle.govisd_disk.proofs.PuttingLemmas.{is_put, not_put}
use Rattle.govisd_disk.proofs.putting.put_folder.Goals as goal

pub returns-in-Ok : goal.returns-in-Ok
returns-in-Ok c =
    is_put c.args.module_path.now c.args.folder.now (texts_of_files c.args.files.items) c.args.workspace.now c.put_read.new.self (string_bytes c.args.notes.now) c.as_str.result.now c.in-Some.path (c.as_str.ensures.value ∙ c.in_ok-text.ensures) (subst (IsPathOf c.as_str.result.now) c.in-Some.is c.in_ok-found.ensures) c.in-Ok.ensures.ok

pub returns : goal.returns
returns c =
    not_put c.args.module_path.now c.args.folder.now (texts_of_files c.args.files.items) c.args.workspace.now (string_bytes c.args.notes.now) (string_bytes c.note_rule.new.notes) c.as_str.result.now (c.as_str.ensures.value ∙ c.in_ok-text.ensures) (subst (IsPathOf c.as_str.result.now) c.in-None.is c.in_ok-found.ensures) c.note_rule.result c.note_rule.ensures
