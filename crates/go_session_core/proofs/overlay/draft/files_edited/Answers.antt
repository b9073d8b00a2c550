use Rattle.std.proofs.Common.{All, ap, sym, subst}
use Rattle.go_graph_core.specs.Workspaces.{AreAllRead, files_at, texts_of_files}
use Rattle.go_session_core.specs.overlay.Edits.{files_or_none}
use Rattle.go_session_core.proofs.OverlayTexts.{distinct_edited, left_read}
use Rattle.go_session_core.proofs.overlay.draft.files_edited.Goals as goal

pub returns-clause-names : goal.returns-clause-names
returns-clause-names c =
    distinct_edited c.args.name.now (files_or_none (files_at c.packages.result.now c.args.path.now)) _ (texts_of_files c.in_ok-files.files.items) _ c.in_ok-files.ensures.order (ap texts_of_files c.in_ok-files.ensures.files) c.in_ok-add_file.ensures.texts

pub returns-clause-read : goal.returns-clause-read
returns-clause-read c =
    let read = subst (All AreAllRead) (sym c.packages.ensures.packages) c.packages.ensures.read in
    c.in_ok-add_file.ensures.read (left_read c.packages.result.now c.args.path.now c.args.name.now c.in_ok-files.files.items read c.in_ok-files.ensures.files)
