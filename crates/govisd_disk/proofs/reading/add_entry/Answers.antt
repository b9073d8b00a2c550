use Rattle.std.proofs.Common.{◌∙◌, refl, ap, subst}
use Rattle.std.specs.Prelude.{string_bytes}
use Rattle.std.specs.IoError.{error_kind}
use Rattle.go_folder_core.specs.Folders.{joined_path}
use Rattle.govisd_disk.specs.Notes.{SaysUnread}
use Rattle.govisd_disk.specs.Reads.{IsLooked, IsUnknown}
use Rattle.govisd_disk.proofs.ReadingLemmas.{on_ok}
use Rattle.govisd_disk.proofs.reading.add_entry.Goals as goal

pub returns-in-Ok : goal.returns-in-Ok
returns-in-Ok c =
    on_ok c.add_looked.result (λ h. IsLooked c.in-Ok.kind c.in_ok-own.own (c.in_ok-own.ensures ∙ ap (joined_path c.args.folder.now) c.as_str.ensures.value) h) c.add_looked.ensures

pub returns-in-Err : goal.returns-in-Err
returns-in-Err c =
    on_ok c.note_unread.result
    (λ h. IsUnknown (error_kind c.in-Err.error)
    (subst (λ p. SaysUnread p (error_kind c.in-Err.error) (string_bytes c.args.found.now.left_out) (string_bytes c.note_unread.new.notes)) (c.as_str-in-Err.ensures.value ∙ c.in_ok-own.ensures ∙ ap (joined_path c.args.folder.now) c.as_str.ensures.value) h)
    (record { folders = refl; files = refl; passed = refl }) refl refl)
    c.note_unread.ensures
