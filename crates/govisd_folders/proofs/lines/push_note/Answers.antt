use Rattle.std.proofs.Common.{◌≡◌, ◌++◌, refl}
use Rattle.std.specs.Prelude.{codes, string_bytes}
use Rattle.go_explain_core.proofs.LineLemmas.{begun, more}
use Rattle.govisd_folders.specs.Telling.{note_front, position_text}
use Rattle.govisd_folders.proofs.LineLemmas.{note_ended}
use Rattle.govisd_folders.proofs.lines.push_note.Goals as goal

pub returns : goal.returns
returns c =
    let start = string_bytes c.args.out.now in
    let file = c.as_str.result.now in
    let place = position_text file c.args.note.now.at in
    let p0 : string_bytes c.push_place.new.out ≡ start ++ place = begun start _ _ place refl c.in_ok-push_place.ensures in
    let p1 : string_bytes c.push.new.text ≡ start ++ note_front file c.args.note.now.at = more start _ _ place _ (codes ": note: ") p0 refl c.in_ok-push.ensures in
    note_ended c.push_words.result start (string_bytes c.push.new.text) (string_bytes c.push_words.new.out) file c.args.note.now.at p1 c.push_words.ensures
