use Rattle.std.specs.Prelude.{string_bytes}
use Rattle.govisd_folders.proofs.LineLemmas.{notes_more, notes_none}
use Rattle.govisd_folders.proofs.lines.push_notes.Goals as goal

pub loop-note-init : goal.loop-note-init
loop-note-init c = notes_none (string_bytes c.args.out.now)

pub loop-note-preserved : goal.loop-note-preserved
loop-note-preserved c = notes_more (string_bytes c.args.out.now) (string_bytes c.loop-note.out) (string_bytes c.push_note.new.out) c.loop-note.invariant c.in_ok-push_note.ensures
