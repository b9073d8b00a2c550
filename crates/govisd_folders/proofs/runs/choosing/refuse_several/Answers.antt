use Rattle.std.proofs.Common.{map}
use Rattle.std.specs.Borrow.{Bor}
use Rattle.std.specs.Prelude.{List, ℕ, string_bytes}
use Rattle.govisd_folders.proofs.RunsRunLemmas.{several_said}
use Rattle.govisd_folders.proofs.runs.choosing.refuse_several.Goals as goal

pub returns : goal.returns
returns c =
    several_said c.nothing_ran.result c.args.before.now c.args.folder.now c.name_or_quotes.result.now (string_bytes c.in_ok-said.said) (string_bytes c.note.new.notes) (string_bytes c.note_mains.new.said) (map (λ (m : Bor (List ℕ)). m.now) c.args.mains.now) (record { status = c.nothing_ran.ensures.status; text = c.nothing_ran.ensures.text; says = c.nothing_ran.ensures.says })
    c.in_ok-note_mains.ensures c.in_ok-note.ensures c.in_ok-said.ensures.ok c.name_or_quotes.ensures
