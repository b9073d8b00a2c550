use Rattle.std.proofs.Common.{◌++◌, List, ℕ, ap, ◌∙◌}
use Rattle.std.specs.Borrow.{Bor}
use Rattle.std.specs.Prelude.{string_bytes}
use Rattle.govisd_folders.specs.runs.Choices.{main_line}
use Rattle.govisd_folders.proofs.RunsRunLemmas.{mains_more}
use Rattle.govisd_folders.proofs.runs.choosing.note_mains.Goals as goal

pub loop-main-preserved : goal.loop-main-preserved
loop-main-preserved c =
    mains_more (λ (m : Bor (List ℕ)). m.now) _ (string_bytes c.loop-main.said) (string_bytes c.note.new.notes) c.args.mains.now c.loop-main.main-index c.main-item.result c.loop-main-test.true c.main-item.is
    (c.in_ok-note.ensures ∙ ap (λ (n : List ℕ). string_bytes c.loop-main.said ++ main_line n) c.as_str.ensures.text) c.loop-main.invariant
