use Rattle.std.proofs.Common.{List, ap, ◌∙◌}
use Rattle.go_package_core.specs.summary_core.Summaries.{SummaryModel}
use Rattle.go_emit_core.specs.Emitted.{objects_over}
use Rattle.go_emit_core.proofs.Tabled.{objects_told}
use Rattle.go_emit_core.proofs.object.objects_seen.Goals as goal
use Rattle.go_package_core.specs.package_part.Slots.{somes}

pub returns : goal.returns
returns c =
    let parts = somes c.args.parts.now in
    let tables = c.in_ok-tables.ensures in
    c.in_ok-objects.ensures
    ∙ (objects_told c.in_ok-tables.tables c.args.told.now tables.types tables.methods tables.faces parts ∙ ap (λ (all : List SummaryModel). objects_over all parts) c.requires.told)
