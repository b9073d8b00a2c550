use Rattle.go_object_core.specs.Objects.{object_shown}
use Rattle.go_emit_core.proofs.Tabled.{object_over_told}
use Rattle.go_emit_core.proofs.object.object_seen.Goals as goal

pub returns : goal.returns
returns c =
    let tables = c.in_ok-tables.ensures in
    object_over_told c.in_ok-tables.tables c.args.told.now tables.types tables.methods tables.faces c.args.part.now.input c.args.part.now.content (object_shown c.in_ok-object.object) c.in_ok-object.ensures c.requires.told
