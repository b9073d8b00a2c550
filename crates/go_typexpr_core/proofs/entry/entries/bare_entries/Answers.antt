use Rattle.std.proofs.Common.{false, map}
use Rattle.go_type_core.specs.table_core.Shown.{entry_shown}
use Rattle.go_typexpr_core.specs.entry.Entries.{package_meanings}
use Rattle.go_typexpr_core.proofs.EntryGains.{entries_read}
use Rattle.go_typexpr_core.proofs.entry.entries.bare_entries.Goals as goal

pub loop-file-preserved : goal.loop-file-preserved
loop-file-preserved g c =
    let path = c.args.path.now in
    let means = package_meanings (g.P.ImportedNames.shows c.args.imported.now) path c.args.blocks.now in
    let file = c.loop-file.file in
    let o = c.index-outlines-file.result in
    let old = map entry_shown c.loop-file.entries.items in
    entries_read false means path c.args.outlines.now file o c.deref.result.now old _ c.loop-file-test.true c.index-outlines-file.is c.loop-file.invariant c.in_ok-add_types.ensures c.deref.ensures.value
