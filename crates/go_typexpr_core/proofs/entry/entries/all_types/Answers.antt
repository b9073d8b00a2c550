use Rattle.std.proofs.Common.{true, [], map, sym, subst}
use Rattle.go_type_core.specs.table_core.Shown.{entry_shown}
use Rattle.go_type_core.specs.table_core.Tables.{AreOf, KeysRise}
use Rattle.go_typexpr_core.specs.entry.Entries.{package_meanings}
use Rattle.go_typexpr_core.specs.entry.Meanings.{raw}
use Rattle.go_typexpr_core.specs.entry.Outlines.{outline_shown}
use Rattle.go_typexpr_core.proofs.EntryGains.{all_done, entries_read}
use Rattle.go_typexpr_core.proofs.EntryOrdered.{all_own, all_rise}
use Rattle.go_typexpr_core.proofs.entry.entries.all_types.Goals as goal

pub loop-file-preserved : goal.loop-file-preserved
loop-file-preserved g c =
    let path = c.args.path.now in
    let means = package_meanings (raw (g.P.ImportedNames.shows c.args.imported.now)) path c.args.blocks.now in
    let file = c.loop-file.file in
    let o = c.index-outlines-file.result in
    let old = map entry_shown c.loop-file.entries.items in
    entries_read true means path c.args.outlines.now file o c.deref.result.now old _ c.loop-file-test.true c.index-outlines-file.is c.loop-file.invariant c.in_ok-add_types.ensures c.deref.ensures.value

pub returns-clause-entries : goal.returns-clause-entries
returns-clause-entries g c =
    let path = c.args.path.now in
    let means = package_meanings (raw (g.P.ImportedNames.shows c.args.imported.now)) path c.args.blocks.now in
    all_done true means path c.args.outlines.now c.loop-file.file (map entry_shown c.loop-file.entries.items) c.loop-file-test.false c.loop-file.invariant

pub returns-clause-own : goal.returns-clause-own
returns-clause-own g c =
    let path = c.args.path.now in
    let os = c.args.outlines.now in
    let means = package_meanings (raw (g.P.ImportedNames.shows c.args.imported.now)) path c.args.blocks.now in
    let all = all_done true means path os c.loop-file.file (map entry_shown c.loop-file.entries.items) c.loop-file-test.false c.loop-file.invariant in
    subst (AreOf path) (sym all) (all_own means path [] (map outline_shown os))

pub returns-clause-rising : goal.returns-clause-rising
returns-clause-rising g c =
    let path = c.args.path.now in
    let os = c.args.outlines.now in
    let means = package_meanings (raw (g.P.ImportedNames.shows c.args.imported.now)) path c.args.blocks.now in
    let all = all_done true means path os c.loop-file.file (map entry_shown c.loop-file.entries.items) c.loop-file-test.false c.loop-file.invariant in
    subst KeysRise (sym all) (all_rise means path [] (map outline_shown os) c.requires)
