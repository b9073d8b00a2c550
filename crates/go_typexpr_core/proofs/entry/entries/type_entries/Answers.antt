use Rattle.std.proofs.Common.{[], map, take, refl, sym, ap, ◌∙◌, subst}
use Rattle.go_term_core.specs.decl_core.Shown.{decl_shown}
use Rattle.go_type_core.specs.table_core.Shown.{entry_shown}
use Rattle.go_type_core.specs.table_core.Tables.{AreOf, KeysRise}
use Rattle.go_typexpr_core.specs.entry.Entries.{entries_with, file_at, file_methods, package_meanings, package_methods}
use Rattle.go_typexpr_core.specs.entry.Outlines.{outline_shown}
use Rattle.go_typexpr_core.specs.entry.mirrors.Gaining.{all_gaining}
use Rattle.go_typexpr_core.proofs.EntryGains.{all_gaining_none, entries_done, package_step, rise_gained}
use Rattle.go_typexpr_core.proofs.EntryOrdered.{entries_own, entries_rise}
use Rattle.go_typexpr_core.proofs.entry.entries.type_entries.Goals as goal

pub loop-file-init : goal.loop-file-init
loop-file-init g c = c.in_ok-entries.ensures ∙ sym (all_gaining_none _)

pub add_methods-requires : goal.add_methods-requires
add_methods-requires g c =
    let path = c.args.path.now in
    let means = package_meanings (g.P.ImportedNames.shows c.args.imported.now) path c.args.blocks.now in
    let os = c.args.outlines.now in
    rise_gained (package_methods means path (map outline_shown (take c.loop-file.file os))) (entries_with means path [] (map outline_shown os)) (map entry_shown c.loop-file.entries.items)
    (entries_rise means path [] (map outline_shown os) c.requires) c.loop-file.invariant

pub loop-file-preserved : goal.loop-file-preserved
loop-file-preserved g c =
    let path = c.args.path.now in
    let means = package_meanings (g.P.ImportedNames.shows c.args.imported.now) path c.args.blocks.now in
    let os = c.args.outlines.now in
    let file = c.loop-file.file in
    let o = c.index-outlines-file.result in
    let old = map entry_shown c.loop-file.entries.items in
    package_step means path os file o (entries_with means path [] (map outline_shown os)) old _ c.loop-file-test.true c.index-outlines-file.is c.loop-file.invariant
    (c.in_ok-add_methods.ensures ∙ ap (λ ds. all_gaining (file_methods (means file) (file_at path file (outline_shown o)) (map decl_shown ds)) old) c.deref.ensures.value)

pub returns-clause-entries : goal.returns-clause-entries
returns-clause-entries g c =
    let path = c.args.path.now in
    let means = package_meanings (g.P.ImportedNames.shows c.args.imported.now) path c.args.blocks.now in
    let os = c.args.outlines.now in
    entries_done means path os c.loop-file.file (entries_with means path [] (map outline_shown os)) (map entry_shown c.loop-file.entries.items) c.loop-file-test.false refl c.loop-file.invariant

pub returns-clause-own : goal.returns-clause-own
returns-clause-own g c =
    let path = c.args.path.now in
    let means = package_meanings (g.P.ImportedNames.shows c.args.imported.now) path c.args.blocks.now in
    let os = c.args.outlines.now in
    let all = entries_done means path os c.loop-file.file (entries_with means path [] (map outline_shown os)) (map entry_shown c.loop-file.entries.items) c.loop-file-test.false refl c.loop-file.invariant in
    subst (AreOf path) (sym all) (entries_own means path (package_methods means path (map outline_shown os)) (map outline_shown os))

pub returns-clause-rising : goal.returns-clause-rising
returns-clause-rising g c =
    let path = c.args.path.now in
    let means = package_meanings (g.P.ImportedNames.shows c.args.imported.now) path c.args.blocks.now in
    let os = c.args.outlines.now in
    let all = entries_done means path os c.loop-file.file (entries_with means path [] (map outline_shown os)) (map entry_shown c.loop-file.entries.items) c.loop-file-test.false refl c.loop-file.invariant in
    subst KeysRise (sym all) (entries_rise means path (package_methods means path (map outline_shown os)) (map outline_shown os) c.requires)
