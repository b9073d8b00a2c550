use Rattle.std.proofs.Common.{map, sym, subst}
use Rattle.go_typexpr_core.specs.entry.Entries.{package_meanings}
use Rattle.go_typexpr_core.specs.entry.Meanings.{raw}
use Rattle.go_typexpr_core.specs.entry.Outlines.{outline_shown}
use Rattle.go_typexpr_core.specs.aliases.Aliases.{decls_of, DeclsRise}
use Rattle.go_typexpr_core.specs.aliases.Shown.{alias_shown}
use Rattle.go_typexpr_core.proofs.AliasesRising.{aliases_rise, file_step, files_all}
use Rattle.go_typexpr_core.proofs.aliases.outlined.written_aliases.Goals as goal

pub loop-file-preserved : goal.loop-file-preserved
loop-file-preserved g c =
    let path = c.args.path.now in
    let means = package_meanings (raw (g.P.ImportedNames.shows c.args.imported.now)) path c.args.blocks.now in
    let file = c.loop-file.file in
    let o = c.index-outlines-file.result in
    let old = map alias_shown c.loop-file.aliases.items in
    file_step means path c.args.outlines.now file o c.deref.result.now old _ c.loop-file-test.true c.index-outlines-file.is c.loop-file.invariant c.in_ok-add_aliases.ensures c.deref.ensures.value

pub returns-clause-aliases : goal.returns-clause-aliases
returns-clause-aliases g c =
    let path = c.args.path.now in
    let means = package_meanings (raw (g.P.ImportedNames.shows c.args.imported.now)) path c.args.blocks.now in
    files_all means path c.args.outlines.now c.loop-file.file (map alias_shown c.loop-file.aliases.items) c.loop-file-test.false c.loop-file.invariant

pub returns-clause-rising : goal.returns-clause-rising
returns-clause-rising g c =
    let path = c.args.path.now in
    let os = c.args.outlines.now in
    let means = package_meanings (raw (g.P.ImportedNames.shows c.args.imported.now)) path c.args.blocks.now in
    let all = files_all means path os c.loop-file.file (map alias_shown c.loop-file.aliases.items) c.loop-file-test.false c.loop-file.invariant in
    subst (λ xs. DeclsRise (decls_of xs)) (sym all) (aliases_rise means path (map outline_shown os) c.requires)
