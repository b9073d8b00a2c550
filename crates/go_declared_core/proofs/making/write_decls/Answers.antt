use Rattle.std.proofs.Common.{◌++◌, map, ap, ◌∙◌}
use Rattle.go_term_core.specs.decl_core.Shown.{decl_shown}
use Rattle.go_typexpr_core.specs.entry.Entries.{file_at, package_meanings}
use Rattle.go_typexpr_core.specs.entry.Outlines.{outline_shown}
use Rattle.go_declared_core.specs.Held.{written_shown}
use Rattle.go_declared_core.specs.Written.{file_written}
use Rattle.go_declared_core.proofs.Listing.{files_step}
use Rattle.go_declared_core.proofs.making.write_decls.Goals as goal

pub loop-file-preserved : goal.loop-file-preserved
loop-file-preserved g c =
    let path = c.args.path.now in
    let means = package_meanings (g.P.ImportedNames.shows c.args.imported.now) path c.args.blocks.now in
    let file = c.loop-file.file in
    let o = c.index-outlines-file.result in
    let old = map written_shown c.loop-file.written.items in
    files_step means path c.args.types.now c.args.outlines.now file o old _ c.loop-file-test.true c.index-outlines-file.is c.loop-file.invariant
    (c.in_ok-add_decls.ensures ∙ ap (λ ds. old ++ file_written (means file) (file_at path file (outline_shown o)) c.args.types.now (map decl_shown ds)) c.deref.ensures.value)
