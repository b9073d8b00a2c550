use Rattle.std.proofs.Common.{◌≡◌, ◌++◌, ◌<◌, [], length, map, ap, ◌∙◌, arith}
use Rattle.std.proofs.lemmas.List.{get_or_default}
use Rattle.go_term_core.specs.decl_core.Shown.{decl_shown}
use Rattle.go_value_core.specs.Package.{placed, placed_shown}
use Rattle.go_value_core.proofs.Placing.{files_step}
use Rattle.go_value_core.proofs.placed.placed_decls.Goals as goal

pub loop-file-preserved : goal.loop-file-preserved
loop-file-preserved c =
    let file = c.loop-file.file in
    let o = c.index-outlines-file.result in
    let t = c.index-inlines-file.result in
    let old = map placed_shown c.loop-file.all.items in
    let inside : file < length c.args.inlines.now = omega (arith, c.loop-file-test.true, c.requires) in
    files_step c.args.inlines.now t c.args.outlines.now file o old _ c.loop-file-test.true c.index-outlines-file.is (c.index-inlines-file.is ∙ get_or_default c.args.inlines.now file t [] inside) c.loop-file.invariant
    (c.in_ok-add_file.ensures ∙ ap (λ ds. old ++ map (placed file t) (map decl_shown ds)) c.deref.ensures.value)
