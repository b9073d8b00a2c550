use Rattle.std.proofs.Common.{map, sym, subst}
use Rattle.std.specs.Prelude.{IfOk}
use Rattle.std.specs.List.{AllByRecursion, AllZip}
use Rattle.go_term_core.specs.decl_core.Shown.{decl_shown}
use Rattle.go_local_core.specs.Tables.{IsFuncPlaced}
use Rattle.go_body_core.specs.typexpr_core.EntryMeanings.{Shows}
use Rattle.go_body_core.specs.typexpr_core.EntryOutlines.{outline_shown}
use Rattle.go_package_core.specs.prepare.Inlines.{outline_funcs}
use Rattle.go_package_core.specs.prepare.Packages.{package_in_shown, shows_in}
use Rattle.go_package_core.proofs.PreparePlacing.{outline_placed}
use Rattle.go_package_core.proofs.PrepareMade.{MadeOf}
use Rattle.go_package_core.proofs.prepare.inlines.file_functions.Goals as goal

pub decl_functions-requires : goal.decl_functions-requires
decl_functions-requires g c =
    subst (λ ds. AllByRecursion IsFuncPlaced (outline_funcs (map decl_shown ds))) (sym c.deref.ensures.value) (outline_placed (outline_shown c.args.outline.now) c.requires.placed)

pub returns : goal.returns
returns g c =
    let p = package_in_shown g.P.ImportedNames.shows c.args.at.now in
    let Made = λ (shows : Shows). MadeOf shows p.blocks c.args.types.now c.args.file c.args.outline.now.places in
    subst (λ ds. IfOk c.decl_functions.result (λ w. AllZip (Made (shows_in p) p.path) (outline_funcs (map decl_shown ds)) w.items)) c.deref.ensures.value
    (subst (λ path. IfOk c.decl_functions.result (λ w. AllZip (Made (shows_in p) path) (outline_funcs (map decl_shown c.deref.result.now)) w.items)) c.path.ensures
    (subst (λ shows. IfOk c.decl_functions.result (λ w. AllZip (Made shows c.path.result.now) (outline_funcs (map decl_shown c.deref.result.now)) w.items)) c.requires.names c.decl_functions.ensures))
