use Rattle.std.proofs.Common.{[], map, sym, subst}
use Rattle.std.specs.List.{AllByRecursion, AllZip}
use Rattle.go_term_core.specs.decl_core.Shown.{decl_shown}
use Rattle.go_local_core.specs.Tables.{IsFuncPlaced}
use Rattle.go_inline_core.specs.Functions as functions
use Rattle.go_package_core.specs.prepare.Inlines.{form_funcs}
use Rattle.go_package_core.proofs.PrepareLists.{seen_holds}
use Rattle.go_package_core.proofs.PreparePlacing.{form_placed}
use Rattle.go_package_core.proofs.PrepareMade.{funcs_end, funcs_step}
use Rattle.go_package_core.proofs.prepare.inlines.decl_functions.Goals as goal

pub loop-decl-init : goal.loop-decl-init
loop-decl-init g c =
    let ground = c.args.ground.now in
    subst (λ l. AllZip (functions.AreInlines (functions.kinds_in_ground ground) (functions.file_in ground) (functions.top_in g.P.ImportedNames.shows ground) (functions.scoped_beyond ground)) [] l) (sym c.new-written.ensures.items) tt

pub add_function-requires : goal.add_function-requires
add_function-requires g c =
    seen_holds (λ d. AllByRecursion IsFuncPlaced (form_funcs d.form)) decl_shown c.args.decls.now c.loop-decl.decl-index c.decl-item.result (form_placed (map decl_shown c.args.decls.now) c.requires) c.loop-decl-test.true c.decl-item.is

pub loop-decl-preserved : goal.loop-decl-preserved
loop-decl-preserved g c =
    let ground = c.args.ground.now in
    funcs_step (functions.AreInlines (functions.kinds_in_ground ground) (functions.file_in ground) (functions.top_in g.P.ImportedNames.shows ground) (functions.scoped_beyond ground)) c.args.decls.now c.loop-decl.decl-index c.decl-item.result
    c.loop-decl.written.items c.add_function.new.written.items c.loop-decl-test.true c.decl-item.is c.in_ok-add_function.ensures c.loop-decl.invariant

pub returns : goal.returns
returns g c =
    let ground = c.args.ground.now in
    funcs_end (functions.AreInlines (functions.kinds_in_ground ground) (functions.file_in ground) (functions.top_in g.P.ImportedNames.shows ground) (functions.scoped_beyond ground)) c.args.decls.now c.loop-decl.decl-index c.loop-decl.written.items
    c.loop-decl-test.false c.loop-decl.invariant
