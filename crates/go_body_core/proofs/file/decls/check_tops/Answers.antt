use Rattle.std.proofs.Common.{◌+◌, map, drop, sym, subst}
use Rattle.std.specs.List.{AllZip}
use Rattle.go_tree_nodes.specs.Trees.{TopTree}
use Rattle.go_tree_nodes.specs.Shapes.{top_of}
use Rattle.go_body_core.specs.function.Laws.{AreFuncTypes}
use Rattle.go_body_core.specs.file.Files.{decl_uses, decl_faults, decl_locals}
use Rattle.go_body_core.specs.file.Stands.{stand_of, tops_funcs}
use Rattle.go_body_core.proofs.FileSteps.{item_step, seen_at, next_at}
use Rattle.go_body_core.proofs.file.decls.check_tops.Goals as goal

pub check_decl-requires-clause-types : goal.check_decl-requires-clause-types
check_decl-requires-clause-types g c =
    let at = c.args.at.now in
    seen_at (stand_of g.P.ImportedNames.shows at) at.initial.now c.args.functions.now c.args.decls.now c.requires.made c.loop-top.top-index c.top-item.result c.loop-top-test.true c.top-item.is

pub check_decl-requires-clause-functions : goal.check_decl-requires-clause-functions
check_decl-requires-clause-functions g c =
    let at = c.args.at.now in
    (next_at (stand_of g.P.ImportedNames.shows at) at.initial.now c.args.functions.now c.args.decls.now c.requires.made c.loop-top.top-index c.top-item.result c.loop-top-test.true c.top-item.is c.loop-top.next c.loop-top.invariant.typed).0

pub loop-top-preserved : goal.loop-top-preserved
loop-top-preserved g c =
    let at = c.args.at.now in
    let st = stand_of g.P.ImportedNames.shows at in
    let ds = c.args.decls.now in
    let i = c.loop-top.top-index in
    let d = c.top-item.result in
    let lt = c.loop-top-test.true in
    let rest = (next_at st at.initial.now c.args.functions.now ds c.requires.made i d lt c.top-item.is c.loop-top.next c.loop-top.invariant.typed).1 in
    record {
      used = item_step top_of (λ (x : TopTree). decl_uses st x.decl) ds i d c.args.notes.now.uses.items c.loop-top.notes.uses.items c.check_decl.new.notes.uses.items lt c.top-item.is c.in_ok-next.ensures.uses c.loop-top.invariant.used;
      noted = item_step top_of (λ (x : TopTree). decl_faults st x.decl) ds i d c.args.notes.now.faults.items c.loop-top.notes.faults.items c.check_decl.new.notes.faults.items lt c.top-item.is c.in_ok-next.ensures.faults c.loop-top.invariant.noted;
      listed = item_step top_of (λ (x : TopTree). decl_locals st x.decl) ds i d c.args.declared.now.items c.loop-top.declared.items c.check_decl.new.declared.items lt c.top-item.is c.in_ok-next.ensures.declared c.loop-top.invariant.listed;
      typed = subst (λ m. AllZip (AreFuncTypes st) (tops_funcs (map top_of (drop (i + 1) ds))) (drop m c.args.functions.now)) (sym c.in_ok-next.ensures.next) rest;
    }
