use Rattle.std.proofs.Common.{◌++◌, map, take, refl, sym, ap, ◌∙◌}
use Rattle.std.specs.List.{flat_map}
use Rattle.std.proofs.lemmas.List.{take_all}
use Rattle.std.proofs.lemmas.List.Folds.{flat_map-map}
use Rattle.go_tree_nodes.specs.Shapes.{file_of}
use Rattle.go_decl_core.specs.Shown.{decl_shown}
use Rattle.go_decl_core.specs.declared.tops.TopDecl.{TopDecl}
use Rattle.go_block_core.specs.Declarations.{top_declared, file_declared}
use Rattle.go_block_core.specs.Faults.{block_decl_faults}
use Rattle.go_block_core.specs.Holding.{declared_block}
use Rattle.go_block_core.specs.Tables.{block_of}
use Rattle.go_block_core.proofs.BlockLemmas.{block_step, block_faults_step}
use Rattle.go_block_core.proofs.Pieces.{no_pieces, next_piece}
use Rattle.go_block_core.proofs.package_block.add_file.Goals as goal

pub loop-top-init : goal.loop-top-init
loop-top-init c = (refl, no_pieces c.args.faults.now.items)

pub loop-top-preserved : goal.loop-top-preserved
loop-top-preserved c =
    let f = λ (d : TopDecl). top_declared c.args.file (decl_shown d) in
    let items = c.deref-top-items.result.now in
    let is = next_piece f items c.loop-top.top-index c.top-item.result c.loop-top-test.true c.top-item.is in
    let done = flat_map f (take c.loop-top.top-index items) in
    let before = c.loop-top.invariant in (
      block_step (block_of c.args.table.now) _ _ done (f c.top-item.result) _ before.0 c.in_ok-add_top.ensures.table is,
      block_faults_step c.args.is_main (block_of c.args.table.now) _ done (f c.top-item.result) _ c.args.faults.now.items _ _ before.0 before.1 c.in_ok-add_top.ensures.faults is,
    )

pub returns : goal.returns
returns c =
    let f = λ (d : TopDecl). top_declared c.args.file (decl_shown d) in
    let all = ap (flat_map f) (take_all c.loop-top.top-index c.deref-top-items.result.now c.loop-top-test.false ∙ c.deref-top-items.ensures.value) ∙ (sym (flat_map-map (top_declared c.args.file) decl_shown c.in_ok-outline.outline.decls.items) ∙ ap (flat_map (top_declared c.args.file)) c.in_ok-outline.ensures.decls) in
    record {
      table = c.loop-top.invariant.0 ∙ ap (declared_block (block_of c.args.table.now)) all;
      faults = c.loop-top.invariant.1 ∙ ap (λ ds. c.args.faults.now.items ++ block_decl_faults c.args.is_main (block_of c.args.table.now) ds) all;
    }
