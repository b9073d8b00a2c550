use Rattle.std.proofs.Common.{◌≡◌, [], ◌∷◌, ◌++◌, map, refl, ap, ◌∙◌}
use Rattle.go_digraph_core.specs.needs.Needs.{rows_of}
use Rattle.go_stmt_core.specs.expr_core.TypeTurns.{step}
use Rattle.go_env_core.specs.Scenes.{scene_shown}
use Rattle.go_value_core.specs.declared.placed.PlacedDecl.{PlacedDecl}
use Rattle.go_value_core.specs.Package.{decl_needs, package_needs, placed_shown}
use Rattle.go_value_core.proofs.Placing.{rows_more}
use Rattle.go_value_core.proofs.needs.package_needs.Goals as goal

pub loop-placed-preserved : goal.loop-placed-preserved
loop-placed-preserved c =
    let s = scene_shown c.args.scene.now in
    let x = c.placed-item.result in
    let old = c.loop-placed.rows.items in
    step (λ l. package_needs s (map placed_shown l)) (λ (p : PlacedDecl). decl_needs s (placed_shown p) ∷ []) (λ p ps. refl) c.args.decls.now c.loop-placed.placed-index x c.loop-placed-test.true c.placed-item.is _ _
    (ap rows_of c.in_ok-push.ensures.items ∙ (rows_more old c.in_ok-decl_needs.field-0 ∙ ap (λ r. rows_of old ++ r ∷ []) c.in_ok-decl_needs.ensures)) ∙ c.loop-placed.invariant
