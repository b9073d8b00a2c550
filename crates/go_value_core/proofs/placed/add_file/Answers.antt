use Rattle.std.proofs.Common.{◌≡◌, [], ◌∷◌, map, refl, ap, ◌∙◌}
use Rattle.std.proofs.lemmas.List.{map-append}
use Rattle.go_term_core.specs.decl_core.declared.tops.TopDecl.{TopDecl}
use Rattle.go_term_core.specs.decl_core.Shown.{decl_shown}
use Rattle.go_stmt_core.specs.expr_core.TypeTurns.{step}
use Rattle.go_value_core.specs.Package.{placed, placed_shown}
use Rattle.go_value_core.proofs.placed.add_file.Goals as goal

pub loop-decl-preserved : goal.loop-decl-preserved
loop-decl-preserved c =
    let x = c.decl-item.result in
    step (λ l. map (placed c.args.file c.args.types.now) (map decl_shown l)) (λ (d : TopDecl). placed c.args.file c.args.types.now (decl_shown d) ∷ []) (λ d ds. refl) c.args.decls.now c.loop-decl.decl-index x c.loop-decl-test.true c.decl-item.is _ _
    (ap (map placed_shown) c.in_ok-push.ensures.items ∙ map-append placed_shown c.loop-decl.all.items _) ∙ c.loop-decl.invariant
